-- The cause of each fault: what holds of bytes that are wrong by it.
use Rattle.nmf_records.specs.RecordFronts.{content_type, has_text_of, limit_for, text_kind}
use Rattle.nmf_records.specs.RecordFronts.{text_limit, TextKind, TextLimits, too_long_as}
use Rattle.nmf_records.specs.RecordFronts.{via_or_fault}
use Rattle.std.proofs.Common.{◌≡◌, ℕ, ◌+◌, ◌<◌, ◌≤◌, true, List, [], ◌∷◌, ◌++◌, length, take}
use Rattle.std.proofs.Common.{drop, nat_lt, sym, refl, ap, ◌∙◌, inl, inr, arith, length-drop}
use Rattle.std.{proofs.Common.take-append-drop, proofs.Common.length-take-le, specs.Prelude.⊤}
use Rattle.std.proofs.lemmas.Bool.{cond_both, Decides.nat_tests}
use Rattle.unit_streams.specs.Front.{begun, Front, whole, wrong}
use Rattle.multibyte_ints.proofs.{IntegerBytes.above_from, IntegerLaws.spells_from_whole}
use Rattle.multibyte_ints.proofs.TextCauses.{bad_int_cause, bad_text_cause, too_long_cause}
use Rattle.multibyte_ints.specs.{Integer.int_at, Laws.FifthIsAbove}
use Rattle.multibyte_ints.specs.Text.{bad_int, bad_utf8, string_at, StringFault, too_long}
use Rattle.nmf_records.specs.declared.frame.Expect.{Expect, TheVariants.Chunk, TheVariants.Types}
use Rattle.nmf_records.specs.declared.frame.{Frame.Frame, FrameFault.FrameFault}
use Rattle.nmf_records.specs.declared.record_types.TheConstants.{GREATEST}
use Rattle.nmf_records.specs.Laws.{BeginsUnexpected, BeginsUnknown, has_integer, HasBadText}
use Rattle.nmf_records.specs.{Laws.HasLongText, Laws.IntegerComes, Records.Read}
use Rattle.nmf_records.specs.RecordFronts.{allows, as_size, as_text, byte_at, frame_at, size_at}
use Rattle.nmf_records.specs.RecordFronts.{text_frame_at, typed_at, version_at}
use Rattle.nmf_records.proofs.{TypeCases.by_type, Typed.type_known}
use Rattle.nmf_records.specs.declared.frame.Frame.TheVariants as frames
use Rattle.nmf_records.specs.declared.frame.FrameFault.TheVariants as faults

-- of a fault and the number of bytes that show it
abbrev OfWrong : (FrameFault → ℕ → Type 0) → Front Read FrameFault → Type 0
OfWrong P begun = Unit {0}
OfWrong P (whole read n) = Unit {0}
OfWrong P (wrong fault n) = P fault n

-- the bytes have the fault's cause
abbrev pub HasCause : TextLimits → Expect → List ℕ → FrameFault → ℕ → Type 0
HasCause limits expect bytes faults.UnknownRecord n = (n ≡ 1) × BeginsUnknown expect bytes
HasCause limits expect bytes (faults.Unexpected t) n = (n ≡ 1) × BeginsUnexpected expect bytes t
HasCause limits expect bytes faults.BadInt n = (k : ℕ) × IntegerComes expect bytes k × (n ≡ k + 5)
    × FifthIsAbove (drop k bytes)
HasCause limits expect bytes faults.TextTooLong n = HasLongText via_or_fault limits expect bytes n
HasCause limits expect bytes faults.TypeTooLong n = HasLongText content_type limits expect bytes n
HasCause limits expect bytes faults.TextNotUtf8 n = HasBadText limits expect bytes n

-- behind a type byte that may come
module _ (limits : TextLimits) (types kind : ℕ) (bytes : List ℕ) (may : allows types kind
    ≡ true) where
  -- what is read behind the type byte is no fault, or one with its cause
  abbrev Of : Front Read FrameFault → Type 0
  Of = OfWrong (HasCause limits (Types types) (kind ∷ bytes))

  -- a wrong integer behind the type byte
  int_causes : (k : ℕ) → has_integer kind ≡ true → int_at bytes ≡ wrong tt k
      → HasCause limits (Types types) (kind ∷ bytes) faults.BadInt (1 + k)
  int_causes k has e = let c = above_from bytes tt k e in
      (1, (refl, may, has), ap (λ j. 1 + j) c.0, c.1)

  -- a text whose length is above the limit
  long_text : (of : TextKind) (k : ℕ) → has_text_of of kind ≡ true
      → string_at (limit_for of limits) bytes ≡ wrong too_long k
      → HasLongText of limits (Types types) (kind ∷ bytes) (1 + k)
  long_text of k text e =
      let c = too_long_cause (limit_for of limits) bytes k e in
      let s = spells_from_whole bytes c.0 k c.1 in
      record {
        begins = rw (may, text) refl;
        type = kind;
        size = c.0;
        spelling = take k bytes;
        rest = drop k bytes;
        joined = ap (λ b. kind ∷ b) (sym (take-append-drop k bytes));
        spelled = s.1;
        above = c.2;
        place = ap (λ j. 1 + j) (sym (length-take-le k bytes s.0));
      }

  -- a text that isn't UTF-8
  bad_text : (of : TextKind) (k : ℕ) → has_text_of of kind ≡ true
      → string_at (limit_for of limits) bytes ≡ wrong bad_utf8 k
      → HasBadText limits (Types types) (kind ∷ bytes) (1 + k)
  bad_text of k text e =
      let c = bad_text_cause (limit_for of limits) bytes k e in
      let s = spells_from_whole bytes c.n c.j c.int in
      let len : length (take c.n (drop c.j bytes)) ≡ c.n = length-take-le c.n (drop c.j bytes)
      (omega (arith, length-drop c.j bytes, c.within, c.size)) in
      record {
        kind = of;
        begins = rw (may, text) refl;
        type = kind;
        spelling = take c.j bytes;
        text = take c.n (drop c.j bytes);
        rest = drop c.n (drop c.j bytes);
        joined = ap (λ b. kind ∷ b)
            (sym (ap (λ b. take c.j bytes ++ b) (take-append-drop c.n (drop c.j bytes)) ∙
            take-append-drop c.j bytes));
        spelled = rw len s.1;
        within = omega (arith, len, c.low);
        bad = c.bad;
        place = omega (arith, len, c.size, length-take-le c.j bytes s.0);
      }

  -- a text is wrong by its integer, its length or its bytes
  text_causes : (frame : Frame) → has_text_of (text_kind frame) kind ≡ true
      → has_integer kind ≡ true → Of (text_frame_at limits frame bytes)
  text_causes frame text has = by_string (string_at (text_limit limits frame) bytes) refl
    where
      long : (of : TextKind) (k : ℕ) → has_text_of of kind ≡ true
          → string_at (limit_for of limits) bytes ≡ wrong too_long k
          → HasCause limits (Types types) (kind ∷ bytes) (too_long_as of) (1 + k)
      long via_or_fault k text h = long_text via_or_fault k text h
      long content_type k text h = long_text content_type k text h

      by_string : (y : Front (List ℕ) StringFault) → string_at (text_limit limits frame) bytes ≡ y
          → Of (as_text frame y)
      by_string begun h = tt
      by_string (whole s k) h = tt
      by_string (wrong bad_int k) h = int_causes k has
          (bad_int_cause (text_limit limits frame) bytes k h)
      by_string (wrong too_long k) h = long (text_kind frame) k text h
      by_string (wrong bad_utf8 k) h = bad_text (text_kind frame) k text h

  -- an envelope's size is wrong by its integer
  size_causes : has_integer kind ≡ true → Of (size_at 1 frames.SizedEnvelope bytes)
  size_causes has = by_int (int_at bytes) refl
    where
      by_int : (y : Front ℕ ⊤) → int_at bytes ≡ y → Of (as_size 1 frames.SizedEnvelope y)
      by_int begun h = tt
      by_int (whole n k) h = tt
      by_int (wrong r k) h = int_causes k has h

-- no Version record is wrong
version_causes : (P : FrameFault → ℕ → Type 0) (bytes : List ℕ) → OfWrong P (version_at bytes)
version_causes P [] = tt
version_causes P (major ∷ []) = tt
version_causes P (major ∷ minor ∷ rest) = tt

-- nor a record of one byte
byte_causes : (P : FrameFault → ℕ → Type 0) (frame : ℕ → Frame) (bytes : List ℕ)
    → OfWrong P (byte_at frame bytes)
byte_causes P frame [] = tt
byte_causes P frame (x ∷ rest) = tt

-- behind a type byte that may come
typed_causes : (limits : TextLimits) (types kind : ℕ) (bytes : List ℕ) (may : allows types kind
    ≡ true) → kind
    ≤ GREATEST → Of limits types kind bytes may (typed_at limits kind bytes)
typed_causes limits types kind bytes may le =
    let P : FrameFault → ℕ → Type 0 = HasCause limits (Types types) (kind ∷ bytes) in
    by_type limits kind bytes (Of limits types kind bytes may) le record {
      version = λ e. version_causes P bytes;
      mode = λ e. byte_causes P frames.Mode bytes;
      via = λ e. text_causes limits types kind bytes may frames.Via (rw e refl) (rw e refl);
      encoding = λ e. byte_causes P frames.KnownEncoding bytes;
      content_type = λ e. text_causes limits types kind bytes may frames.ExtensibleEncoding
          (rw e refl) (rw e refl);
      unsized_envelope = λ e. tt;
      sized_envelope = λ e. size_causes limits types kind bytes may (rw e refl);
      end = λ e. tt;
      fault = λ e. text_causes limits types kind bytes may frames.Fault (rw e refl) (rw e refl);
      preamble_ack = λ e. tt;
      preamble_end = λ e. tt;
      other = λ e. (refl, (refl, le, inr e));
    }

-- a type byte above the known ones
above_known : (kind : ℕ) → nat_lt GREATEST kind ≡ true → GREATEST < kind
above_known kind e = grind (arith, nat_tests)

-- a front is no fault, or one with its cause
front_causes : (limits : TextLimits) (expect : Expect) (bytes : List ℕ)
    → OfWrong (HasCause limits expect bytes) (frame_at limits expect bytes)
front_causes limits (Types types) [] = tt
front_causes limits (Types types) (kind ∷ bytes) =
    let P : Front Read FrameFault → Type 0 = OfWrong (HasCause limits (Types types) (kind ∷ bytes))
    in
    cond_both (nat_lt GREATEST kind) _ _ P (λ above. (refl, above_known kind above))
    (λ known. cond_both (allows types kind) _ _ P
    (λ may. typed_causes limits types kind bytes may (type_known kind known))
    (λ not_due. (refl, (refl, type_known kind known, inl not_due))))
front_causes limits Chunk bytes = by_int (int_at bytes) refl
  where
    by_int : (y : Front ℕ ⊤) → int_at bytes ≡ y → OfWrong (HasCause limits Chunk bytes)
        (as_size 0 frames.Chunk y)
    by_int begun h = tt
    by_int (whole n k) h = tt
    by_int (wrong r k) h = let c = above_from bytes tt k h in (0, refl, ap (λ j. 0 + j) c.0, c.1)

-- what holds of a fault holds of this one
OfWrong_at : (P : FrameFault → ℕ → Type 0) (y : Front Read FrameFault) (fault : FrameFault) (n : ℕ)
    → y ≡ wrong fault n → OfWrong P y → P fault n
OfWrong_at P y fault n e h = rw e at h

-- bytes that are wrong by a fault have its cause
pub fault_cause : (limits : TextLimits) (expect : Expect) (bytes : List ℕ) (fault : FrameFault)
    (n : ℕ)
    → frame_at limits expect bytes ≡ wrong fault n → HasCause limits expect bytes fault n
fault_cause limits expect bytes fault n e = OfWrong_at (HasCause limits expect bytes)
    (frame_at limits expect bytes) fault n e (front_causes limits expect bytes)
