-- Bytes that have the cause of a fault are wrong by it.
use Rattle.nmf_records.specs.RecordFronts.{content_type, has_text_of, text_kind, text_limit}
use Rattle.nmf_records.specs.RecordFronts.{TextKind, TextLimits, too_long_as, via_or_fault}
use Rattle.std.proofs.Common.{◌≡◌, ℕ, ◌+◌, ◌<◌, ◌≤◌, true, false, List, [], ◌∷◌, ◌++◌, length}
use Rattle.std.proofs.Common.{take, drop, nat_lt, ◌==◌, sym, refl, ap, ◌∙◌, inl, inr, arith}
use Rattle.std.proofs.Common.{length-append, eqb-true}
use Rattle.std.proofs.Math.Seq.{drop-append_seam, take-append_seam}
use Rattle.std.proofs.lemmas.Bool.{and_parts, cases_Bool, or_cases, Decides.nat_tests}
use Rattle.unit_streams.specs.Front.{wrong}
use Rattle.multibyte_ints.proofs.{IntegerFacts.wrong_is, IntegerLaws.whole_then}
use Rattle.multibyte_ints.proofs.TextCauses.{bad_int_comes, bad_text_comes, too_long_comes}
use Rattle.multibyte_ints.specs.{Integer.int_at, Laws.FifthIsAbove}
use Rattle.multibyte_ints.specs.Text.{bad_utf8, string_at, too_long}
use Rattle.nmf_records.specs.declared.frame.Expect.{Expect, TheVariants.Chunk, TheVariants.Types}
use Rattle.nmf_records.specs.declared.frame.{Frame.Frame, FrameFault.FrameFault}
use Rattle.nmf_records.specs.declared.record_types.TheConstants.{EXTENSIBLE_ENCODING, FAULT, VIA}
use Rattle.nmf_records.specs.declared.record_types.TheConstants.{GREATEST, SIZED_ENVELOPE}
use Rattle.nmf_records.specs.declared.record_types.TheConstants.{UPGRADE_REQUEST, UPGRADE_RESPONSE}
use Rattle.nmf_records.specs.Laws.{BeginsUnexpected, BeginsUnknown, has_integer, has_no_frame}
use Rattle.nmf_records.specs.Laws.{HasBadText, HasLongText, IntegerComes}
use Rattle.nmf_records.specs.RecordFronts.{allowed_at, allows, as_text, begins_text, frame_at}
use Rattle.nmf_records.specs.RecordFronts.{text_frame_at, typed_at}
use Rattle.nmf_records.proofs.{Causes.HasCause, Typed.allowed_reads}
use Rattle.nmf_records.specs.declared.frame.Frame.TheVariants as frames
use Rattle.nmf_records.specs.declared.frame.FrameFault.TheVariants as faults

-- a type byte above the known ones is unknown
unknown_comes : (limits : TextLimits) (expect : Expect) (bytes : List ℕ)
    → BeginsUnknown expect bytes
    → frame_at limits expect bytes ≡ wrong faults.UnknownRecord 1
unknown_comes limits (Types types) [] h = absurd h
unknown_comes limits (Types types) (kind ∷ rest) h = let above : nat_lt GREATEST kind
    ≡ true = grind (arith, nat_tests) in rw above refl
unknown_comes limits Chunk bytes h = absurd h

-- the record of a type without a frame
no_frame_at : (limits : TextLimits) (kind : ℕ) (rest : List ℕ) → has_no_frame kind ≡ true
    → typed_at limits kind rest
    ≡ wrong (faults.Unexpected kind) 1
no_frame_at limits kind rest e =
    elim (or_cases (kind == UPGRADE_REQUEST) (kind == UPGRADE_RESPONSE) e) [
      | inl is ↦ rw (eqb-true kind UPGRADE_REQUEST is) refl
      | inr is ↦ rw (eqb-true kind UPGRADE_RESPONSE is) refl
    ]

-- a known type whose bit is not set
not_due_at : (limits : TextLimits) (types kind : ℕ) (rest : List ℕ) → kind ≤ GREATEST
    → allows types kind ≡ false
    → allowed_at limits types (kind ∷ rest) ≡ wrong (faults.Unexpected kind) 1
not_due_at limits types kind rest le e = let known : nat_lt GREATEST kind
    ≡ false = grind (arith, nat_tests) in rw (known, e) refl

-- a known type that may not come is unexpected
unexpected_comes : (limits : TextLimits) (expect : Expect) (bytes : List ℕ) (t : ℕ)
    → BeginsUnexpected expect
    bytes t → frame_at limits expect bytes ≡ wrong (faults.Unexpected t) 1
unexpected_comes limits (Types types) [] t h = absurd h
unexpected_comes limits (Types types) (kind ∷ rest) t h =
    rw h.0 (elim (cases_Bool (allows types t)) [
      | inl may ↦ elim h.2 [
        | inl not_due ↦ cc
        | inr none ↦ allowed_reads limits types t rest h.1 may ∙ no_frame_at limits t rest none
      ]
      | inr not_due ↦ not_due_at limits types t rest h.1 not_due
    ])
unexpected_comes limits Chunk bytes t h = absurd h

-- the types that have an integer
data IntegerType (kind : ℕ) : Type 0 where
  is_via : kind ≡ VIA → IntegerType kind
  is_type : kind ≡ EXTENSIBLE_ENCODING → IntegerType kind
  is_envelope : kind ≡ SIZED_ENVELOPE → IntegerType kind
  is_fault : kind ≡ FAULT → IntegerType kind

integer_cases : (kind : ℕ) → has_integer kind ≡ true → IntegerType kind
integer_cases kind has = elim (or_cases (kind == VIA) _ has) [
  | inl is ↦ is_via (eqb-true kind VIA is)
  | inr more ↦ elim (or_cases (kind == EXTENSIBLE_ENCODING) _ more) [
    | inl is ↦ is_type (eqb-true kind EXTENSIBLE_ENCODING is)
    | inr rest ↦ elim (or_cases (kind == SIZED_ENVELOPE) (kind == FAULT) rest) [
      | inl is ↦ is_envelope (eqb-true kind SIZED_ENVELOPE is)
      | inr is ↦ is_fault (eqb-true kind FAULT is)
    ]
  ]
]

-- a record with an integer that is wrong
int_behind_type : (limits : TextLimits) (types kind : ℕ) (rest : List ℕ) → kind ≤ GREATEST
    → allows types kind
    ≡ true → has_integer kind ≡ true → int_at rest ≡ wrong tt 5
    → allowed_at limits types (kind ∷ rest) ≡ wrong faults.BadInt 6
int_behind_type limits types kind rest le may has e =
    allowed_reads limits types kind rest le may ∙ by_cases (integer_cases kind has)
  where
    by_cases : IntegerType kind → typed_at limits kind rest ≡ wrong faults.BadInt 6
    by_cases (is_via is) = rw (is, bad_int_comes limits.text rest 5 e) refl
    by_cases (is_type is) = rw (is, bad_int_comes limits.content_type rest 5 e) refl
    by_cases (is_envelope is) = rw (is, e) refl
    by_cases (is_fault is) = rw (is, bad_int_comes limits.text rest 5 e) refl

-- a type that has an integer is known
has_integer_known : (kind : ℕ) → has_integer kind ≡ true → kind ≤ GREATEST
has_integer_known kind has = by_cases (integer_cases kind has)
  where
    by_cases : IntegerType kind → kind ≤ GREATEST
    by_cases (is_via is) = omega (arith, is)
    by_cases (is_type is) = omega (arith, is)
    by_cases (is_envelope is) = omega (arith, is)
    by_cases (is_fault is) = omega (arith, is)

-- a record or a chunk's size with such an integer is wrong at its fifth byte
bad_int_comes_at : (limits : TextLimits) (expect : Expect) (bytes : List ℕ) (k : ℕ)
    → IntegerComes expect
    bytes k → FifthIsAbove (drop k bytes)
    → frame_at limits expect bytes ≡ wrong faults.BadInt (k + 5)
bad_int_comes_at limits Chunk bytes k at h =
    let h' : FifthIsAbove bytes = rw at at h in
    rw (at, wrong_is bytes h') refl
bad_int_comes_at limits (Types types) [] k at h = absurd at
bad_int_comes_at limits (Types types) (kind ∷ rest) k at h =
    let h' : FifthIsAbove rest = rw at.0 at h in
    rw at.0 (int_behind_type limits types kind rest (has_integer_known kind at.2) at.1 at.2
    (wrong_is rest h'))

-- a text that may come is read as one
text_comes : (of : TextKind) (limits : TextLimits) (expect : Expect) (kind : ℕ) (rest : List ℕ)
    → begins_text of expect (kind ∷ rest) ≡ true
    → (frame : Frame) × (text_kind frame ≡ of)
    × (frame_at limits expect (kind ∷ rest) ≡ text_frame_at limits frame rest)
text_comes of limits (Types types) kind rest begins =
    let parts = and_parts (allows types kind) (has_text_of of kind) begins in
    by_kind of parts.0 parts.1
  where
    of_type : (type : ℕ) → kind ≡ type → type ≤ GREATEST → allows types kind ≡ true
        → allowed_at limits types (kind ∷ rest) ≡ typed_at limits type rest
    of_type type is le may = rw is (allowed_reads limits types type rest le (rw is at may))

    by_kind : (of : TextKind) → allows types kind ≡ true → has_text_of of kind ≡ true
        → (frame : Frame) × (text_kind frame ≡ of)
        × (allowed_at limits types (kind ∷ rest) ≡ text_frame_at limits frame rest)
    by_kind via_or_fault may has = elim (or_cases (kind == VIA) (kind == FAULT) has) [
      | inl is ↦ (frames.Via, refl, of_type VIA (eqb-true kind VIA is) (omega arith) may)
      | inr is ↦ (frames.Fault, refl, of_type FAULT (eqb-true kind FAULT is) (omega arith) may)
    ]
    by_kind content_type may has = (
      frames.ExtensibleEncoding,
      refl,
      of_type EXTENSIBLE_ENCODING (eqb-true kind EXTENSIBLE_ENCODING has) (omega arith) may,
    )
text_comes of limits Chunk kind rest begins = cc

-- a length above the limit is wrong where it is whole
long_text_comes : (of : TextKind) (limits : TextLimits) (expect : Expect) (bytes : List ℕ) (n : ℕ)
    → HasLongText of limits expect bytes n
    → frame_at limits expect bytes ≡ wrong (too_long_as of) n
long_text_comes of limits expect bytes n h =
    let begins : begins_text of expect (h.type ∷ (h.spelling ++ h.rest)) ≡ true =
    ap (begins_text of expect) (sym h.joined) ∙ h.begins in
    let text = text_comes of limits expect h.type (h.spelling ++ h.rest) begins in
    let above : text_limit limits text.0 < h.size = rw text.1 h.above in
    let long : string_at (text_limit limits text.0) (h.spelling ++ h.rest)
    ≡ wrong too_long (length h.spelling)
    = too_long_comes (text_limit limits text.0) (h.spelling ++ h.rest) (length h.spelling) h.size
    (whole_then h.spelling h.rest h.size h.spelled) above in
    rw (h.joined, h.place) (text.2 ∙ ap (as_text text.0) long
    ∙ ap (λ k. wrong (too_long_as k) (1 + length h.spelling)) text.1)

-- a text that isn't UTF-8 is wrong at its last byte
bad_text_comes_at : (limits : TextLimits) (expect : Expect) (bytes : List ℕ) (n : ℕ)
    → HasBadText limits expect bytes n → frame_at limits expect bytes ≡ wrong faults.TextNotUtf8 n
bad_text_comes_at limits expect bytes n h =
    let rest : List ℕ = h.spelling ++ (h.text ++ h.rest) in
    let begins : begins_text h.kind expect (h.type ∷ rest) ≡ true =
    ap (begins_text h.kind expect) (sym h.joined) ∙ h.begins in
    let text = text_comes h.kind limits expect h.type rest begins in
    let same : take (length h.text) (drop (length h.spelling) rest) ≡ h.text
    = ap (take (length h.text)) (drop-append_seam h.spelling (h.text ++ h.rest)) ∙ take-append_seam
    h.text h.rest in
    let len : length rest ≡ length h.spelling + (length h.text + length h.rest) = simp length-append
    (omega arith) in
    let low : length h.text ≤ text_limit limits text.0 = rw text.1 h.within in
    let bad : string_at (text_limit limits text.0) rest
    ≡ wrong bad_utf8 (length h.spelling + length h.text)
    = bad_text_comes (text_limit limits text.0) rest (length h.spelling + length h.text) (record {
      n = length h.text;
      j = length h.spelling;
      int = whole_then h.spelling (h.text ++ h.rest) (length h.text) h.spelled;
      low = low;
      size = refl;
      within = omega (arith, len);
      bad = rw same h.bad;
    }) in
    let place : n ≡ 1 + (length h.spelling + length h.text) = omega (arith, h.place) in
    rw (h.joined, place) (text.2 ∙ ap (as_text text.0) bad)

-- bytes that have the cause of a fault are wrong by it
pub fault_comes : (limits : TextLimits) (expect : Expect) (bytes : List ℕ) (fault : FrameFault)
    (n : ℕ) → HasCause limits expect bytes fault n → frame_at limits expect bytes ≡ wrong fault n
fault_comes limits expect bytes faults.UnknownRecord n h = rw h.0
    (unknown_comes limits expect bytes h.1)
fault_comes limits expect bytes (faults.Unexpected t) n h = rw h.0
    (unexpected_comes limits expect bytes t h.1)
fault_comes limits expect bytes faults.BadInt n h = rw h.2
    (bad_int_comes_at limits expect bytes h.0 h.1 h.3)
fault_comes limits expect bytes faults.TextTooLong n h = long_text_comes via_or_fault limits expect
    bytes n h
fault_comes limits expect bytes faults.TypeTooLong n h = long_text_comes content_type limits expect
    bytes n h
fault_comes limits expect bytes faults.TextNotUtf8 n h = bad_text_comes_at limits expect bytes n h
