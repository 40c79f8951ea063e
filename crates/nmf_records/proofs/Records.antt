-- A record that is read is the bytes that it is read of, and a record's bytes are read as it.
use Rattle.nmf_records.specs.RecordFronts.{content_type, TextKind, TextLimits, via_or_fault}
use Rattle.std.proofs.Common.{◌≡◌, ℕ, suc, ◌+◌, ◌≤◌, true, List, [], ◌∷◌, ◌++◌, length, take, drop}
use Rattle.std.proofs.Common.{nat_lt, Some, sym, refl, ap, ◌∙◌, arith, take-append-drop}
use Rattle.std.{proofs.Common.length-take-le, specs.Prelude.⊤, proofs.lemmas.Bool.cond_both}
use Rattle.unit_streams.proofs.Taken.{none_goes_on}
use Rattle.unit_streams.specs.Front.{begun, Front, whole, wrong}
use Rattle.multibyte_ints.proofs.IntegerLaws.{spells_from_whole, whole_from_all}
use Rattle.multibyte_ints.proofs.TextLaws.{string_alone, string_from_whole}
use Rattle.multibyte_ints.specs.{Integer.int_at, Text.string_at, Text.StringFault}
use Rattle.nmf_records.specs.declared.frame.Expect.{Expect, TheVariants.Chunk, TheVariants.Types}
use Rattle.nmf_records.specs.declared.frame.{Frame.Frame, FrameFault.FrameFault}
use Rattle.nmf_records.specs.declared.record_types.TheConstants.{END, EXTENSIBLE_ENCODING, FAULT}
use Rattle.nmf_records.specs.declared.record_types.TheConstants.{GREATEST}
use Rattle.nmf_records.specs.declared.record_types.TheConstants.{KNOWN_ENCODING, MODE, PREAMBLE_ACK}
use Rattle.nmf_records.specs.declared.record_types.TheConstants.{PREAMBLE_END, SIZED_ENVELOPE}
use Rattle.nmf_records.specs.declared.record_types.TheConstants.{UNSIZED_ENVELOPE, VERSION, VIA}
use Rattle.nmf_records.specs.RecordFronts.{allows, allows_type, as_size, as_text, byte_at, frame_at}
use Rattle.nmf_records.specs.RecordFronts.{lone, MayCome, size_at, text_frame_at, typed_at}
use Rattle.nmf_records.specs.RecordFronts.{limit_for, text_kind, text_limit, version_at, with_text}
use Rattle.nmf_records.specs.Records.{IsRecord, IsRecordOf, IsTextRecord, Read, type_of}
use Rattle.nmf_records.proofs.{Frames.frames_front, Typed.type_known}
use Rattle.nmf_records.proofs.TypeCases.{by_type, read_by_type}
use Rattle.nmf_records.specs.declared.frame.Frame.TheVariants as frames

-- of a whole record and its length
abbrev OfWhole : (Read → ℕ → Type 0) → Front Read FrameFault → Type 0
OfWhole P begun = Unit {0}
OfWhole P (whole read n) = P read n
OfWhole P (wrong fault n) = Unit {0}

-- the bytes at the front are the record, which may come, and its text is within the limit
abbrev IsReadOf : TextLimits → Expect → List ℕ → Read → ℕ → Type 0
IsReadOf limits expect bytes read n = IsRecord read (take n bytes) × MayCome expect read.frame
    × (length read.text ≤ text_limit limits read.frame)

-- behind a type byte that may come
module _ (limits : TextLimits) (types kind : ℕ) (bytes : List ℕ) (may : allows types kind
    ≡ true) where
  -- what is read behind the type byte is no whole record, or one that the bytes are
  abbrev Of : Front Read FrameFault → Type 0
  Of = OfWhole (IsReadOf limits (Types types) (kind ∷ bytes))

  -- a record of the type may come
  type_may : (frame : Frame) (n : ℕ) → kind ≡ n → type_of frame ≡ Some n → MayCome (Types types)
      frame
  type_may frame n e is = ap (allows_type types) is ∙ ap (allows types) (sym e) ∙ may

  -- the type byte before the others
  first_more : (n k : ℕ) → kind ≡ n → take (1 + k) (kind ∷ bytes) ≡ n ∷ take k bytes
  first_more n k e = let s : 1 + k ≡ suc k = omega arith in rw (s, e) refl

  -- a type byte alone is its bytes
  read_lone : (frame : Frame) (n : ℕ) → kind ≡ n → type_of frame ≡ Some n
      → ((b : List ℕ) → b ≡ n ∷ [] → IsRecordOf frame [] b) → Of (lone frame)
  read_lone frame n e is record_of = (
    record_of (kind ∷ []) (ap (λ t. t ∷ []) e),
    type_may frame n e
        is,
    omega arith,
  )

  -- a record with a text is its bytes
  read_text : (frame : Frame) (n : ℕ) → kind ≡ n → type_of frame ≡ Some n
      → ((text b : List ℕ) → IsTextRecord n text b → IsRecordOf frame text b)
      → Of (text_frame_at limits frame bytes)
  read_text frame n e is record_of = by_string (string_at (text_limit limits frame) bytes) refl
    where
      by_string : (y : Front (List ℕ) StringFault) → string_at (text_limit limits frame) bytes ≡ y
          → Of (as_text frame y)
      by_string begun h = tt
      by_string (whole s k) h =
          let w = string_from_whole (text_limit limits frame) bytes s k h in (
            record_of s (take (1 + k) (kind ∷ bytes)) (take k bytes, w.2, first_more n k e),
            type_may
                frame n e is,
            w.1,
          )
      by_string (wrong r k) h = tt

  -- an envelope's head is its bytes
  read_size : kind ≡ SIZED_ENVELOPE → Of (size_at 1 frames.SizedEnvelope bytes)
  read_size e = by_int (int_at bytes) refl
    where
      by_int : (y : Front ℕ ⊤) → int_at bytes ≡ y → Of (as_size 1 frames.SizedEnvelope y)
      by_int begun h = tt
      by_int (whole n k) h = (
        (refl, take k bytes, (spells_from_whole bytes n k h).1, first_more SIZED_ENVELOPE k e),
        type_may (frames.SizedEnvelope n) SIZED_ENVELOPE e refl,
        omega arith,
      )
      by_int (wrong r k) h = tt

-- a Version record is its bytes
read_version : (limits : TextLimits) (types kind : ℕ) (bytes : List ℕ) (may : allows types kind
    ≡ true) → kind
    ≡ VERSION → Of limits types kind bytes may (version_at bytes)
read_version limits types kind [] may e = tt
read_version limits types kind (major ∷ []) may e = tt
read_version limits types kind (major ∷ minor ∷ rest) may e = (
  (refl, ap (λ t. t ∷ major ∷ minor ∷ []) e),
  type_may limits types kind (major ∷ minor ∷ rest)
      may (frames.Version major minor) VERSION e refl,
  omega arith,
)

-- a record of one byte is its bytes
read_byte : (limits : TextLimits) (types kind : ℕ) (bytes : List ℕ) (may : allows types kind ≡ true)
    (frame : ℕ → Frame) (n : ℕ) → kind ≡ n → ((x : ℕ) → type_of (frame x) ≡ Some n)
    → ((x : ℕ) (b : List ℕ) → b ≡ n ∷ x ∷ [] → IsRecordOf (frame x) [] b) → Of limits types kind
    bytes may (byte_at frame bytes)
read_byte limits types kind [] may frame n e is record_of = tt
read_byte limits types kind (x ∷ rest) may frame n e is record_of = (
  record_of x (kind ∷ x ∷ []) (ap (λ t. t ∷ x ∷ []) e),
  type_may limits types kind (x ∷ rest) may
      (frame x) n e (is x),
  omega arith,
)

-- a record of a type is its bytes
read_typed : (limits : TextLimits) (types kind : ℕ) (bytes : List ℕ) (may : allows types kind
    ≡ true) → kind
    ≤ GREATEST → Of limits types kind bytes may (typed_at limits kind bytes)
read_typed limits types kind bytes may le = by_type limits kind bytes
    (Of limits types kind bytes may)
    le record {
      version = read_version limits types kind bytes may;
      mode = λ e. read_byte limits types kind bytes may frames.Mode MODE e (λ x. refl)
          (λ x b h. (refl, h));
      via = λ e. read_text limits types kind bytes may frames.Via VIA e refl (λ text b h. h);
      encoding = λ e. read_byte limits types kind bytes may frames.KnownEncoding KNOWN_ENCODING e
          (λ x. refl) (λ x b h. (refl, h));
      content_type = λ e. read_text limits types kind bytes may frames.ExtensibleEncoding
          EXTENSIBLE_ENCODING e refl (λ text b h. h);
      unsized_envelope = λ e. read_lone limits types kind bytes may frames.UnsizedEnvelope
          UNSIZED_ENVELOPE e refl (λ b h. (refl, h));
      sized_envelope = read_size limits types kind bytes may;
      end = λ e. read_lone limits types kind bytes may frames.End END e refl (λ b h. (refl, h));
      fault = λ e. read_text limits types kind bytes may frames.Fault FAULT e refl (λ text b h. h);
      preamble_ack = λ e. read_lone limits types kind bytes may frames.PreambleAck PREAMBLE_ACK e
          refl
          (λ b h. (refl, h));
      preamble_end = λ e. read_lone limits types kind bytes may frames.PreambleEnd PREAMBLE_END e
          refl
          (λ b h. (refl, h));
      other = λ e. tt;
    }

-- a record, or a chunk's size, is its bytes
read_front : (limits : TextLimits) (expect : Expect) (bytes : List ℕ)
    → OfWhole (IsReadOf limits expect bytes)
    (frame_at limits expect bytes)
read_front limits (Types types) [] = tt
read_front limits (Types types) (kind ∷ bytes) =
    let P : Front Read FrameFault → Type 0 = OfWhole (IsReadOf limits (Types types) (kind ∷ bytes))
    in
    cond_both (nat_lt GREATEST kind) _ _ P (λ _. tt)
    (λ known. cond_both (allows types kind) _ _ P
    (λ may. read_typed limits types kind bytes may (type_known kind known)) (λ _. tt))
read_front limits Chunk bytes = by_int (int_at bytes) refl
  where
    by_int : (y : Front ℕ ⊤) → int_at bytes ≡ y → OfWhole (IsReadOf limits Chunk bytes)
        (as_size 0 frames.Chunk y)
    by_int begun h = tt
    by_int (whole n k) h = let z : 0 + k ≡ k = omega arith in
        ((refl, rw z (spells_from_whole bytes n k h).1), refl, omega arith)
    by_int (wrong r k) h = tt

-- what holds of a whole record holds of this one
OfWhole_at : (P : Read → ℕ → Type 0) (y : Front Read FrameFault) (read : Read) (n : ℕ) → y
    ≡ whole read n → OfWhole P y → P read n
OfWhole_at P y read n e h = rw e at h

-- the bytes that a record is read of are the record, which may come, and its text is within the
-- limit
pub read_record : (limits : TextLimits) (expect : Expect) (bytes : List ℕ) (read : Read) (n : ℕ)
    → frame_at limits expect bytes ≡ whole read n
    → IsRecord read (take n bytes) × MayCome expect read.frame
    × (length read.text ≤ text_limit limits read.frame)
read_record limits expect bytes read n e = OfWhole_at (IsReadOf limits expect bytes)
    (frame_at limits expect bytes) read n e (read_front limits expect bytes)

-- a Via's or a Fault's bytes are read as it
text_record_read : (limits : TextLimits) (expect : Expect) (frame : Frame) (kind : ℕ)
    (text b : List ℕ) → kind
    ≤ GREATEST → type_of frame ≡ Some kind
    → ((c : List ℕ) → typed_at limits kind c ≡ text_frame_at limits frame c)
    → IsTextRecord kind text b
    → MayCome expect frame → length text ≤ text_limit limits frame
    → frame_at limits expect b ≡ whole (with_text frame text) (length b)
text_record_read limits expect frame kind text b le is reads h may low =
    let size : 1 + length h.0 ≡ suc (length h.0) = omega arith in
    rw (
      h.2,
      read_by_type limits expect frame kind h.0 le is may,
      reads h.0,
      string_alone (text_limit limits frame) h.0
          text low h.1,
      size,
    ) refl

-- each record's bytes are read as it
record_of_read : (limits : TextLimits) (expect : Expect) (frame : Frame) (text b : List ℕ)
    → IsRecordOf frame
    text b → MayCome expect frame → length text ≤ text_limit limits frame
    → frame_at limits expect b ≡ whole (with_text frame text) (length b)
record_of_read limits expect (frames.Version major minor) text b h may low =
    rw (h.0, h.1) (read_by_type limits expect (frames.Version major minor) VERSION
    (major ∷ minor ∷ []) (omega arith) refl may)
record_of_read limits expect (frames.Mode mode) text b h may low =
    rw (h.0, h.1) (read_by_type limits expect (frames.Mode mode) MODE (mode ∷ []) (omega arith) refl
    may)
record_of_read limits expect frames.Via text b h may low = text_record_read limits expect frames.Via
    VIA text b (omega arith) refl (λ c. refl) h may low
record_of_read limits expect (frames.KnownEncoding encoding) text b h may low =
    rw (h.0, h.1) (read_by_type limits expect (frames.KnownEncoding encoding) KNOWN_ENCODING
    (encoding ∷ []) (omega arith) refl may)
record_of_read limits expect frames.ExtensibleEncoding text b h may low = text_record_read limits
    expect frames.ExtensibleEncoding EXTENSIBLE_ENCODING text b (omega arith) refl (λ c. refl) h
    may low
record_of_read limits expect frames.UnsizedEnvelope text b h may low = rw (h.0, h.1)
    (read_by_type limits expect frames.UnsizedEnvelope UNSIZED_ENVELOPE [] (omega arith) refl may)
record_of_read limits Chunk (frames.Chunk size) text b h may low =
    let none : 0 + length b ≡ length b = omega arith in
    rw (h.0, whole_from_all b size h.1, none) refl
record_of_read limits (Types types) (frames.Chunk size) text b h may low = cc
record_of_read limits expect (frames.SizedEnvelope size) text b h may low =
    let n : 1 + length h.1 ≡ suc (length h.1) = omega arith in
    rw (
      h.0,
      h.3,
      read_by_type limits expect (frames.SizedEnvelope size) SIZED_ENVELOPE h.1
          (omega arith) refl may,
      whole_from_all h.1 size h.2,
      n,
    ) refl
record_of_read limits expect frames.End text b h may low = rw (h.0, h.1)
    (read_by_type limits expect frames.End END [] (omega arith) refl may)
record_of_read limits expect frames.Fault text b h may low = text_record_read limits expect
    frames.Fault FAULT text b (omega arith) refl (λ c. refl) h may low
record_of_read limits expect frames.PreambleAck text b h may low = rw (h.0, h.1)
    (read_by_type limits expect frames.PreambleAck PREAMBLE_ACK [] (omega arith) refl may)
record_of_read limits expect frames.PreambleEnd text b h may low = rw (h.0, h.1)
    (read_by_type limits expect frames.PreambleEnd PREAMBLE_END [] (omega arith) refl may)

-- a record's bytes are read as it, where it may come and its text is within the limit
pub record_read : (limits : TextLimits) (expect : Expect) (read : Read) (bytes : List ℕ)
    → IsRecord read bytes
    → MayCome expect read.frame → length read.text ≤ text_limit limits read.frame
    → frame_at limits expect bytes ≡ whole read (length bytes)
record_read limits expect read bytes h may low = record_of_read limits expect read.frame read.text
    bytes h may low

-- and whatever follows them
pub record_read_on : (limits : TextLimits) (expect : Expect) (read : Read) (bytes : List ℕ)
    (n : ℕ) → n
    ≤ length bytes → IsRecord read (take n bytes) → MayCome expect read.frame
    → length read.text ≤ text_limit limits read.frame → frame_at limits expect bytes ≡ whole read n
record_read_on limits expect read bytes n within h may low =
    let alone : frame_at limits expect (take n bytes) ≡ whole read n = record_read limits expect
    read
    (take n bytes) h may low ∙ ap (whole read) (length-take-le n bytes within) in
    ap (frame_at limits expect) (sym (take-append-drop n bytes)) ∙
    (frames_front limits expect).whole_stays (take n bytes) (drop n bytes) read n alone

-- where both limits are one, it is each text's
both_limits : (n : ℕ) (kind : TextKind) (len : ℕ) → len ≤ n
    → len ≤ limit_for kind (record { text = n; content_type = n })
both_limits n via_or_fault len le = le
both_limits n content_type len le = le

-- no record goes on to a longer one that may come in its place, and none is two
pub no_longer_record : (expect : Expect) (one other : Read) (bytes more : List ℕ)
    → MayCome expect one.frame → MayCome expect other.frame
    → IsRecord one bytes → IsRecord other (bytes ++ more) → (more ≡ []) × (one ≡ other)
no_longer_record expect one other bytes more may may' h h' =
    let n : ℕ = length one.text + length other.text in
    let limits : TextLimits = record { text = n; content_type = n } in
    none_goes_on (frame_at limits expect) (frames_front limits expect) bytes more one other
    (record_read limits expect one bytes h may (both_limits n (text_kind one.frame)
    (length one.text) (omega arith)))
    (record_read limits expect other (bytes ++ more) h' may'
    (both_limits n (text_kind other.frame) (length other.text) (omega arith)))
