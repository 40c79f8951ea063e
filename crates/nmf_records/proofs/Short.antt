-- A record that has begun is short, and so is what decides one.
use Rattle.nmf_records.specs.RecordFronts.{content_type, limit_for, longest_text, text_kind}
use Rattle.nmf_records.specs.RecordFronts.{text_limit, TextKind, TextLimits, via_or_fault}
use Rattle.std.proofs.Common.{◌≡◌, ℕ, ◌+◌, ◌-◌, ◌^◌, ◌<◌, ◌≤◌, min, Bool, true, false, List, []}
use Rattle.std.proofs.Common.{◌∷◌, length, take, if◌then◌else◌, nat_lt, ◌==◌, ap, inl, inr, arith}
use Rattle.std.proofs.Common.{length-take-le}
use Rattle.unit_streams.proofs.{Behind.behind_begun, Peeling.extent, Peeling.leaves_or_decides}
use Rattle.unit_streams.specs.Front.{begun, Front, wrong}
use Rattle.multibyte_ints.proofs.IntegerBytes.{begun_from, ended_from}
use Rattle.multibyte_ints.proofs.{IntegerLaws.spells_from_whole, TextFacts.text, TextFacts.waiting}
use Rattle.multibyte_ints.proofs.TextFacts.{above, int_begun, int_wrong, no_text, string_cases}
use Rattle.multibyte_ints.specs.{Integer.int_at, Text.string_at}
use Rattle.nmf_records.specs.declared.frame.Expect.{Expect, TheVariants.Chunk, TheVariants.Types}
use Rattle.nmf_records.specs.declared.frame.{Frame.Frame, FrameFault.FrameFault}
use Rattle.nmf_records.specs.declared.record_types.TheConstants.{END, EXTENSIBLE_ENCODING, FAULT}
use Rattle.nmf_records.specs.declared.record_types.TheConstants.{GREATEST}
use Rattle.nmf_records.specs.declared.record_types.TheConstants.{KNOWN_ENCODING, MODE, PREAMBLE_ACK}
use Rattle.nmf_records.specs.declared.record_types.TheConstants.{PREAMBLE_END, SIZED_ENVELOPE}
use Rattle.nmf_records.specs.declared.record_types.TheConstants.{UNSIZED_ENVELOPE, VERSION, VIA}
use Rattle.nmf_records.specs.RecordFronts.{allowed_at, allows, bare, byte_at, fault_of, frame_at}
use Rattle.nmf_records.specs.RecordFronts.{lone, size_at, text_frame_at, typed_at, version_at}
use Rattle.nmf_records.{specs.RecordFronts.with_text, specs.Records.Read, proofs.Frames.frame_peels}
use Rattle.nmf_records.specs.declared.frame.Frame.TheVariants as frames
use Rattle.nmf_records.specs.declared.frame.FrameFault.TheVariants as faults

-- the most bytes that a text within the limit can have: an integer is below 2^31
abbrev pub longest : ℕ → ℕ
longest limit = min limit (2 ^ 31 - 1)

-- what has begun behind n bytes has, with them, at most five bytes more than the longest text
abbrev IsShort : {A R : Type 0} → ℕ → ℕ → (List ℕ → Front A R) → Type 0
IsShort limit n f = (b : List ℕ) → f b ≡ begun → n + length b ≤ longest limit + 5

-- a string that has begun is short
string_short : (limit : ℕ) → IsShort limit 1 (string_at limit)
string_short limit b e =
    elim (string_cases limit b) [
      | int_begun i s ↦ let w = (begun_from b i).short in omega arith
      | int_wrong k i s ↦ cc
      | above n j i up s ↦ cc
      | waiting n j i low few s ↦
          let w = ended_from b n j i in
          let small : n < 2 ^ 31 = (spells_from_whole b n j i).1.in_31_bits in
          let place : w.place ≤ 4 = w.ends.at_most_five in
          omega (arith, w.size)
      | text n j i low within utf8 s ↦ cc
      | no_text n j i low within utf8 s ↦ cc
    ]

-- a size is
size_short : (limit n : ℕ) → n ≤ 1 → (frame : ℕ → Frame) → IsShort limit n (size_at n frame)
size_short limit n le frame b e =
    let w = (begun_from b (behind_begun n (λ size. bare (frame size)) (λ _. faults.BadInt)
    (int_at b) e)).short in
    omega arith

-- each limit is at most the greater one
kind_longest : (kind : TextKind) (limits : TextLimits)
    → longest (limit_for kind limits) ≤ longest (longest_text limits)
kind_longest via_or_fault limits = omega arith
kind_longest content_type limits = omega arith

-- a text is
text_short : (limits : TextLimits) (frame : Frame)
    → IsShort (longest_text limits) 1 (text_frame_at limits frame)
text_short limits frame b e =
    let short = string_short (text_limit limits frame) b (behind_begun 1 (with_text frame)
    (fault_of (text_kind frame)) (string_at (text_limit limits frame) b) e) in
    omega (arith, short, kind_longest (text_kind frame) limits)

-- a Version record is
version_short : (limit : ℕ) → IsShort limit 1 version_at
version_short limit [] e = omega arith
version_short limit (major ∷ []) e = omega arith
version_short limit (major ∷ minor ∷ rest) e = cc

-- a record of one byte is
byte_short : (limit : ℕ) (frame : ℕ → Frame) → IsShort limit 1 (byte_at frame)
byte_short limit frame [] e = omega arith
byte_short limit frame (x ∷ rest) e = cc

-- what one byte alone decides has not begun
lone_short : (limit : ℕ) (frame : Frame) → IsShort limit 1 (λ (b : List ℕ). lone frame)
lone_short limit frame b e = cc

-- nor has what is wrong by it
wrong_short : (limit : ℕ) (fault : FrameFault) → IsShort limit 1
    (λ (b : List ℕ). let front : Front Read FrameFault = wrong fault 1 in front)
wrong_short limit fault b e = cc

-- of two readings the one that a test takes
choice_short : (limit : ℕ) (test : Bool) (f g : List ℕ → Front Read FrameFault) → IsShort limit 1 f
    → IsShort limit 1 g → IsShort limit 1 (λ b. if test then f b else g b)
choice_short limit true f g p q = p
choice_short limit false f g p q = q

-- what follows a type byte is short
typed_short : (limits : TextLimits) (kind : ℕ)
    → IsShort (longest_text limits) 1 (typed_at limits kind)
typed_short limits kind =
    let limit : ℕ = longest_text limits in
    choice_short limit (kind == VERSION) _ _ (version_short limit) (
    choice_short limit (kind == MODE) _ _ (byte_short limit frames.Mode) (
    choice_short limit (kind == VIA) _ _ (text_short limits frames.Via) (
    choice_short limit (kind == KNOWN_ENCODING) _ _ (byte_short limit frames.KnownEncoding) (
    choice_short limit (kind == EXTENSIBLE_ENCODING) _ _
    (text_short limits frames.ExtensibleEncoding) (
    choice_short limit (kind == UNSIZED_ENVELOPE) _ _ (lone_short limit frames.UnsizedEnvelope) (
    choice_short limit (kind == SIZED_ENVELOPE) _ _
    (size_short limit 1 (omega arith) frames.SizedEnvelope) (
    choice_short limit (kind == END) _ _ (lone_short limit frames.End) (
    choice_short limit (kind == FAULT) _ _ (text_short limits frames.Fault) (
    choice_short limit (kind == PREAMBLE_ACK) _ _ (lone_short limit frames.PreambleAck) (
    choice_short limit (kind == PREAMBLE_END) _ _ (lone_short limit frames.PreambleEnd)
    (wrong_short limit (faults.Unexpected kind))))))))))))

-- whether or not it may come
behind_type : (limits : TextLimits) (types kind : ℕ)
    → IsShort (longest_text limits) 1 (λ b. allowed_at limits types (kind ∷ b))
behind_type limits types kind =
    let limit : ℕ = longest_text limits in
    choice_short limit (nat_lt GREATEST kind) _ _ (wrong_short limit faults.UnknownRecord) (
    choice_short limit (allows types kind) _ _ (typed_short limits kind)
    (wrong_short limit (faults.Unexpected kind)))

-- a record that has begun has at most five bytes more than the longest text
pub begun_short : (limits : TextLimits) (expect : Expect)
    → IsShort (longest_text limits) 0 (frame_at limits expect)
begun_short limits (Types types) [] e = omega arith
begun_short limits (Types types) (kind ∷ b) e = omega (arith, behind_type limits types kind b e)
begun_short limits Chunk b e =
    size_short (longest_text limits) 0 (omega arith) frames.Chunk b e

-- so what decides one has at most six more
pub decided_short : (limits : TextLimits) (expect : Expect) (b : List ℕ)
    → extent (frame_at limits expect b)
    ≤ longest (longest_text limits) + 6
decided_short limits expect b =
    let peels = frame_peels limits expect in
    elim (leaves_or_decides (frame_at limits expect) peels [] b peels.nothing) [
      | inl l ↦ omega (arith, ap extent l.at_end)
      | inr (n, d) ↦
          let short = begun_short limits expect (take (n - 1) b)
          (d.before (n - 1) (omega (arith, d.some))) in
          omega (
            arith,
            d.extent_is,
            d.some,
            short,
            length-take-le (n - 1) b
                (omega (arith, d.within)),
          )
    ]
