-- The definitions on literals: each record, a preamble's records in their places, and each fault.
use Rattle.std.proofs.Common.{◌≡◌, ℕ, ◌+◌, ◌^◌, List, [], ◌∷◌, ◌++◌, map, codes, refl}
use Rattle.std.specs.Str.{chars, is_utf8}
use lib.Utf8.{encode}
use Rattle.unit_streams.specs.Front.{begun, Front, whole, wrong}
use Rattle.nbfx_values.specs.Session.{content_type}
use Rattle.nbfx_values.specs.declared.session.Kind.TheVariants.{Plain, Session}
use Rattle.multibyte_ints.specs.Integer.{int_at, int_ending_at, value_of}
use Rattle.multibyte_ints.specs.Text.{string_at, text_at, text_behind, text_ending_at}
use Rattle.nmf_records.specs.declared.frame.{Expect.Expect, FrameFault.FrameFault}
use Rattle.nmf_records.specs.declared.frame.Frame.TheVariants.{Chunk, End, ExtensibleEncoding}
use Rattle.nmf_records.specs.declared.frame.Frame.TheVariants.{Fault}
use Rattle.nmf_records.specs.declared.frame.Frame.TheVariants.{KnownEncoding}
use Rattle.nmf_records.specs.declared.frame.Frame.TheVariants.{Mode, PreambleAck, PreambleEnd}
use Rattle.nmf_records.specs.declared.frame.Frame.TheVariants.{SizedEnvelope, UnsizedEnvelope}
use Rattle.nmf_records.specs.declared.frame.Frame.TheVariants.{Version, Via}
use Rattle.nmf_records.specs.{RecordFronts.bare, RecordFronts.frame_at, Records.Read}
use Rattle.nmf_records.specs.RecordFronts.{limits_within, TextLimits, with_text}
use Rattle.nmf_records.specs.declared.frame.Expect.TheVariants as expects
use Rattle.nmf_records.specs.declared.frame.FrameFault.TheVariants as faults

-- a record of this type may come, or one with a text
abbrev due : ℕ → Expect
due kind = expects.Types (2 ^ kind)

abbrev texts : Expect
texts = expects.Types (2 ^ 2 + 2 ^ 8)

abbrev encodings : Expect
encodings = expects.Types (2 ^ 3 + 2 ^ 4)

abbrev usual : TextLimits
usual = limits_within 2048

-- how long texts may be, what may come, bytes, and what stands at their front
abbrev Row : Type 0
Row = TextLimits × Expect × List ℕ × Front Read FrameFault

abbrev AllRead : List Row → Type 0
AllRead rows = map (λ (r : Row). frame_at r.0 r.1 r.2) rows ≡ map (λ (r : Row). r.3) rows

-- a preamble, record by record
a_preamble : AllRead (
    (usual, due 0, 0x00 ∷ 0x01 ∷ 0x00 ∷ 0x01 ∷ [], whole (bare (Version 1 0)) 3) ∷
    (usual, due 1, 0x01 ∷ 0x02 ∷ [], whole (bare (Mode 2)) 2) ∷ (
      usual,
      due 2,
      0x02 ∷ 0x0D ∷ codes "net.tcp://h/e" ++ 0x03 ∷ [],
      whole (record { frame = Via; text = codes "net.tcp://h/e" }) 15,
    ) ∷
    (usual, due 3, 0x03 ∷ 0x08 ∷ [], whole (bare (KnownEncoding 8)) 2) ∷
    (usual, due 12, 0x0C ∷ [], whole (bare PreambleEnd) 1) ∷
    [])
unfolding int_at int_ending_at value_of string_at text_behind text_at text_ending_at is_utf8 chars
    encode
a_preamble = refl

-- the other records; a text of two bytes that are one character, one of as many bytes as the limit
other_records : AllRead (
    (usual, due 11, 0x0B ∷ [], whole (bare PreambleAck) 1) ∷
    (usual, due 5, 0x05 ∷ 0x03 ∷ [], whole (bare UnsizedEnvelope) 1) ∷
    (usual, due 6, 0x06 ∷ 0x81 ∷ 0x80 ∷ 0x04 ∷ [], whole (bare (SizedEnvelope 65537)) 4) ∷
    (usual, due 7, 0x07 ∷ [], whole (bare End) 1) ∷
    (usual, due 8, 0x08 ∷ 0x02 ∷ codes "no", whole (record { frame = Fault; text = codes "no" }) 4)
    ∷ (
      limits_within 9,
      texts,
      0x02 ∷ 0x02 ∷ 0xC3 ∷ 0xA9 ∷ [],
      whole (record { frame = Via; text = 0xC3 ∷ 0xA9 ∷ [] }) 4,
    ) ∷ (
      limits_within 3,
      texts,
      0x02 ∷ 0x03 ∷ codes "h/e",
      whole
          (record { frame = Via; text = codes "h/e" }) 5,
    ) ∷
    [])
unfolding int_at int_ending_at value_of string_at text_behind text_at text_ending_at is_utf8 chars
    encode
other_records = refl

-- the encoding spelled out, where either record may name it
content_types : AllRead ((
  usual,
  due 4,
  0x04 ∷ 0x17 ∷ content_type Plain ++ 0x0C ∷ [],
  whole (with_text ExtensibleEncoding (content_type Plain)) 25,
) ∷ (
  limits_within 3,
  encodings,
  0x04 ∷ 0x1E ∷ content_type Session,
  whole (with_text ExtensibleEncoding (content_type Session)) 32,
) ∷
    (usual, encodings, 0x03 ∷ 0x08 ∷ [], whole (bare (KnownEncoding 8)) 2) ∷
    (usual, encodings, 0x04 ∷ 0x80 ∷ 0x02 ∷ 0x61 ∷ [], begun) ∷
    (usual, encodings, 0x04 ∷ 0x81 ∷ 0x02 ∷ [], wrong faults.TypeTooLong 3) ∷
    (limits_within 9, encodings, 0x04 ∷ 0x01 ∷ 0xFF ∷ [], wrong faults.TextNotUtf8 3) ∷
    (usual, due 3, 0x04 ∷ [], wrong (faults.Unexpected 4) 1) ∷
    [])
unfolding int_at int_ending_at value_of string_at text_behind text_at text_ending_at is_utf8 chars
    encode
content_types = refl

-- a chunk's size, of which 0 ends the envelope
chunks : AllRead (
    (usual, expects.Chunk, 0x03 ∷ 0xAA ∷ [], whole (bare (Chunk 3)) 1) ∷
    (usual, expects.Chunk, 0x00 ∷ 0x07 ∷ [], whole (bare (Chunk 0)) 1) ∷
    [])
unfolding int_at int_ending_at value_of string_at text_behind text_at text_ending_at is_utf8 chars
    encode
chunks = refl

-- what has begun, such as a text that is cut inside a character
only_begun : AllRead (
    (usual, due 0, [], begun) ∷
    (usual, due 0, 0x00 ∷ 0x02 ∷ [], begun) ∷
    (usual, due 6, 0x06 ∷ 0x81 ∷ 0x80 ∷ [], begun) ∷
    (limits_within 9, texts, 0x02 ∷ 0x02 ∷ 0xC3 ∷ [], begun) ∷
    (limits_within 9, texts, 0x02 ∷ 0x03 ∷ 0xC3 ∷ 0x28 ∷ [], begun) ∷
    [])
unfolding int_at int_ending_at value_of string_at text_behind text_at text_ending_at is_utf8 chars
    encode
only_begun = refl

-- types that no record has or that may not come, such as an Upgrade Request whose bit is set
bad_types : AllRead (
    (usual, due 12, 0x0D ∷ [], wrong faults.UnknownRecord 1) ∷
    (usual, due 12, 0x09 ∷ [], wrong (faults.Unexpected 9) 1) ∷
    (usual, due 9, 0x09 ∷ [], wrong (faults.Unexpected 9) 1) ∷
    (usual, due 0, 0x01 ∷ 0x02 ∷ [], wrong (faults.Unexpected 1) 1) ∷
    [])
unfolding int_at int_ending_at value_of string_at text_behind text_at text_ending_at is_utf8 chars
    encode
bad_types = refl

-- bad integers, a text longer than the limit, and one that isn't UTF-8, at its last byte
bad_contents : AllRead (
    (usual, due 6, 0x06 ∷ 0xFF ∷ 0xFF ∷ 0xFF ∷ 0xFF ∷ 0x08 ∷ [], wrong faults.BadInt 6) ∷
    (limits_within 9, texts, 0x08 ∷ 0xFF ∷ 0xFF ∷ 0xFF ∷ 0xFF ∷ 0x08 ∷ [], wrong faults.BadInt 6) ∷
    (usual, expects.Chunk, 0xFF ∷ 0xFF ∷ 0xFF ∷ 0xFF ∷ 0x08 ∷ [], wrong faults.BadInt 5) ∷
    (limits_within 3, texts, 0x02 ∷ 0x04 ∷ [], wrong faults.TextTooLong 2) ∷
    (limits_within 9, texts, 0x02 ∷ 0x03 ∷ 0xC3 ∷ 0x28 ∷ 0x41 ∷ [], wrong faults.TextNotUtf8 5) ∷
    [])
unfolding int_at int_ending_at value_of string_at text_behind text_at text_ending_at is_utf8 chars
    encode
bad_contents = refl
