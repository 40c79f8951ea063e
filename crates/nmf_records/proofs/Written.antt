-- What is written is the record, and is read back as it.
use Rattle.std.proofs.Common.{◌≡◌, ℕ, ◌+◌, ◌^◌, ◌<◌, List, ◌∷◌, ◌++◌, length, take, refl, ap, ◌∙◌}
use Rattle.std.proofs.Common.{append_assoc, arith, take_at}
use Rattle.multibyte_ints.proofs.{ShortestLaws.shortest_spells, TextLaws.string_bytes_are}
use Rattle.multibyte_ints.specs.{Integer.shortest, Text.string_bytes_of}
use Rattle.nmf_records.specs.{declared.frame.Frame.Frame, Records.IsRecordOf}
use Rattle.nmf_records.specs.Writing.{frame_bytes, frame_bytes_of, HasItsText, size_told}
use Rattle.nmf_records.specs.Writing.{text_frame_bytes, WrittenAreRead, WrittenAreRecords}
use Rattle.nmf_records.proofs.{Frames.frames_front, Records.record_read}
use Rattle.nmf_records.specs.declared.frame.Frame.TheVariants as frames

written_of : (frame : Frame) (text : List ℕ) → size_told frame < 2 ^ 31 → HasItsText frame text
    → IsRecordOf frame text (frame_bytes_of frame text)
written_of (frames.Version major minor) text size own = (own, refl)
written_of (frames.Mode mode) text size own = (own, refl)
written_of frames.Via text size own = (
  string_bytes_of text,
  string_bytes_are text own.0 own.1,
  refl,
)
written_of (frames.KnownEncoding encoding) text size own = (own, refl)
written_of frames.ExtensibleEncoding text size own = (
  string_bytes_of text,
  string_bytes_are text own.0 own.1,
  refl,
)
written_of frames.UnsizedEnvelope text size own = (own, refl)
written_of (frames.Chunk n) text size own = (own, (shortest_spells n size).0)
written_of (frames.SizedEnvelope n) text size own =
    (own, shortest n, (shortest_spells n size).0, refl)
written_of frames.End text size own = (own, refl)
written_of frames.Fault text size own = (
  string_bytes_of text,
  string_bytes_are text own.0 own.1,
  refl,
)
written_of frames.PreambleAck text size own = (own, refl)
written_of frames.PreambleEnd text size own = (own, refl)

pub written_are_records : WrittenAreRecords
written_are_records read can = written_of read.frame read.text can.size can.text

pub written_are_read : WrittenAreRead
written_are_read limits expect read rest can may low =
    (frames_front limits expect).whole_stays (frame_bytes read) rest read (length
    (frame_bytes read))
    (record_read limits expect read (frame_bytes read) (written_are_records read can) may low)

-- a type byte and a length were appended, and then the text
pub text_appended : (out front rest text first second : List ℕ) (kind used : ℕ) → used ≡ 1
    + length (shortest (length text)) → front ≡ kind ∷ shortest (length text) ++ rest
    → first ≡ out ++ take used front → second ≡ first ++ text → second ≡ out ++ text_frame_bytes
    kind text
unfolding string_bytes_of
text_appended out front rest text first second kind used len is e f =
    let own : take used front ≡ kind ∷ shortest (length text) = ap (take used) is ∙ take_at
    (kind ∷ shortest (length text)) rest used (omega (arith, len)) in
    rw (f, e, own, append_assoc) refl
