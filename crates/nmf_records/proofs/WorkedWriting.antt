-- Records as they are written, and the texts of faults, by computation.
use Rattle.std.proofs.Common.{◌≡◌, ℕ, List, [], ◌∷◌, map, Some, None, codes, Option, refl}
use Rattle.multibyte_ints.specs.{Integer.shortest, Integer.shortest_within, Text.string_bytes_of}
use Rattle.nbfx_values.specs.declared.refusals.Reason.{Reason}
use Rattle.nbfx_values.specs.{Session.content_type, declared.session.Kind.TheVariants.Plain}
use Rattle.nmf_records.specs.declared.frame.Frame.TheVariants.{Chunk, End, ExtensibleEncoding}
use Rattle.nmf_records.specs.declared.frame.Frame.TheVariants.{Fault}
use Rattle.nmf_records.specs.declared.frame.Frame.TheVariants.{KnownEncoding}
use Rattle.nmf_records.specs.declared.frame.Frame.TheVariants.{Mode, PreambleAck, PreambleEnd}
use Rattle.nmf_records.specs.declared.frame.Frame.TheVariants.{SizedEnvelope, UnsizedEnvelope}
use Rattle.nmf_records.specs.declared.frame.Frame.TheVariants.{Version, Via}
use Rattle.nmf_records.specs.RecordFronts.{bare, with_text}
use Rattle.nmf_records.specs.{Records.Read, Writing.fault_text_of, Writing.frame_bytes}
use Rattle.nbfx_values.specs.declared.refusals.Reason.TheVariants as reasons

-- a record and its bytes
abbrev Row : Type 0
Row = Read × List ℕ

abbrev AllWritten : List Row → Type 0
AllWritten rows = map (λ (row : Row). frame_bytes row.0) rows ≡ map (λ (row : Row). row.1) rows

-- a preamble, an envelope in singleton mode, the head of a sized one, and what a receiver sends
records : AllWritten (
    (bare (Version 1 0), 0x00 ∷ 0x01 ∷ 0x00 ∷ []) ∷
    (bare (Mode 2), 0x01 ∷ 0x02 ∷ []) ∷
    (with_text Via (codes "net.tcp://h/e"), 0x02 ∷ 0x0D ∷ codes "net.tcp://h/e") ∷
    (bare (KnownEncoding 8), 0x03 ∷ 0x08 ∷ []) ∷
    (with_text ExtensibleEncoding (content_type Plain), 0x04 ∷ 0x17 ∷ content_type Plain) ∷
    (bare PreambleEnd, 0x0C ∷ []) ∷
    (bare UnsizedEnvelope, 0x05 ∷ []) ∷
    (bare (Chunk 0), 0x00 ∷ []) ∷
    (bare (Chunk 127), 0x7F ∷ []) ∷
    (bare (Chunk 128), 0x80 ∷ 0x01 ∷ []) ∷
    (bare (SizedEnvelope 5), 0x06 ∷ 0x05 ∷ []) ∷
    (bare (SizedEnvelope 65537), 0x06 ∷ 0x81 ∷ 0x80 ∷ 0x04 ∷ []) ∷
    (bare (SizedEnvelope 2147483647), 0x06 ∷ 0xFF ∷ 0xFF ∷ 0xFF ∷ 0xFF ∷ 0x07 ∷ []) ∷
    (bare End, 0x07 ∷ []) ∷
    (with_text Fault (codes "no"), 0x08 ∷ 0x02 ∷ codes "no") ∷
    (bare PreambleAck, 0x0B ∷ []) ∷
    [])
unfolding shortest shortest_within string_bytes_of
records = refl

-- a reason and what the peer is told
abbrev Told : Type 0
Told = Reason × Option (List ℕ)

abbrev AllTold : List Told → Type 0
AllTold rows = map (λ (row : Told). fault_text_of row.0) rows ≡ map (λ (row : Told). row.1) rows

fault_texts : AllTold ((
  reasons.BadVersion,
  Some
      (codes "http://schemas.microsoft.com/ws/2006/05/framing/faults/UnsupportedVersion"),
) ∷ (
  reasons.BadMode,
  Some
      (codes "http://schemas.microsoft.com/ws/2006/05/framing/faults/UnsupportedMode"),
) ∷ (
  reasons.TextTooLong,
  Some
      (codes "http://schemas.microsoft.com/ws/2006/05/framing/faults/ViaTooLong"),
) ∷ (
  reasons.EndpointNotFound,
  Some
      (codes "http://schemas.microsoft.com/ws/2006/05/framing/faults/EndpointNotFound"),
) ∷ (
  reasons.BadEncoding,
  Some
      (codes "http://schemas.microsoft.com/ws/2006/05/framing/faults/ContentTypeInvalid"),
) ∷ (
  reasons.UpgradeRefused,
  Some
      (codes "http://schemas.microsoft.com/ws/2006/05/framing/faults/UpgradeInvalid"),
) ∷ (
  reasons.MessageTooLarge,
  Some
      (codes "http://schemas.microsoft.com/ws/2006/05/framing/faults/MaxMessageSizeExceededFault"),
) ∷ (
  reasons.ContentTypeTooLong,
  Some
      (codes "http://schemas.microsoft.com/ws/2006/05/framing/faults/ContentTypeTooLong"),
) ∷
    [])
fault_texts = refl

-- of other refusals it is told nothing
untold : AllTold (
    (reasons.BadInt, None) ∷
    (reasons.UnknownRecord, None) ∷
    (reasons.OutOfOrder, None) ∷
    (reasons.TextNotUtf8, None) ∷
    (reasons.TableCut, None) ∷
    (reasons.UnknownNode, None) ∷
    (reasons.Truncated, None) ∷
    (reasons.SessionTooLong, None) ∷
    [])
untold = refl
