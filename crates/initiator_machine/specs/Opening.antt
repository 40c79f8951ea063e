-- What an initiator sends before its first envelope.
use Rattle.std.specs.Prelude.{◌≡◌, ℕ, ◌≤◌, true, List, [], ◌++◌, length, IsUtf8}
use Rattle.nbfx_values.specs.declared.session.{Encoding.Encoding, Mode.Mode}
use Rattle.nbfx_values.specs.declared.session.Encoding.TheVariants.{Extensible, Known}
use Rattle.nbfx_values.specs.Limits.{IsGood}
use Rattle.nbfx_values.specs.Session.{content_type, encoding_kind, kind_number, mode_number}
use Rattle.nmf_records.specs.Writing.{frame_bytes_of}
use Rattle.stream_reader.specs.{Sessions.IsPreamble, Stream.serves, Stream.Settings}
use Rattle.nmf_records.specs.declared.frame.Frame.TheVariants as frames

-- the record that names the encoding
abbrev pub encoding_bytes : Encoding → List ℕ
encoding_bytes (Known kind) = frame_bytes_of (frames.KnownEncoding (kind_number kind)) []
encoding_bytes (Extensible kind) = frame_bytes_of frames.ExtensibleEncoding (content_type kind)

-- version 1.0, the mode, the Via, the encoding, the preamble's end
abbrev pub opening_bytes : Mode → Encoding → List ℕ → List ℕ
opening_bytes mode encoding via = frame_bytes_of (frames.Version 1 0) []
    ++ frame_bytes_of (frames.Mode (mode_number mode)) [] ++ frame_bytes_of frames.Via via
    ++ encoding_bytes encoding ++ frame_bytes_of frames.PreambleEnd []

-- they are the preamble of a session for whoever serves the Via and admits one as long
abbrev pub OpeningsArePreambles : Type 0
OpeningsArePreambles = (x : Settings) → IsGood x.limits → (mode : Mode) (encoding : Encoding)
    (via : List ℕ) → IsUtf8 via → length via ≤ x.limits.via → serves x.side via ≡ true
    → IsPreamble x mode (encoding_kind encoding) via (opening_bytes mode encoding via)
