-- An opening is a preamble.
use Rattle.std.proofs.Common.{◌≡◌, ℕ, ◌+◌, ◌^◌, ◌<◌, ◌≤◌, List, [], ◌∷◌, length, IsUtf8, refl}
use Rattle.{std.proofs.Common.codes, std.specs.Char.encode_utf8}
use Rattle.std.proofs.Common.{inl, inr, arith}
use Rattle.nbfx_values.specs.declared.session.Encoding.{Encoding, TheVariants.Extensible}
use Rattle.nbfx_values.specs.declared.session.Encoding.TheVariants.{Known}
use Rattle.nbfx_values.specs.declared.session.Kind.{Kind, TheVariants.Plain, TheVariants.Session}
use Rattle.nbfx_values.specs.Session.{content_type, encoding_kind, mode_number}
use Rattle.stream_reader.{proofs.RightRecords.type_short, specs.Sessions.NamesKind}
use Rattle.nmf_records.proofs.Written.{written_are_records}
use Rattle.nmf_records.specs.{declared.frame.Frame.Frame, Writing.frame_bytes_of}
use Rattle.initiator_machine.specs.Opening.{encoding_bytes, OpeningsArePreambles}
use Rattle.nmf_records.specs.declared.frame.Frame.TheVariants as frames

utf8_type : (kind : Kind) → IsUtf8 (content_type kind)
unfolding encode_utf8
utf8_type Plain = (codes "application/soap+msbin1", (refl, refl))
utf8_type Session = (codes "application/soap+msbinsession1", (refl, refl))

-- either record names the kind
names_kind : (encoding : Encoding) → NamesKind (encoding_kind encoding) (encoding_bytes encoding)
names_kind (Known kind) = inl (refl, refl)
names_kind (Extensible kind) = inr (written_are_records
    (record { frame = frames.ExtensibleEncoding; text = content_type kind })
    (record { size = omega arith; text = (utf8_type kind, few kind) }))
  where
    few : (kind : Kind) → length (content_type kind) < 2 ^ 31
    few kind = omega (arith, type_short kind)

pub openings_are_preambles : OpeningsArePreambles
openings_are_preambles x good mode encoding via utf8 within served = record {
  version = frame_bytes_of (frames.Version 1 0) [];
  mode_record = frame_bytes_of (frames.Mode (mode_number mode)) [];
  via_record = frame_bytes_of frames.Via via;
  encoding = encoding_bytes encoding;
  end = frame_bytes_of frames.PreambleEnd [];
  joined = refl;
  is_version = (refl, refl);
  is_mode = (refl, refl);
  is_via = written_are_records (record { frame = frames.Via; text = via }) (record {
    size = omega arith;
    text = (utf8, (let low = good.via_most in omega (arith, low, within)));
  });
  via_within = within;
  served = served;
  is_encoding = names_kind encoding;
  is_end = (refl, refl);
}
