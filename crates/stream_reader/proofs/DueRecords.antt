-- Which record is due where one may come, and what is read where one is.
use Rattle.std.proofs.Common.{◌≡◌, ℕ, ◌≤◌, false, List, length, refl, ap, ◌∙◌}
use Rattle.unit_streams.specs.{Front.whole, Parts.seen}
use Rattle.nbfx_values.specs.declared.refusals.Offence.{Offence}
use Rattle.nmf_records.{proofs.Records.record_read, specs.Records.IsRecord, specs.Records.Read}
use Rattle.nmf_records.specs.declared.frame.{Frame.Frame, FrameFault.FrameFault}
use Rattle.nmf_records.specs.{RecordFronts.text_limit, Script.IsEncoding, Script.may_come}
use Rattle.nmf_records.specs.declared.script.{Direction.Direction, Due.Due}
use Rattle.nmf_records.specs.declared.script.Direction.TheVariants.{FromInitiator, FromReceiver}
use Rattle.nmf_records.specs.RecordFronts.{frame_at, MayCome}
use Rattle.stream_reader.specs.Stream.{direction_of, due_record_at, frame, is_over_in, offence_at}
use Rattle.stream_reader.specs.Stream.{reason_of, record_due, Settings, text_limits, unit_in}
use Rattle.nmf_records.specs.declared.frame.Frame.TheVariants as frames
use Rattle.nmf_records.specs.declared.script.Due.TheVariants as dues

-- which record is due where one of these types may come
pub version_due : (direction : Direction) (due : Due) (major minor : ℕ)
    → MayCome (may_come direction due) (frames.Version major minor) → due ≡ dues.Version
version_due direction dues.Version major minor e = refl
version_due FromInitiator _ major minor e = cc
version_due FromReceiver _ major minor e = cc

pub mode_due : (direction : Direction) (due : Due) (mode : ℕ) → MayCome (may_come direction due)
    (frames.Mode mode) → due ≡ dues.Mode
mode_due direction dues.Mode mode e = refl
mode_due FromInitiator _ mode e = cc
mode_due FromReceiver _ mode e = cc

pub via_due : (direction : Direction) (due : Due) → MayCome (may_come direction due) frames.Via
    → due ≡ dues.Via
via_due direction dues.Via e = refl
via_due FromInitiator _ e = cc
via_due FromReceiver _ e = cc

pub encoding_due : (direction : Direction) (due : Due) (f : Frame) → IsEncoding f
    → MayCome (may_come direction due) f → due ≡ dues.Encoding
encoding_due direction dues.Encoding f is e = refl
encoding_due FromInitiator _ (frames.KnownEncoding encoding) is e = cc
encoding_due FromReceiver _ (frames.KnownEncoding encoding) is e = cc
encoding_due FromInitiator _ frames.ExtensibleEncoding is e = cc
encoding_due FromReceiver _ frames.ExtensibleEncoding is e = cc
encoding_due direction _ f is e = absurd is

pub envelope_due : (direction : Direction) (due : Due) (size : ℕ) → MayCome (may_come direction due)
    (frames.SizedEnvelope size) → due ≡ dues.Messages
envelope_due direction dues.Messages size e = refl
envelope_due FromInitiator _ size e = cc
envelope_due FromReceiver _ size e = cc

pub chunk_due : (direction : Direction) (due : Due) (size : ℕ) → MayCome (may_come direction due)
    (frames.Chunk size) → due ≡ dues.Chunk
chunk_due direction dues.Chunk size e = refl
chunk_due FromInitiator _ size e = cc
chunk_due FromReceiver _ size e = cc

-- and where it is due it may come
pub version_comes : (direction : Direction) (major minor : ℕ)
    → MayCome (may_come direction dues.Version) (frames.Version major minor)
version_comes FromInitiator major minor = refl
version_comes FromReceiver major minor = refl

pub mode_comes : (direction : Direction) (mode : ℕ) → MayCome (may_come direction dues.Mode)
    (frames.Mode mode)
mode_comes FromInitiator mode = refl
mode_comes FromReceiver mode = refl

pub via_comes : (direction : Direction) → MayCome (may_come direction dues.Via) frames.Via
via_comes FromInitiator = refl
via_comes FromReceiver = refl

pub chunk_comes : (direction : Direction) (size : ℕ) → MayCome (may_come direction dues.Chunk)
    (frames.Chunk size)
chunk_comes direction size = refl

pub encoding_comes : (direction : Direction) (f : Frame) → IsEncoding f
    → MayCome (may_come direction dues.Encoding) f
encoding_comes FromInitiator (frames.KnownEncoding encoding) is = refl
encoding_comes FromReceiver (frames.KnownEncoding encoding) is = refl
encoding_comes FromInitiator frames.ExtensibleEncoding is = refl
encoding_comes FromReceiver frames.ExtensibleEncoding is = refl
encoding_comes direction _ is = absurd is

pub envelope_comes : (direction : Direction) (size : ℕ) → MayCome (may_come direction dues.Messages)
    (frames.SizedEnvelope size)
envelope_comes FromInitiator size = refl
envelope_comes FromReceiver size = refl

-- a fault's offence
abbrev pub refusing : ℕ → Due → FrameFault → Offence
refusing from due fault = offence_at from (reason_of due fault)

-- where the session isn't over, what is read at a record is the framing's
pub read_due : (x : Settings) (due : Due) (from : ℕ) (bytes : List ℕ) → is_over_in (record_due due)
    ≡ false
    → due_record_at x due from bytes ≡ seen frame (refusing from due)
    (frame_at (text_limits x) (may_come (direction_of x.side) due) bytes)
read_due x dues.Over from bytes on = cc
read_due x _ from bytes on = refl

module _ (x : Settings) (due : Due) (bytes : List ℕ) (from : ℕ) where
  pub reads_due : is_over_in (record_due due) ≡ false → unit_in x (record_due due) from bytes
      ≡ seen frame (refusing from due) (frame_at (text_limits x) (may_come
      (direction_of x.side) due)
      bytes)
  unfolding unit_in
  reads_due on = read_due x due from bytes on

  -- a record that may come there is a unit
  pub record_unit : (read : Read) → is_over_in (record_due due) ≡ false → IsRecord read bytes
      → MayCome (may_come (direction_of x.side) due) read.frame
      → length read.text ≤ text_limit (text_limits x) read.frame
      → unit_in x (record_due due) from bytes ≡ whole (frame read) (length bytes)
  record_unit read on bytes_are may low = reads_due on ∙ ap (seen frame (refusing from due))
      (record_read (text_limits x) (may_come (direction_of x.side) due) read bytes bytes_are may
      low)
