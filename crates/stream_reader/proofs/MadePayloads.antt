-- What may come where a record or a size is due, and the payload that it makes or resumes.
use Rattle.std.proofs.Common.{◌≡◌, ℕ, ◌<◌, ◌≤◌, Bool, true, false, if◌then◌else◌}
use Rattle.std.proofs.Common.{nat_lt, Some, None, Option, sym, refl, ap, ◌∙◌, ltb-false}
use Rattle.{std.proofs.Common.ltb-true}
use Rattle.nbfx_values.specs.declared.{refusals.Reason.Reason}
use Rattle.nmf_records.specs.{declared.frame.Frame.Frame, RecordFronts.MayCome, Script.may_come}
use Rattle.nmf_records.specs.declared.script.{Direction.Direction, Due.Due}
use Rattle.stream_reader.specs.Stepping.{due_of}
use Rattle.stream_reader.specs.Stream.{chunk_due, payload_open}
use Rattle.stream_reader.specs.Stream.{record_due, Settings, Stage, too_large}
use Rattle.stream_reader.specs.StreamReaderState.{awaited_at}
use Rattle.stream_reader.proofs.Texts.{reads_record, reads_size, ReadsDue}
use Rattle.nbfx_values.specs.declared.refusals.Reason.TheVariants as reasons
use Rattle.nmf_records.specs.declared.frame.Frame.TheVariants as frames
use Rattle.nmf_records.specs.declared.script.Due.TheVariants as dues

-- a size that isn't refused, and one that is
sized_by : (x : Settings) (size : ℕ) (v : Option Reason) → too_large x size ≡ v → (b : Bool)
    → nat_lt x.limits.payload size ≡ b → v ≡ (if b then Some reasons.MessageTooLarge else None)
sized_by x size v e b lt = sym e ∙ ap (λ c. if c then Some reasons.MessageTooLarge else None) lt

pub size_fits : (x : Settings) (size : ℕ) → too_large x size ≡ None → size ≤ x.limits.payload
size_fits x size e = by_test (nat_lt x.limits.payload size) refl where
  by_test : (b : Bool) → nat_lt x.limits.payload size ≡ b → size ≤ x.limits.payload
  by_test true lt = let bad = sized_by x size None e true lt in cc
  by_test false lt = ltb-false x.limits.payload size lt

pub size_large : (x : Settings) (size : ℕ) (why : Reason) → too_large x size ≡ Some why
    → x.limits.payload < size
size_large x size why e = by_test (nat_lt x.limits.payload size) refl where
  by_test : (b : Bool) → nat_lt x.limits.payload size ≡ b → x.limits.payload < size
  by_test true lt = ltb-true x.limits.payload size lt
  by_test false lt = let bad = sized_by x size (Some why) e false lt in cc

-- where a record is due, or a chunk's size
pub reads_at : (stage : Stage) (due : Due) → due_of (awaited_at stage) ≡ Some due
    → ReadsDue stage due
reads_at (record_due other) due e = let same : other ≡ due = cc in reads_record (ap record_due same)
reads_at (chunk_due o) due e = let same : dues.Chunk ≡ due = cc in reads_size o refl (sym same)
reads_at (payload_open o) due e = cc

-- only such a size comes where one is due
pub only_size : (direction : Direction) (f : Frame) → MayCome (may_come direction dues.Chunk) f
    → (size : ℕ) × (f ≡ frames.Chunk size)
only_size direction (frames.Chunk size) may = (size, refl)
only_size direction _ may = cc
