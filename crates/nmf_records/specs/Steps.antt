-- What the steps of a reader say of the bytes so far, from stage to stage.
use Rattle.std.specs.Prelude.{◌≡◌, ℕ, Bool, true, false, List, [], drop}
use Rattle.unit_streams.specs.Front.{begun, Front, whole, wrong}
use Rattle.multibyte_ints.specs.declared.text.StringStep.{StringStep}
use Rattle.nmf_records.specs.declared.frame.{Expect.Expect, Frame.Frame, FrameFault.FrameFault}
use Rattle.nmf_records.specs.declared.stage.{Progress.Progress, Stage.Stage}
use Rattle.nmf_records.specs.declared.stage.Progress.TheVariants.{Done, Going, Wrong}
use Rattle.nmf_records.specs.declared.stage.{SizeRecord.SizeRecord, TextRecord.TextRecord}
use Rattle.nmf_records.specs.Reader.{HasShape, kind_of, size_bytes}
use Rattle.nmf_records.specs.{RecordFronts.with_text, Records.Read}
use Rattle.nmf_records.specs.RecordFronts.{content_type, TextKind, too_long_as, via_or_fault}
use Rattle.nmf_records.specs.declared.frame.Frame.TheVariants as frames
use Rattle.nmf_records.specs.declared.frame.FrameFault.TheVariants as faults
use Rattle.multibyte_ints.specs.declared.text.StringStep.TheVariants as steps
use Rattle.nmf_records.specs.declared.stage.TextRecord.TheVariants as texts
use Rattle.nmf_records.specs.declared.stage.SizeRecord.TheVariants as sizes
use Rattle.nmf_records.specs.declared.stage.Stage.TheVariants as stages

-- what ends with this size
abbrev pub sized : SizeRecord → ℕ → Frame
sized sizes.SizedEnvelope size = frames.SizedEnvelope size
sized sizes.Chunk size = frames.Chunk size

-- the frame of a record with a text
abbrev pub texted : TextRecord → Frame
texted texts.Via = frames.Via
texted texts.ContentType = frames.ExtensibleEncoding
texted texts.Fault = frames.Fault

-- what a reader of strings answers, as a step of a record
abbrev pub progress_of : TextRecord → StringStep → Progress
progress_of text steps.More = Going (stages.Text text)
progress_of text steps.Done = Done (texted text)
progress_of text steps.BadInt = Wrong faults.BadInt
progress_of text steps.TooLong = Wrong (too_long_as (kind_of text))
progress_of text steps.BadUtf8 = Wrong faults.TextNotUtf8

-- what is read of the bytes, of which there are n
abbrev pub Meets : Front Read FrameFault → ℕ → Progress → Type 0
Meets reading n (Going stage) = reading ≡ begun
Meets reading n (Done frame) = (text : List ℕ) × (reading ≡ whole (with_text frame text) n)
Meets reading n (Wrong fault) = reading ≡ wrong fault n

-- no byte of a text has come
abbrev pub HasNoText : Stage → List ℕ → Type 0
HasNoText (stages.Text _) p = drop 1 p ≡ []
HasNoText _ p = Unit {0}

-- where a fixed byte at the end of p leads to
abbrev pub GoesTo : Expect → List ℕ → Progress → Type 0
GoesTo expect p (Going stage) =
    HasShape expect stage p × (size_bytes stage p ≡ []) × HasNoText stage p
GoesTo expect p _ = Unit {0}

-- the record has such a text
abbrev pub has_kind : TextKind → TextRecord → Bool
has_kind via_or_fault texts.ContentType = false
has_kind via_or_fault text = true
has_kind content_type texts.ContentType = true
has_kind content_type text = false

-- such a text comes next
abbrev pub starts_text : TextKind → Progress → Bool
starts_text kind (Going (stages.Text text)) = has_kind kind text
starts_text kind _ = false
