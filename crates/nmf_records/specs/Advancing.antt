-- What the parts of a reading say: where a byte, a size or a text led, and where the reader stands
-- then.
use Rattle.std.specs.Prelude.{◌≡◌, ℕ, ◌<◌, List, [], length, Some}
use Rattle.unit_streams.specs.Front.{begun, whole, wrong}
use Rattle.multibyte_ints.specs.{declared.integer.IntReader.IntReader, Integer.int_at}
use Rattle.multibyte_ints.specs.declared.text.StringReader.{StringReader}
use Rattle.multibyte_ints.specs.{Reader.StandsFor as IntStandsFor, TextReader.StringStandsFor}
use Rattle.multibyte_ints.specs.Text.{string_at, StringFault}
use Rattle.nmf_records.specs.declared.{frame.Expect.Expect, reader.FrameReader.FrameReader}
use Rattle.nmf_records.specs.declared.stage.{Progress.Progress, Stage.Stage}
use Rattle.nmf_records.specs.declared.stage.{SizeRecord.SizeRecord, TextRecord.TextRecord}
use Rattle.nmf_records.specs.Reader.{failure_of, HasShape, HoldsText, kind_of, pending_of}
use Rattle.nmf_records.specs.Reader.{reader_of, size_bytes}
use Rattle.nmf_records.specs.{Reader.StandsFor, Steps.sized, Steps.texted}
use Rattle.nmf_records.specs.RecordFronts.{fault_of, frame_at, limit_for, TextLimits, with_text}
use Rattle.nmf_records.specs.declared.frame.FrameFault.TheVariants as faults
use Rattle.nmf_records.specs.declared.stage.Stage.TheVariants as stages
use Rattle.nmf_records.specs.declared.stage.Progress.TheVariants as progress

-- at this stage a reader takes one byte
abbrev pub ReadsBytes : Stage → Type 0
ReadsBytes (stages.Text _) = ⊥
ReadsBytes (stages.Failed _) = ⊥
ReadsBytes _ = Unit {0}

-- where a text begins, the reader of texts begins anew
abbrev pub BeginsAnew : FrameReader → Progress → Type 0
BeginsAnew mid (progress.Going (stages.Text text)) =
    StringStandsFor (reader_of (kind_of text) mid) []
BeginsAnew mid _ = Unit {0}

-- what a size's bytes so far led to
abbrev pub SizeAnswers : SizeRecord → List ℕ → IntReader → Progress → Type 0
SizeAnswers size q int (progress.Going stage) =
    (stage ≡ stages.Size size) × (int_at q ≡ begun) × IntStandsFor int q
SizeAnswers size q int (progress.Done frame) =
    (n : ℕ) × (frame ≡ sized size n) × (int_at q ≡ whole n (length q)) × IntStandsFor int []
SizeAnswers size q int (progress.Wrong fault) = (fault ≡ faults.BadInt) × (int_at q ≡ wrong tt 5)

-- what the bytes of a string so far led to
abbrev pub TextAnswers : TextLimits → TextRecord → List ℕ → StringReader → Progress → Type 0
TextAnswers limits text q reader (progress.Going stage) =
    (stage ≡ stages.Text text) × (string_at (limit_for (kind_of text) limits) q ≡ begun)
    × StringStandsFor reader q
TextAnswers limits text q reader (progress.Done frame) =
    (frame ≡ texted text) × (s : List ℕ)
    × (string_at (limit_for (kind_of text) limits) q ≡ whole s (length q))
TextAnswers limits text q reader (progress.Wrong fault) =
    (r : StringFault) × (fault ≡ fault_of (kind_of text) r)
    × (string_at (limit_for (kind_of text) limits) q ≡ wrong r (length q))

-- what the bytes p of a record led to, the readers of sizes and texts having gone on
abbrev pub Progresses : TextLimits → Expect → List ℕ → FrameReader → Progress → Type 0
Progresses limits expect p mid (progress.Going stage) =
    (frame_at limits expect p ≡ begun) × HasShape expect stage p
    × IntStandsFor mid.size (size_bytes stage p) × HoldsText stage mid p
Progresses limits expect p mid (progress.Done frame) =
    (text : List ℕ) × (frame_at limits expect p ≡ whole (with_text frame text) (length p))
    × IntStandsFor mid.size []
Progresses limits expect p mid (progress.Wrong fault) =
    frame_at limits expect p ≡ wrong fault (length p)

-- what they led to
abbrev pub Steps : TextLimits → Expect → List ℕ → FrameReader → Progress → Type 0
Steps limits expect p new (progress.Going stage) = StandsFor new expect p
Steps limits expect p new (progress.Done frame) =
    (text : List ℕ) × (frame_at limits expect p ≡ whole (with_text frame text) (length p))
    × ((next : Expect) → StandsFor new next [])
Steps limits expect p new (progress.Wrong fault) =
    (frame_at limits expect p ≡ wrong fault (length p)) × (pending_of new ≡ length p)

-- a reader goes on only with a byte or more
abbrev pub Moves : ℕ → Progress → Type 0
Moves n (progress.Going stage) = 0 < n
Moves n _ = Unit {0}

-- a fault is kept, and how many bytes show it
abbrev pub KeepsFault : FrameReader → Progress → Type 0
KeepsFault new (progress.Wrong fault) =
    failure_of new ≡ Some (record { fault = fault; shown_by = pending_of new })
KeepsFault new _ = Unit {0}

-- the stage behind what some bytes led to
abbrev pub stage_after : Progress → Stage
stage_after (progress.Going stage) = stage
stage_after (progress.Done frame) = stages.Type
stage_after (progress.Wrong fault) = stages.Failed fault

-- how many bytes there are then of a record that is not whole, or that a fault needed
abbrev pub pending_after : ℕ → Progress → ℕ
pending_after pending (progress.Done frame) = 0
pending_after pending _ = pending
