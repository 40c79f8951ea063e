-- Where a reader of lines stands whose events are the lines.
use Rattle.std.specs.Prelude.{◌≡◌, ℕ, List, length}
use Rattle.line_streams.specs.LineStreamState.{Reached}
use Rattle.document_lines.specs.declared.step_reader.StepReader.{StepReader}
use Rattle.document_lines.specs.Steps.{IsIn, step_rules}

-- so many bytes are too many
unfoldable pub quota_of : StepReader → ℕ
quota_of r = r.stream.lines.quota

-- how many bytes it has read
unfoldable pub taken_of : StepReader → ℕ
taken_of r = r.stream.taken

-- the bytes read so far, of input that isn't refused
unfoldable pub StandsFor : StepReader → List ℕ → Type 0
StandsFor r p = (r.stream.lines.quota ≡ r.stream.most)
    × Reached (step_rules r.stream.lines.quota) (IsIn r.stream.lines.lines) r.stream.begun.items
    r.stream.taken p

-- it has read as many bytes as it stands for
pub counts_taken : (r : StepReader) (p : List ℕ) → StandsFor r p → taken_of r ≡ length p
unfolding StandsFor taken_of
counts_taken r p stands = stands.1.taken_is
