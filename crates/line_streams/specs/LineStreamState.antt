-- Where a reader of lines stands, and what its parts answer.
use Rattle.std.specs.Prelude.{◌≡◌, ℕ, List, ◌++◌, length, take, IfOk, Some, None, Ok, Err, Option}
use Rattle.std.specs.Prelude.{Result, ⊤}
use Rattle.unit_streams.specs.{Going.IsGoing, Grammar.standing, Judging.answer}
use Rattle.stream_loop.specs.Answers.{Says}
use Rattle.stream_loop.specs.declared.reading_end.FeedFault.{FeedFault}
use Rattle.stream_loop.specs.declared.reading_end.FeedFault.TheVariants.{Memory, Refused}
use Rattle.line_streams.specs.LineRules.{LineRules, lines_by}

-- by situations that what reads the lines is in
module _ {Z E R : Type 0} (x : LineRules Z E R) where
  -- what a line is answered with, behind which these are the situations
  abbrev pub LineAnswers : (IsIn : Z → Type 0) → Z → List ℕ → Result (Option E) (FeedFault R)
      → Type 0
  LineAnswers IsIn z line (Ok event) = (x.refused z line ≡ None) × (x.brings z line ≡ event)
      × IsIn (x.after z line)
  LineAnswers IsIn z line (Err (Refused fault)) = x.refused z line ≡ Some fault
  LineAnswers IsIn z line (Err Memory) = ⊤

  -- p was read, and isn't refused: these are the bytes of its unfinished line, and so many were
  -- taken
  pub record Reached (IsIn : Z → Type 0) (begun : List ℕ) (taken : ℕ) (p : List ℕ) : Type 0 where
    pub at : IsIn (standing (lines_by x) p).situation
    pub begun_is : begun ≡ (standing (lines_by x) p).begun
    pub taken_is : taken ≡ length p
    pub going : IsGoing (lines_by x) (standing (lines_by x) p)

  -- what a piece behind p is answered with, and what was read then
  abbrev pub PieceAnswers : (p piece : List ℕ) → (Now : List ℕ → Type 0)
      → Result (ℕ × Option E) (FeedFault R) → Type 0
  PieceAnswers p piece Now result = Says (λ (e : E). e) (length piece)
      (answer (lines_by x) p piece) result
      × IfOk result (λ step. Now (p ++ take step.0 piece))
