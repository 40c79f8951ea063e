-- What holds of reports that end in any way.
use Rattle.std.specs.Prelude.{◌≡◌, ℕ, List, ◌++◌, Some, Option}
use Rattle.io_edges.specs.Flow.{GrowsByPrefix}
use Rattle.unit_streams.specs.{Grammar.Grammar, Tellers.report, Tellers.Teller}
use Rattle.stream_loop.specs.declared.reporting.ReportEnding.{ReportEnding, TheVariants.Judged}
use Rattle.stream_loop.specs.{Edges.Input, Reported.EndsAs}
use Rattle.io_edges.specs.Views.{SinkView}

module _ {Z U E R S : Type 0} (g : Grammar Z U E R) (t : Teller S E R) where
  -- a stream of these bytes was reported, which left such a state and ended so
  pub record Reported (bytes : List ℕ) (state : S) (ending : ReportEnding R) : Type 0 where
    pub input : Input
    pub input' : Input
    pub output : SinkView
    pub output' : SinkView
    pub bytes_are : input.left ≡ Some bytes
    pub ends : EndsAs g t input input' output output' state ending

  -- however that ends, what is written is a front of what was held and of the report
  abbrev pub FrontsAreWritten : Type 0
  FrontsAreWritten = (bytes w : List ℕ) (state : S) (ending : ReportEnding R)
      (r : Reported bytes state ending) → r.output.written ≡ Some w
      → (w' : List ℕ) × (r.output'.written ≡ Some w')
      × GrowsByPrefix w w' (r.output.held ++ report g t bytes)

  -- where it is judged the judgement and the state depend only on the bytes
  abbrev pub JudgedByBytes : Type 0
  JudgedByBytes = (bytes : List ℕ) (state other : S) (a b : Option R)
      → Reported bytes state (Judged a) → Reported bytes other (Judged b)
      → (a ≡ b) × (state ≡ other)
