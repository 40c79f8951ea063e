-- What a report has put before its last bytes are written.
use Rattle.std.specs.Prelude.{◌≡◌, ℕ, ◌⊎◌, List, [], ◌++◌, Ok, Err, Result, ⊤}
use Rattle.io_edges.specs.{declared.SinkFault.SinkFault, Faults.one_more, Flow.Told}
use Rattle.unit_streams.specs.Grammar.{Grammar}
use Rattle.unit_streams.specs.Tellers.{AreDue, report, Teller, told_so_far}
use Rattle.stream_loop.specs.declared.reporting.ReportEnding.{ReportEnding}
use Rattle.stream_loop.specs.{Edges.Input, Reported.IsJudged, Reported.Reaches}
use Rattle.io_edges.specs.Views.{SinkView}
use Rattle.io_edges.specs.declared.SinkFault.TheVariants as faults
use Rattle.stream_loop.specs.declared.reporting.ReportEnding.TheVariants as endings

-- an answer that brings something, as one that brings nothing
abbrev pub done : {A : Type 0} → Result A SinkFault → Result ⊤ SinkFault
done (Ok a) = Ok tt
done (Err fault) = Err fault

-- what a fault of the output ends the reporting of a stream with
abbrev pub ended_by : {R : Type 0} → SinkFault → ReportEnding R
ended_by faults.Failed = endings.WriteFault
ended_by faults.Memory = endings.Memory

module _ {Z U E R S : Type 0} (g : Grammar Z U E R) (t : Teller S E R) where
  module _ (i i' : Input) (o o' : SinkView) where
    -- all of the stream was read before, one take gave nothing, and its report are the lines
    abbrev pub IsAllRead : (before piece lines : List ℕ) → Type 0
    IsAllRead before piece lines = (piece ≡ []) × (report g t before ≡ lines)
        × Told i.left i'.left (λ all rest. rest ≡ [])
        × (i'.empty_takes ≡ one_more i.empty_takes)

    -- no take gave nothing
    abbrev pub NoEmptyTake : Type 0
    NoEmptyTake = i'.empty_takes ≡ i.empty_takes

    -- what lines are a stream's, of which bytes were read before, and then a piece, how that ended,
    -- and what the output holds then
    abbrev pub ReportsAs : (before piece : List ℕ) (state : S) → Result (ReportEnding R) SinkFault
        → List ℕ → Type 0
    ReportsAs before piece state (Ok (endings.Judged judged)) lines =
        (IsAllRead before piece lines × IsJudged g t judged state before)
        ⊎ (((more : List ℕ) → IsJudged g t judged state ((before ++ piece) ++ more)
        × (report g t ((before ++ piece) ++ more) ≡ lines)) × NoEmptyTake)
    ReportsAs before piece state (Ok endings.ReadFault) lines =
        (piece ≡ []) × (lines ≡ told_so_far g t before) × (o'.held ≡ []) × NoEmptyTake
    ReportsAs before piece state (Ok endings.WriteFault) lines = ⊥
    ReportsAs before piece state (Ok endings.Memory) lines =
        AreDue g t (before ++ piece) [] lines × NoEmptyTake
    ReportsAs before piece state (Err fault) lines =
        IsAllRead before piece lines ⊎ (AreDue g t (before ++ piece) [] lines × NoEmptyTake)

    -- what was read of a stream, what was written then, and which lines were put for it
    pub record HasReported (state : S) (result : Result (ReportEnding R) SinkFault) (lines : List ℕ)
        : Type 0 where
      pub reached : Reaches g t i i' o o'
      pub ends : ReportsAs reached.before reached.piece state result lines
