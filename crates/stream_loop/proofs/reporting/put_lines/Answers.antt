use Rattle.std.proofs.Common.{◌≡◌, ℕ, List, [], map, Ok, Err, Option, sym, refl, ap, ◌∙◌}
use Rattle.std.proofs.Common.{append-nil, Result, subst}
use Rattle.std.specs.Prelude.{⊤}
use Rattle.std.{specs.Option.option_map, proofs.lemmas.Result.err_from_is_err_and}
use Rattle.io_edges.specs.declared.SinkFault.{SinkFault}
use Rattle.unit_streams.specs.{Grammar.Grammar, Tellers.Teller}
use Rattle.stream_loop.specs.declared.{reporting.ReportEnding.ReportEnding, resuming.ReadOn.ReadOn}
use Rattle.stream_loop.specs.declared.reporting.ReportEnding.TheVariants as endings
use Rattle.stream_loop.specs.{Answers.written_by, Edges.Input, Edges.input_at}
use Rattle.stream_loop.specs.{Report.HasFailed, Report.HasPut, Resumed.HasComeTo}
use Rattle.stream_loop.specs.{Resumed.ReadsOn}
use Rattle.stream_loop.proofs.{Lines.puts_first, LoopSteps.first_pending, Reading.comes_first}
use Rattle.stream_loop.proofs.Reports.{cut_reports, halted_reports, judged_reports, Reports}
use Rattle.stream_loop.proofs.Reports.{starved_reports, unsaid_reports, unwritten_reports}
use Rattle.stream_loop.proofs.Writing.{counted_none, counted_with}
use Rattle.stream_loop.proofs.reporting.put_lines.{Given.Over, Goals.After-read_on}
use Rattle.io_edges.specs.{Puts.Puts, Views.SinkView}
use Rattle.stream_loop.proofs.reporting.put_lines.Goals as goal

module _ (g : Over) where
  abbrev input_of : g.row.I.Denot → Input
  input_of input = input_at g.I.Source.left g.I.Source.taken g.I.Source.faults
      g.I.Source.empty_takes input

  abbrev event_for : g.E.ReadingEnd.Completed → g.row.E-Event.Denot
  event_for = g.E.ReadingEnd.event_for

  abbrev Rules : Type 0
  Rules = Teller g.T.Reporter.State g.row.E-Event.Denot g.row.E-Refusal.Denot

  abbrev HandledBy : Rules → SinkView → g.T.Reporter.State → SinkView
      → List g.E.ReadingEnd.Completed → List g.E.ReadingEnd.Completed → Type 0
  HandledBy t first state output paused since =
      HasPut t first (map event_for paused) (map event_for since) state output

-- what the output held isn't written
pub returns-in_err-flush-clause-reports : goal.returns-in_err-flush-clause-reports
returns-in_err-flush-clause-reports g c =
    let x = g.E.ReadingEnd.grammar c.args.end.now in
    let t : Rules g = g.T.Reporter.rules c.args.reporting.now.reporter.now in
    let e = c.in_err-flush.ensures in
    let r = err_from_is_err_and c.from_residual.result c.from_residual.ensures.1 in
    rw (r.1, r.2) (
      [],
      e.puts,
      unwritten_reports x (written_by (event_for g) t) (input_of g c.args.input.now)
          (g.O.Sink.view c.args.output.now) (g.O.Sink.view c.flush.new.self)
          (first_pending x g.E.ReadingEnd.ends (g.E.ReadingEnd.most c.args.end.now)
          c.requires.ends) _ _ (rw append-nil at e.puts.refused),
    )

pub returns-in_err-flush-clause-counted : goal.returns-in_err-flush-clause-counted
returns-in_err-flush-clause-counted g c =
    let r = err_from_is_err_and c.from_residual.result c.from_residual.ensures.1 in
    counted_none _ _ _ refl (λ e. let is = r.1 in cc)

pub read_on-requires-clause-going : goal.read_on-requires-clause-going
read_on-requires-clause-going g c =
    let x = g.E.ReadingEnd.grammar c.args.end.now in
    let i : Input = input_of g c.args.input.now in
    let t : Rules g = g.T.Reporter.rules c.args.reporting.now.reporter.now in
    let s : g.T.Reporter.State = g.T.Reporter.state c.args.reporting.now.reporter.now in
    let first : SinkView = g.O.Sink.view c.flush.new.self in (
      i,
      c.flush.new.self,
      [],
      subst (λ (b : List ℕ). HasComeTo x i i (g.E.ReadingEnd.stands c.args.end.now)
          (HandledBy g t first s first) [] b) (sym c.requires.empty)
          (comes_first x i _ _ (first_pending x g.E.ReadingEnd.ends
          (g.E.ReadingEnd.most c.args.end.now) c.requires.ends) c.requires.fresh
          (puts_first t first c.in_ok-flush.ensures.emptied s c.requires.first)),
    )

-- what was read and put
module _ (g : Over) (f : After-read_on g) where
  abbrev x : Grammar g.E.ReadingEnd.Situation g.E.ReadingEnd.UnitOf g.E.ReadingEnd.Completed
      g.row.E-Refusal.Denot
  x = g.E.ReadingEnd.grammar f.args.end.now

  abbrev i : Input
  i = input_of g f.args.input.now

  abbrev i' : Input
  i' = input_of g f.read_on.new.input

  abbrev t : Rules g
  t = g.T.Reporter.rules f.args.reporting.now.reporter.now

  abbrev s : g.T.Reporter.State
  s = g.T.Reporter.state f.read_on.new.handler.reporter.now

  -- the output at first, and when the reading stopped
  abbrev start : SinkView
  start = g.O.Sink.view f.args.output.now

  abbrev first : SinkView
  first = g.O.Sink.view f.flush.new.self

  abbrev mid : SinkView
  mid = g.O.Sink.view f.read_on.new.output

  flushed : Puts start first [] (Ok tt)
  flushed = f.in_ok-flush.ensures.puts

  abbrev ReadsBy : Rules g → ReadOn g.row.E-Refusal.Denot SinkFault → Type 0
  ReadsBy u r = ReadsOn x i i' g.E.ReadingEnd.ends (g.E.ReadingEnd.stands f.read_on.new.end)
      (HandledBy g u first s mid)
      (λ fault at paused since. HasFailed u first (map (event_for g) paused)
      (map (event_for g) since)
      (option_map (event_for g) at) fault mid) (mid.held ≡ []) f.read_on.new.buffer r

  rules_are : g.T.Reporter.rules f.read_on.new.handler.reporter.now ≡ t
  rules_are = ap (λ (p : Rules g × ℕ). p.0) f.read_on.ensures.settings

  same_reporter : f.read_on.new.handler.reporter.ghost_name
      ≡ f.args.reporting.now.reporter.ghost_name
  same_reporter = ap (λ (p : Rules g × ℕ). p.1) f.read_on.ensures.settings

  come : HasComeTo x i i (g.E.ReadingEnd.stands f.args.end.now)
      (HandledBy g t first (g.T.Reporter.state f.args.reporting.now.reporter.now) first) []
      f.args.buffer.now
  come = subst (λ (b : List ℕ). HasComeTo x i i (g.E.ReadingEnd.stands f.args.end.now)
      (HandledBy g t first (g.T.Reporter.state f.args.reporting.now.reporter.now) first) [] b)
      (sym f.requires.empty)
      (comes_first x i _ _ (first_pending x g.E.ReadingEnd.ends
      (g.E.ReadingEnd.most f.args.end.now) f.requires.ends) f.requires.fresh
      (puts_first t first f.in_ok-flush.ensures.emptied
      (g.T.Reporter.state f.args.reporting.now.reporter.now)
      f.requires.first))

  reads : ReadsBy t f.read_on.result
  reads = subst (λ u. ReadsBy u f.read_on.result) rules_are
      (f.read_on.ensures.reads i f.flush.new.self [] come)

  reads_as : (r : ReadOn g.row.E-Refusal.Denot SinkFault) → f.read_on.result ≡ r → ReadsBy t r
  reads_as r is = subst (ReadsBy t) is reads

  -- what is put at the end, by the first rules
  ending_put : (refusal : Option g.row.E-Refusal.Denot) (answer : Result ⊤ SinkFault)
      (now : SinkView) → Puts mid now
      ((g.T.Reporter.rules f.read_on.new.handler.reporter.now).ends s refusal) answer
      → Puts mid now (t.ends s refusal) answer
  ending_put refusal answer now puts =
      subst (λ (u : Rules g). Puts mid now (u.ends s refusal) answer) rules_are puts

  abbrev ReportsBy : SinkView → g.T.Reporter.State
      → Result (ReportEnding g.row.E-Refusal.Denot) SinkFault → Type 0
  ReportsBy now state r =
      Reports x (event_for g) t i i' start first flushed f.in_ok-flush.ensures.emptied now state r

-- the stream was judged
pub returns-in_err-put_ending-in-Judged-clause-reports :
    goal.returns-in_err-put_ending-in-Judged-clause-reports
returns-in_err-put_ending-in-Judged-clause-reports g c =
    let f : After-read_on g = (goal.at-returns-in_err-put_ending-in-Judged-clause-reports g
    c).After-read_on in
    let r = err_from_is_err_and c.from_residual-in_err-put_ending-in-Judged.result
    c.from_residual-in_err-put_ending-in-Judged.ensures.1 in
    rw (r.1, r.2) (subst (λ (z : g.T.Reporter.State). ReportsBy g f
    (g.O.Sink.view c.put_ending.new.output) z
    (Err c.in_err-put_ending-in-Judged.field-0.0)) (sym c.put_ending.ensures.state)
    (unsaid_reports (x g f) (event_for g) (t g f) (i g f) (i' g f) (start g f) (first g f)
    (flushed g f) f.in_ok-flush.ensures.emptied c.in-Judged.refusal (mid g f)
    (g.O.Sink.view c.put_ending.new.output) (s g f) _
    (reads_as g f _ c.in-Judged.is) c.in_err-put_ending-in-Judged.field-0.0
    (ending_put g f c.in-Judged.refusal _ (g.O.Sink.view c.put_ending.new.output)
    c.in_err-put_ending-in-Judged.ensures.puts)))

pub returns-in_err-put_ending-in-Judged-clause-counted :
    goal.returns-in_err-put_ending-in-Judged-clause-counted
returns-in_err-put_ending-in-Judged-clause-counted g c =
    let r = err_from_is_err_and c.from_residual-in_err-put_ending-in-Judged.result
    c.from_residual-in_err-put_ending-in-Judged.ensures.1 in
    counted_with _ _ _ _ _ refl c.read_on.ensures.counted (λ e. let is = r.1 in cc)
    (λ e. let is = c.in-Judged.is in cc)

pub returns-in_err-put_ending-in-Judged-clause-rules :
    goal.returns-in_err-put_ending-in-Judged-clause-rules
returns-in_err-put_ending-in-Judged-clause-rules g c =
    c.put_ending.ensures.rules
    ∙ rules_are g (goal.at-returns-in_err-put_ending-in-Judged-clause-rules g c).After-read_on

pub returns-in_err-put_ending-in-Judged-clause-same_reporter :
    goal.returns-in_err-put_ending-in-Judged-clause-same_reporter
returns-in_err-put_ending-in-Judged-clause-same_reporter g c =
    same_reporter g (goal.at-returns-in_err-put_ending-in-Judged-clause-same_reporter g
    c).After-read_on

pub returns-in_ok-put_ending-in-Judged-clause-reports :
    goal.returns-in_ok-put_ending-in-Judged-clause-reports
returns-in_ok-put_ending-in-Judged-clause-reports g c =
    let f : After-read_on g = (goal.at-returns-in_ok-put_ending-in-Judged-clause-reports g
    c).After-read_on in
    subst (λ (z : g.T.Reporter.State). ReportsBy g f (g.O.Sink.view c.put_ending.new.output) z
    (Ok (endings.Judged c.in-Judged.refusal))) (sym c.put_ending.ensures.state)
    (judged_reports (x g f) (event_for g) (t g f) (i g f) (i' g f) (start g f) (first g f)
    (flushed g f) f.in_ok-flush.ensures.emptied c.in-Judged.refusal (mid g f)
    (g.O.Sink.view c.put_ending.new.output) (s g f) _
    (reads_as g f _ c.in-Judged.is)
    (ending_put g f c.in-Judged.refusal _ (g.O.Sink.view c.put_ending.new.output)
    c.in_ok-put_ending-in-Judged.ensures.puts))

pub returns-in_ok-put_ending-in-Judged-clause-counted :
    goal.returns-in_ok-put_ending-in-Judged-clause-counted
returns-in_ok-put_ending-in-Judged-clause-counted g c =
    counted_with _ _ _ _ _ refl c.read_on.ensures.counted (λ e. cc)
    (λ e. let is = c.in-Judged.is in cc)

pub returns-in_ok-put_ending-in-Judged-clause-rules :
    goal.returns-in_ok-put_ending-in-Judged-clause-rules
returns-in_ok-put_ending-in-Judged-clause-rules g c =
    c.put_ending.ensures.rules
    ∙ rules_are g (goal.at-returns-in_ok-put_ending-in-Judged-clause-rules g c).After-read_on

pub returns-in_ok-put_ending-in-Judged-clause-same_reporter :
    goal.returns-in_ok-put_ending-in-Judged-clause-same_reporter
returns-in_ok-put_ending-in-Judged-clause-same_reporter g c =
    same_reporter g (goal.at-returns-in_ok-put_ending-in-Judged-clause-same_reporter g
    c).After-read_on

-- a read failed
pub returns-in-ReadFault-clause-reports : goal.returns-in-ReadFault-clause-reports
returns-in-ReadFault-clause-reports g c =
    let f : After-read_on g = (goal.at-returns-in-ReadFault-clause-reports g c).After-read_on in
    cut_reports (x g f) (event_for g) (t g f) (i g f) (i' g f) (start g f) (first g f)
    (flushed g f) f.in_ok-flush.ensures.emptied (mid g f) (s g f) (reads_as g f _ c.in-ReadFault.is)

pub returns-in-ReadFault-clause-counted : goal.returns-in-ReadFault-clause-counted
returns-in-ReadFault-clause-counted g c =
    counted_with _ _ _ _ _ refl c.read_on.ensures.counted (λ e. c.in-ReadFault.is) (λ e. refl)

pub returns-in-ReadFault-clause-rules : goal.returns-in-ReadFault-clause-rules
returns-in-ReadFault-clause-rules g c =
    rules_are g (goal.at-returns-in-ReadFault-clause-rules g c).After-read_on

pub returns-in-ReadFault-clause-same_reporter : goal.returns-in-ReadFault-clause-same_reporter
returns-in-ReadFault-clause-same_reporter g c =
    same_reporter g (goal.at-returns-in-ReadFault-clause-same_reporter g c).After-read_on

-- memory ran out
pub returns-in-Memory-clause-reports : goal.returns-in-Memory-clause-reports
returns-in-Memory-clause-reports g c =
    let f : After-read_on g = (goal.at-returns-in-Memory-clause-reports g c).After-read_on in
    starved_reports (x g f) (event_for g) (t g f) (i g f) (i' g f) (start g f) (first g f)
    (flushed g f) f.in_ok-flush.ensures.emptied (mid g f) (s g f) (reads_as g f _ c.in-Memory.is)

pub returns-in-Memory-clause-counted : goal.returns-in-Memory-clause-counted
returns-in-Memory-clause-counted g c =
    counted_with _ _ _ _ _ refl c.read_on.ensures.counted (λ e. cc)
    (λ e. let is = c.in-Memory.is in cc)

pub returns-in-Memory-clause-rules : goal.returns-in-Memory-clause-rules
returns-in-Memory-clause-rules g c =
    rules_are g (goal.at-returns-in-Memory-clause-rules g c).After-read_on

pub returns-in-Memory-clause-same_reporter : goal.returns-in-Memory-clause-same_reporter
returns-in-Memory-clause-same_reporter g c =
    same_reporter g (goal.at-returns-in-Memory-clause-same_reporter g c).After-read_on

-- the output failed
pub returns-in-Halted-clause-reports : goal.returns-in-Halted-clause-reports
returns-in-Halted-clause-reports g c =
    let f : After-read_on g = (goal.at-returns-in-Halted-clause-reports g c).After-read_on in
    halted_reports (x g f) (event_for g) (t g f) (i g f) (i' g f) (start g f) (first g f)
    (flushed g f) f.in_ok-flush.ensures.emptied _ (mid g f) (s g f) _ _ c.in-Halted.fault
    (reads_as g f _ c.in-Halted.is)

pub returns-in-Halted-clause-counted : goal.returns-in-Halted-clause-counted
returns-in-Halted-clause-counted g c =
    counted_with _ _ _ _ _ refl c.read_on.ensures.counted (λ e. cc)
    (λ e. let is = c.in-Halted.is in cc)

pub returns-in-Halted-clause-rules : goal.returns-in-Halted-clause-rules
returns-in-Halted-clause-rules g c =
    rules_are g (goal.at-returns-in-Halted-clause-rules g c).After-read_on

pub returns-in-Halted-clause-same_reporter : goal.returns-in-Halted-clause-same_reporter
returns-in-Halted-clause-same_reporter g c =
    same_reporter g (goal.at-returns-in-Halted-clause-same_reporter g c).After-read_on
