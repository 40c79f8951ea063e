use Rattle.std.proofs.Common.{◌≡◌, ℕ, List, [], ◌++◌, false, None, Some, sym, subst}
use Rattle.io_edges.specs.Faults.{CountsFaults}
use Rattle.stream_loop.specs.declared.following.FollowEnding.{FollowEnding}
use Rattle.stream_loop.specs.{Answers.EndsWithin, Edges.Input, Edges.input_at}
use Rattle.stream_loop.specs.Followed.{AreHandled, Follows}
use Rattle.line_notation.specs.declared.reader.LineStep.{LineStep}
use Rattle.document_lines.specs.declared.InputFault.{InputFault}
use Rattle.document_lines.specs.{StepReaderState.quota_of, Steps.documents_of_steps}
use Rattle.document_lines.proofs.{Stepping.g as lines_within, taking.take_within.Given.Over}
use Rattle.document_lines.proofs.TakenSteps.{ends_within, handled_all, takes_steps, TakesSteps}
use Rattle.document_lines.proofs.taking.take_within.Goals.{After-follow_stream}
use Rattle.stream_loop.specs.declared.following.FollowEnding.TheVariants as endings
use Rattle.document_lines.proofs.taking.take_within.Goals as goal

pub follow_stream-requires-clause-ends : goal.follow_stream-requires-clause-ends
follow_stream-requires-clause-ends g c =
    subst (λ (q : ℕ). EndsWithin (lines_within q) (λ e. false) q) (sym c.new-reader.ensures.quota)
    (ends_within c.args.quota c.requires.some)

-- what was taken, by how the reading ended
module _ (g : Over) (c : After-follow_stream g) where
  abbrev input_of : g.row.S.Denot → Input
  input_of source = input_at g.S.Source.left g.S.Source.taken g.S.Source.faults
      g.S.Source.empty_takes source

  abbrev i : Input
  i = input_of c.args.source.now

  abbrev i' : Input
  i' = input_of c.follow_stream.new.input

  abbrev Kept : List LineStep → Type 0
  Kept steps = g.D.Keeper.kept c.args.keeper (documents_of_steps steps) c.follow_stream.new.output

  abbrev Handled : List LineStep → Type 0
  Handled = AreHandled (λ (step : LineStep). step) (λ paused since. Kept (paused ++ since))

  taken : (ending : FollowEnding InputFault)
      → Follows (lines_within (quota_of c.new-reader.result)) Handled i i' ending
      → CountsFaults i.faults i'.faults (ending ≡ endings.ReadFault)
      → TakesSteps c.args.quota Handled i i' ending
  taken ending follows counted =
      takes_steps c.args.quota Handled i i' ending
      (subst (λ (q : ℕ). Follows (lines_within q) Handled i i' ending) c.new-reader.ensures.quota
      follows) counted

pub returns-in-Judged-None : goal.returns-in-Judged-None
returns-in-Judged-None g c =
    let f : After-follow_stream g = (goal.at-returns-in-Judged-None g c).After-follow_stream in
    let e = c.in-Judged-None.ensures in
    let t = taken g f (endings.Judged None) (rw c.in-Judged-None.field-0-is at e.follows)
    (rw c.in-Judged-None.field-0-is at e.counted) in
    (documents_of_steps t.steps, t.takes, handled_all (Kept g f) t.steps t.handled)

pub returns-in-Judged-Some : goal.returns-in-Judged-Some
returns-in-Judged-Some g c =
    let f : After-follow_stream g = (goal.at-returns-in-Judged-Some g c).After-follow_stream in
    let e = c.in-Judged-Some.ensures in
    let t = taken g f (endings.Judged (Some c.in-Judged-Some.fault))
    (rw c.in-Judged-Some.field-0-is at e.follows) (rw c.in-Judged-Some.field-0-is at e.counted) in
    ([], t.takes, tt)

pub returns-in-ReadFault : goal.returns-in-ReadFault
returns-in-ReadFault g c =
    let f : After-follow_stream g = (goal.at-returns-in-ReadFault g c).After-follow_stream in
    let e = c.in-ReadFault.ensures in
    ([], (taken g f endings.ReadFault e.follows e.counted).takes, tt)

pub returns-in-Memory : goal.returns-in-Memory
returns-in-Memory g c =
    let f : After-follow_stream g = (goal.at-returns-in-Memory g c).After-follow_stream in
    let e = c.in-Memory.ensures in
    ([], (taken g f endings.Memory e.follows e.counted).takes, tt)
