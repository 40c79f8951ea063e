use Rattle.std.proofs.Common.{◌≡◌, List, [], map, None, refl, subst}
use Rattle.std.specs.Option.{option_map}
use Rattle.unit_streams.specs.declared.Memory.{Memory}
use Rattle.unit_streams.specs.{Grammar.Grammar}
use Rattle.stream_loop.specs.declared.resuming.ReadOn.{ReadOn}
use Rattle.stream_loop.specs.{Edges.Input, Edges.input_at, Followed.WasTaken}
use Rattle.stream_loop.specs.{Resumed.ReadsOn}
use Rattle.stream_loop.proofs.{LoopSteps.first_pending, Reading.comes_held, Taking.broken}
use Rattle.stream_loop.proofs.Taking.{decided, left_behind, starved, starved_handling}
use Rattle.stream_loop.proofs.following.follow_on.{Given.Over, Goals.After-read_on}
use Rattle.stream_loop.proofs.following.follow_on.Goals as goal

module _ (g : Over) where
  abbrev input_of : g.row.I.Denot → Input
  input_of input = input_at g.I.Source.left g.I.Source.taken g.I.Source.faults
      g.I.Source.empty_takes input

  abbrev event_for : g.E.ReadingEnd.Completed → g.row.E-Event.Denot
  event_for = g.E.ReadingEnd.event_for

  abbrev HandledBy : g.row.O.Denot → g.row.H.Denot → g.row.O.Denot → List g.E.ReadingEnd.Completed
      → List g.E.ReadingEnd.Completed → Type 0
  HandledBy first handler output paused since =
      g.H.EventHandler.handled first (map event_for paused) (map event_for since) handler output

-- of an input of which nothing is told the bytes could have been taken
pub read_on-requires-clause-going : goal.read_on-requires-clause-going
read_on-requires-clause-going g c =
    let x = g.E.ReadingEnd.grammar c.args.end.now in
    let i' : Input = input_of g c.args.input.now in
    let i : Input = record i' { left = None; taken = None } in (
      i,
      c.args.output.now,
      [],
      comes_held x i i' _ _ (first_pending x g.E.ReadingEnd.ends
          (g.E.ReadingEnd.most c.args.end.now) c.requires.ends) c.requires.fresh c.requires.first
          c.args.buffer.now c.bytes-held.ensures.short
          (record { stream = tt; took = tt; faults = refl; empty_takes = refl }),
    )

-- what was read and handled
module _ (g : Over) (f : After-read_on g) where
  abbrev x : Grammar g.E.ReadingEnd.Situation g.E.ReadingEnd.UnitOf g.E.ReadingEnd.Completed
      g.row.E-Refusal.Denot
  x = g.E.ReadingEnd.grammar f.args.end.now

  abbrev i' : Input
  i' = input_of g f.read_on.new.input

  abbrev Taken : Input → Type 0
  Taken i = WasTaken f.args.buffer.now i (input_of g f.args.input.now)

  abbrev ReadsSo : Input → ReadOn g.row.E-Refusal.Denot Memory → Type 0
  ReadsSo i r = ReadsOn x i i' g.E.ReadingEnd.ends (g.E.ReadingEnd.stands f.read_on.new.end)
      (HandledBy g f.args.output.now f.read_on.new.handler f.read_on.new.output)
      (λ halt at paused since. g.H.EventHandler.halted f.args.output.now (map (event_for g) paused)
      (map (event_for g) since) (option_map (event_for g) at) halt f.read_on.new.handler
      f.read_on.new.output)
      (g.H.EventHandler.may_wait f.read_on.new.handler f.read_on.new.output) f.read_on.new.buffer r

  reads : (i : Input) → Taken i → ReadsSo i f.read_on.result
  reads i taken = f.read_on.ensures.reads i f.args.output.now []
      (comes_held x i (input_of g f.args.input.now) _ _ (first_pending x g.E.ReadingEnd.ends
      (g.E.ReadingEnd.most f.args.end.now) f.requires.ends) f.requires.fresh f.requires.first
      f.args.buffer.now f.bytes-held.ensures.short taken)

  reads_as : (r : ReadOn g.row.E-Refusal.Denot Memory) → f.read_on.result ≡ r
      → (i : Input) → Taken i → ReadsSo i r
  reads_as r is i taken = subst (ReadsSo i) is (reads i taken)

  -- by the values of events
  abbrev HandledNow : List g.row.E-Event.Denot → List g.row.E-Event.Denot → Type 0
  HandledNow paused since =
      g.H.EventHandler.handled f.args.output.now paused since f.read_on.new.handler
      f.read_on.new.output

pub returns-in-Judged-clause-follows : goal.returns-in-Judged-clause-follows
returns-in-Judged-clause-follows g c = λ i taken.
    let f : After-read_on g = (goal.at-returns-in-Judged-clause-follows g c).After-read_on in
    decided (x g f) (event_for g) (HandledNow g f) i (i' g f) _ _
    (reads_as g f _ c.in-Judged.is i taken)

pub returns-in-Judged-clause-left : goal.returns-in-Judged-clause-left
returns-in-Judged-clause-left g c = λ i taken good.
    let f : After-read_on g = (goal.at-returns-in-Judged-clause-left g c).After-read_on in
    left_behind (x g f) (event_for g) (HandledNow g f) i (i' g f) _ _
    (reads_as g f _ c.in-Judged.is i taken) cc

pub returns-in-ReadFault-clause-follows : goal.returns-in-ReadFault-clause-follows
returns-in-ReadFault-clause-follows g c = λ i taken.
    let f : After-read_on g = (goal.at-returns-in-ReadFault-clause-follows g c).After-read_on in
    broken (x g f) (event_for g) (HandledNow g f) i (i' g f) _
    (reads_as g f _ c.in-ReadFault.is i taken)

pub returns-in-Memory-clause-follows : goal.returns-in-Memory-clause-follows
returns-in-Memory-clause-follows g c = λ i taken.
    let f : After-read_on g = (goal.at-returns-in-Memory-clause-follows g c).After-read_on in
    starved (x g f) (event_for g) (HandledNow g f) i (i' g f)
    (reads_as g f _ c.in-Memory.is i taken)

pub returns-in-Halted-clause-follows : goal.returns-in-Halted-clause-follows
returns-in-Halted-clause-follows g c = λ i taken.
    let f : After-read_on g = (goal.at-returns-in-Halted-clause-follows g c).After-read_on in
    starved_handling (x g f) (event_for g) (HandledNow g f) i (i' g f) _ _ _ _
    (λ at paused since. c.requires.halts f.args.output.now f.read_on.new.output
    (map (event_for g) paused) (map (event_for g) since) (option_map (event_for g) at) _
    f.read_on.new.handler) (reads_as g f _ c.in-Halted.is i taken)
