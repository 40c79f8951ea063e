use Rattle.std.proofs.Common.{ℕ, List, [], sym, refl, subst}
use Rattle.unit_streams.specs.{Judging.events_in, Judging.events_of}
use Rattle.stream_loop.specs.{Edges.Input, Edges.input_at, Followed.WasTaken}
use Rattle.stream_loop.proofs.{LoopSteps.first_pending, Reading.none_taken, Taking.unbegun}
use Rattle.stream_loop.proofs.following.follow_stream.Given.{Over}
use Rattle.stream_loop.proofs.following.follow_stream.Goals as goal

module _ (g : Over) where
  abbrev input_of : g.row.I.Denot → Input
  input_of input = input_at g.I.Source.left g.I.Source.taken g.I.Source.faults
      g.I.Source.empty_takes input

-- there was no memory to begin with
pub returns-in_default-clause-follows : goal.returns-in_default-clause-follows
unfolding events_of events_in
returns-in_default-clause-follows g c =
    let x = g.E.ReadingEnd.grammar c.args.end.now in
    unbegun x _ (input_of g c.args.input.now) (first_pending x g.E.ReadingEnd.ends
    (g.E.ReadingEnd.most c.args.end.now) c.requires.ends)
    (record { paused = []; since = []; joined = refl; handled = c.requires.first })

pub returns-clause-follows : goal.returns-clause-follows
returns-clause-follows g c =
    let i : Input = input_of g c.args.input.now in
    c.follow_on.ensures.follows i
    (subst (λ (b : List ℕ). WasTaken b i i) (sym c.in-Ok.ensures) (none_taken i))
