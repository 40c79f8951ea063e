use Rattle.std.proofs.Common.{ℕ, List, sym, subst}
use Rattle.stream_loop.{proofs.Reading.none_taken, specs.Followed.WasTaken}
use Rattle.stream_loop.specs.Edges.{Input, input_at}
use Rattle.duplex_server.proofs.serving.serve_one.Goals as goal

pub returns-in-Ok-clause-served : goal.returns-in-Ok-clause-served
returns-in-Ok-clause-served g c =
    let i : Input = input_at g.S.Source.left g.S.Source.taken g.S.Source.faults
    g.S.Source.empty_takes c.args.source.now in
    c.serve_carried.ensures.serves.serves i
    (subst (λ (b : List ℕ). WasTaken b i i) (sym c.in-Ok.ensures) (none_taken i))
