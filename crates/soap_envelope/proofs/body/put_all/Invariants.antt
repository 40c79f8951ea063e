-- The rest gives the answer.
use Rattle.std.proofs.Common.{◌≡◌, map, drop}
use Rattle.soap_envelope.specs.{Body.put_all, Layers.kept, Layers.shown}
use Rattle.soap_envelope.proofs.body.put_all.Given as goal

abbrev pub invariant-loop-one : goal.invariant-loop-one
invariant-loop-one l =
    put_all (map kept (drop l.one-index l.layer)) (shown l.sorted) ≡ put_all (map kept l.layer)
    (shown l.initial.sorted)
