-- Those so far.
use Rattle.std.proofs.Common.{◌≡◌, map, take}
use Rattle.nbfx_values.specs.Measures.{capped}
use Rattle.soap_envelope.specs.{Body.xmlns_of, Fitting.measure_of, Layers.kept}
use Rattle.soap_envelope.proofs.fitting.sum_of.Given as goal

abbrev pub invariant-loop-one : goal.invariant-loop-one
invariant-loop-one l =
    l.sum
    ≡ capped (measure_of l.measure (map xmlns_of (map kept (take l.one-index l.declarations))))
