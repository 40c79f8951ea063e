-- What is left behind the declarations so far leaves the answer behind the rest.
use Rattle.std.proofs.Common.{◌≡◌, map, drop}
use Rattle.soap_envelope.specs.{Body.missing, Body.xmlns_of, Layers.kept}
use Rattle.soap_envelope.specs.Fitting.{counted, left_behind, measure_of}
use Rattle.soap_envelope.proofs.fitting.left_by_missing.Given as goal

abbrev pub invariant-loop-one : goal.invariant-loop-one
invariant-loop-one l =
    left_behind l.left
    (measure_of l.measure
    (map xmlns_of (missing (map kept (drop l.one-index l.needs.declarations.now)) l.own)))
    ≡ left_behind l.initial.left
    (measure_of l.measure (map xmlns_of (missing (counted l.needs) l.own)))
