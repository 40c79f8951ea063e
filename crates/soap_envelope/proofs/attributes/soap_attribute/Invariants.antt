-- The rest gives the answer.
use Rattle.std.proofs.Common.{◌≡◌, ◌∷◌, ◌+◌, drop}
use Rattle.soap_envelope.specs.Blocks.{soap_attribute}
use Rattle.soap_envelope.proofs.attributes.soap_attribute.Given as goal

abbrev pub invariant-loop-i : goal.invariant-loop-i
invariant-loop-i l =
    soap_attribute (l.own ∷ l.outer) l.name (l.at + l.i) (drop l.i l.behind)
    ≡ soap_attribute (l.own ∷ l.outer) l.name l.at l.behind
