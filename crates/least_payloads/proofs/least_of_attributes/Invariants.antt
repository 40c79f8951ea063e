-- The least so far is that of the attributes before the place.
use Rattle.std.proofs.Common.{◌≡◌, take, sum_by}
use Rattle.{nbfx_values.specs.Measures.capped, least_payloads.specs.Least.least_of_attribute}
use Rattle.least_payloads.proofs.least_of_attributes.Given as goal

abbrev pub invariant-loop-attribute : goal.invariant-loop-attribute
invariant-loop-attribute l = l.least
    ≡ capped (sum_by least_of_attribute (take l.attribute-index l.attributes))
