-- The content so far is that of the values before the place.
use Rattle.std.proofs.Common.{◌≡◌, sum_by, take}
use Rattle.nbfx_values.specs.Measures.{capped, attribute_content}
use Rattle.nbfx_values.proofs.measures.content_of_attributes.Given as goal

abbrev pub invariant-loop-attribute : goal.invariant-loop-attribute
invariant-loop-attribute l = l.content
    ≡ capped (sum_by attribute_content (take l.attribute-index l.attributes))
