use Rattle.std.{proofs.Common.◌≡◌, proofs.Common.length, specs.List.list_all}
use Rattle.nbfx_records.specs.{Contents.attribute_is_text, Views.AreParts, Views.parts_of}
use Rattle.nbfx_records.proofs.building.parts_have_text.Given as goal

abbrev pub invariant-loop-part : goal.invariant-loop-part
invariant-loop-part l = record {
  are : AreParts l.rest;
  same : list_all attribute_is_text
      (parts_of l.parts) ≡ list_all attribute_is_text (parts_of l.rest);
}

abbrev pub decreases-loop-part : goal.decreases-loop-part
decreases-loop-part l = length l.rest
