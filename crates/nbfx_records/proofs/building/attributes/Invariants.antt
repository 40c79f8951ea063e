use Rattle.std.proofs.Common.{◌≡◌, length}
use Rattle.nbfx_records.specs.Contents.{attributes_judged, led}
use Rattle.nbfx_records.specs.Views.{AreParts, parts_of}
use Rattle.nbfx_records.proofs.building.attributes.Given as goal

abbrev pub invariant-loop-part : goal.invariant-loop-part
invariant-loop-part l = record {
  are : AreParts l.rest;
  same : attributes_judged (parts_of l.parts)
      ≡ led l.nodes (attributes_judged (parts_of l.rest));
}

abbrev pub decreases-loop-part : goal.decreases-loop-part
decreases-loop-part l = length l.rest
