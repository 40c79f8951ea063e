use Rattle.std.proofs.Common.{◌≡◌, length}
use Rattle.nbfx_records.specs.{Contents.led, Contents.scalars_judged, Views.IsList, Views.listed}
use Rattle.nbfx_records.proofs.building.scalars.Given as goal

abbrev pub invariant-loop-part : goal.invariant-loop-part
invariant-loop-part l = record {
  list : IsList l.rest;
  same : scalars_judged (listed l.list)
      ≡ led l.values (scalars_judged (listed l.rest));
}

abbrev pub decreases-loop-part : goal.decreases-loop-part
decreases-loop-part l = length l.rest
