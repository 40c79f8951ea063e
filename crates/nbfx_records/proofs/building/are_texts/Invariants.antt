use Rattle.std.{proofs.Common.◌≡◌, proofs.Common.length, specs.List.list_all}
use Rattle.nbfx_records.specs.{Contents.scalar_is_text, Views.IsList, Views.listed}
use Rattle.nbfx_records.proofs.building.are_texts.Given as goal

abbrev pub invariant-loop-part : goal.invariant-loop-part
invariant-loop-part l = record {
  list : IsList l.rest;
  same : list_all scalar_is_text
      (listed l.list) ≡ list_all scalar_is_text (listed l.rest);
}

abbrev pub decreases-loop-part : goal.decreases-loop-part
decreases-loop-part l = length l.rest
