use Rattle.nbfx_records.{specs.Views.cells_seen, proofs.JudgedFacts.exit}
use Rattle.nbfx_records.proofs.CellFacts.{all_done, step_left, step_wrong}
use Rattle.nbfx_records.proofs.building.cells.Goals as goal

pub returns-in_err-known : goal.returns-in_err-known
returns-in_err-known c =
    exit c.from_residual.ensures.1 (step_wrong (cells_seen c.args.part.now) c.loop-place._place
    c.loop-place.rest.now c.loop-place.values c.loop-place.invariant c.loop-place-test.true
    c.width-width.result c.text_kind_in-kind.result _ _
    c.width-width.ensures.is c.text_kind_in-kind.ensures c.split_at.ensures.front
    c.split_at.ensures.back c.in_err-known.field-0.0 c.in_err-known.ensures)

pub loop-place-preserved : goal.loop-place-preserved
loop-place-preserved c =
    step_left (cells_seen c.args.part.now) c.loop-place._place c.loop-place.rest.now
    c.loop-place.values c.loop-place.invariant c.loop-place-test.true c.width-width.result
    c.text_kind_in-kind.result _ _
    c.width-width.ensures.is c.text_kind_in-kind.ensures c.split_at.ensures.front
    c.split_at.ensures.back c.in_ok-known.field-0 c.push.new.self c.in_ok-known.ensures.made
    c.in_ok-push.ensures.pushed

pub returns : goal.returns
returns c = record {
  made = all_done (cells_seen c.args.part.now) c.loop-place._place
      c.loop-place.rest.now c.loop-place.values c.loop-place.invariant c.loop-place-test.false;
}
