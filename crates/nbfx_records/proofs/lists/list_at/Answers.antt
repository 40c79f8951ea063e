use Rattle.std.proofs.Common.{true, arith}
use Rattle.nbfx_records.specs.{Shapes.list_turn, Views.may_close, Views.scalar_seen}
use Rattle.nbfx_records.proofs.ListFacts.{is_list, list_goes_on, list_stops, list_whole}
use Rattle.nbfx_records.proofs.ListFacts.{nothing_turned, passes_after}
use Rattle.nbfx_records.proofs.{ManyFacts.moves, ShapeFronts.reads_list_turn}
use Rattle.nbfx_records.proofs.lists.list_at.Goals as goal

pub values-init : goal.values-init
values-init c =
    let passes = c.list_goes_on-at.ensures c.args.bytes.now c.requires.fits c.requires.within in
    record {
      after = passes_after (list_turn true) c.args.bytes.now passes.items c.args.from
          c.list_goes_on-at.result passes.are;
      passes = passes;
      fits = c.requires.fits;
    }

pub values-smaller : goal.values-smaller
values-smaller c =
    let read = rw c.in-Ok-Value-default.field-0-0-is at c.in-Ok-Value-default.ensures in
    let within = read.told.within in
    let moved = moves (list_turn (may_close c.args.holder)) (reads_list_turn _) (nothing_turned _)
    c.args.bytes.now c.values.at _ c.in-Ok-Value-default.to read.told in
    omega (arith, moved, within)

pub values-preserved : goal.values-preserved
values-preserved c =
    let read = rw c.in-Ok-Value-default.field-0-0-is at c.in-Ok-Value-default.ensures in
    record {
      after = let so_far = c.values.invariant.after in let after = read.told.after in omega arith;
      passes = list_goes_on (may_close c.args.holder) c.args.bytes.now c.args.from c.values.at
          c.values.invariant.passes (scalar_seen c.in-Ok-Value-default.field-0-0-0)
          c.in-Ok-Value-default.to read.told;
      fits = c.values.invariant.fits;
    }

pub returns-in-Ok-End-default-clause-tells : goal.returns-in-Ok-End-default-clause-tells
returns-in-Ok-End-default-clause-tells c =
    let read = rw c.in-Ok-End-default.field-0-0-is at c.in-Ok-End-default.ensures in
    record {
      told = list_whole (may_close c.args.holder) c.args.bytes.now c.args.from c.values.at
          c.values.invariant.passes c.in-Ok-End-default.closes c.in-Ok-End-default.to read.told;
    }

pub returns-in-Err-clause-tells : goal.returns-in-Err-clause-tells
returns-in-Err-clause-tells c =
    record {
      told = list_stops (may_close c.args.holder) c.args.bytes.now c.args.from c.values.at
          c.values.invariant.passes c.in-Err.stop c.in-Err.ensures.told;
    }

pub returns-in-Ok-End-default-clause-list : goal.returns-in-Ok-End-default-clause-list
returns-in-Ok-End-default-clause-list c =
    let read = rw c.in-Ok-End-default.field-0-0-is at c.in-Ok-End-default.ensures in
    is_list (may_close c.args.holder) c.args.bytes.now c.args.from c.values.at
    c.values.invariant.passes c.in-Ok-End-default.closes c.in-Ok-End-default.to read.told
