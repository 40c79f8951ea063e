use Rattle.std.proofs.Common.{arith}
use Rattle.nbfx_records.specs.{Shapes.array_turn, Views.attribute_seen}
use Rattle.nbfx_records.proofs.{ListFacts.passes_after, ManyFacts.moves}
use Rattle.nbfx_records.proofs.PartsFacts.{are_parts, nothing_parted, parts_go_on, parts_stop}
use Rattle.nbfx_records.proofs.{PartsFacts.parts_whole, ShapeFronts.reads_array_turn}
use Rattle.nbfx_records.proofs.arrays.parts_at.Goals as goal

pub parts-init : goal.parts-init
parts-init c =
    let passes = c.parts_go_on-at.ensures c.args.bytes.now c.requires.fits c.requires.within in
    record {
      after = passes_after array_turn c.args.bytes.now passes.items c.args.from
          c.parts_go_on-at.result passes.are;
      passes = passes;
      fits = c.requires.fits;
    }

pub parts-smaller : goal.parts-smaller
parts-smaller c =
    let read = rw c.in-Ok-Part-default.field-0-0-is at c.in-Ok-Part-default.ensures.tells in
    let within = read.told.within in
    let moved = moves array_turn reads_array_turn nothing_parted c.args.bytes.now c.parts.at _
    c.in-Ok-Part-default.to read.told in
    omega (arith, moved, within)

pub parts-preserved : goal.parts-preserved
parts-preserved c =
    let read = rw c.in-Ok-Part-default.field-0-0-is at c.in-Ok-Part-default.ensures.tells in
    record {
      after = let so_far = c.parts.invariant.after in let after = read.told.after in omega arith;
      passes = parts_go_on c.args.bytes.now c.args.from c.parts.at c.parts.invariant.passes
          (attribute_seen c.in-Ok-Part-default.field-0-0-0) c.in-Ok-Part-default.to read.told;
      fits = c.in-Ok-Part-default.ensures.fits;
    }

pub returns-in-Ok-End-default-clause-tells : goal.returns-in-Ok-End-default-clause-tells
returns-in-Ok-End-default-clause-tells c =
    let read = rw c.in-Ok-End-default.field-0-0-is at c.in-Ok-End-default.ensures.tells in
    record {
      told = parts_whole c.args.bytes.now c.args.from c.parts.at c.parts.invariant.passes tt
          c.in-Ok-End-default.to read.told;
    }

pub returns-in-Err-clause-tells : goal.returns-in-Err-clause-tells
returns-in-Err-clause-tells c = record {
  told = parts_stop c.args.bytes.now c.args.from c.parts.at
      c.parts.invariant.passes c.in-Err.stop c.in-Err.ensures.tells.told;
}

pub returns-in-Ok-End-default-clause-parts : goal.returns-in-Ok-End-default-clause-parts
returns-in-Ok-End-default-clause-parts c =
    let read = rw c.in-Ok-End-default.field-0-0-is at c.in-Ok-End-default.ensures.tells in
    are_parts c.args.bytes.now c.args.from c.parts.at c.parts.invariant.passes tt
    c.in-Ok-End-default.to read.told
