use Rattle.{std.proofs.Common.sym, nbfx_records.proofs.CursorFacts.exit}
use Rattle.nbfx_records.proofs.PartFacts.{length_stops, length_whole, length_wrong}
use Rattle.nbfx_records.proofs.parts.length_at.Goals as goal

pub returns-in_err-said-clause-tells : goal.returns-in_err-said-clause-tells
returns-in_err-said-clause-tells c = exit c.from_residual.ensures.1
    (length_stops c.args.form _ _ c.length_width.result c.length_width.ensures
    c.in_err-said.ensures.tells.told)

pub returns-in-Some-clause-tells : goal.returns-in-Some-clause-tells
returns-in-Some-clause-tells c =
    length_whole c.args.form c.args.bytes.now c.args.at c.length_width.result c.length_width.ensures
    c.in_ok-said.said c.in_ok-said.to c.in_ok-said.ensures.tells c.in-Some.count
    (sym c.in-Some.ensures.said)

pub returns-in-None-clause-tells : goal.returns-in-None-clause-tells
returns-in-None-clause-tells c =
    record {
      told = length_wrong c.args.form c.args.bytes.now c.args.at c.length_width.result
          c.length_width.ensures c.in_ok-said.said c.in_ok-said.to c.in_ok-said.ensures.tells
          (sym c.in-None.ensures.said);
    }
