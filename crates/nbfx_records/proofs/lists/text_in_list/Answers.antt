use Rattle.nbfx_records.specs.Views.{may_close}
use Rattle.nbfx_records.proofs.{CursorFacts.exit, PartFacts.plain_stops}
use Rattle.nbfx_records.proofs.lists.text_in_list.Goals as goal

pub returns-in_err-value-in_default : goal.returns-in_err-value-in_default
returns-in_err-value-in_default c =
    exit c.from_residual.ensures.1 (plain_stops (may_close c.args.holder) c.args.kind c.args.ends
    c.in_default.not-EndList c.if-ends.false c.in_err-value-in_default.ensures.told)
