use Rattle.{std.proofs.Common.refl, nbfx_records.proofs.KeptFacts.kept_value}
use Rattle.nbfx_records.proofs.CursorFacts.{exit, seen_stops, seen_tells, then_stops}
use Rattle.nbfx_records.proofs.CursorFacts.{then_stops_behind, then_tells}
use Rattle.nbfx_records.proofs.attributes.attribute_at.Goals as goal

pub returns-in_err-prefix-clause-tells : goal.returns-in_err-prefix-clause-tells
returns-in_err-prefix-clause-tells c = exit c.from_residual.ensures.1
    (then_stops _ c.in_err-prefix.ensures.told)

pub returns-in_err-name-clause-tells : goal.returns-in_err-name-clause-tells
returns-in_err-name-clause-tells c = exit c.from_residual-in_err-name.ensures.1
    (then_stops_behind _ c.in_ok-prefix.ensures (then_stops _ c.in_err-name.ensures.told))

pub returns-in_err-value-clause-tells : goal.returns-in_err-value-clause-tells
returns-in_err-value-clause-tells c =
    exit c.from_residual-in_err-value.ensures.1
    (then_stops_behind _ c.in_ok-prefix.ensures
    (then_stops_behind _ c.in_ok-name.ensures (seen_stops _ c.in_err-value.ensures.tells.told)))

pub returns-clause-tells : goal.returns-clause-tells
returns-clause-tells c = then_tells _ c.in_ok-prefix.ensures
    (then_tells _ c.in_ok-name.ensures (seen_tells _ c.in_ok-value.ensures.tells refl))

pub returns-in_err-value-clause-kept : goal.returns-in_err-value-clause-kept
returns-in_err-value-clause-kept c =
    kept_value c.args.prefix c.args.name c.value_at.new.resume c.in_ok-prefix.ensures.told
    c.in_ok-name.ensures.told c.from_residual-in_err-value.result _
    c.from_residual-in_err-value.ensures.1 c.in_err-value.ensures.tells c.in_err-value.ensures.kept
