use Rattle.nbfx_records.proofs.UnitFacts.{units_all}
use Rattle.nbfx_records.proofs.values.units.Goals as goal

pub returns : goal.returns
returns c = units_all c.loop-place.units.items _ c.args.bytes.now c.loop-place.place
    c.loop-place-test.false c.loop-place.invariant
