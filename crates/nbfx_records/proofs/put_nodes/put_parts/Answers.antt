use Rattle.nbfx_records.specs.{Chosen.part_bytes, Valid.fits_part, Valid.is_valid_part}
use Rattle.nbfx_records.proofs.PutFacts.{passes_at, put_stopped}
use Rattle.nbfx_records.proofs.put_nodes.put_parts.Goals as goal

pub put_part-requires-clause-valid : goal.put_part-requires-clause-valid
put_part-requires-clause-valid c =
    passes_at is_valid_part c.args.parts.now c.loop-part.part-index c.part-item.result
    c.requires.valid c.loop-part-test.true c.part-item.is

pub put_part-requires-clause-fits : goal.put_part-requires-clause-fits
put_part-requires-clause-fits c =
    passes_at fits_part c.args.parts.now c.loop-part.part-index c.part-item.result c.requires.fits
    c.loop-part-test.true c.part-item.is

pub returns-in_err-put_part : goal.returns-in_err-put_part
returns-in_err-put_part c =
    put_stopped part_bytes c.args.parts.now c.loop-part.part-index c.part-item.result
    c.loop-part-test.true c.part-item.is c.from_residual.ensures.0 c.loop-part.invariant
    c.in_err-put_part.ensures
