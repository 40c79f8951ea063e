use Rattle.{nbfx_values.specs.Items.fits_kind, nbfx_records.specs.Chosen.cell_bytes}
use Rattle.nbfx_records.proofs.PutFacts.{passes_at, put_stopped}
use Rattle.nbfx_records.proofs.put_records.put_cells.Goals as goal

pub put_cell-requires : goal.put_cell-requires
put_cell-requires c = passes_at (fits_kind c.args.kind) c.args.values.now c.loop-value.value-index
    c.value-item.result c.requires c.loop-value-test.true c.value-item.is

pub returns-in_err-put_cell : goal.returns-in_err-put_cell
returns-in_err-put_cell c =
    put_stopped (cell_bytes c.args.kind) c.args.values.now c.loop-value.value-index
    c.value-item.result c.loop-value-test.true c.value-item.is c.from_residual.ensures.0
    c.loop-value.invariant c.in_err-put_cell.ensures
