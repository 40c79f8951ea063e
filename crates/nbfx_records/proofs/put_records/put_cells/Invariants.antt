-- What is written so far are those before the place.
use Rattle.std.proofs.Common.{◌≡◌, ◌++◌, take, flat_map}
use Rattle.nbfx_records.specs.Chosen.{cell_bytes}
use Rattle.nbfx_records.proofs.put_records.put_cells.Given as goal

abbrev pub invariant-loop-value : goal.invariant-loop-value
invariant-loop-value l =
    l.out.items ≡ l.fn.out.items ++ flat_map (cell_bytes l.fn.kind) (take l.value-index l.values)
