-- What is written so far are the values before the place.
use Rattle.std.proofs.Common.{◌≡◌, false, ◌++◌, take, flat_map}
use Rattle.nbfx_records.specs.Chosen.{scalar_bytes}
use Rattle.nbfx_records.proofs.put_values.put_scalars.Given as goal

abbrev pub invariant-loop-value : goal.invariant-loop-value
invariant-loop-value l = l.out.items ≡ l.fn.out.items ++ flat_map (scalar_bytes false)
    (take l.value-index l.values)
