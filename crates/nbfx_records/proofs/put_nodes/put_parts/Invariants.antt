-- What is written so far are those before the place.
use Rattle.std.proofs.Common.{◌≡◌, ◌++◌, take, flat_map}
use Rattle.nbfx_records.specs.Chosen.{part_bytes}
use Rattle.nbfx_records.proofs.put_nodes.put_parts.Given as goal

abbrev pub invariant-loop-part : goal.invariant-loop-part
invariant-loop-part l = l.out.items ≡ l.fn.out.items ++ flat_map part_bytes
    (take l.part-index l.parts)
