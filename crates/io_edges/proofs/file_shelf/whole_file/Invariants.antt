use Rattle.std.proofs.Common.{◌≤◌, ◌-◌, ◌^◌, vec_len}
use Rattle.std.specs.Io.KnownBytes.{Consumes}
use Rattle.io_edges.proofs.file_shelf.whole_file.Given as goal

abbrev pub invariant-loop-bytes : goal.invariant-loop-bytes
invariant-loop-bytes g l = let remaining = g.F.Read.remaining in
    (vec_len l.bytes ≤ 2 ^ 30) × Consumes (remaining l.fn.file) (remaining l.file) l.bytes.items

abbrev pub decreases-loop-bytes : goal.decreases-loop-bytes
decreases-loop-bytes g l = 2 ^ 30 - vec_len l.bytes
