-- None of the blocks so far counts, so the rest gives the answer.
use Rattle.{std.proofs.Common.◌≡◌, std.proofs.Common.drop, soap_envelope.specs.Headers.counted_at}
use Rattle.soap_envelope.proofs.headers.counted_at.Given as goal

abbrev pub invariant-loop-block : goal.invariant-loop-block
invariant-loop-block l =
    counted_at l.version l.local (drop l.block-index l.blocks)
    ≡ counted_at l.version l.local l.blocks
