-- The content of the blocks so far is as it should be, so the rest gives the answer.
use Rattle.std.proofs.Common.{◌≡◌, drop}
use Rattle.soap_envelope.specs.Headers.{bad_content}
use Rattle.soap_envelope.proofs.headers.bad_content.Given as goal

abbrev pub invariant-loop-block : goal.invariant-loop-block
invariant-loop-block l = record {
  unchanged : l.scopes ≡ l.initial.scopes;
  bad : bad_content l.version l.items l.initial.scopes (drop l.block-index l.blocks)
      ≡ bad_content l.version l.items l.initial.scopes l.blocks;
}
