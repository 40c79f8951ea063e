-- The blocks so far are in no version, so the rest gives the answer.
use Rattle.std.proofs.Common.{◌≡◌, drop}
use Rattle.soap_envelope.specs.Versions.{version_of}
use Rattle.soap_envelope.proofs.versions.version_of.Given as goal

abbrev pub invariant-loop-block : goal.invariant-loop-block
invariant-loop-block l = version_of (drop l.block-index l.blocks) ≡ version_of l.blocks
