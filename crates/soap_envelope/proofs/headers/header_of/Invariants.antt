-- The blocks among the children so far, and the first bad item of those and of the rest.
use Rattle.std.{proofs.Common.◌≡◌, proofs.Common.take, proofs.Common.drop, specs.Option.option_or}
use Rattle.soap_envelope.specs.{Blocks.blocks_among, Headers.bad_children}
use Rattle.soap_envelope.proofs.headers.header_of.Given as goal

abbrev pub invariant-loop-child : goal.invariant-loop-child
invariant-loop-child l = record {
  blocks : l.found ≡ blocks_among l.items l.outer (take l.child-index l.children);
  bad : option_or l.bad (bad_children l.items l.outer (drop l.child-index l.children))
      ≡ bad_children l.items l.outer l.children;
}
