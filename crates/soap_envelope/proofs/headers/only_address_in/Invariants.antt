-- The Address found so far, and those to come.
use Rattle.std.proofs.Common.{◌≡◌, ◌++◌, length, option_to_list}
use Rattle.soap_envelope.specs.{Children.children_of, Headers.addresses_among, Headers.only}
use Rattle.soap_envelope.proofs.headers.only_address_in.Given as goal

abbrev pub invariant-loop-child : goal.invariant-loop-child
invariant-loop-child l =
    only (option_to_list l.found ++ addresses_among l.version l.items l.inner l.children)
    ≡ only (addresses_among l.version l.items l.inner (children_of l.items l.at))

abbrev pub decreases-loop-child : goal.decreases-loop-child
decreases-loop-child l = length l.children
