-- What is left behind the names so far leaves the answer behind the rest.
use Rattle.std.proofs.Common.{◌≡◌, drop}
use Rattle.soap_envelope.specs.Fitting.{left_behind, names_content}
use Rattle.soap_envelope.proofs.naming.left_by_names.Given as goal

abbrev pub invariant-loop-name : goal.invariant-loop-name
invariant-loop-name l =
    left_behind l.left (names_content (drop l.name-index l.names))
    ≡ left_behind l.initial.left (names_content l.names)
