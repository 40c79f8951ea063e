-- The declarations so far are usual, so the rest gives the answer.
use Rattle.std.{proofs.Common.◌≡◌, proofs.Common.drop, specs.List.list_all}
use Rattle.soap_envelope.specs.{Body.is_usual, Scopes.declared}
use Rattle.soap_envelope.proofs.taking.declares_the_usual.Given as goal

abbrev pub invariant-loop-item : goal.invariant-loop-item
invariant-loop-item l =
    list_all (is_usual l.version) (declared (drop l.item-index l.behind))
    ≡ list_all (is_usual l.version) (declared l.behind)
