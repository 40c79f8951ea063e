-- No item so far is bad, so the rest gives the answer; and what is open.
use Rattle.std.proofs.Common.{◌≡◌, [], drop}
use Rattle.soap_envelope.specs.{BadNames.first_bad_name, Bindings.scope_to}
use Rattle.soap_envelope.proofs.names.bad_name.Given as goal

abbrev pub invariant-loop-at : goal.invariant-loop-at
invariant-loop-at l = record {
  rest : first_bad_name l.scopes l.at (drop l.at l.items) ≡ first_bad_name [] 0 l.items;
  inside : l.scopes ≡ scope_to [] l.at l.items;
}
