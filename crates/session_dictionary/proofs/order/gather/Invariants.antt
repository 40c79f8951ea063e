use Rattle.std.proofs.{Common.nat_lt, lemmas.List.Filters.FiltersInPlace}
use Rattle.session_dictionary.proofs.order.gather.Given as goal

abbrev pub invariant-loop-place : goal.invariant-loop-place
invariant-loop-place l =
    FiltersInPlace (λ x. nat_lt x l.bound) l.initial.run l.run l.count l.place
