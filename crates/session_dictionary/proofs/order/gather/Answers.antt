use Rattle.std.proofs.Common.{rules, le-ltb, lt-ltb}
use Rattle.std.proofs.lemmas.List.Filters.{FiltersInPlace-all, FiltersInPlace-more_no}
use Rattle.std.proofs.lemmas.List.Filters.{FiltersInPlace-more_set}
use Rattle.session_dictionary.proofs.order.gather.Goals.{else-position-bound, then-position-bound}
use Rattle.session_dictionary.proofs.order.gather.Goals as goal

pub loop-place-preserved : goal.loop-place-preserved
loop-place-preserved c =
    elim c.if-position-bound.branch [
      | then-position-bound w ↦
          rw (w.run-is, w.count-is) (search (rules, FiltersInPlace-more_set, lt-ltb))
      | else-position-bound w ↦
          rw (w.run-is, w.count-is) (search (rules, FiltersInPlace-more_no, le-ltb))
    ]

pub returns-clause-front : goal.returns-clause-front
returns-clause-front c = search (rules, FiltersInPlace-all)
