use Rattle.std.proofs.Common.{◌≡◌, ◌≢◌, ◌<◌, ℕ, ◌∷◌, get_or}
use Rattle.session_dictionary.specs.Order.{text_of}
use Rattle.session_dictionary.proofs.order.first_of.Given as goal

-- the run begins at the last cut, and no position before has the text
abbrev pub invariant-loop-cut : goal.invariant-loop-cut
invariant-loop-cut l =
    (l.start ≡ get_or (0 ∷ l.cuts) l.cut-index 0)
    × ((other : ℕ) → other < l.start → text_of l.texts other ≢ l.text)
