use Rattle.std.proofs.Common.{◌≡◌, ℕ, ◌+◌, ◌<◌, List, ◌++◌, length, take, drop, nat_lt, All, filter}
use Rattle.std.proofs.Common.{sym, ap, ◌∙◌, arith, take-append-drop, take-take, take_at, rules}
use Rattle.std.proofs.lemmas.List.{drop-take}
use Rattle.session_dictionary.proofs.CutFacts.{all_below, below, few_below, filter_rest}
use Rattle.session_dictionary.proofs.order.cut_run.Goals as goal

-- a list up to a place is what stands before another place, and then some of what stands after it
upto : (start count : ℕ) (xs : List ℕ)
    → take (start + count) xs ≡ take start xs ++ take count (drop start xs)
upto start count xs =
    sym (take-append-drop start (take (start + count) xs))
    ∙ ap (λ ys. ys ++ drop start (take (start + count) xs))
    (take-take start (start + count) xs (omega arith))
    ∙ ap (λ ys. take start xs ++ ys) (drop-take start count xs)

module _ (bound start count n : ℕ) (old given new : List ℕ) (given_is : given ≡ old)
    (n_is : n ≡ length old) (long : length new ≡ length given)
    (before : take start new ≡ take start given)
    (front : take count (drop start new) ≡ filter (λ x. nat_lt x bound) (drop start given))
    (low : All (λ x. x < bound) (take start old)) where
  cut : take (start + count) (take n (new ++ drop (length new) old))
      ≡ filter (λ x. nat_lt x bound) old
  cut =
      let whole = take_at new (drop (length new) old) n
      (omega (arith, long, n_is, ap length given_is)) in
      ap (take (start + count)) whole ∙ upto start count new
      ∙ ap (λ xs. xs ++ take count (drop start new)) (before ∙ ap (take start) given_is)
      ∙ ap (λ xs. take start old ++ xs)
      (front ∙ ap (λ xs. filter (λ x. nat_lt x bound) (drop start xs)) given_is)
      ∙ filter_rest (below bound) old start (all_below bound (take start old) low)

pub returns-then-len-bound : goal.returns-then-len-bound
returns-then-len-bound c =
    rw c.truncate.ensures.items
    (cut c.args.bound c.args.start c.gather_from-count.result c.args.positions.now.len
    c.args.positions.now.items c.deref_mut.result.now c.gather_from-count.new.positions
    c.deref_mut.ensures.value (search rules) c.gather_from-count.auto.positions
    c.gather_from-count.ensures.before c.gather_from-count.ensures.front c.requires.below)

pub returns-else-len-bound : goal.returns-else-len-bound
returns-else-len-bound c =
    few_below c.args.bound c.args.positions.now.items c.requires.all
    (omega (arith, c.if-len-bound.false, c.len.ensures))
