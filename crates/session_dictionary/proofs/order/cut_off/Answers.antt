use Rattle.std.proofs.Common.{◌≡◌, ℕ, ◌<◌, ◌≤◌, true, List, ◌∷◌, length, get_or, take, All, filter}
use Rattle.std.proofs.{Common.ap, Common.◌∙◌, Common.arith, lemmas.List.Elements.filter_passes}
use Rattle.session_dictionary.{specs.Order.IsCutTo, proofs.OrderFacts.order_cut}
use Rattle.session_dictionary.proofs.CutFacts.{before_last, below, last_within}
use Rattle.session_dictionary.proofs.order.cut_off.Goals as goal

module _ (bound start : ℕ) (cuts given kept positions left : List ℕ)
    (cut_to : IsCutTo bound kept positions left) (kept_is : kept ≡ filter (below bound) cuts)
    (given_is : given ≡ kept) (start_is : start ≡ get_or (0 ∷ given) (length given) 0) where
  passes : All (λ cut. below bound cut ≡ true) kept
  passes = rw kept_is (filter_passes (below bound) cuts)

  is : start ≡ get_or (0 ∷ kept) (length kept) 0
  is = start_is ∙ ap (λ xs. get_or (0 ∷ xs) (length xs) 0) given_is

  within : start ≤ length left
  within = rw is (last_within bound kept positions left cut_to passes (length kept) (omega arith))

  low : All (λ x. x < bound) (take start left)
  low = rw is (before_last bound kept positions left cut_to passes (length kept) (omega arith))

pub cut_run-requires-clause-there : goal.cut_run-requires-clause-there
cut_run-requires-clause-there c =
    let runs = c.cut_runs.ensures in
    within c.args.bound c.last_cut-start.result c.args.cuts.now.items c.deref.result.now
    c.cut_runs.new.cuts.items c.args.positions.now.items c.cut_runs.new.positions.items
    runs.positions runs.cuts c.deref.ensures.value c.last_cut-start.ensures

pub cut_run-requires-clause-below : goal.cut_run-requires-clause-below
cut_run-requires-clause-below c =
    let runs = c.cut_runs.ensures in
    low c.args.bound c.last_cut-start.result c.args.cuts.now.items c.deref.result.now
    c.cut_runs.new.cuts.items c.args.positions.now.items c.cut_runs.new.positions.items
    runs.positions runs.cuts c.deref.ensures.value c.last_cut-start.ensures

pub returns : goal.returns
returns c =
    let runs = c.cut_runs.ensures in
    rw (c.cut_run.ensures, runs.cuts, runs.positions.same)
    (order_cut c.args.texts.now c.args.positions.now.items c.args.cuts.now.items c.args.bound
    c.requires.there c.requires.order)
