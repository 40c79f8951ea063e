use Rattle.std.proofs.Common.{is_lt, rules}
use Rattle.std.proofs.lemmas.{Fn.always_returns_same, Result.on_ok_weaker}
use Rattle.session_dictionary.{specs.Order.by_text, proofs.OrderFacts.by_text_weak}
use Rattle.session_dictionary.proofs.order.sort_run.Goals as goal

pub returns-clause-sorted : goal.returns-clause-sorted
returns-clause-sorted c =
    let strings = c.args.texts.now in
    on_ok_weaker c.sort_by.result
    (λ sorts. sorts (λ x y. is_lt (by_text strings x y)) (by_text_weak strings)
    (always_returns_same _ _ _ (λ a r g k. search rules))) c.sort_by.ensures.sorted
