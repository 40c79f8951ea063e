use Rattle.std.proofs.Common.{◌≡◌, ℕ, ◌+◌, ◌-◌, List, [], ◌∷◌, ◌++◌, length, get_or, take, sym, ap}
use Rattle.std.proofs.Common.{◌∙◌, subst, arith, length-take-le, take_all}
use Rattle.std.proofs.lemmas.List.{take_more}
use Rattle.session_dictionary.{specs.Order.IsOrder, proofs.OrderFacts.order_push}
use Rattle.session_dictionary.proofs.order.add_last.Goals as goal

-- all but the last, and the last
last_apart : (strings : List (List ℕ)) (n : ℕ) → n + 1 ≡ length strings
    → take n strings ++ get_or strings n [] ∷ [] ≡ strings
last_apart strings n h =
    sym (take_more strings n [] (omega (arith, h))) ∙ take_all (n + 1) strings (omega (arith, h))

pub join-requires-clause-order : goal.join-requires-clause-order
join-requires-clause-order c =
    let strings = c.args.texts.now in
    let n = length strings - 1 in
    let whole : n + 1 ≡ length strings = omega (arith, c.requires.some) in
    let place : c.len-position.result - 1 ≡ n = ap (λ m. m - 1) c.len-position.ensures in
    let positions = c.args.positions.now.items in
    let cuts = c.args.cuts.now.items in
    let long = sym (length-take-le n strings (omega (arith, whole))) in
    let pushed =
    order_push (take n strings) (get_or strings n []) positions cuts n long c.requires.order in
    rw (c.push_reserved.ensures.items, c.push_reserved-2.ensures.items, place)
    (subst (λ xs. IsOrder xs (positions ++ n ∷ []) (cuts ++ n ∷ [])) (last_apart strings n whole)
    pushed)
