use Rattle.std.proofs.Common.{◌≡◌, ℕ, ◌+◌, ◌-◌, ◌<◌, ◌≤◌, List, [], ◌∷◌, ◌++◌, length, get_or, take}
use Rattle.std.proofs.Common.{drop, slice_range, flat_map, sym, ap, ◌∙◌, arith, length-drop}
use Rattle.std.proofs.{Common.get_or-drop, lemmas.List.flat_map_more, lemmas.List.take_more}
use Rattle.{multibyte_ints.specs.Text.string_bytes_of, session_dictionary.proofs.ResultFacts.on_ok}
use Rattle.session_dictionary.proofs.table.put_texts.Goals as goal

-- one more of the texts from a place on
one_more : (texts : List (List ℕ)) (from place : ℕ) → from ≤ place → place < length texts
    → slice_range texts from (place + 1) ≡ slice_range texts from place ++ get_or texts place
    [] ∷ []
one_more texts from place low high =
    let next : place + 1 - from ≡ place - from + 1 = omega arith in
    let at : from + (place - from) ≡ place = omega arith in
    ap (λ n. take n (drop from texts)) next ∙ take_more (drop from texts) (place - from) []
    (omega (arith, length-drop from texts))
    ∙ ap (λ text. slice_range texts from place ++ text ∷ [])
    (get_or-drop from texts (place - from) [] ∙ ap (λ i. get_or texts i []) at)

pub loop-place-preserved : goal.loop-place-preserved
loop-place-preserved c =
    let texts = c.args.texts.now in
    let so_far = slice_range texts c.args.from c.loop-place.place in
    let high : c.loop-place.place < length texts =
    omega (arith, c.loop-place-test.true, c.len-place-end.ensures) in
    on_ok c.put_string.result c.if-is_err.ensures.negation c.put_string.ensures.written
    ∙ ap (λ bytes. bytes ++ string_bytes_of c.nth.result.now) c.loop-place.invariant
    ∙ flat_map_more string_bytes_of c.args.out.now.items so_far c.nth.result.now
    ∙ ap (λ text. c.args.out.now.items ++ flat_map string_bytes_of (so_far ++ text ∷ []))
    c.nth.ensures
    ∙ ap (λ each. c.args.out.now.items ++ flat_map string_bytes_of each)
    (sym (one_more texts c.args.from c.loop-place.place c.loop-place.auto.place high))
