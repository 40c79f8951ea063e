-- The depth of a walk is the height of what is walked.
use Rattle.std.proofs.Common.{◌≡◌, ℕ, ◌+◌, ◌-◌, ◌≤◌, max, List, [], ◌∷◌, ◌++◌, map, refl, ap, ◌∙◌}
use Rattle.std.proofs.Common.{append_assoc, append-nil, arith}
use Rattle.nbfx_values.specs.declared.content.AttrItem.{AttrItem, TheVariants.Attr as AttrOn}
use Rattle.nbfx_values.specs.declared.content.AttrItem.TheVariants.{Xmlns as DeclaresOn}
use Rattle.nbfx_values.specs.declared.content.Item.{Item, TheVariants.Array, TheVariants.Close}
use Rattle.nbfx_values.specs.Documents.{array, Children, comment, element, height, item_of, no_more}
use Rattle.nbfx_values.specs.Documents.{text, walk}
use Rattle.nbfx_values.specs.Measures.{depth_of, most_open, open_at, opened, opened_by}

open_at-least : (n : ℕ) (x : Item) → n ≤ open_at n x
open_at-least n (Array a) = omega arith
open_at-least n x = omega arith

most_open-least : (n : ℕ) (xs : List Item) → n ≤ most_open n xs
most_open-least n [] = omega arith
most_open-least n (x ∷ xs) = let e = open_at-least n x in omega (arith, e)

-- declarations and attributes open nothing
most_open-attributes : (n : ℕ) (ats : List AttrItem) (xs : List Item)
    → most_open n (map item_of ats ++ xs) ≡ most_open n xs
most_open-attributes n [] xs = refl
most_open-attributes n (DeclaresOn p u ∷ ats) xs = let e = most_open-attributes n ats xs in let l =
    most_open-least n xs in omega (arith, e, l)
most_open-attributes n (AttrOn p l v ∷ ats) xs = let e = most_open-attributes n ats xs in let l =
    most_open-least n xs in omega (arith, e, l)

most_open-walk : (n : ℕ) (c : Children) (xs : List Item) → most_open n (walk c ++ xs)
    ≡ max (n + height c) (most_open n xs)
most_open-walk n no_more xs = let l = most_open-least n xs in omega (arith, l)
most_open-walk n (text v more) xs = let e = most_open-walk n more xs in omega (arith, e)
most_open-walk n (comment bytes more) xs = let e = most_open-walk n more xs in omega (arith, e)
most_open-walk n (array a more) xs = let e = most_open-walk n more xs in omega (arith, e)
most_open-walk n (element prefix local ats children more) xs =
    let shape : (map item_of ats ++ (walk children ++ (Close ∷ walk more))) ++ xs ≡ map item_of ats
    ++ (walk children ++ (Close ∷ (walk more ++ xs))) =
    simp append_assoc in
    let a : most_open (n + 1) ((map item_of ats ++ (walk children ++ (Close ∷ walk more))) ++ xs)
    ≡ most_open (n + 1) (walk children ++ (Close ∷ (walk more ++ xs))) =
    ap (most_open (n + 1)) shape ∙ most_open-attributes (n + 1) ats
    (walk children ++ (Close ∷ (walk more ++ xs))) in
    let b = most_open-walk (n + 1) children (Close ∷ (walk more ++ xs)) in
    let back : n + 1 - 1 ≡ n = omega arith in
    let d : most_open (n + 1 - 1) (walk more ++ xs) ≡ max (n + height more) (most_open n xs) =
    ap (λ k. most_open k (walk more ++ xs)) back ∙ most_open-walk n more xs in
    omega (arith, a, b, d)

pub depth-walk : (c : Children) → depth_of (walk c) ≡ height c
depth-walk c =
    let e : most_open 0 (walk c ++ []) ≡ max (0 + height c) 0 = most_open-walk 0 c [] in
    let f : most_open 0 (walk c ++ []) ≡ most_open 0 (walk c) = ap (most_open 0)
    (append-nil (walk c)) in
    omega (arith, e, f)

-- the most that are open in two lists, one behind the other
pub most_open-append : (n : ℕ) (xs ys : List Item) → most_open n (xs ++ ys) ≡ max (most_open n xs)
    (most_open (opened_by n xs) ys)
most_open-append n [] ys = let l = most_open-least n ys in omega (arith, l)
most_open-append n (x ∷ xs) ys = let e = most_open-append (opened n x) xs ys in omega (arith, e)
