-- Lists from a place on.
use Rattle.std.proofs.Common.{◌≡◌, ℕ, zero, suc, ◌+◌, ◌<◌, Bool, true, List, [], ◌∷◌, ◌++◌, map}
use Rattle.std.proofs.Common.{reverse, length, get_or, take, drop, sym, refl, ap, ◌∙◌, add-one}
use Rattle.std.proofs.{Common.arith, Math.Seq.drop-cons, Math.Seq.drop-nil}
use Rattle.std.proofs.lemmas.{Bool.and_parts, List.map-append, List.reverse-append, List.take_more}
use Rattle.std.specs.List.{list_all}

-- the element at a place, and those behind it
pub drop-at : {X : Type 0} (xs : List X) (i : ℕ) (x : X) → i < length xs → x ≡ get_or xs i x
    → drop i xs ≡ x ∷ drop (i + 1) xs
drop-at xs i x h e = drop-cons xs i x h ∙ ap (λ y. y ∷ drop (suc i) xs) (sym e) ∙ rw add-one refl

-- up to a place and that, mapped, from the end
pub reverse-map-more : {X Y : Type 0} (f : X → Y) (xs : List X) (i : ℕ) (x : X) → i < length xs → x
    ≡ get_or xs i x
    → reverse (map f (take (i + 1) xs)) ≡ f x ∷ reverse (map f (take i xs))
reverse-map-more f xs i x h e =
    rw (take_more xs i x h, ← e, map-append, reverse-append) refl

-- what stands in front of a place, behind which an element and others stand
pub drop-head : {X : Type 0} (xs : List X) (n : ℕ) (y : X) (ys : List X) → drop n xs ≡ y ∷ ys
    → (n < length xs) × (take (n + 1) xs ≡ take n xs ++ y ∷ []) × (drop (n + 1) xs ≡ ys)
drop-head {X} xs n y ys h = rw add-one (headed xs n h)
  where
    headed : (xs : List X) (n : ℕ) → drop n xs ≡ y ∷ ys
        → (n < length xs) × (take (suc n) xs ≡ take n xs ++ y ∷ []) × (drop (suc n) xs ≡ ys)
    headed [] n h = absurd (let e : [] ≡ y ∷ ys = sym (drop-nil n) ∙ h in cc)
    headed (x ∷ xs) zero h = (omega arith, (cc), cc)
    headed (x ∷ xs) (suc n) h = let r = headed xs n h in (omega arith, ap (λ l. x ∷ l) r.1, r.2)

-- what a test says of all holds behind a place
pub list_all-drop : {X : Type 0} (p : X → Bool) (n : ℕ) (xs : List X) → list_all p xs ≡ true
    → list_all p (drop n xs) ≡ true
list_all-drop p n [] h = rw (drop-nil n) refl
list_all-drop p zero (x ∷ xs) h = h
list_all-drop p (suc n) (x ∷ xs) h = list_all-drop p n xs (and_parts (p x) (list_all p xs) h).1
