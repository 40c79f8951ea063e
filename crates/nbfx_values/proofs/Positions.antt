-- Where items lead, one by one.
use Rattle.std.proofs.Common.{◌≡◌, ℕ, zero, suc, ◌+◌, ◌-◌, ◌<◌, ◌≤◌, Bool, true, false, List, []}
use Rattle.std.proofs.Common.{◌∷◌, ◌++◌, length, get_or, take, drop, if◌then◌else◌, Some, None}
use Rattle.std.proofs.Common.{Option, sym, refl, ap, ◌∙◌, subst, arith, take-append-drop}
use Rattle.std.{proofs.Common.length-take, proofs.lemmas.List.take_more, specs.List.list_all}
use Rattle.nbfx_values.specs.declared.{content.Item.Item, position.Position.Position}
use Rattle.nbfx_values.specs.declared.content.Item.TheVariants.{Attr, Close, Start, Xmlns}
use Rattle.nbfx_values.specs.declared.position.Position.TheVariants.{After, Before, Within}
use Rattle.nbfx_values.specs.{Items.is_valid_item, Measures.opened, Measures.opened_by}
use Rattle.nbfx_values.specs.Positions.{moved, next_position, open_count, position_from}
use Rattle.nbfx_values.specs.Positions.{position_of, StopsAt}

pub position_from-none : (xs : List Item) → position_from None xs ≡ None
position_from-none [] = refl
position_from-none (x ∷ xs) = refl

pub position_from-append : (o : Option Position) (xs ys : List Item) → position_from o (xs ++ ys)
    ≡ position_from (position_from o xs) ys
position_from-append o [] ys = refl
position_from-append None (x ∷ xs) ys = sym (position_from-none ys)
position_from-append (Some s) (x ∷ xs) ys = position_from-append (next_position s x) xs ys

-- where a list leads somewhere, its first item passes, and leads there too
pub passed : (b : Bool) (o : Option Position) (xs : List Item) (s : Position)
    → position_from (if b then o else None) xs ≡ Some s → (b ≡ true) × (position_from o xs ≡ Some s)
passed true o xs s h = (refl, h)
passed false o xs s h = absurd (let e : None ≡ Some s = sym (position_from-none xs) ∙ h in cc)

-- where a list leads somewhere, records can hold its values
pub position_from-valid : (o : Option Position) (xs : List Item) (s : Position) → position_from o xs
    ≡ Some s → list_all is_valid_item xs ≡ true
position_from-valid o [] s h = refl
position_from-valid None (x ∷ xs) s h = absurd (let e : None ≡ Some s = h in cc)
position_from-valid (Some t) (x ∷ xs) s h =
    let p = passed (is_valid_item x) (moved t x) xs s h in
    rw p.0 (position_from-valid (moved t x) xs s p.1)

-- a valid item moves
pub stepped : (s : Position) (x : Item) (xs : List Item) → is_valid_item x ≡ true
    → position_from (Some s) (x ∷ xs) ≡ position_from (moved s x) xs
stepped s x xs h = ap (λ b. position_from (if b then moved s x else None) xs) h

-- the items up to one, and that one
pub take-push : (xs : List Item) (n : ℕ) (x : Item) → n < length xs → x ≡ get_or xs n x → take n xs
    ++ x ∷ [] ≡ take (n + 1) xs
take-push xs n x b e = sym (take_more xs n x b ∙ ap (λ y. take n xs ++ (y ∷ [])) (sym e))

-- one item more
pub position_of-push : (xs : List Item) (x : Item) (s : Position) → position_of xs ≡ Some s
    → position_of (xs ++ x ∷ []) ≡ next_position s x
position_of-push xs x s h = position_from-append (Some Before) xs (x ∷ []) ∙
    ap (λ o. position_from o (x ∷ [])) h

pub position_of-valid_push : (xs : List Item) (x : Item) (s : Position) → position_of xs ≡ Some s
    → is_valid_item x ≡ true → position_of (xs ++ x ∷ []) ≡ moved s x
position_of-valid_push xs x s h valid = position_of-push xs x s h ∙
    ap (λ b. if b then moved s x else None) valid

-- an item that may not stand there
pub stops-at : (xs : List Item) (n : ℕ) (x : Item) (s : Position) → n < length xs → x
    ≡ get_or xs n x → position_of (take n xs) ≡ Some s → next_position s x ≡ None → StopsAt xs n
stops-at xs n x s b e h none = record {
  within = omega arith;
  front = rw h refl;
  stops = λ _. more;
  unfinished = λ u.
      let f : None ≡ Some After =
      sym (position_from-none (drop (n + 1) xs)) ∙ ap (λ o. position_from o (drop (n + 1) xs))
      (sym more)
      ∙ sym (position_from-append (Some Before) (take (n + 1) xs) (drop (n + 1) xs))
      ∙ ap position_of (take-append-drop (n + 1) xs) ∙ u in
      cc;
}
  where
    more : position_of (take (n + 1) xs) ≡ None
    more = ap position_of (sym (take-push xs n x b e)) ∙ position_of-push (take n xs) x s h ∙ none

-- a first item that leads on moves
pub led : (o : Option Position) (s : Position) (x : Item) (xs : List Item) (t : Position)
    → moved s x ≡ o → position_from o xs ≡ Some t
    → (u : Position) × (moved s x ≡ Some u) × (position_from (Some u) xs ≡ Some t)
led None s x xs t e h = absurd (let f : None ≡ Some t = sym (position_from-none xs) ∙ h in cc)
led (Some u) s x xs t e h = (u, e, h)

-- what an item opens is open where it leads
moved-opened : (s t : Position) (x : Item) → moved s x ≡ Some t → opened (open_count s) x
    ≡ open_count t
moved-opened Before t (Start p l) h = let e : Within 0 true ≡ t = cc in ap open_count e
moved-opened Before t x h = absurd cc
moved-opened (Within n a) t (Start p l) h = let e : Within (suc n) true ≡ t = cc in subst
    (λ v. n + 1 + 1 ≡ open_count v) e (omega arith)
moved-opened (Within n true) t (Xmlns p u) h = let e : Within n true ≡ t = cc in ap open_count e
moved-opened (Within n false) t (Xmlns p u) h = absurd cc
moved-opened (Within n true) t (Attr p l v) h = let e : Within n true ≡ t = cc in ap open_count e
moved-opened (Within n false) t (Attr p l v) h = absurd cc
moved-opened (Within zero a) t Close h = let e : After ≡ t = cc in subst
    (λ v. 0 + 1 - 1 ≡ open_count v) e refl
moved-opened (Within (suc n) a) t Close h = let e : Within n false ≡ t = cc in subst
    (λ v. suc n + 1 - 1 ≡ open_count v) e (omega arith)
moved-opened (Within n a) t x h = let e : Within n false ≡ t = cc in ap open_count e
moved-opened After t x h = absurd cc

-- what items open is open where they lead
pub position_from-opened : (s : Position) (xs : List Item) (t : Position) → position_from (Some s)
    xs ≡ Some t → opened_by (open_count s) xs ≡ open_count t
position_from-opened s [] t h = let e : s ≡ t = cc in ap open_count e
position_from-opened s (x ∷ xs) t h =
    let (u, e, g) = led (moved s x) s x xs t refl (passed (is_valid_item x) (moved s x) xs t h).1 in
    ap (λ n. opened_by n xs) (moved-opened s u x e) ∙ position_from-opened u xs t g

-- as many elements are open as were opened
pub open-position : (xs : List Item) (s : Position) → position_of xs ≡ Some s → opened_by 0 xs
    ≡ open_count s
open-position xs s h = position_from-opened Before xs s h

opened-most : (n : ℕ) (x : Item) → opened n x ≤ n + 1
opened-most n (Start p l) = omega arith
opened-most n Close = omega arith
opened-most n x = omega arith

pub opened_by-most : (n : ℕ) (xs : List Item) → opened_by n xs ≤ n + length xs
opened_by-most n [] = omega arith
opened_by-most n (x ∷ xs) = omega (arith, opened-most n x, opened_by-most (opened n x) xs)

-- no more elements are open than there are items
pub open-most : (xs : List Item) (s : Position) → position_of xs ≡ Some s → open_count s ≤ length xs
open-most xs s h = omega (arith, open-position xs s h, opened_by-most 0 xs)

pub open-take : (xs : List Item) (n : ℕ) (s : Position) → position_of (take n xs) ≡ Some s
    → open_count s ≤ n
open-take xs n s h = omega (arith, open-most (take n xs) s h, length-take n xs)
