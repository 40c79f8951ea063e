-- Lists of items that close what they open, and nothing else.
use Rattle.std.proofs.Common.{Bool, List, None, Option, Some, [], ap, arith, false, if◌then◌else◌}
use Rattle.std.proofs.Common.{length, refl, suc, sym, true, zero, ℕ, ◌++◌, ◌+◌, ◌∙◌, ◌∷◌, ◌≡◌}
use Rattle.std.proofs.Math.Dec.{eqb-suc-zero}
use Rattle.nbfx_values.proofs.Positions.{passed, position_from-none}
use Rattle.nbfx_values.specs.declared.content.Item.TheVariants.{Attr, Close, Start, Xmlns}
use Rattle.nbfx_values.specs.declared.position.Position.TheVariants.{After, Within}
use Rattle.nbfx_values.specs.{Items.is_valid_item, Positions.position_from}
use Rattle.nbfx_values.specs.{declared.content.Item.Item, declared.position.Position.Position}
use Rattle.soap_envelope.specs.Body.{self_standing, standing_items}
use Rattle.soap_envelope.specs.Children.{children_from, close_from, open_behind}
use Rattle.soap_envelope.specs.Scopes.{declaration, declared}

-- how many elements are open after items, where so many are before them, if none of these ends
-- more than they begin
abbrev pub nested : Option ℕ → List Item → Option ℕ
nested None items = None
nested (Some n) [] = Some n
nested (Some n) (item ∷ more) = nested (open_behind n item) more

-- an item that may not stand where it does leads nowhere
pub nowhere : (x : Item) (xs : List Item) (s : Position)
    → position_from (if is_valid_item x then None else None) xs ≡ Some s → ⊥
nowhere x xs s h =
    let e : None ≡ Some s =
    sym (position_from-none xs) ∙ (passed (is_valid_item x) None xs s h).1 in
    cc

pub ended : (xs : List Item) (m : ℕ) (b : Bool)
    → position_from (Some After) xs ≡ Some (Within m b) → ⊥
ended [] m b h = cc
ended (x ∷ xs) m b h = nowhere x xs (Within m b) h

-- what leads on within an element is nested so
pub leads-nested : (xs : List Item) (n m : ℕ) (a b : Bool)
    → position_from (Some (Within n a)) xs ≡ Some (Within m b) → nested (Some n) xs ≡ Some m
leads-nested [] n m a b h = cc
leads-nested (Start p l ∷ xs) n m a b h =
    let q = passed (is_valid_item (Start p l)) (Some (Within (suc n) true)) xs (Within m b) h in
    ap (λ k. nested (Some k) xs) (omega arith) ∙ leads-nested xs (suc n) m true b q.1
leads-nested (Xmlns p u ∷ xs) n m true b h =
    leads-nested xs n m true b
    (passed (is_valid_item (Xmlns p u)) (Some (Within n true)) xs (Within m b) h).1
leads-nested (Xmlns p u ∷ xs) n m false b h = absurd (nowhere (Xmlns p u) xs (Within m b) h)
leads-nested (Attr p l v ∷ xs) n m true b h =
    leads-nested xs n m true b
    (passed (is_valid_item (Attr p l v)) (Some (Within n true)) xs (Within m b) h).1
leads-nested (Attr p l v ∷ xs) n m false b h = absurd (nowhere (Attr p l v) xs (Within m b) h)
leads-nested (Close ∷ xs) (suc n) m a b h = leads-nested xs n m false b h
leads-nested (Close ∷ xs) zero m a b h = absurd (ended xs m b h)
leads-nested (x ∷ xs) n m a b h =
    leads-nested xs n m false b
    (passed (is_valid_item x) (Some (Within n false)) xs (Within m b) h).1

pub nested-append : (o : Option ℕ) (xs ys : List Item)
    → nested o (xs ++ ys) ≡ nested (nested o xs) ys
nested-append None xs ys = refl
nested-append (Some n) [] ys = refl
nested-append (Some n) (x ∷ xs) ys = nested-append (open_behind n x) xs ys

-- an item one element deeper
deeper : (item : Item) (n k : ℕ) → open_behind n item ≡ Some k
    → open_behind (suc n) item ≡ Some (suc k)
deeper (Start p l) n k h = let e : n + 1 ≡ k = cc in ap (λ i. Some i) (omega (arith, e))
deeper Close zero k h = absurd cc
deeper Close (suc n) k h = let e : n ≡ k = cc in ap (λ i. Some (suc i)) e
deeper item n k h = let e : n ≡ k = cc in ap (λ i. Some (suc i)) e

-- the first item of nested ones goes on
record GoesOn (n : ℕ) (item : Item) (xs : List Item) (m : ℕ) : Type 0 where
  inner : ℕ
  inner_is : open_behind n item ≡ Some inner
  rest : nested (Some inner) xs ≡ Some m

goes-on : (n : ℕ) (item : Item) (xs : List Item) (m : ℕ) → nested (Some n) (item ∷ xs) ≡ Some m
    → GoesOn n item xs m
goes-on n item xs m h = by (open_behind n item) refl h
  where
    by : (o : Option ℕ) → open_behind n item ≡ o → nested o xs ≡ Some m → GoesOn n item xs m
    by None e h = absurd cc
    by (Some k) e h = record { inner = k; inner_is = e; rest = h }

-- what is nested in an element has none of its children
pub children-inside : (xs ys : List Item) (n m at : ℕ) → nested (Some n) xs ≡ Some m
    → children_from (Some (suc n)) at (xs ++ ys)
    ≡ children_from (Some (suc m)) (at + length xs) ys
children-inside [] ys n m at h =
    let e : n ≡ m = cc in
    ap (λ k. children_from (Some (suc k)) at ys) e
    ∙ ap (λ k. children_from (Some (suc m)) k ys) (omega arith)
children-inside (x ∷ xs) ys n m at h =
    let g = goes-on n x xs m h in
    rw (eqb-suc-zero n, deeper x n g.inner g.inner_is)
    (children-inside xs ys g.inner m (at + 1) g.rest
    ∙ ap (λ k. children_from (Some (suc m)) k ys) (omega arith))

-- nor its end
pub close-inside : (xs ys : List Item) (n m at : ℕ) → nested (Some n) xs ≡ Some m
    → close_from n at (xs ++ ys) ≡ close_from m (at + length xs) ys
close-inside [] ys n m at h =
    let e : n ≡ m = cc in
    ap (λ k. close_from k at ys) e ∙ ap (λ k. close_from m k ys) (omega arith)
close-inside (x ∷ xs) ys n m at h =
    let g = goes-on n x xs m h in
    rw g.inner_is
    (close-inside xs ys g.inner m (at + 1) g.rest ∙ ap (λ k. close_from m k ys) (omega arith))

-- what needs no declarations stays as it is
pub standing-inside : (xs ys : List Item) (n m : ℕ) → nested (Some n) xs ≡ Some m
    → self_standing [] (Some n) (xs ++ ys) ≡ xs ++ self_standing [] (Some m) ys
standing-inside [] ys n m h = let e : n ≡ m = cc in ap (λ k. self_standing [] (Some k) ys) e
standing-inside (x ∷ xs) ys n m h =
    let g = goes-on n x xs m h in
    rw g.inner_is
    (ap (λ l. l ++ self_standing [] (Some g.inner) (xs ++ ys)) (as_it_is n x (xs ++ ys))
    ∙ ap (λ l. x ∷ l) (standing-inside xs ys g.inner m g.rest))
  where
    as_it_is : (n : ℕ) (item : Item) (more : List Item)
        → standing_items [] n item more ≡ item ∷ []
    as_it_is zero Close more = refl
    as_it_is zero item more = refl
    as_it_is (suc n) item more = rw (eqb-suc-zero n) refl

-- the declarations at the head of items are the same where an end comes after them
pub declared-inside : (xs ys : List Item) → declared (xs ++ Close ∷ ys) ≡ declared xs
declared-inside (Xmlns p u ∷ xs) ys =
    ap (λ l. declaration p u ∷ l) (declared-inside xs ys)
declared-inside (Attr p l v ∷ xs) ys = declared-inside xs ys
declared-inside xs ys = refl
