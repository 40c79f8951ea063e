-- Items that go from the front of a ring to its end, with the declarations that children need.
use Rattle.std.proofs.Common.{IfSome, List, None, Option, Some, [], ap, append_assoc, arith, drop}
use Rattle.std.proofs.Common.{length, length-drop, map, refl, suc, sym, take, zero, ℕ, ◌++◌, ◌+◌}
use Rattle.std.proofs.Common.{◌-◌, ◌<◌, ◌∙◌, ◌∷◌, ◌≡◌, ◌≤◌}
use Rattle.nbfx_values.specs.{declared.content.Item.Item, declared.content.Item.TheVariants.Close}
use Rattle.soap_envelope.specs.Body.{open_after, self_standing, turned_items, xmlns_of}
use Rattle.soap_envelope.specs.Scopes.{Declaration, declared}

-- so many items were taken from the front, and what stands for them was put behind the others
pub record IsTurned (needs : List Declaration) (items : List Item) (i : ℕ) (inner : Option ℕ)
    (ring : List Item) : Type 0 where
  pub put : List Item
  pub held : ring ≡ drop i items ++ put
  pub same : put ++ self_standing needs inner (drop i items) ≡ self_standing needs (Some 0) items
  pub few : IfSome inner (λ n. n ≤ i)

-- so many items that stand before others
pub take-before : (xs ys : List Item) (n : ℕ) → n ≡ length xs → take n (xs ++ ys) ≡ xs
take-before [] ys n h = ap (λ (k : ℕ). take k ys) h
take-before (x ∷ xs) ys zero h = absurd (omega arith)
take-before (x ∷ xs) ys (suc n) h = ap (λ l. x ∷ l) (take-before xs ys n (omega arith))

-- one item more
pub standing-step : (needs : List Declaration) (inner : Option ℕ) (item : Item) (more : List Item)
    → self_standing needs inner (item ∷ more)
    ≡ turned_items needs inner item more ++ self_standing needs (open_after inner item) more
standing-step needs None item more = refl
standing-step needs (Some inner) item more = refl

head-of : (xs : List Item) (i : ℕ) → i < length xs
    → (x : Item) × (drop i xs ≡ x ∷ drop (i + 1) xs)
head-of [] i h = absurd (omega arith)
head-of (x ∷ xs) zero h = (x, refl)
head-of (x ∷ xs) (suc i) h =
    let (y, same) = head-of xs i (omega arith) in
    let step : suc i + 1 ≡ suc (i + 1) = omega arith in
    (y, rw step same)

few-after : (inner : Option ℕ) (item : Item) (i : ℕ) → IfSome inner (λ n. n ≤ i)
    → IfSome (open_after inner item) (λ n. n ≤ i + 1)
few-after None item i h = tt
few-after (Some zero) Close i h = tt
few-after (Some (suc n)) Close i h = omega (arith, h)
few-after (Some n) item i h = omega (arith, h)

module _ (needs : List Declaration) (items : List Item) (i : ℕ) (inner : Option ℕ)
    (ring : List Item) (t : IsTurned needs items i inner ring) (count : ℕ)
    (all : count ≡ length items) (here : i < count) where
  pub turned-on : (item : Item) (left ring_then : List Item) (after : Option ℕ)
      → ring ≡ item ∷ left
      → after ≡ open_after inner item
      → ring_then ≡ left ++ turned_items needs inner item (take (count - i - 1) left)
      → IsTurned needs items (i + 1) after ring_then
  turned-on item left ring_then after popped opened put =
      let (x, first) = head-of items i (omega (arith, all, here)) in
      let more = drop (i + 1) items in
      let held : ring ≡ x ∷ (more ++ t.put) = t.held ∙ ap (λ l. l ++ t.put) first in
      let both : item ∷ left ≡ x ∷ (more ++ t.put) = sym popped ∙ held in
      let same_item : item ≡ x = cc in
      let same_left : left ≡ more ++ t.put = cc in
      let ahead : take (count - i - 1) left ≡ more =
      ap (take (count - i - 1)) same_left
      ∙ take-before more t.put (count - i - 1)
      (omega (arith, all, here, length-drop (i + 1) items)) in
      let turned = turned_items needs inner item more in
      record {
        put = t.put ++ turned;
        held = put
            ∙ ap (λ l. left ++ turned_items needs inner item l) ahead
            ∙ ap (λ l. l ++ turned) same_left
            ∙ append_assoc more t.put turned;
        same = ap (λ o. (t.put ++ turned) ++ self_standing needs o more) opened
            ∙ append_assoc t.put turned (self_standing needs (open_after inner item) more)
            ∙ ap (λ l. t.put ++ l) (sym (standing-step needs inner item more))
            ∙ ap (λ y. t.put ++ self_standing needs inner (y ∷ more)) same_item
            ∙ ap (λ l. t.put ++ self_standing needs inner l) (sym first)
            ∙ t.same;
        few = rw opened (few-after inner item i t.few);
      }

-- what items declare that stand for declarations
pub declared-again : (ds : List Declaration) → declared (map xmlns_of ds) ≡ ds
declared-again [] = refl
declared-again (d ∷ ds) = ap (λ l. d ∷ l) (declared-again ds)
