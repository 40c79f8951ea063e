-- Where the content of an element begins among the items of its document.
use Rattle.std.proofs.Common.{◌≡◌, ℕ, zero, suc, ◌+◌, ◌-◌, ◌≤◌, List, [], ◌∷◌, length, drop, sym}
use Rattle.std.proofs.Common.{refl, ap, ◌∙◌, arith, length-drop}
use Rattle.{std.proofs.Math.Seq.drop-nil, soap_envelope.specs.Body.behind_head}
use Rattle.nbfx_values.specs.declared.content.Item.{Item, TheVariants.Attr, TheVariants.Xmlns}

-- behind the attributes at the head of items
past_head : (xs : List Item) → (k : ℕ) × (behind_head xs ≡ drop k xs)
past_head (Xmlns p u ∷ xs) = let (k, same) = past_head xs in (suc k, same)
past_head (Attr p l v ∷ xs) = let (k, same) = past_head xs in (suc k, same)
past_head xs = (0, refl)

past_both : (m : ℕ) (xs : List Item) → (k : ℕ) × (behind_head (drop m xs) ≡ drop k xs)
past_both zero xs = past_head xs
past_both (suc m) [] = (0, ap behind_head (drop-nil (suc m)))
past_both (suc m) (x ∷ xs) = let (k, same) = past_both m xs in (suc k, same)

-- as many items from the end
from_end : {X : Type 0} (xs : List X) (k : ℕ) → drop (length xs - length (drop k xs)) xs ≡ drop k xs
from_end {X} [] k = drop-nil (0 - length {A = X} (drop k [])) ∙ sym (drop-nil k)
from_end (x ∷ xs) zero =
    let none : length (x ∷ xs) - length (x ∷ xs) ≡ 0 = omega arith in
    ap (λ n. drop n (x ∷ xs)) none
from_end (x ∷ xs) (suc k) =
    let left = length (drop k xs) in
    let later : length (x ∷ xs) - left ≡ suc (length xs - left) = omega (arith, length-drop k xs) in
    ap (λ n. drop n (x ∷ xs)) later ∙ from_end xs k

module _ (items content : List Item) (at : ℕ)
    (is : content ≡ behind_head (drop (at + 1) items)) where
  pub content-from_end : drop (length items - length content) items ≡ content
  content-from_end =
      let (k, same) = past_both (at + 1) items in
      let here = is ∙ same in
      rw here (from_end items k)

  pub content-shorter : length content ≤ length items
  content-shorter =
      let (k, same) = past_both (at + 1) items in
      let here = ap length (is ∙ same) in
      omega (arith, here, length-drop k items)
