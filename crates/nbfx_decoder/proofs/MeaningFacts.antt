-- What is found of a list, one after the other.
use Rattle.std.proofs.Common.{◌≡◌, ℕ, zero, suc, ◌<◌, Bool, true, List, [], ◌∷◌, ◌++◌, length}
use Rattle.std.proofs.Common.{get_or, IsErrAnd, IsTrue, Some, None, Err, Option, Result, option_map}
use Rattle.std.proofs.Common.{option_and_then, sym, refl, ap, ◌∙◌, subst, arith}
use Rattle.std.proofs.lemmas.{Bool.and_from, Bool.and_parts, Result.err_from_is_err_and}
use Rattle.{std.specs.List.list_all, nbfx_records.specs.Contents.each}
use Rattle.nbfx_records.proofs.ValueBytes.{bound_some, mapped_some}
use Rattle.nbfx_decoder.specs.{declared.meaning.Unmeant.Unmeant, Meant.Finds}
use Rattle.nbfx_decoder.specs.declared.meaning.Unmeant.TheVariants.{Memory, UnknownString}

module _ {A B : Type 0} (f : A → Option B) where
  each_more : (xs : List A) (ys : List B) (x : A) (y : B) → each f xs ≡ Some ys → f x ≡ Some y
      → each f (xs ++ x ∷ []) ≡ Some (ys ++ y ∷ [])
  each_more [] ys x y e h =
      let none : [] ≡ ys = cc in
      ap (λ o. option_and_then (λ y. option_map (λ ys. y ∷ ys) (Some [])) o) h ∙
      ap (λ zs. Some (zs ++ y ∷ [])) none
  each_more (w ∷ xs) ys x y e h =
      let first = bound_some (λ y. option_map (λ ys. y ∷ ys) (each f xs)) (f w) ys e in
      let others = mapped_some (λ ys. first.0 ∷ ys) (each f xs) ys first.2 in
      ap (λ o. option_and_then (λ y. option_map (λ ys. y ∷ ys) (each f (xs ++ x ∷ []))) o) first.1
      ∙ ap (option_map (λ ys. first.0 ∷ ys)) (each_more xs others.0 x y others.1 h) ∙
      ap (λ zs. Some (zs ++ y ∷ [])) others.2

  bound_none : (o : Option B) (others : Option (List B)) → others ≡ None → option_and_then
      (λ y. option_map (λ ys. y ∷ ys) others) o ≡ None
  bound_none None others e = refl
  bound_none (Some y) others e = ap (option_map (λ ys. y ∷ ys)) e

  -- one that isn't there
  pub each_none : (xs : List A) (n : ℕ) (x : A) → n < length xs → x ≡ get_or xs n x → f x ≡ None
      → each f xs ≡ None
  each_none [] n x lt is e = absurd (omega arith)
  each_none (w ∷ xs) zero x lt is e =
      ap (λ o. option_and_then (λ y. option_map (λ ys. y ∷ ys) (each f xs)) o) (ap f (sym is) ∙ e)
  each_none (w ∷ xs) (suc n) x lt is e = bound_none (f w) (each f xs)
      (each_none xs n x (omega arith) is e)

pub all_more : {A : Type 0} (p : A → Bool) (xs : List A) (x : A) → list_all p xs ≡ true → p x ≡ true
    → list_all p (xs ++ x ∷ []) ≡ true
all_more p [] x all is = and_from (p x) true is refl
all_more p (w ∷ xs) x all is = let parts = and_parts (p w) (list_all p xs) all in and_from (p w)
    (list_all p (xs ++ x ∷ [])) parts.0 (all_more p xs x parts.1 is)

all_split : {A : Type 0} (p : A → Bool) (xs : List A) (x : A) → list_all p (xs ++ x ∷ []) ≡ true
    → (list_all p xs ≡ true) × (p x ≡ true)
all_split p [] x all = (refl, (and_parts (p x) true all).0)
all_split p (w ∷ xs) x all =
    let parts = and_parts (p w) (list_all p (xs ++ x ∷ [])) all in
    let others = all_split p xs x parts.1 in
    (and_from (p w) (list_all p xs) parts.0 others.0, others.1)

-- these are found of those, and pass a test where those do
pub record AreFound {A B : Type 0} (f : A → Option B) (p : A → Bool) (q : B → Bool) (xs : List A)
    (ys : List B) : Type 0 where
  pub found : each f xs ≡ Some ys
  pub valid : IsTrue (list_all p xs) → IsTrue (list_all q ys)

module _ {A B : Type 0} (f : A → Option B) (p : A → Bool) (q : B → Bool) where
  pub one_more : (xs : List A) (ys : List B) (x : A) (y : B) → AreFound f p q xs ys → f x ≡ Some y
      → (IsTrue (p x) → IsTrue (q y)) → AreFound f p q (xs ++ x ∷ []) (ys ++ y ∷ [])
  one_more xs ys x y are is passes = record {
    found = each_more f xs ys x y are.found is;
    valid = λ all. let parts = all_split p xs x all in all_more q ys y (are.valid parts.0)
        (passes parts.1);
  }

-- a fault that is handed on, where nothing is found of a part
pub handed_on : {A B : Type 0} (there : Option A) (part : Option B) (fault : Unmeant)
    (r : Result A Unmeant) → IsErrAnd r (λ y. y ≡ fault) → Finds part (Err fault)
    → (part ≡ None → there ≡ None) → Finds there r
handed_on {A} {B} there part fault r e none h =
    let p = err_from_is_err_and r e in
    subst (λ (q : Result A Unmeant). Finds there q) (ap Err (sym p.2) ∙ sym p.1) (by fault none)
  where
    by : (fault : Unmeant) → Finds part (Err fault) → Finds there (Err fault)
    by UnknownString none = h none
    by Memory none = tt
