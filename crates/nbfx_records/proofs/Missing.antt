-- What is missing where some of a list are needed and one isn't found.
use Rattle.std.proofs.Common.{◌≡◌, zero, suc, ◌⊎◌, ◌↔◌, List, [], ◌∷◌, ◌++◌, Some, None, Contains}
use Rattle.std.proofs.Common.{Option, option_map, flat_map, sym, refl, ap, ◌∙◌, subst, inl, inr}
use Rattle.std.proofs.Common.{arith}
use Rattle.std.proofs.lemmas.List.{Concat.flat_map-cons, Elements.Contains-append_right}
use Rattle.std.proofs.lemmas.List.Elements.{Contains-append_cases, Contains-append_left}
use Rattle.nbfx_records.specs.{Contents.each, Meaning.with_both}

module _ {X Y : Type 0} (found : X → Option Y) where
  -- one of some isn't found
  abbrev pub Lacks : List X → Type 0
  Lacks xs = (x : X) × Contains xs x × (found x ≡ None)

  -- nothing is made exactly where one of these isn't found
  abbrev pub NoneFor : {A : Type 0} → Option A → List X → Type 0
  NoneFor o xs = (o ≡ None) ↔ Lacks xs

  pub there : {A : Type 0} (a : A) → NoneFor (Some a) []
  there a = (λ e. cc, λ h. absurd (omega (arith, h.1.1)))

  pub looked_up : (x : X) → NoneFor (found x) (x ∷ [])
  looked_up x = (λ e. (x, (0, omega arith, refl), e), λ h. only h.0 h.1 ∙ h.2)
    where
      only : (other : X) → Contains (x ∷ []) other → found x ≡ found other
      only other (zero, lt, is) = ap found is
      only other (suc k, lt, is) = absurd (omega (arith, lt))

  pub mapped_none : {A B : Type 0} (f : A → B) (o : Option A) (xs : List X) → NoneFor o xs
      → NoneFor (option_map f o) xs
  mapped_none f None xs h = (λ e. h.0 refl, λ lacks. refl)
  mapped_none f (Some a) xs h = (λ e. cc, λ lacks. let none = h.1 lacks in cc)

  left : (xs others : List X) → Lacks xs → Lacks (xs ++ others)
  left xs others h = (h.0, Contains-append_left xs others h.0 h.1, h.2)

  right : (xs others : List X) → Lacks others → Lacks (xs ++ others)
  right xs others h = (h.0, Contains-append_right xs others h.0 h.1, h.2)

  either : (xs others : List X) → Lacks (xs ++ others) → Lacks xs ⊎ Lacks others
  either xs others (x, is, none) =
      elim (Contains-append_cases xs others x is) [
        | inl here ↦ inl (x, here, none)
        | inr behind ↦ inr (x, behind, none)
      ]

  pub both_none : {A B C : Type 0} (make : A → B → C) (first : Option A) (second : Option B)
      (xs others : List X) → NoneFor first xs → NoneFor second others
      → NoneFor (with_both make first second) (xs ++ others)
  both_none make None second xs others f s = (λ e. left xs others (f.0 refl), λ lacks. refl)
  both_none make (Some a) None xs others f s = (λ e. right xs others (s.0 refl), λ lacks. refl)
  both_none make (Some a) (Some b) xs others f s = (
    λ e. cc,
    λ lacks. elim (either xs others lacks) [
      | inl here ↦ let none = f.1 here in cc
      | inr behind ↦ let none = s.1 behind in cc
    ],
  )

  pub each_none : {A B : Type 0} (f : A → Option B) (needs : A → List X)
      → ((a : A) → NoneFor (f a) (needs a)) → (as_given : List A) → NoneFor (each f as_given)
      (flat_map needs as_given)
  each_none f needs none [] = there []
  each_none f needs none (a ∷ more) =
      subst (NoneFor (each f (a ∷ more))) (sym (flat_map-cons needs a more))
      (both_none (λ b rest. b ∷ rest) (f a) (each f more) (needs a) (flat_map needs more) (none a)
      (each_none f needs none more))
