-- What stands at a place of a document whose prefixes are resolved, and around it.
use Rattle.std.proofs.Common.{◌≡◌, ℕ, zero, suc, ◌+◌, true, ◌&&◌, List, [], ◌∷◌, drop}
use Rattle.std.proofs.Common.{if◌then◌else◌, ◌==◌, slice_get, Some, None, Option, bytes_eq, sym}
use Rattle.std.proofs.Common.{refl, ap, ◌∙◌, inl, inr, add-one, arith, eqb-true}
use Rattle.std.proofs.lemmas.Bool.{and_parts, cases_Bool}
use Rattle.nbfx_values.specs.declared.content.Item.{Item, TheVariants.Text, TheVariants.Xmlns}
use Rattle.nbfx_values.specs.declared.content.Item.TheVariants.{Array, Attr, Close, Comment, Start}
use Rattle.soap_envelope.specs.{declared.attributes.Found.Found, Children.open_behind, Names.soap}
use Rattle.soap_envelope.specs.{Bindings.scope_to, Qualified.Name}
use Rattle.soap_envelope.specs.Blocks.{found, is_soap_attribute, soap_attribute, soap_attribute_of}
use Rattle.soap_envelope.specs.Children.{children_from, children_of, is_child, is_start}
use Rattle.soap_envelope.specs.Parts.{element_name, is_some_name, name_by, wrong_name}
use Rattle.soap_envelope.specs.Resolved.{Attribute, Declares, Element, Resolved, resolved}
use Rattle.soap_envelope.specs.Resolved.{resolved_from, scope_behind}
use Rattle.soap_envelope.specs.Scopes.{around, declared, Scope, within}

to-nil : (scope : Scope) (k : ℕ) → scope_to scope k [] ≡ scope
to-nil scope zero = refl
to-nil scope (suc k) = refl

pub further : (scope : Scope) (m k : ℕ) (xs : List Item)
    → scope_to scope (m + k) xs ≡ scope_to (scope_to scope m xs) k (drop m xs)
further scope zero k xs =
    let e : zero + k ≡ k = omega arith in ap (λ n. scope_to scope n xs) e
further scope (suc m) k [] = to-nil scope (suc m + k) ∙ sym (to-nil scope k)
further scope (suc m) k (x ∷ xs) =
    let e : suc m + k ≡ suc (m + k) = omega arith in
    ap (λ n. scope_to scope n (x ∷ xs)) e ∙ further (scope_behind scope x xs) m k xs

-- the name of an element
abbrev pub named : Option Resolved → Option Name
named (Some (Element name)) = Some name
named _ = None

name-at : (scope : Scope) (k : ℕ) (xs : List Item)
    → name_by (declared (drop (suc k) xs) ∷ scope_to scope k xs) (slice_get xs k)
    ≡ named (slice_get (resolved_from scope xs) k)
name-at scope (suc k) (x ∷ xs) = name-at (scope_behind scope x xs) k xs
name-at scope zero (Close ∷ xs) = refl
name-at scope k xs = refl

-- where an element of some name, or a root that isn't wrong, begins
pub named-starts : (scope : Scope) (u l : List ℕ) (o : Option Item)
    → is_some_name u l (name_by scope o) ≡ true → is_start o ≡ true
named-starts scope u l (Some (Start p k)) h = refl
named-starts scope u l o h = absurd cc

pub root-starts : (scope : Scope) (o : Option Item) → wrong_name (name_by scope o) ≡ None
    → is_start o ≡ true
root-starts scope (Some (Start p l)) h = refl
root-starts scope o h = absurd cc

-- into an element
into : (scope : Scope) (k : ℕ) (xs : List Item) → is_start (slice_get xs k) ≡ true
    → scope_to scope (suc k) xs ≡ declared (drop (suc k) xs) ∷ scope_to scope k xs
into scope (suc k) (x ∷ xs) h = into (scope_behind scope x xs) k xs h
into scope zero (Start p l ∷ xs) h = refl
into scope k xs h = absurd cc

pub drop-resolved : (scope : Scope) (k : ℕ) (xs : List Item)
    → drop k (resolved_from scope xs) ≡ resolved_from (scope_to scope k xs) (drop k xs)
drop-resolved scope zero xs = refl
drop-resolved scope (suc k) [] = refl
drop-resolved scope (suc k) (x ∷ xs) = drop-resolved (scope_behind scope x xs) k xs

-- an attribute of SOAP's
abbrev pub attribute_in : List ℕ → ℕ → List Resolved → Option Found
attribute_in name at (Declares ∷ more) = attribute_in name (at + 1) more
attribute_in name at (Attribute own value ∷ more) =
    if bytes_eq own.local name && bytes_eq own.uri soap
    then Some (found at value)
    else attribute_in name (at + 1) more
attribute_in name at _ = None

attribute-resolved : (scope : Scope) (name : List ℕ) (at : ℕ) (xs : List Item)
    → soap_attribute scope name at xs ≡ attribute_in name at (resolved_from scope xs)
attribute-resolved scope name at (Xmlns p u ∷ xs) = attribute-resolved scope name (at + 1) xs
attribute-resolved scope name at (Attr p l v ∷ xs) =
    ap (λ o. if is_soap_attribute scope name p l then Some (found at v) else o)
    (attribute-resolved scope name (at + 1) xs)
attribute-resolved scope name at xs = refl

-- what holds of each of places
abbrev pub Each : (ℕ → Type 0) → List ℕ → Type 0
Each P [] = Unit {0}
Each P (c ∷ cs) = P c × Each P cs

pub each-map : (P Q : ℕ → Type 0) → ((c : ℕ) → P c → Q c) → (cs : List ℕ) → Each P cs → Each Q cs
each-map P Q f [] h = tt
each-map P Q f (c ∷ cs) h = (f c h.0, each-map P Q f cs h.1)

-- around so many elements
abbrev unwound : ℕ → Scope → Scope
unwound zero scope = scope
unwound (suc n) scope = unwound n (around scope)

unwinds : (n m : ℕ) (scope : Scope) (x : Item) (xs : List Item) → open_behind n x ≡ Some m
    → unwound m (scope_behind scope x xs) ≡ unwound n scope
unwinds n m scope (Start p l) xs h =
    let e : n + 1 ≡ m = cc in
    ap (λ k. unwound k (declared xs ∷ scope)) (sym e) ∙ rw add-one refl
unwinds zero m scope Close xs h = absurd cc
unwinds (suc n) m scope Close xs h =
    let e : n ≡ m = cc in ap (λ k. unwound k (around scope)) (sym e)
unwinds n m scope x xs h = let e : n ≡ m = cc in ap (λ k. unwound k scope) (sym e)

-- a child stands within its parent's declarations, so many elements around
abbrev Within : Scope → (n at : ℕ) → List Item → ℕ → Type 0
Within scope n at xs c = (k : ℕ) × (c ≡ at + k) × (scope_to scope k xs ≡ unwound n scope)

within-behind : (n : ℕ) (scope : Scope) (at : ℕ) (x : Item) (xs : List Item)
    → ((m : ℕ) → Each (Within (scope_behind scope x xs) m (at + 1) xs)
    (children_from (Some m) (at + 1) xs))
    → (o : Option ℕ) → open_behind n x ≡ o
    → Each (Within scope n at (x ∷ xs)) (children_from o (at + 1) xs)
within-behind n scope at x xs ih None h = tt
within-behind n scope at x xs ih (Some m) h =
    each-map (Within (scope_behind scope x xs) m (at + 1) xs) (Within scope n at (x ∷ xs))
    (λ c w.
    let e : (at + 1) + w.0 ≡ at + suc w.0 = omega arith in
    (suc w.0, w.1 ∙ e, w.2 ∙ unwinds n m scope x xs h))
    (children_from (Some m) (at + 1) xs) (ih m)

children-within : (n : ℕ) (scope : Scope) (at : ℕ) (xs : List Item)
    → Each (Within scope n at xs) (children_from (Some n) at xs)
children-within n scope at [] = tt
children-within n scope at (x ∷ xs) =
    let rest = within-behind n scope at x xs
    (λ m. children-within m (scope_behind scope x xs) (at + 1) xs) (open_behind n x) refl in
    elim (cases_Bool (n == 0 && is_child x)) [
      | inl is ↦
          let none : n ≡ 0 = eqb-true n 0 (and_parts (n == 0) (is_child x) is).0 in
          let here : at ≡ at + zero = omega arith in
          rw is ((zero, here, ap (λ k. unwound k scope) (sym none)), rest)
      | inr other ↦ rw other rest
    ]

module _ (items : List Item) where
  pub element-known : (c : ℕ) (outer : Scope) → scope_to [] c items ≡ outer
      → element_name items outer c ≡ named (slice_get (resolved items) c)
  element-known c outer e =
      ap (λ scope. element_name items scope c) (sym e) ∙ rw add-one (name-at [] c items)

  pub inside : (c : ℕ) (outer : Scope) → scope_to [] c items ≡ outer
      → is_start (slice_get items c) ≡ true
      → scope_to [] (c + 1) items ≡ within items c outer
  inside c outer e s =
      rw add-one
      (into [] c items s ∙ ap (λ scope. declared (drop (suc c) items) ∷ scope) e)

  pub attribute-known : (name : List ℕ) (c : ℕ) (outer : Scope) → scope_to [] c items ≡ outer
      → is_start (slice_get items c) ≡ true
      → soap_attribute_of items outer name c
      ≡ attribute_in name (c + 1) (drop (c + 1) (resolved items))
  attribute-known name c outer e s =
      attribute-resolved (within items c outer) name (c + 1) (drop (c + 1) items)
      ∙ ap (λ scope. attribute_in name (c + 1) (resolved_from scope (drop (c + 1) items)))
      (sym (inside c outer e s))
      ∙ ap (attribute_in name (c + 1)) (sym (drop-resolved [] (c + 1) items))

  pub children-stand : (p : ℕ) (outer : Scope) → scope_to [] p items ≡ outer
      → is_start (slice_get items p) ≡ true
      → Each (λ c. scope_to [] c items ≡ within items p outer) (children_of items p)
  children-stand p outer e s =
      let own = scope_to [] (p + 1) items in
      each-map (Within own 0 (p + 1) (drop (p + 1) items))
      (λ c. scope_to [] c items ≡ within items p outer)
      (λ c w. ap (λ k. scope_to [] k items) w.1 ∙ further [] (p + 1) w.0 items ∙ w.2
      ∙ inside p outer e s)
      (children_of items p) (children-within 0 own (p + 1) (drop (p + 1) items))
