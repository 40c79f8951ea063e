-- What other prefixes for the same namespaces leave as it is.
use Rattle.std.proofs.Common.{◌≡◌, ℕ, ◌+◌, Bool, true, false, not, ◌&&◌, List, [], ◌∷◌, ◌++◌, map}
use Rattle.std.proofs.Common.{length, is_some, if◌then◌else◌, ◌==◌, Some, None, codes, bytes_eq}
use Rattle.std.proofs.Common.{unwrap_or, sym, refl, ap, ◌∙◌}
use Rattle.std.{proofs.Math.Dec.eqb-suc-zero, specs.Option.option_or}
use Rattle.std.proofs.lemmas.{List.map-append, Slice.Eq.bytes_eq-Decides}
use Rattle.nbfx_values.specs.declared.content.ArrayItem.{ArrayItem}
use Rattle.nbfx_values.specs.declared.content.AttrItem.{AttrItem, TheVariants.Attr as AttrOn}
use Rattle.nbfx_values.specs.declared.content.AttrItem.TheVariants.{Xmlns as DeclaresOn}
use Rattle.nbfx_values.specs.declared.content.Item.{Item, TheVariants.Text, TheVariants.Xmlns}
use Rattle.nbfx_values.specs.declared.content.Item.TheVariants.{Array, Attr, Close, Comment, Start}
use Rattle.soap_envelope.specs.BadNames.{are_good, bad_attribute, bad_in_head, first_bad_name}
use Rattle.soap_envelope.specs.{BadNames.is_good_array, Laws.PrefixesAreFree, Renaming.renamed_part}
use Rattle.soap_envelope.specs.Names.{qualified_name, xml_namespace}
use Rattle.soap_envelope.specs.Renaming.{IsRenaming, renamed, renamed_array, renamed_item}
use Rattle.soap_envelope.specs.Resolved.{Arrays, Attribute, attributes_on, Element, resolved_from}
use Rattle.soap_envelope.specs.Resolved.{resolved_item, scope_behind}
use Rattle.soap_envelope.specs.Scopes.{around, attribute_uri, Declaration, declaration, declared}
use Rattle.soap_envelope.specs.Scopes.{declared_on, element_uri, is_bound, Scope, undeclared_uri}
use Rattle.soap_envelope.specs.Scopes.{uri_in, uri_of}
use Rattle.soap_envelope.proofs.ResolvedViews.{names_are_all}

module _ (f : List ℕ → List ℕ) (r : IsRenaming f) where
  abbrev layer : List Declaration → List Declaration
  layer ds = map (λ (d : Declaration). declaration (f d.prefix) d.uri) ds

  abbrev scopes : Scope → Scope
  scopes outer = map layer outer

  same-prefix : (p q : List ℕ) → bytes_eq (f p) (f q) ≡ bytes_eq p q
  same-prefix p q = by (bytes_eq (f p) (f q)) (bytes_eq p q) refl refl
    where
      by : (b c : Bool) → bytes_eq (f p) (f q) ≡ b → bytes_eq p q ≡ c → b ≡ c
      by true true g h = refl
      by false false g h = refl
      by true false g h =
          absurd (let e : bytes_eq p q ≡ true =
          (bytes_eq-Decides p q).1 (r.apart p q ((bytes_eq-Decides (f p) (f q)).0 g)) in cc)
      by false true g h =
          absurd (let e : bytes_eq (f p) (f q) ≡ true =
          (bytes_eq-Decides (f p) (f q)).1 (ap f ((bytes_eq-Decides p q).0 h)) in cc)

  uri-in : (ds : List Declaration) (p : List ℕ) → uri_in (layer ds) (f p) ≡ uri_in ds p
  uri-in [] p = refl
  uri-in (d ∷ ds) p =
      rw (same-prefix d.prefix p)
      (ap (λ o. if bytes_eq d.prefix p then Some d.uri else o) (uri-in ds p))

  some-prefix : (c : ℕ) (p q : List ℕ) → f (c ∷ p) ≡ q → undeclared_uri q ≡ undeclared_uri (c ∷ p)
  some-prefix c p [] e =
      absurd (let none : c ∷ p ≡ [] = r.apart (c ∷ p) [] (e ∙ sym r.none) in cc)
  some-prefix c p (d ∷ q) e =
      let xml : bytes_eq (d ∷ q) (codes "xml") ≡ bytes_eq (c ∷ p) (codes "xml") =
      ap (λ l. bytes_eq l (codes "xml")) (sym e) ∙ ap (bytes_eq (f (c ∷ p))) (sym r.xml)
      ∙ same-prefix (c ∷ p) (codes "xml") in
      ap (λ (b : Bool). if b then Some xml_namespace else None) xml

  undeclared : (p : List ℕ) → undeclared_uri (f p) ≡ undeclared_uri p
  undeclared [] = ap undeclared_uri r.none
  undeclared (c ∷ p) = some-prefix c p (f (c ∷ p)) refl

  uri : (scope : Scope) (p : List ℕ) → uri_of (scopes scope) (f p) ≡ uri_of scope p
  uri [] p = undeclared p
  uri (ds ∷ outer) p = rw (uri-in ds p) (ap (option_or (uri_in ds p)) (uri outer p))

  bound : (scope : Scope) (p : List ℕ) → is_bound (scopes scope) (f p) ≡ is_bound scope p
  bound scope p = ap is_some (uri scope p)

  of-element : (scope : Scope) (p : List ℕ) → element_uri (scopes scope) (f p) ≡ element_uri scope p
  of-element scope p = ap (λ o. unwrap_or o []) (uri scope p)

  empty : (p : List ℕ) → (length (f p) == 0) ≡ (length p == 0)
  empty [] = ap (λ l. length l == 0) r.none
  empty (c ∷ p) = by (f (c ∷ p)) refl
    where
      by : (q : List ℕ) → f (c ∷ p) ≡ q → (length q == 0) ≡ (length (c ∷ p) == 0)
      by [] e = absurd (let none : c ∷ p ≡ [] = r.apart (c ∷ p) [] (e ∙ sym r.none) in cc)
      by (d ∷ q) e = eqb-suc-zero (length q) ∙ sym (eqb-suc-zero (length p))

  of-attribute : (scope : Scope) (p : List ℕ)
      → attribute_uri (scopes scope) (f p) ≡ attribute_uri scope p
  of-attribute scope p =
      rw (empty p) (ap (λ u. if length p == 0 then [] else u) (of-element scope p))

  declares : (xs : List Item) → declared (renamed f xs) ≡ layer (declared xs)
  declares (Xmlns p u ∷ xs) = ap (λ ds. declaration (f p) u ∷ ds) (declares xs)
  declares (Attr p l v ∷ xs) = declares xs
  declares xs = refl

  declares-on : (xs : List AttrItem)
      → declared_on (map (renamed_part f) xs) ≡ layer (declared_on xs)
  declares-on [] = refl
  declares-on (DeclaresOn p u ∷ xs) = ap (λ ds. declaration (f p) u ∷ ds) (declares-on xs)
  declares-on (AttrOn p l v ∷ xs) = declares-on xs

  around-same : (scope : Scope) → around (scopes scope) ≡ scopes (around scope)
  around-same [] = refl
  around-same (ds ∷ outer) = refl

  one-more : (before : List Declaration) (p u : List ℕ)
      → layer before ++ declaration (f p) u ∷ [] ≡ layer (before ++ declaration p u ∷ [])
  one-more before p u = sym (map-append (λ (d : Declaration). declaration (f d.prefix) d.uri) before
      (declaration p u ∷ []))

  attribute-names : (scope : Scope) (before : List Declaration) (at : ℕ) (xs : List Item)
      → bad_attribute (scopes scope) (layer before) at (renamed f xs)
      ≡ bad_attribute scope before at xs
  attribute-names scope before at (Xmlns p u ∷ xs) =
      rw (uri-in before p, one-more before p u)
      (ap (λ o. if is_some (uri_in before p) then Some at else o)
      (attribute-names scope (before ++ declaration p u ∷ []) (at + 1) xs))
  attribute-names scope before at (Attr p l v ∷ xs) =
      rw (bound scope p)
      (ap (λ o. if is_bound scope p then o else Some at) (attribute-names scope before (at + 1) xs))
  attribute-names scope before at xs = refl

  part-names : (scope : Scope) (before : List Declaration) (xs : List AttrItem)
      → are_good (scopes scope) (layer before) (map (renamed_part f) xs) ≡ are_good scope before xs
  part-names scope before [] = refl
  part-names scope before (DeclaresOn p u ∷ xs) =
      rw (uri-in before p, one-more before p u)
      (ap (λ b. not (is_some (uri_in before p)) && b)
      (part-names scope (before ++ declaration p u ∷ []) xs))
  part-names scope before (AttrOn p l v ∷ xs) =
      rw (bound scope p) (ap (λ b. is_bound scope p && b) (part-names scope before xs))

  array-names : (scope : Scope) (a : ArrayItem)
      → is_good_array (scopes scope) (renamed_array f a) ≡ is_good_array scope a
  array-names scope a =
      ap (λ ds. is_bound (ds ∷ scopes scope) (f a.prefix)
      && are_good (ds ∷ scopes scope) [] (map (renamed_part f) a.attrs)) (declares-on a.attrs)
      ∙ ap (λ b. b
      && are_good (scopes (declared_on a.attrs ∷ scope)) [] (map (renamed_part f) a.attrs))
      (bound (declared_on a.attrs ∷ scope) a.prefix)
      ∙ ap (λ b. is_bound (declared_on a.attrs ∷ scope) a.prefix && b)
      (part-names (declared_on a.attrs ∷ scope) [] a.attrs)

  head-names : (scope : Scope) (p : List ℕ) (at : ℕ) (xs : List Item)
      → bad_in_head (scopes scope) (f p) at (renamed f xs) ≡ bad_in_head scope p at xs
  head-names scope p at xs =
      rw (bound scope p)
      (ap (λ o. if is_bound scope p then o else Some at) (attribute-names scope [] (at + 1) xs))

  names : (scope : Scope) (at : ℕ) (xs : List Item)
      → first_bad_name (scopes scope) at (renamed f xs) ≡ first_bad_name scope at xs
  names scope at [] = refl
  names scope at (Start p l ∷ xs) =
      ap (λ ds. option_or (bad_in_head (ds ∷ scopes scope) (f p) at (renamed f xs))
      (first_bad_name (ds ∷ scopes scope) (at + 1) (renamed f xs))) (declares xs)
      ∙ ap (λ o. option_or o
      (first_bad_name (scopes (declared xs ∷ scope)) (at + 1) (renamed f xs)))
      (head-names (declared xs ∷ scope) p at xs)
      ∙ ap (option_or (bad_in_head (declared xs ∷ scope) p at xs))
      (names (declared xs ∷ scope) (at + 1) xs)
  names scope at (Array a ∷ xs) =
      rw (array-names scope a)
      (ap (λ o. if is_good_array scope a then o else Some at) (names scope (at + 1) xs))
  names scope at (Close ∷ xs) =
      ap (λ outer. first_bad_name outer (at + 1) (renamed f xs)) (around-same scope)
      ∙ names (around scope) (at + 1) xs
  names scope at (x ∷ xs) = names scope (at + 1) xs

  parts-say : (scope : Scope) (xs : List AttrItem)
      → attributes_on (scopes scope) (map (renamed_part f) xs) ≡ attributes_on scope xs
  parts-say scope [] = refl
  parts-say scope (DeclaresOn p u ∷ xs) = parts-say scope xs
  parts-say scope (AttrOn p l v ∷ xs) =
      ap (λ (u : List ℕ). (qualified_name u l, v)
      ∷ attributes_on (scopes scope) (map (renamed_part f) xs)) (of-attribute scope p)
      ∙ ap (λ attributes. (qualified_name (attribute_uri scope p) l, v) ∷ attributes)
      (parts-say scope xs)

  says : (scope : Scope) (x : Item) (xs : List Item)
      → resolved_item (scopes scope) (renamed_item f x) (renamed f xs) ≡ resolved_item scope x xs
  says scope (Start p l) xs =
      ap (λ ds. Element (qualified_name (element_uri (ds ∷ scopes scope) (f p)) l)) (declares xs)
      ∙ ap (λ (u : List ℕ). Element (qualified_name u l)) (of-element (declared xs ∷ scope) p)
  says scope (Attr p l v) xs =
      ap (λ (u : List ℕ). Attribute (qualified_name u l) v) (of-attribute scope p)
  says scope (Array a) xs =
      ap (λ ds. Arrays (qualified_name (element_uri (ds ∷ scopes scope) (f a.prefix)) a.local)
      (attributes_on (ds ∷ scopes scope) (map (renamed_part f) a.attrs)) a.kind a.values)
      (declares-on a.attrs)
      ∙ ap (λ (u : List ℕ). Arrays (qualified_name u a.local)
      (attributes_on (scopes (declared_on a.attrs ∷ scope)) (map (renamed_part f) a.attrs)) a.kind
      a.values) (of-element (declared_on a.attrs ∷ scope) a.prefix)
      ∙ ap (λ attributes. Arrays
      (qualified_name (element_uri (declared_on a.attrs ∷ scope) a.prefix) a.local) attributes
      a.kind a.values) (parts-say (declared_on a.attrs ∷ scope) a.attrs)
  says scope x xs = refl

  behind : (scope : Scope) (x : Item) (xs : List Item)
      → scope_behind (scopes scope) (renamed_item f x) (renamed f xs)
      ≡ scopes (scope_behind scope x xs)
  behind scope (Start p l) xs = ap (λ ds. ds ∷ scopes scope) (declares xs)
  behind scope Close xs = around-same scope
  behind scope x xs = refl

  all-says : (scope : Scope) (xs : List Item)
      → resolved_from (scopes scope) (renamed f xs) ≡ resolved_from scope xs
  all-says scope [] = refl
  all-says scope (x ∷ xs) =
      ap (λ s. s ∷ resolved_from (scope_behind (scopes scope) (renamed_item f x) (renamed f xs))
      (renamed f xs)) (says scope x xs)
      ∙ ap (λ outer. resolved_item scope x xs ∷ resolved_from outer (renamed f xs))
      (behind scope x xs)
      ∙ ap (λ l. resolved_item scope x xs ∷ l) (all-says (scope_behind scope x xs) xs)

pub prefixes_are_free : PrefixesAreFree
prefixes_are_free f items r =
    names_are_all (renamed f items) items (names f r [] 0 items) (all-says f r [] items)
