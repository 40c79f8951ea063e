-- The content of a view's Body in any reply: its names are good there, and are the same.
use Rattle.std.proofs.Common.{Bool, List, None, Some, [], ap, append-nil, append_assoc, arith}
use Rattle.std.proofs.Common.{bytes_eq, false, if◌then◌else◌, inl, inr, is_some, length, map, not}
use Rattle.std.proofs.Common.{refl, suc, sym, true, unwrap_or, zero, ℕ, ◌++◌, ◌+◌, ◌==◌, ◌||◌, ◌∙◌}
use Rattle.std.proofs.{Common.◌∷◌, Common.◌≡◌, Math.Dec.eqb-suc-zero, lemmas.Bool.and_parts}
use Rattle.std.proofs.{lemmas.Bool.cases_Bool, lemmas.Slice.Eq.bytes_eq-Decides}
use Rattle.nbfx_values.specs.declared.content.AttrItem.TheVariants.{Attr as AttrOn}
use Rattle.nbfx_values.specs.declared.content.AttrItem.TheVariants.{Xmlns as DeclaresOn}
use Rattle.nbfx_values.specs.declared.content.Item.TheVariants.{Array, Attr, Close, Start, Xmlns}
use Rattle.nbfx_values.specs.{declared.content.ArrayItem.ArrayItem}
use Rattle.nbfx_values.specs.{declared.content.AttrItem.AttrItem, declared.content.Item.Item}
use Rattle.soap_envelope.proofs.Apart.{apart-filter, apart-parts, are_apart, has, has-append}
use Rattle.soap_envelope.proofs.GoodNames.{good-attributes, good_attributes, good_head, good_names}
use Rattle.soap_envelope.proofs.InScope.{Means, Reached, means-child, means-deeper, missing-lacks}
use Rattle.soap_envelope.proofs.Apart.{has-cons, in_scope-apart, refuted}
use Rattle.soap_envelope.specs.BadNames.{are_good, first_bad_name, is_good_array}
use Rattle.soap_envelope.specs.Body.{attribute_of, child_items, in_scope, is_missing, is_usual}
use Rattle.soap_envelope.specs.Body.{missing, needed, self_standing, standing_items, xmlns_of}
use Rattle.soap_envelope.specs.Resolved.{Attribute, Element, Ends, attributes_on, content_from}
use Rattle.soap_envelope.specs.Scopes.{Declaration, Scope, around, attribute_uri, declaration}
use Rattle.soap_envelope.specs.Scopes.{declared, declared_on, element_uri, is_bound, uri_in}
use Rattle.soap_envelope.specs.{Made.reply_scope, Names.qualified_name, Resolved.resolved_from}
use Rattle.soap_envelope.specs.{Resolved.resolved_item, declared.versions.Addressing.Addressing}

or-first : (a b : Bool) → a ≡ true → (a || b) ≡ true
or-first a b h = rw h refl

or-second : (a b : Bool) → b ≡ true → (a || b) ≡ true
or-second true b h = refl
or-second false b h = h

has-own : (d : Declaration) (ds : List Declaration) → has (d ∷ ds) d.prefix ≡ true
has-own d ds =
    has-cons d ds d.prefix
    ∙ or-first _ (has ds d.prefix) ((bytes_eq-Decides d.prefix d.prefix).1 refl)

has-more : (d : Declaration) (ds : List Declaration) (q : List ℕ) → has ds q ≡ true
    → has (d ∷ ds) q ≡ true
has-more d ds q h = has-cons d ds q ∙ or-second (bytes_eq d.prefix q) (has ds q) h

-- names in a scope where bound prefixes mean the same
still-bound : (scope other : Scope) → Means scope other → (p : List ℕ) → is_bound scope p ≡ true
    → is_bound other p ≡ true
still-bound scope other m p b = ap is_some (m p b) ∙ b

of-element : (scope other : Scope) → Means scope other → (p : List ℕ) → is_bound scope p ≡ true
    → element_uri other p ≡ element_uri scope p
of-element scope other m p b = ap (λ o. unwrap_or o []) (m p b)

of-attribute : (scope other : Scope) → Means scope other → (p : List ℕ) → is_bound scope p ≡ true
    → attribute_uri other p ≡ attribute_uri scope p
of-attribute scope other m p b =
    ap (λ (u : List ℕ). if length p == 0 then [] else u) (of-element scope other m p b)

-- one of another prefix than those behind it has none of theirs
single : (d : Declaration) (ds : List Declaration) (q : List ℕ) → has ds q ≡ true
    → has ds d.prefix ≡ false → has (d ∷ []) q ≡ false
single d ds q among apart = elim (cases_Bool (bytes_eq d.prefix q)) [
  | inl is ↦
      let same : d.prefix ≡ q = (bytes_eq-Decides d.prefix q).0 is in
      let wrong : true ≡ false = sym among ∙ ap (has ds) (sym same) ∙ apart in absurd cc
  | inr other ↦ rw other refl
]

-- declarations that are put in front of others
module _ (scope : Scope) where
  put-front : (before ds : List Declaration) (rest : List Item)
      → ((q : List ℕ) → has ds q ≡ true → has before q ≡ false) → are_apart ds ≡ true
      → good_attributes scope (before ++ ds) rest ≡ true
      → good_attributes scope before (map xmlns_of ds ++ rest) ≡ true
  put-front before [] rest f a h = rw (← append-nil before) h
  put-front before (d ∷ ds) rest f a h =
      let parts = apart-parts d ds a in
      rw (f d.prefix (has-own d ds))
      (put-front (before ++ d ∷ []) ds rest
      (λ q among. has-append before (d ∷ []) q ∙
      rw (f q (has-more d ds q among))
      (single d ds q among parts.0))
      parts.1 (rw (append_assoc before (d ∷ []) ds) h))

  put-front-on : (before ds : List Declaration) (rest : List AttrItem)
      → ((q : List ℕ) → has ds q ≡ true → has before q ≡ false) → are_apart ds ≡ true
      → are_good scope (before ++ ds) rest ≡ true
      → are_good scope before (map attribute_of ds ++ rest) ≡ true
  put-front-on before [] rest f a h = rw (← append-nil before) h
  put-front-on before (d ∷ ds) rest f a h =
      let parts = apart-parts d ds a in
      rw (f d.prefix (has-own d ds))
      (put-front-on (before ++ d ∷ []) ds rest
      (λ q among. has-append before (d ∷ []) q ∙
      rw (f q (has-more d ds q among))
      (single d ds q among parts.0))
      parts.1 (rw (append_assoc before (d ∷ []) ds) h))

-- no name of items is bad, wherever they begin
abbrev NoneBad : Scope → List Item → Type 0
NoneBad scope items = (at : ℕ) → first_bad_name scope at items ≡ None

-- what is declared behind declarations that are put in front
front-declared : (ds : List Declaration) (rest : List Item)
    → declared (map xmlns_of ds ++ rest) ≡ ds ++ declared rest
front-declared [] rest = refl
front-declared (d ∷ ds) rest = ap (λ l. d ∷ l) (front-declared ds rest)

front-declared-on : (ds : List Declaration) (rest : List AttrItem)
    → declared_on (map attribute_of ds ++ rest) ≡ ds ++ declared_on rest
front-declared-on [] rest = refl
front-declared-on (d ∷ ds) rest = ap (λ l. d ∷ l) (front-declared-on ds rest)

front-names : (scope : Scope) (ds : List Declaration) (rest : List Item) → NoneBad scope rest
    → NoneBad scope (map xmlns_of ds ++ rest)
front-names scope [] rest h at = h at
front-names scope (d ∷ ds) rest h at = front-names scope ds rest h (at + 1)

front-on : (scope : Scope) (ds : List Declaration) (xs : List AttrItem)
    → attributes_on scope (map attribute_of ds ++ xs) ≡ attributes_on scope xs
front-on scope [] xs = refl
front-on scope (d ∷ ds) xs = front-on scope ds xs

front-gone : (inner : ℕ) (scope : Scope) (ds : List Declaration) (xs : List Item)
    → content_from inner (resolved_from scope (map xmlns_of ds ++ xs))
    ≡ content_from inner (resolved_from scope xs)
front-gone inner scope [] xs = refl
front-gone inner scope (d ∷ ds) xs = front-gone inner scope ds xs

-- the attributes of an array's element keep good names behind other declarations, and say the same
on-stands : (front : List Declaration) (scope other : Scope) → Means scope other
    → (before : List Declaration) (xs : List AttrItem)
    → ((q : List ℕ) → has (declared_on xs) q ≡ true → has front q ≡ false)
    → are_good scope before xs ≡ true
    → (are_good other (front ++ before) xs ≡ true)
    × (attributes_on other xs ≡ attributes_on scope xs)
on-stands front scope other m before [] lacks h = (refl, refl)
on-stands front scope other m before (DeclaresOn p u ∷ xs) lacks h =
    let d = declaration p u in
    let r = refuted (is_some (uri_in before p)) (are_good scope (before ++ d ∷ []) xs) h in
    let fresh : has (front ++ before) p ≡ false =
    has-append front before p ∙ rw (lacks p (has-own d (declared_on xs))) r.0 in
    let rest = on-stands front scope other m (before ++ d ∷ []) xs
    (λ q k. lacks q (has-more d (declared_on xs) q k)) r.1 in
    (rw (fresh, append_assoc front before (d ∷ [])) rest.0, rest.1)
on-stands front scope other m before (AttrOn p l v ∷ xs) lacks h =
    let r = and_parts (is_bound scope p) (are_good scope before xs) h in
    let rest = on-stands front scope other m before xs lacks r.1 in (
      rw (still-bound scope other m p r.0) rest.0,
      ap (λ (u : List ℕ). (qualified_name u l, v) ∷ attributes_on other xs)
          (of-attribute scope other m p r.0)
          ∙ ap (λ says. (qualified_name (attribute_uri scope p) l, v) ∷ says) rest.1,
    )

-- so does an array with declarations in front of its attributes
abbrev with_front : List Declaration → ArrayItem → ArrayItem
with_front front a = record a { attrs = map attribute_of front ++ a.attrs }

array-stands : (front : List Declaration) (scope other : Scope) (a : ArrayItem)
    → are_apart front ≡ true
    → ((q : List ℕ) → has (declared_on a.attrs) q ≡ true → has front q ≡ false)
    → Means (declared_on a.attrs ∷ scope) ((front ++ declared_on a.attrs) ∷ other)
    → is_good_array scope a ≡ true → (is_good_array other (with_front front a) ≡ true)
    × ((more : List Item) → resolved_item other (Array (with_front front a)) more
    ≡ resolved_item scope (Array a) more)
array-stands front scope other a apart lacks m h =
    let own = declared_on a.attrs in
    let inner = own ∷ scope in
    let outer = (front ++ own) ∷ other in
    let r = and_parts (is_bound inner a.prefix) (are_good inner [] a.attrs) h in
    let stand = on-stands front inner outer m [] a.attrs lacks r.1 in
    let declares = front-declared-on front a.attrs in (
      rw (declares, still-bound inner outer m a.prefix r.0)
          (put-front-on outer [] front a.attrs (λ q k. refl) apart (rw append-nil at stand.0)),
      λ more. rw (
        declares,
        of-element inner outer m a.prefix r.0,
        front-on outer front a.attrs,
        stand.1,
      ) refl,
    )

module _ (needs : List Declaration) where
  deep-item : (n : ℕ) (item : Item) (more : List Item)
      → standing_items needs (suc n) item more ≡ item ∷ []
  deep-item n item more = rw (eqb-suc-zero n) refl

  -- an item that is put as it stands
  pub plain : (inner : ℕ) (item : Item) (more : List Item) → child_items needs item more ≡ item ∷ []
      → standing_items needs inner item more ≡ item ∷ []
  plain zero item more e = e
  plain (suc n) item more e = deep-item n item more

  -- what an element within a child declares stays, and so do its attributes
  deep-declared : (n : ℕ) (xs : List Item)
      → declared (self_standing needs (Some (suc n)) xs) ≡ declared xs
  deep-declared n [] = refl
  deep-declared n (Xmlns p u ∷ xs) =
      rw (deep-item n (Xmlns p u) xs) (ap (λ l. declaration p u ∷ l) (deep-declared n xs))
  deep-declared n (Attr p l v ∷ xs) = rw (deep-item n (Attr p l v) xs) (deep-declared n xs)
  deep-declared n (x ∷ xs) = rw (deep-item n x xs) refl

  attributes-stand : (front : List Declaration) (scope other : Scope) → Means scope other
      → (n : ℕ) (before : List Declaration) (xs : List Item)
      → ((q : List ℕ) → has (declared xs) q ≡ true → has front q ≡ false)
      → good_attributes scope before xs ≡ true
      → good_attributes other (front ++ before) (self_standing needs (Some (suc n)) xs) ≡ true
  attributes-stand front scope other c n before [] lacks h = refl
  attributes-stand front scope other c n before (Xmlns p u ∷ xs) lacks h =
      let d = declaration p u in
      let r = refuted (is_some (uri_in before p)) (good_attributes scope (before ++ d ∷ []) xs) h in
      let fresh : has (front ++ before) p ≡ false =
      has-append front before p ∙ rw (lacks p (has-own d (declared xs))) r.0 in
      rw (deep-item n (Xmlns p u) xs, fresh, append_assoc front before (d ∷ []))
      (attributes-stand front scope other c n (before ++ d ∷ []) xs
      (λ q k. lacks q (has-more d (declared xs) q k)) r.1)
  attributes-stand front scope other c n before (Attr p l v ∷ xs) lacks h =
      let r = and_parts (is_bound scope p) (good_attributes scope before xs) h in
      rw (deep-item n (Attr p l v) xs, still-bound scope other c p r.0) (attributes-stand front
      scope other c n before xs
      lacks r.1)
  attributes-stand front scope other c n before (x ∷ xs) lacks h = rw (deep-item n x xs) refl

  module _ (version : Addressing) (base : Scope) (apart : are_apart needs ≡ true)
      (reach : (p : List ℕ) → is_bound base p ≡ true → Reached version needs base p) where
    -- around so many elements stands Body, and there the reply
    abbrev Replaced : ℕ → Scope → Scope → Type 0
    Replaced zero scope other = (scope ≡ base) × (other ≡ reply_scope version)
    Replaced (suc n) scope other = Means scope other × Replaced n (around scope) (around other)

    abbrev Stand : ℕ → (scope other : Scope) → List Item → Type 0
    Stand inner scope other xs =
        NoneBad other (self_standing needs (Some inner) xs)
        × (content_from inner (resolved_from other (self_standing needs (Some inner) xs))
        ≡ content_from inner (resolved_from scope xs))

    -- an element within Body and in a reply, with these declarations in front of its own
    in-child : (scope other : Scope) → Replaced 0 scope other → (own : List Declaration)
        → Means (own ∷ scope) ((missing needs own ++ own) ∷ other)
    in-child scope other c own = rw (c.0, c.1) (means-child version needs base reach own)

    stands : (inner : ℕ) (scope other : Scope) (xs : List Item) → Replaced inner scope other
        → good_names scope xs ≡ true → Stand inner scope other xs
    stands inner scope other [] c h = (λ at. refl, refl)
    stands zero scope other (Start p l ∷ xs) c h =
        let own = declared xs in
        let front = missing needs own in
        let within = own ∷ scope in
        let inside = (front ++ own) ∷ other in
        let rest = self_standing needs (Some 1) xs in
        let parts = and_parts (good_head within p xs) (good_names within xs) h in
        let head = and_parts (is_bound within p) (good_attributes within [] xs) parts.0 in
        let m = in-child scope other c own in
        let declares : declared (map xmlns_of front ++ rest) ≡ front ++ own =
        front-declared front rest ∙ ap (λ l. front ++ l) (deep-declared 0 xs) in
        let attributes : good_attributes inside (front ++ []) rest ≡ true =
        attributes-stand front within inside m 0 [] xs (λ q k. missing-lacks needs own q k) head.1
        in
        let put : good_attributes inside [] (map xmlns_of front ++ rest) ≡ true =
        put-front inside [] front rest (λ q k. refl) (apart-filter (is_missing own) needs apart)
        (rw append-nil at attributes) in
        let more = stands 1 within inside xs (m, c) parts.1 in (
          λ at. rw (
            declares,
            still-bound within inside m p head.0,
            good-attributes inside [] (at + 1) (map xmlns_of front ++ rest) put,
          ) (front-names inside front rest more.0 (at + 1)),
          ap (λ ds. Element (qualified_name (element_uri (ds ∷ other) p) l)
              ∷ content_from 1 (resolved_from (ds ∷ other) (map xmlns_of front ++ rest))) declares
              ∙ ap (λ (u : List ℕ). Element (qualified_name u l) ∷ content_from 1
              (resolved_from inside (map xmlns_of front ++ rest)))
              (of-element within inside m p head.0)
              ∙ ap (λ items. Element (qualified_name (element_uri within p) l) ∷ items)
              (front-gone 1 inside front rest ∙ more.1),
        )
    stands (suc n) scope other (Start p l ∷ xs) c h =
        let own = declared xs in
        let within = own ∷ scope in
        let inside = own ∷ other in
        let rest = self_standing needs (Some (suc (suc n))) xs in
        let parts = and_parts (good_head within p xs) (good_names within xs) h in
        let head = and_parts (is_bound within p) (good_attributes within [] xs) parts.0 in
        let m = means-deeper own scope other c.0 in
        let deeper : suc n + 1 ≡ suc (suc n) = omega arith in
        let attributes : good_attributes inside [] rest ≡ true =
        attributes-stand [] within inside m (suc n) [] xs (λ q k. refl) head.1 in
        let more = stands (suc (suc n)) within inside xs (m, c) parts.1 in (
          λ at. rw (
            deep-item n (Start p l) xs,
            deeper,
            deep-declared (suc n) xs,
            still-bound within inside m p head.0,
            good-attributes inside [] (at + 1) rest attributes,
          ) (more.0 (at + 1)),
          rw (deep-item n (Start p l) xs, deeper, deep-declared (suc n) xs)
              (ap (λ (u : List ℕ). Element (qualified_name u l)
              ∷ content_from (suc (suc n)) (resolved_from inside rest))
              (of-element within inside m p head.0)
              ∙ ap (λ items. Element (qualified_name (element_uri within p) l) ∷ items) more.1),
        )
    stands zero scope other (Array a ∷ xs) c h =
        let own = declared_on a.attrs in
        let r = and_parts (is_good_array scope a) (good_names scope xs) h in
        let one = array-stands (missing needs own) scope other a
        (apart-filter (is_missing own) needs apart) (λ q k. missing-lacks needs own q k)
        (in-child scope other c own) r.0 in
        let more = stands zero scope other xs c r.1 in (
          λ at. rw one.0 (more.0 (at + 1)),
          ap (λ item. item ∷ content_from 0 (resolved_from other (self_standing needs (Some 0) xs)))
              (one.1 (self_standing needs (Some 0) xs))
              ∙ ap (λ items. resolved_item scope (Array a) xs ∷ items) more.1,
        )
    stands (suc n) scope other (Array a ∷ xs) c h =
        let rest = self_standing needs (Some (suc n)) xs in
        let r = and_parts (is_good_array scope a) (good_names scope xs) h in
        let one = array-stands [] scope other a refl (λ q k. refl)
        (means-deeper (declared_on a.attrs) scope other c.0) r.0 in
        let more = stands (suc n) scope other xs c r.1 in (
          λ at. rw (deep-item n (Array a) xs, one.0) (more.0 (at + 1)),
          rw (deep-item n (Array a) xs)
              (ap (λ item. item ∷ content_from (suc n) (resolved_from other rest)) (one.1 rest)
              ∙ ap (λ items. resolved_item scope (Array a) xs ∷ items) more.1),
        )
    stands zero scope other (Close ∷ xs) c h = (λ at. refl, refl)
    stands (suc n) scope other (Close ∷ xs) c h =
        let more = stands n (around scope) (around other) xs c.1 h in (
          λ at. rw (deep-item n Close xs) (more.0 (at + 1)),
          rw (deep-item n Close xs) (ap (λ items. Ends ∷ items) more.1),
        )
    stands zero scope other (Attr p l v ∷ xs) c h =
        let more = stands zero scope other xs c
        (and_parts (is_bound scope p) (good_names scope xs) h).1 in
        (λ at. more.0 (at + 1), more.1)
    stands (suc n) scope other (Attr p l v ∷ xs) c h =
        let r = and_parts (is_bound scope p) (good_names scope xs) h in
        let more = stands (suc n) scope other xs c r.1 in (
          λ at. rw (deep-item n (Attr p l v) xs) (more.0 (at + 1)),
          rw (deep-item n (Attr p l v) xs)
              (ap (λ (u : List ℕ). Attribute (qualified_name u l) v
              ∷ content_from (suc n) (resolved_from other (self_standing needs (Some (suc n)) xs)))
              (of-attribute scope other c.0 p r.0)
              ∙ ap (λ items. Attribute (qualified_name (attribute_uri scope p) l) v ∷ items)
              more.1),
        )
    stands inner scope other (Xmlns p u ∷ xs) c h =
        let more = stands inner scope other xs c h in
        let same = ap (λ put. put ++ self_standing needs (Some inner) xs)
        (plain inner (Xmlns p u) xs refl) in (
          λ at. ap (first_bad_name other at) same ∙ more.0 (at + 1),
          ap (λ items. content_from inner (resolved_from other items)) same ∙ more.1,
        )
    stands inner scope other (x ∷ xs) c h =
        let more = stands inner scope other xs c h in
        let same = ap (λ put. put ++ self_standing needs (Some inner) xs)
        (plain inner x xs refl) in (
          λ at. ap (first_bad_name other at) same ∙ more.0 (at + 1),
          ap (λ items. content_from inner (resolved_from other items)) same
              ∙ ap (λ items. resolved_item scope x xs ∷ items) more.1,
        )

-- items with good names at Body's place, with what their elements need, in a reply
pub content-stands : (version : Addressing) (scope : Scope) (xs : List Item)
    → ((p : List ℕ) → is_bound scope p ≡ true → Reached version (needed version scope) scope p)
    → good_names scope xs ≡ true → let body = self_standing (needed version scope) (Some 0) xs in
    NoneBad (reply_scope version) body
    × (content_from 0 (resolved_from (reply_scope version) body)
    ≡ content_from 0 (resolved_from scope xs))
content-stands version scope xs reach h =
    stands (needed version scope) version scope
    (apart-filter (λ d. not (is_usual version d)) (in_scope scope) (in_scope-apart scope))
    reach 0 scope (reply_scope version) xs (refl, refl) h
