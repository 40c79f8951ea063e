-- Sorted declarations are of prefixes that differ.
use Rattle.std.proofs.Common.{◌≡◌, ℕ, Bool, true, false, not, ◌&&◌, ◌||◌, List, [], ◌∷◌, ◌++◌}
use Rattle.std.proofs.Common.{is_some, filter, bytes_eq, nat_cmp, is_lt, Ordering, Less, Equal}
use Rattle.std.proofs.Common.{Greater, sym, refl, ap, ◌∙◌, inl, inr}
use Rattle.std.proofs.lemmas.{Bool.and_parts, Bool.cases_Bool, Slice.Eq.bytes_eq-Decides}
use Rattle.std.proofs.lemmas.{Cmp.nat_list_cmp_total, Map.Lookups.exact_bytes}
use Rattle.std.specs.{Cmp.Lexicographic.slice_cmp, List.list_all, Ordering.ordering_reverse}
use Rattle.soap_envelope.specs.Body.{in_scope, placed, put, put_all}
use Rattle.soap_envelope.specs.Scopes.{Declaration, Scope, uri_in}
use Rattle.soap_envelope.proofs.Usual.{all-put}

-- whether some declaration is of a prefix
abbrev pub has : List Declaration → List ℕ → Bool
has ds prefix = is_some (uri_in ds prefix)

pub has-cons : (d : Declaration) (ds : List Declaration) (p : List ℕ)
    → has (d ∷ ds) p ≡ (bytes_eq d.prefix p || has ds p)
has-cons d ds p = elim (cases_Bool (bytes_eq d.prefix p)) [
  | inl is ↦ rw is refl
  | inr other ↦ rw other refl
]

pub has-append : (xs ys : List Declaration) (p : List ℕ)
    → has (xs ++ ys) p ≡ (has xs p || has ys p)
has-append [] ys p = refl
has-append (x ∷ xs) ys p = elim (cases_Bool (bytes_eq x.prefix p)) [
  | inl is ↦ rw is refl
  | inr other ↦ rw other (has-append xs ys p)
]

-- whether each is of another prefix than those behind it
abbrev pub are_apart : List Declaration → Bool
are_apart [] = true
are_apart (d ∷ ds) = not (has ds d.prefix) && are_apart ds

pub lacks-filter : (f : Declaration → Bool) (ds : List Declaration) (p : List ℕ) → has ds p ≡ false
    → has (filter f ds) p ≡ false
lacks-filter f [] p h = refl
lacks-filter f (d ∷ ds) p h = elim (cases_Bool (bytes_eq d.prefix p)) [
  | inl is ↦ let wrong : true ≡ false = rw is at h in absurd cc
  | inr other ↦
      let rest : has ds p ≡ false = rw other at h in
      elim (cases_Bool (f d)) [
        | inl kept ↦ rw (kept, other) (lacks-filter f ds p rest)
        | inr left ↦ rw left (lacks-filter f ds p rest)
      ]
]

pub refuted : (a b : Bool) → (not a && b) ≡ true → (a ≡ false) × (b ≡ true)
refuted true b h = absurd cc
refuted false b h = (refl, h)

pub apart-parts : (d : Declaration) (ds : List Declaration) → are_apart (d ∷ ds) ≡ true
    → (has ds d.prefix ≡ false) × (are_apart ds ≡ true)
apart-parts d ds h = refuted (has ds d.prefix) (are_apart ds) h

pub apart-filter : (f : Declaration → Bool) (ds : List Declaration) → are_apart ds ≡ true
    → are_apart (filter f ds) ≡ true
apart-filter f [] h = refl
apart-filter f (d ∷ ds) h =
    let p = apart-parts d ds h in
    elim (cases_Bool (f d)) [
      | inl kept ↦ rw (kept, lacks-filter f ds d.prefix p.0) (apart-filter f ds p.1)
      | inr left ↦ rw left (apart-filter f ds p.1)
    ]

-- whether the prefixes ascend
abbrev pub order : List ℕ → List ℕ → Ordering
order = slice_cmp nat_cmp

abbrev is_above : List ℕ → Declaration → Bool
is_above p d = is_lt (order p d.prefix)

abbrev ascend : List Declaration → Bool
ascend [] = true
ascend (d ∷ ds) = list_all (is_above d.prefix) ds && ascend ds

is_lt-is : (o : Ordering) → is_lt o ≡ true → o ≡ Less
is_lt-is Less h = refl
is_lt-is Equal h = absurd cc
is_lt-is Greater h = absurd cc

-- what is above a prefix is above those below it
above-lower : (p q : List ℕ) (ds : List Declaration) → order p q ≡ Less
    → list_all (is_above q) ds ≡ true → list_all (is_above p) ds ≡ true
above-lower p q [] h k = refl
above-lower p q (d ∷ ds) h k =
    let r = and_parts (is_above q d) (list_all (is_above q) ds) k in
    let less = nat_list_cmp_total.trans p q d.prefix h (is_lt-is (order q d.prefix) r.0) in
    rw less (above-lower p q ds h r.1)

ascend-placed : (o : Ordering) (d e : Declaration) (more behind : List Declaration)
    → o ≡ order d.prefix e.prefix → list_all (is_above e.prefix) more ≡ true → ascend more ≡ true
    → (is_above e.prefix d ≡ true → list_all (is_above e.prefix) behind ≡ true)
    → ascend behind ≡ true → ascend (placed o d e more behind) ≡ true
ascend-placed Less d e more behind is above rest behind_above behind_rest =
    rw (← is, above-lower d.prefix e.prefix more (sym is) above, above) rest
ascend-placed Equal d e more behind is above rest behind_above behind_rest =
    rw (exact_bytes d.prefix e.prefix (sym is), above) rest
ascend-placed Greater d e more behind is above rest behind_above behind_rest =
    let less : order e.prefix d.prefix ≡ Less =
    nat_list_cmp_total.antisymm e.prefix d.prefix ∙ ap ordering_reverse (sym is) in
    rw (behind_above (ap is_lt less)) behind_rest

ascend-put : (d : Declaration) (ds : List Declaration) → ascend ds ≡ true → ascend (put d ds) ≡ true
ascend-put d [] h = refl
ascend-put d (e ∷ ds) h =
    let r = and_parts (list_all (is_above e.prefix) ds) (ascend ds) h in
    ascend-placed (order d.prefix e.prefix) d e ds (put d ds) refl r.0 r.1
    (λ k. all-put (is_above e.prefix) d ds k r.0) (ascend-put d ds r.1)

ascend-put_all : (ds others : List Declaration) → ascend others ≡ true
    → ascend (put_all ds others) ≡ true
ascend-put_all [] others h = h
ascend-put_all (d ∷ ds) others h = ascend-put_all ds (put d others) (ascend-put d others h)

ascend-in_scope : (scope : Scope) → ascend (in_scope scope) ≡ true
ascend-in_scope [] = refl
ascend-in_scope (layer ∷ outer) = ascend-put_all layer (in_scope outer) (ascend-in_scope outer)

above-lacks : (p : List ℕ) (ds : List Declaration) → list_all (is_above p) ds ≡ true
    → has ds p ≡ false
above-lacks p [] h = refl
above-lacks p (d ∷ ds) h =
    let r = and_parts (is_above p d) (list_all (is_above p) ds) h in
    let less : order p d.prefix ≡ Less = is_lt-is (order p d.prefix) r.0 in
    elim (cases_Bool (bytes_eq d.prefix p)) [
      | inl is ↦
          let same : d.prefix ≡ p = (bytes_eq-Decides d.prefix p).0 is in
          let own : order p p ≡ Less = rw same at less in
          let turned : order p p ≡ ordering_reverse (order p p) = nat_list_cmp_total.antisymm p p in
          let wrong : Less ≡ Greater = sym own ∙ turned ∙ ap ordering_reverse own in absurd cc
      | inr other ↦ rw other (above-lacks p ds r.1)
    ]

ascend-apart : (ds : List Declaration) → ascend ds ≡ true → are_apart ds ≡ true
ascend-apart [] h = refl
ascend-apart (d ∷ ds) h =
    let r = and_parts (list_all (is_above d.prefix) ds) (ascend ds) h in
    rw (above-lacks d.prefix ds r.0) (ascend-apart ds r.1)

pub in_scope-apart : (scope : Scope) → are_apart (in_scope scope) ≡ true
in_scope-apart scope = ascend-apart (in_scope scope) (ascend-in_scope scope)
