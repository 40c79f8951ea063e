-- What a prefix stands for in Body it stands for in a reply, by what an element there gets.
use Rattle.std.proofs.Common.{Equal, Greater, Less, List, None, Option, Ordering, Some, [], ap}
use Rattle.std.proofs.Common.{bytes_eq, codes, false, inl, inr, is_none, is_some, not, refl, subst}
use Rattle.std.proofs.Common.{sym, true, ℕ, ◌&&◌, ◌++◌, ◌∙◌, ◌∷◌, ◌≡◌, ◌⊎◌}
use Rattle.std.proofs.lemmas.Bool.{and_parts, cases_Bool, or_cases}
use Rattle.std.proofs.{lemmas.Cmp.nat_list_cmp_total, lemmas.Map.Lookups.exact_bytes}
use Rattle.std.proofs.{lemmas.Slice.Eq.bytes_eq-Decides}
use Rattle.std.specs.{List.list_all, Option.option_or, Ordering.ordering_reverse}
use Rattle.soap_envelope.proofs.Apart.{apart-parts, are_apart, has, lacks-filter, order}
use Rattle.soap_envelope.proofs.OnLiterals.{envelopes_on_literals}
use Rattle.soap_envelope.proofs.ScopeFacts.{or-or, uri-append}
use Rattle.soap_envelope.specs.Body.{in_scope, is_missing, is_usual, missing, needed, placed, put}
use Rattle.soap_envelope.specs.Scopes.{Declaration, Scope, is_bound, undeclared_uri, uri_in, uri_of}
use Rattle.soap_envelope.specs.{Body.put_all, Body.unusual, Made.reply_scope, Names.soap}
use Rattle.soap_envelope.specs.{Versions.namespace, declared.versions.Addressing.Addressing}

-- what declarations say of a prefix
none-in : (o : Option (List ℕ)) → is_some o ≡ false → o ≡ None
none-in None h = refl
none-in (Some u) h = absurd cc

lacks : (ds : List Declaration) (p : List ℕ) → has ds p ≡ false → uri_in ds p ≡ None
lacks ds p h = none-in (uri_in ds p) h

uri-placed : (o : Ordering) (d e : Declaration) (more behind : List Declaration) (p : List ℕ)
    → o ≡ order d.prefix e.prefix → uri_in behind p ≡ uri_in (d ∷ more) p
    → uri_in (placed o d e more behind) p ≡ uri_in (d ∷ e ∷ more) p
uri-placed Less d e more behind p is h = refl
uri-placed Equal d e more behind p is h = elim (cases_Bool (bytes_eq d.prefix p)) [
  | inl here ↦ rw here refl
  | inr other ↦
      let nor : bytes_eq e.prefix p ≡ false =
      ap (λ q. bytes_eq q p) (sym (exact_bytes d.prefix e.prefix (sym is))) ∙ other in
      rw (other, nor) refl
]
uri-placed Greater d e more behind p is h = elim (cases_Bool (bytes_eq e.prefix p)) [
  | inl here ↦ elim (cases_Bool (bytes_eq d.prefix p)) [
    | inl too ↦
        let same : d.prefix ≡ e.prefix =
        (bytes_eq-Decides d.prefix p).0 too ∙ sym ((bytes_eq-Decides e.prefix p).0 here) in
        let own : order e.prefix e.prefix ≡ Greater =
        ap (λ q. order q e.prefix) (sym same) ∙ sym is in
        let turned : order e.prefix e.prefix ≡ ordering_reverse (order e.prefix e.prefix) =
        nat_list_cmp_total.antisymm e.prefix e.prefix in
        let wrong : Greater ≡ Less = sym own ∙ turned ∙ ap ordering_reverse own in absurd cc
    | inr other ↦ rw (here, other) refl
  ]
  | inr other ↦ rw other h
]

uri-put : (d : Declaration) (ds : List Declaration) (p : List ℕ)
    → uri_in (put d ds) p ≡ uri_in (d ∷ ds) p
uri-put d [] p = refl
uri-put d (e ∷ ds) p =
    uri-placed (order d.prefix e.prefix) d e ds (put d ds) p refl (uri-put d ds p)

uri-put_all : (ds others : List Declaration) (p : List ℕ) → are_apart ds ≡ true
    → uri_in (put_all ds others) p ≡ option_or (uri_in ds p) (uri_in others p)
uri-put_all [] others p a = refl
uri-put_all (d ∷ ds) others p a =
    let parts = apart-parts d ds a in
    uri-put_all ds (put d others) p parts.1
    ∙ ap (option_or (uri_in ds p)) (uri-put d others p)
    ∙ elim (cases_Bool (bytes_eq d.prefix p)) [
      | inl is ↦
          let same : d.prefix ≡ p = (bytes_eq-Decides d.prefix p).0 is in
          let none : uri_in ds p ≡ None = lacks ds p (ap (has ds) (sym same) ∙ parts.0) in
          rw (is, none) refl
      | inr other ↦ rw other refl
    ]

-- what the elements around declare
abbrev known : Scope → List ℕ → Option (List ℕ)
known [] p = None
known (layer ∷ outer) p = option_or (uri_in layer p) (known outer p)

in-scope : (scope : Scope) (p : List ℕ) → list_all are_apart scope ≡ true
    → uri_in (in_scope scope) p ≡ known scope p
in-scope [] p a = refl
in-scope (layer ∷ outer) p a =
    let r = and_parts (are_apart layer) (list_all are_apart outer) a in
    uri-put_all layer (in_scope outer) p r.0
    ∙ ap (option_or (uri_in layer p)) (in-scope outer p r.1)

uri-known : (scope : Scope) (p : List ℕ)
    → uri_of scope p ≡ option_or (known scope p) (undeclared_uri p)
uri-known [] p = refl
uri-known (layer ∷ outer) p =
    ap (option_or (uri_in layer p)) (uri-known outer p)
    ∙ or-or (uri_in layer p) (known outer p) (undeclared_uri p)

-- what every reply declares it means there
usual-uri : (version : Addressing) (d : Declaration) → is_usual version d ≡ true
    → uri_of (reply_scope version) d.prefix ≡ Some d.uri
unfolding envelopes_on_literals
usual-uri version d h =
    let of_soap = bytes_eq d.prefix (codes "s") && bytes_eq d.uri soap in
    let of_addressing = bytes_eq d.prefix (codes "a") && bytes_eq d.uri (namespace version) in
    elim (or_cases of_soap of_addressing h) [
      | inl is ↦
          let r = and_parts (bytes_eq d.prefix (codes "s")) (bytes_eq d.uri soap) is in
          ap (uri_of (reply_scope version)) ((bytes_eq-Decides d.prefix (codes "s")).0 r.0)
          ∙ ap (λ (u : List ℕ). Some u) (sym ((bytes_eq-Decides d.uri soap).0 r.1))
      | inr is ↦
          let r = and_parts (bytes_eq d.prefix (codes "a")) (bytes_eq d.uri (namespace version)) is
          in
          ap (uri_of (reply_scope version)) ((bytes_eq-Decides d.prefix (codes "a")).0 r.0)
          ∙ ap (λ (u : List ℕ). Some u) (sym ((bytes_eq-Decides d.uri (namespace version)).0 r.1))
    ]

-- what means something undeclared means it there too
undeclared-there : (version : Addressing) (p : List ℕ) → is_some (undeclared_uri p) ≡ true
    → uri_of (reply_scope version) p ≡ undeclared_uri p
unfolding envelopes_on_literals
undeclared-there version [] h = refl
undeclared-there version (c ∷ q) h = elim (cases_Bool (bytes_eq (c ∷ q) (codes "xml"))) [
  | inl is ↦
      let same : c ∷ q ≡ codes "xml" = (bytes_eq-Decides (c ∷ q) (codes "xml")).0 is in
      subst (λ p. uri_of (reply_scope version) p ≡ undeclared_uri p) (sym same) refl
  | inr other ↦
      let wrong : false ≡ true = rw other at h in absurd cc
]

-- an element needs a declaration of a prefix, or a reply has it
abbrev pub Reached : Addressing → List Declaration → Scope → List ℕ → Type 0
Reached version needs base p =
    (uri_in needs p ≡ uri_of base p)
    ⊎ ((uri_in needs p ≡ None) × (uri_of (reply_scope version) p ≡ uri_of base p))

unusual-uri : (version : Addressing) (ds : List Declaration) (p u : List ℕ) → are_apart ds ≡ true
    → uri_in ds p ≡ Some u
    → (uri_in (unusual version ds) p ≡ Some u)
    ⊎ ((uri_in (unusual version ds) p ≡ None) × (uri_of (reply_scope version) p ≡ Some u))
unusual-uri version [] p u a h = absurd cc
unusual-uri version (d ∷ ds) p u a h =
    let parts = apart-parts d ds a in
    elim (cases_Bool (bytes_eq d.prefix p)) [
      | inl is ↦
          let same : d.prefix ≡ p = (bytes_eq-Decides d.prefix p).0 is in
          let own : Some d.uri ≡ Some u = rw is at h in
          elim (cases_Bool (is_usual version d)) [
            | inl usual ↦
                let gone : uri_in (unusual version ds) p ≡ None = lacks (unusual version ds) p
                (lacks-filter (λ e. not (is_usual version e)) ds p (ap (has ds) (sym same) ∙
                parts.0)) in
                let there : uri_of (reply_scope version) p ≡ Some u =
                ap (uri_of (reply_scope version)) (sym same) ∙ usual-uri version d usual ∙ own in
                rw usual (inr (gone, there))
            | inr other ↦ rw (other, is) (inl own)
          ]
      | inr other ↦
          let rest = unusual-uri version ds p u parts.1 (rw other at h) in
          elim (cases_Bool (is_usual version d)) [
            | inl usual ↦ rw usual rest
            | inr kept ↦ rw (kept, other) rest
          ]
    ]

pub needs-reach : (version : Addressing) (base : Scope) → list_all are_apart base ≡ true
    → are_apart (in_scope base) ≡ true
    → (p : List ℕ) → is_bound base p ≡ true → Reached version (needed version base) base p
needs-reach version base apart sorted p bound = by (known base p) refl
  where
    by : (o : Option (List ℕ)) → known base p ≡ o → Reached version (needed version base) base p
    by (Some u) k =
        let here : uri_of base p ≡ Some u =
        uri-known base p ∙ ap (λ o. option_or o (undeclared_uri p)) k in
        elim (unusual-uri version (in_scope base) p u sorted (in-scope base p apart ∙ k)) [
          | inl kept ↦ inl (kept ∙ sym here)
          | inr left ↦ inr (left.0, left.1 ∙ sym here)
        ]
    by None k =
        let here : uri_of base p ≡ undeclared_uri p =
        uri-known base p ∙ ap (λ o. option_or o (undeclared_uri p)) k in
        let gone : has (in_scope base) p ≡ false =
        ap is_some (in-scope base p apart ∙ k) in
        inr (
          lacks (needed version base) p (lacks-filter (λ e. not (is_usual version e)) (in_scope
              base) p gone),
          undeclared-there version p (ap is_some (sym here) ∙ bound) ∙ sym here,
        )

-- in another scope each bound prefix means the same
abbrev pub Means : Scope → Scope → Type 0
Means scope other = (p : List ℕ) → is_bound scope p ≡ true → uri_of other p ≡ uri_of scope p

pub means-deeper : (own : List Declaration) (scope other : Scope) → Means scope other
    → Means (own ∷ scope) (own ∷ other)
means-deeper own scope other m p h = by (uri_in own p) refl
  where
    by : (o : Option (List ℕ)) → uri_in own p ≡ o
        → option_or (uri_in own p) (uri_of other p) ≡ option_or (uri_in own p) (uri_of scope p)
    by (Some u) e = rw e refl
    by None e =
        let outer : is_bound scope p ≡ true =
        ap (λ o. is_some (option_or o (uri_of scope p))) (sym e) ∙ h in
        ap (option_or (uri_in own p)) (m p outer)

-- a prefix that is declared isn't missing
pub missing-lacks : (needs own : List Declaration) (p : List ℕ) → has own p ≡ true
    → has (missing needs own) p ≡ false
missing-lacks [] own p h = refl
missing-lacks (d ∷ needs) own p h = elim (cases_Bool (is_missing own d)) [
  | inl kept ↦ elim (cases_Bool (bytes_eq d.prefix p)) [
    | inl is ↦
        let same : d.prefix ≡ p = (bytes_eq-Decides d.prefix p).0 is in
        absurd (declared_once (uri_in own p) h (rw same at kept))
    | inr other ↦ rw (kept, other) (missing-lacks needs own p h)
  ]
  | inr left ↦ rw left (missing-lacks needs own p h)
]
  where
    declared_once : (o : Option (List ℕ)) → is_some o ≡ true → is_none o ≡ true → ⊥
    declared_once None h k = cc
    declared_once (Some u) h k = cc

missing-uri : (needs own : List Declaration) (p : List ℕ) → uri_in own p ≡ None
    → uri_in (missing needs own) p ≡ uri_in needs p
missing-uri [] own p h = refl
missing-uri (d ∷ needs) own p h = elim (cases_Bool (bytes_eq d.prefix p)) [
  | inl is ↦
      let same : d.prefix ≡ p = (bytes_eq-Decides d.prefix p).0 is in
      let kept : is_missing own d ≡ true = ap is_none (ap (uri_in own) same ∙ h) in
      rw (kept, is) refl
  | inr other ↦ elim (cases_Bool (is_missing own d)) [
    | inl kept ↦ rw (kept, other) (missing-uri needs own p h)
    | inr left ↦ rw (left, other) (missing-uri needs own p h)
  ]
]

or-none : (o : Option (List ℕ)) → option_or o None ≡ o
or-none None = refl
or-none (Some u) = refl

some-first : (o c : Option (List ℕ)) → is_some o ≡ true → option_or o c ≡ o
some-first None c h = absurd cc
some-first (Some u) c h = refl

-- a child means with what it gets what it did where it stood
pub means-child : (version : Addressing) (needs : List Declaration) (base : Scope)
    → ((p : List ℕ) → is_bound base p ≡ true → Reached version needs base p)
    → (own : List Declaration)
    → Means (own ∷ base) ((missing needs own ++ own) ∷ (reply_scope version))
means-child version needs base reach own p h = by (uri_in own p) refl
  where
    front : List Declaration
    front = missing needs own

    by : (o : Option (List ℕ)) → uri_in own p ≡ o
        → option_or (uri_in (missing needs own ++ own) p) (uri_of (reply_scope version) p)
        ≡ option_or (uri_in own p) (uri_of base p)
    by (Some u) e =
        let none : uri_in (missing needs own) p ≡ None = lacks (missing needs own) p
        (missing-lacks needs own p (ap is_some e)) in
        let all : uri_in (missing needs own ++ own) p ≡ Some u =
        uri-append (missing needs own) own p
        ∙ ap (λ o. option_or o (uri_in own p)) none ∙ e in
        ap (λ o. option_or o (uri_of (reply_scope version) p)) all
        ∙ sym (ap (λ o. option_or o (uri_of base p)) e)
    by None e =
        let outer : is_bound base p ≡ true =
        ap (λ o. is_some (option_or o (uri_of base p))) (sym e) ∙ h in
        let all : uri_in (missing needs own ++ own) p ≡ uri_in needs p =
        uri-append (missing needs own) own p
        ∙ ap (option_or (uri_in (missing needs own) p)) e
        ∙ or-none (uri_in (missing needs own) p) ∙ missing-uri needs own p e in
        let there : option_or (uri_in needs p) (uri_of (reply_scope version) p) ≡ uri_of base p =
        elim (reach p outer) [
          | inl own_need ↦
              ap (λ o. option_or o (uri_of (reply_scope version) p)) own_need
              ∙ some-first (uri_of base p) (uri_of (reply_scope version) p) outer
          | inr usual ↦ ap (λ o. option_or o (uri_of (reply_scope version) p)) usual.0 ∙ usual.1
        ] in
        ap (λ o. option_or o (uri_of (reply_scope version) p)) all ∙ there
        ∙ sym (ap (λ o. option_or o (uri_of base p)) e)
