-- Sorted declarations, as a map holds them.
use Rattle.std.proofs.Common.{◌≡◌, ℕ, List, [], ◌∷◌, map, nat_cmp, Ordering, Less, Equal, Greater}
use Rattle.std.proofs.Common.{sym, refl, ap, ◌∙◌, Bor}
use Rattle.std.proofs.lemmas.Map.Lookups.{exact_bytes}
use Rattle.std.specs.{BTreeMap.insert_entry, Cmp.Lexicographic.slice_cmp, Ordering.match_ordering}
use Rattle.soap_envelope.specs.{Body.placed, Body.put, Scopes.Declaration, Scopes.declaration}

abbrev pub Text : Type 0
Text = Bor (List ℕ)

abbrev pub one_shown : Text × Text → Declaration
one_shown entry = declaration entry.0.now entry.1.now

-- an entry more, by the order of its prefix and that of the first
shown-placed : (o : Ordering) (k v : Text) (e : Text × Text) (es behind : List (Text × Text))
    → (o ≡ Equal → k.now ≡ e.0.now)
    → map one_shown (match_ordering o ((k, v) ∷ e ∷ es) ((e.0, v) ∷ es) (e ∷ behind))
    ≡ placed o (declaration k.now v.now) (one_shown e) (map one_shown es) (map one_shown behind)
shown-placed Less k v e es behind h = refl
shown-placed Equal k v e es behind h =
    ap (λ p. declaration p v.now ∷ map one_shown es) (sym (h refl))
shown-placed Greater k v e es behind h = refl

pub shown-insert : (es : List (Text × Text)) (k v : Text)
    → map one_shown (insert_entry (λ x y. slice_cmp nat_cmp x.now y.now) es k v)
    ≡ put (declaration k.now v.now) (map one_shown es)
shown-insert [] k v = refl
shown-insert (e ∷ es) k v =
    let order = slice_cmp nat_cmp k.now e.0.now in
    shown-placed order k v e es (insert_entry (λ x y. slice_cmp nat_cmp x.now y.now) es k v)
    (λ same. exact_bytes k.now e.0.now same)
    ∙ ap (placed order (declaration k.now v.now) (one_shown e) (map one_shown es))
    (shown-insert es k v)
