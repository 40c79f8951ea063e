-- In a document with good names no element declares a prefix twice.
use Rattle.std.proofs.Common.{Bool, List, [], ap, append-nil, append_assoc, bytes_eq, drop, false}
use Rattle.std.proofs.Common.{inl, inr, is_some, refl, slice_get, suc, sym, true, zero, ℕ, ◌++◌}
use Rattle.std.proofs.{Common.◌||◌, Common.◌∙◌, Common.◌∷◌, Common.◌≡◌, lemmas.Bool.and_parts}
use Rattle.std.proofs.{lemmas.Bool.cases_Bool, lemmas.Slice.Eq.bytes_eq-Decides}
use Rattle.nbfx_values.specs.declared.content.Item.TheVariants.{Attr, Start, Xmlns}
use Rattle.nbfx_values.specs.declared.content.Item.{Item}
use Rattle.soap_envelope.proofs.Apart.{apart-parts, are_apart, has, has-append, has-cons, refuted}
use Rattle.soap_envelope.proofs.GoodNames.{good_attributes, good_head, good_names, names-behind}
use Rattle.soap_envelope.specs.Scopes.{Declaration, Scope, declaration, declared, is_bound, uri_in}
use Rattle.soap_envelope.specs.{Children.is_start, Resolved.scope_behind}

-- what an element declares
neither : (a b : Bool) → (a || b) ≡ false → (a ≡ false) × (b ≡ false)
neither true b h = absurd cc
neither false b h = (refl, h)

apart-more : (before : List Declaration) (d : Declaration) → are_apart before ≡ true
    → has before d.prefix ≡ false → are_apart (before ++ d ∷ []) ≡ true
apart-more [] d a h = refl
apart-more (e ∷ es) d a h =
    let parts = apart-parts e es a in
    let both = neither (bytes_eq e.prefix d.prefix) (has es d.prefix)
    (sym (has-cons e es d.prefix) ∙ h) in
    let turned : bytes_eq d.prefix e.prefix ≡ false = elim
    (cases_Bool (bytes_eq d.prefix e.prefix)) [
      | inl is ↦
          let same : d.prefix ≡ e.prefix = (bytes_eq-Decides d.prefix e.prefix).0 is in
          let wrong : bytes_eq e.prefix d.prefix ≡ true =
          (bytes_eq-Decides e.prefix d.prefix).1 (sym same) in
          absurd (let e : true ≡ false = sym wrong ∙ both.0 in cc)
      | inr other ↦ other
    ] in
    let fresh : has (es ++ d ∷ []) e.prefix ≡ false =
    has-append es (d ∷ []) e.prefix ∙ rw (parts.0, turned) refl in
    rw fresh (apart-more es d parts.1 both.1)

heads-apart : (scope : Scope) (before : List Declaration) (xs : List Item)
    → are_apart before ≡ true → good_attributes scope before xs ≡ true
    → are_apart (before ++ declared xs) ≡ true
heads-apart scope before (Xmlns p u ∷ xs) a h =
    let d = declaration p u in
    let r = refuted (is_some (uri_in before p)) (good_attributes scope (before ++ d ∷ []) xs) h in
    ap are_apart (sym (append_assoc before (d ∷ []) (declared xs)))
    ∙ heads-apart scope (before ++ d ∷ []) xs (apart-more before d a r.0) r.1
heads-apart scope before (Attr p l v ∷ xs) a h =
    heads-apart scope before xs a
    (and_parts (is_bound scope p) (good_attributes scope before xs) h).1
heads-apart scope before xs a h = rw append-nil a

pub starts-apart : (scope : Scope) (k : ℕ) (xs : List Item) → good_names scope xs ≡ true
    → is_start (slice_get xs k) ≡ true → are_apart (declared (drop (suc k) xs)) ≡ true
starts-apart scope k [] h s = refl
starts-apart scope (suc k) (x ∷ xs) h s =
    starts-apart (scope_behind scope x xs) k xs (names-behind scope x xs h) s
starts-apart scope zero (Start p l ∷ xs) h s =
    let inner = declared xs ∷ scope in
    let r = and_parts (good_head inner p xs) (good_names inner xs) h in
    heads-apart inner [] xs refl (and_parts (is_bound inner p) (good_attributes inner [] xs) r.0).1
starts-apart scope zero (x ∷ xs) h s = absurd cc
