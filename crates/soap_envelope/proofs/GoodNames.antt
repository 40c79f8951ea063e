-- Good names, told without places: of a document, and of the content of its Body.
use Rattle.std.proofs.Common.{Bool, List, None, Option, Some, [], drop, false, if◌then◌else◌}
use Rattle.std.proofs.Common.{is_some, not, refl, suc, true, zero, ℕ, ◌&&◌, ◌++◌, ◌+◌, ◌∷◌, ◌≡◌}
use Rattle.std.proofs.lemmas.Bool.{and_parts}
use Rattle.nbfx_values.proofs.Positions.{passed}
use Rattle.nbfx_values.specs.Positions.{position_from, takes_attributes}
use Rattle.nbfx_values.specs.declared.content.Item.TheVariants.{Array, Attr, Close, Comment, Start}
use Rattle.nbfx_values.specs.declared.content.Item.TheVariants.{Text, Xmlns}
use Rattle.nbfx_values.specs.declared.position.Position.TheVariants.{After, Before, Within}
use Rattle.nbfx_values.specs.{Items.is_valid_item, declared.content.Item.Item}
use Rattle.nbfx_values.specs.{declared.position.Position.Position}
use Rattle.soap_envelope.proofs.MadeNames.{neither, unless_bad}
use Rattle.soap_envelope.proofs.{Apart.refuted, Nesting.nowhere}
use Rattle.soap_envelope.specs.BadNames.{bad_attribute, bad_in_head, first_bad_name, is_good_array}
use Rattle.soap_envelope.specs.Scopes.{Declaration, Scope, around, declaration, declared, is_bound}
use Rattle.soap_envelope.specs.{Bindings.scope_to, Body.behind_head, Resolved.scope_behind}
use Rattle.soap_envelope.specs.{Scopes.uri_in}

-- whether an element's declarations and attributes are good, behind these declarations of it, and
-- whether the prefixes of its attributes are bound
abbrev pub good_attributes : Scope → List Declaration → List Item → Bool
good_attributes scope before (Xmlns p u ∷ more) =
    not (is_some (uri_in before p)) && good_attributes scope (before ++ declaration p u ∷ []) more
good_attributes scope before (Attr p l v ∷ more) = is_bound scope p && good_attributes scope before
    more
good_attributes scope before _ = true

abbrev head_bound : Scope → List Item → Bool
head_bound scope (Xmlns p u ∷ more) = head_bound scope more
head_bound scope (Attr p l v ∷ more) = is_bound scope p && head_bound scope more
head_bound scope _ = true

-- whether the names of an element's beginning are good
abbrev pub good_head : Scope → List ℕ → List Item → Bool
good_head scope p behind = is_bound scope p && good_attributes scope [] behind

-- whether those of items are
abbrev pub good_names : Scope → List Item → Bool
good_names scope [] = true
good_names scope (Start p l ∷ more) =
    good_head (declared more ∷ scope) p more && good_names (declared more ∷ scope) more
good_names scope (Array a ∷ more) = is_good_array scope a && good_names scope more
good_names scope (Attr p l v ∷ more) = is_bound scope p && good_names scope more
good_names scope (Close ∷ more) = good_names (around scope) more
good_names scope (item ∷ more) = good_names scope more

-- a bad one would have a place
first_bad : (bad : Bool) (at : ℕ) (other : Option ℕ) → (if bad then Some at else other) ≡ None
    → (bad ≡ false) × (other ≡ None)
first_bad true at other h = absurd cc
first_bad false at other h = (refl, h)

attributes-good : (scope : Scope) (before : List Declaration) (at : ℕ) (xs : List Item)
    → bad_attribute scope before at xs ≡ None
    → (good_attributes scope before xs ≡ true) × (head_bound scope xs ≡ true)
attributes-good scope before at (Xmlns p u ∷ xs) h =
    let next = before ++ declaration p u ∷ [] in
    let r = first_bad (is_some (uri_in before p)) at (bad_attribute scope next (at + 1) xs) h in
    let rest = attributes-good scope next (at + 1) xs r.1 in
    (rw r.0 rest.0, rest.1)
attributes-good scope before at (Attr p l v ∷ xs) h =
    let r = unless_bad (is_bound scope p) (bad_attribute scope before (at + 1) xs) at h in
    let rest = attributes-good scope before (at + 1) xs r.1 in
    (rw r.0 rest.0, rw r.0 rest.1)
attributes-good scope before at xs h = (refl, refl)

start-good : (scope : Scope) (at : ℕ) (p : List ℕ) (xs : List Item)
    → first_bad_name scope at (Start p [] ∷ xs) ≡ None → let inner = declared xs ∷ scope in
    (good_head inner p xs ≡ true) × (head_bound inner xs ≡ true)
    × (first_bad_name inner (at + 1) xs ≡ None)
start-good scope at p xs h =
    let inner = declared xs ∷ scope in
    let parts = neither (bad_in_head inner p at xs) (first_bad_name inner (at + 1) xs) h in
    let head = unless_bad (is_bound inner p) (bad_attribute inner [] (at + 1) xs) at parts.0 in
    let attributes = attributes-good inner [] (at + 1) xs head.1 in
    (rw (head.0, attributes.0) refl, attributes.1, parts.1)

-- where no attribute may stand, nothing is asked of those at the head
none-there : {X : Type 0} → false ≡ true → X
none-there h = absurd cc

-- from a place of a document on, where no item is bad
pub names-good : (s : Position) (scope : Scope) (at : ℕ) (xs : List Item)
    → position_from (Some s) xs ≡ Some After
    → (takes_attributes s ≡ true → head_bound scope xs ≡ true)
    → first_bad_name scope at xs ≡ None → good_names scope xs ≡ true
names-good s scope at [] h b g = refl
names-good Before scope at (Start p l ∷ xs) h b g =
    let q = passed (is_valid_item (Start p l)) (Some (Within 0 true)) xs After h in
    let r = start-good scope at p xs g in
    rw r.0 (names-good (Within 0 true) (declared xs ∷ scope) (at + 1) xs q.1 (λ e. r.1) r.2)
names-good (Within n a) scope at (Start p l ∷ xs) h b g =
    let q = passed (is_valid_item (Start p l)) (Some (Within (suc n) true)) xs After h in
    let r = start-good scope at p xs g in
    rw r.0 (names-good (Within (suc n) true) (declared xs ∷ scope) (at + 1) xs q.1 (λ e. r.1) r.2)
names-good (Within n true) scope at (Xmlns p u ∷ xs) h b g =
    let q = passed (is_valid_item (Xmlns p u)) (Some (Within n true)) xs After h in
    names-good (Within n true) scope (at + 1) xs q.1 b g
names-good (Within n true) scope at (Attr p l v ∷ xs) h b g =
    let q = passed (is_valid_item (Attr p l v)) (Some (Within n true)) xs After h in
    let r = and_parts (is_bound scope p) (head_bound scope xs) (b refl) in
    rw r.0 (names-good (Within n true) scope (at + 1) xs q.1 (λ e. r.1) g)
names-good (Within n a) scope at (Text v ∷ xs) h b g =
    let q = passed (is_valid_item (Text v)) (Some (Within n false)) xs After h in
    names-good (Within n false) scope (at + 1) xs q.1 (λ e. none-there e) g
names-good (Within n a) scope at (Comment v ∷ xs) h b g =
    let q = passed (is_valid_item (Comment v)) (Some (Within n false)) xs After h in
    names-good (Within n false) scope (at + 1) xs q.1 (λ e. none-there e) g
names-good (Within n a) scope at (Array v ∷ xs) h b g =
    let q = passed (is_valid_item (Array v)) (Some (Within n false)) xs After h in
    let r = unless_bad (is_good_array scope v) (first_bad_name scope (at + 1) xs) at g in
    rw r.0 (names-good (Within n false) scope (at + 1) xs q.1 (λ e. none-there e) r.1)
names-good (Within zero a) scope at (Close ∷ xs) h b g =
    names-good After (around scope) (at + 1) xs h (λ e. none-there e) g
names-good (Within (suc n) a) scope at (Close ∷ xs) h b g =
    names-good (Within n false) (around scope) (at + 1) xs h (λ e. none-there e) g
names-good s scope at (x ∷ xs) h b g = absurd (nowhere x xs After h)

-- good ones have no place
pub good-attributes : (scope : Scope) (before : List Declaration) (at : ℕ) (xs : List Item)
    → good_attributes scope before xs ≡ true → bad_attribute scope before at xs ≡ None
good-attributes scope before at (Xmlns p u ∷ xs) h =
    let next = before ++ declaration p u ∷ [] in
    let r = refuted (is_some (uri_in before p)) (good_attributes scope next xs) h in
    rw r.0 (good-attributes scope next (at + 1) xs r.1)
good-attributes scope before at (Attr p l v ∷ xs) h =
    let r = and_parts (is_bound scope p) (good_attributes scope before xs) h in
    rw r.0 (good-attributes scope before (at + 1) xs r.1)
good-attributes scope before at xs h = refl

-- good names go on behind an item
pub names-behind : (scope : Scope) (item : Item) (more : List Item) → good_names scope (item ∷ more)
    ≡ true
    → good_names (scope_behind scope item more) more ≡ true
names-behind scope (Start p l) more h =
    (and_parts (good_head (declared more ∷ scope) p more) (good_names (declared more ∷ scope) more)
    h).1
names-behind scope (Array a) more h =
    (and_parts (is_good_array scope a) (good_names scope more) h).1
names-behind scope (Attr p l v) more h = (and_parts (is_bound scope p) (good_names scope more) h).1
names-behind scope x more h = h

pub names-at : (scope : Scope) (k : ℕ) (xs : List Item) → good_names scope xs ≡ true
    → good_names (scope_to scope k xs) (drop k xs) ≡ true
names-at scope zero xs h = h
names-at scope (suc k) [] h = refl
names-at scope (suc k) (x ∷ xs) h =
    names-at (scope_behind scope x xs) k xs (names-behind scope x xs h)

pub head-good : (scope : Scope) (xs : List Item) → good_names scope xs ≡ true
    → good_names scope (behind_head xs) ≡ true
head-good scope (Xmlns p u ∷ xs) h = head-good scope xs h
head-good scope (Attr p l v ∷ xs) h =
    head-good scope xs (and_parts (is_bound scope p) (good_names scope xs) h).1
head-good scope xs h = h
