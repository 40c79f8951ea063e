-- Declarations of a document are texts, in whatever order they are kept.
use Rattle.soap_envelope.specs.declared.versions.Addressing.{Addressing}
use Rattle.std.proofs.Common.{◌≡◌, ℕ, ◌+◌, Bool, true, not, List, [], ◌∷◌, map, drop, filter}
use Rattle.std.proofs.Common.{nat_cmp, Ordering, Less, Equal, Greater, refl, ◌∙◌, inl, inr}
use Rattle.std.proofs.lemmas.Bool.{and_parts, cases_Bool}
use Rattle.std.proofs.lemmas.List.Folds.{list_all-append, list_all-map}
use Rattle.std.specs.{Cmp.Lexicographic.slice_cmp, List.list_all}
use Rattle.nbfx_values.specs.declared.content.ArrayItem.{ArrayItem}
use Rattle.nbfx_values.specs.declared.content.Item.{Item, TheVariants.Attr, TheVariants.Xmlns}
use Rattle.nbfx_values.specs.Items.{are_texts, is_valid_array, is_valid_attribute, is_valid_item}
use Rattle.soap_envelope.specs.Body.{array_with, attribute_of, in_scope, is_missing, is_usual}
use Rattle.soap_envelope.specs.Body.{missing, needed, placed, put, put_all}
use Rattle.soap_envelope.specs.Scopes.{Declaration, declared, declared_on, within}
use Rattle.soap_envelope.proofs.{Lists.list_all-drop, Usual.all-put-all}

-- whether a declaration's prefix and namespace are UTF-8
abbrev pub is_text : Declaration → Bool
is_text d = are_texts d.prefix d.uri

declared-texts : (xs : List Item) → list_all is_valid_item xs ≡ true
    → list_all is_text (declared xs) ≡ true
declared-texts [] h = refl
declared-texts (Xmlns prefix uri ∷ xs) h =
    let p = and_parts (are_texts prefix uri) (list_all is_valid_item xs) h in
    rw p.0 (declared-texts xs p.1)
declared-texts (Attr prefix local value ∷ xs) h =
    declared-texts xs (and_parts (is_valid_item (Attr prefix local value))
    (list_all is_valid_item xs) h).1
declared-texts (x ∷ xs) h = refl

-- what all pass, those that are kept pass too
pub filtered : {X : Type 0} (p q : X → Bool) (xs : List X) → list_all p xs ≡ true
    → list_all p (filter q xs) ≡ true
filtered p q [] h = refl
filtered p q (x ∷ xs) h =
    let r = and_parts (p x) (list_all p xs) h in
    elim (cases_Bool (q x))
    [ inl is ↦ rw (is, r.0) (filtered p q xs r.1) | inr other ↦ rw other (filtered p q xs r.1) ]

-- what children of the element at a place need, within the element at another
pub needed-texts : (version : Addressing) (items : List Item) (root at : ℕ)
    → list_all is_valid_item items ≡ true
    → list_all is_text (needed version (within items at (within items root []))) ≡ true
needed-texts version items root at h =
    let own = declared-texts (drop (at + 1) items) (list_all-drop is_valid_item (at + 1) items h) in
    let outer =
    declared-texts (drop (root + 1) items) (list_all-drop is_valid_item (root + 1) items h) in
    let all = all-put-all is_text (declared (drop (root + 1) items)) [] outer refl in
    filtered is_text (λ d. not (is_usual version d)) (in_scope (within items at (within items root
    [])))
    (all-put-all is_text (declared (drop (at + 1) items))
    (put_all (declared (drop (root + 1) items)) [])
    own all)

pub missing-texts : (needs own : List Declaration) → list_all is_text needs ≡ true
    → list_all is_text (missing needs own) ≡ true
missing-texts needs own h = filtered is_text (is_missing own) needs h

-- an array keeps valid with declarations in front of its attributes
pub array-valid : (needs : List Declaration) (a : ArrayItem) → list_all is_text needs ≡ true
    → is_valid_array a ≡ true → is_valid_array (array_with needs a) ≡ true
array-valid needs a h k =
    let own = missing needs (declared_on a.attrs) in
    let p = and_parts (are_texts a.prefix a.local) _ k in
    let q = and_parts (list_all is_valid_attribute a.attrs) _ p.1 in
    let put : list_all is_valid_attribute (map attribute_of own) ≡ true =
    list_all-map is_valid_attribute attribute_of own
    ∙ missing-texts needs (declared_on a.attrs) h in
    rw (p.0, list_all-append is_valid_attribute (map attribute_of own) a.attrs, put, q.0) q.1
