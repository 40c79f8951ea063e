-- The first item whose prefix isn't declared, or that declares a prefix again in its element.
use Rattle.std.specs.Prelude.{ℕ, ◌+◌, Bool, true, not, ◌&&◌, List, [], ◌∷◌, ◌++◌, is_some}
use Rattle.std.specs.Prelude.{if◌then◌else◌, Some, None, Option}
use Rattle.std.specs.Option.{option_or}
use Rattle.nbfx_values.specs.declared.content.{ArrayItem.ArrayItem, Item.Item}
use Rattle.nbfx_values.specs.declared.content.AttrItem.{AttrItem, TheVariants.Attr as AttrOn}
use Rattle.nbfx_values.specs.declared.content.AttrItem.TheVariants.{Xmlns as DeclaresOn}
use Rattle.nbfx_values.specs.declared.content.Item.TheVariants.{Array, Attr, Close, Start, Xmlns}
use Rattle.soap_envelope.specs.Scopes.{around, Declaration, declaration, declared, declared_on}
use Rattle.soap_envelope.specs.Scopes.{is_bound, Scope, uri_in}

-- the first of an element's declarations and attributes, behind these declarations of it
abbrev pub bad_attribute : Scope → List Declaration → ℕ → List Item → Option ℕ
bad_attribute scope before at (Xmlns prefix uri ∷ more) =
    if is_some (uri_in before prefix)
    then Some at
    else bad_attribute scope (before ++ declaration prefix uri ∷ []) (at + 1) more
bad_attribute scope before at (Attr prefix local value ∷ more) =
    if is_bound scope prefix then bad_attribute scope before (at + 1) more else Some at
bad_attribute scope before at _ = None

-- whether all those of an array's element are good
abbrev pub are_good : Scope → List Declaration → List AttrItem → Bool
are_good scope before [] = true
are_good scope before (DeclaresOn prefix uri ∷ more) =
    not (is_some (uri_in before prefix))
    && are_good scope (before ++ declaration prefix uri ∷ []) more
are_good scope before (AttrOn prefix local value ∷ more) =
    is_bound scope prefix && are_good scope before more

abbrev pub is_good_array : Scope → ArrayItem → Bool
is_good_array outer a =
    let scope = declared_on a.attrs ∷ outer in
    is_bound scope a.prefix && are_good scope [] a.attrs

-- the first of an element's beginning, its declarations and its attributes
abbrev pub bad_in_head : Scope → List ℕ → ℕ → List Item → Option ℕ
bad_in_head scope prefix at behind =
    if is_bound scope prefix then bad_attribute scope [] (at + 1) behind else Some at

-- the first of items, of which the first is at this place
abbrev pub first_bad_name : Scope → ℕ → List Item → Option ℕ
first_bad_name scope at [] = None
first_bad_name scope at (Start prefix local ∷ more) =
    let inner = declared more ∷ scope in
    option_or (bad_in_head inner prefix at more) (first_bad_name inner (at + 1) more)
first_bad_name scope at (Array a ∷ more) =
    if is_good_array scope a then first_bad_name scope (at + 1) more else Some at
first_bad_name scope at (Close ∷ more) = first_bad_name (around scope) (at + 1) more
first_bad_name scope at (item ∷ more) = first_bad_name scope (at + 1) more

-- the same of a document
abbrev pub bad_name : List Item → Option ℕ
bad_name = first_bad_name [] 0
