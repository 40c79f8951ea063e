-- The root of an envelope, and which of the root's children are its Header and its Body.
use Rattle.std.specs.Prelude.{ℕ, Bool, false, not, List, [], ◌∷◌, if◌then◌else◌, slice_get, Some}
use Rattle.std.specs.Prelude.{None, Ok, Err, codes, filter, Option, Result, bytes_eq}
use Rattle.nbfx_values.specs.declared.content.Item.{Item, TheVariants.Start}
use Rattle.soap_envelope.specs.{declared.parts.Parts.Parts, Qualified.Name}
use Rattle.soap_envelope.specs.declared.refusals.SoapFault.{SoapFault, TheVariants.NotAnEnvelope}
use Rattle.soap_envelope.specs.declared.refusals.SoapFault.TheVariants.{Misplaced, NoBody}
use Rattle.soap_envelope.specs.declared.refusals.SoapFault.TheVariants.{VersionMismatch}
use Rattle.soap_envelope.specs.{Characters.is_passed, Children.children_of}
use Rattle.soap_envelope.specs.Names.{is_named, qualified_name, soap}
use Rattle.soap_envelope.specs.Scopes.{element_uri, Scope, within}

-- the name of the element that an item begins, by the declarations within the element
abbrev pub name_by : Scope → Option Item → Option Name
name_by scope (Some (Start prefix local)) = Some (qualified_name (element_uri scope prefix) local)
name_by scope _ = None

-- the name of the element that begins at a place, if one does, by the declarations around it
abbrev pub element_name : List Item → Scope → ℕ → Option Name
element_name items outer at = name_by (within items at outer) (slice_get items at)

abbrev pub is_some_name : (uri local : List ℕ) → Option Name → Bool
is_some_name uri local None = false
is_some_name uri local (Some name) = is_named name uri local

-- whether the element of this name begins at a place
abbrev pub is_element : List Item → Scope → (uri local : List ℕ) → ℕ → Bool
is_element items outer uri local at = is_some_name uri local (element_name items outer at)

-- what is wrong with a root of this name
abbrev pub wrong_name : Option Name → Option SoapFault
wrong_name None = Some NotAnEnvelope
wrong_name (Some name) =
    if bytes_eq name.local (codes "Envelope")
    then if bytes_eq name.uri soap then None else Some VersionMismatch
    else Some NotAnEnvelope

abbrev pub wrong_root : List Item → Option SoapFault
wrong_root items = wrong_name (element_name items [] 0)

-- the children of the element at a place that aren't passed over
abbrev pub kept_children : List Item → ℕ → List ℕ
kept_children items at =
    filter (λ child. not (is_passed (slice_get items child))) (children_of items at)

-- the parts, of which the Header stands before these children of the root: one child, the Body, or
-- the first that is none
abbrev pub parts_behind : List Item → Scope → Option ℕ → List ℕ → Result Parts SoapFault
parts_behind items root header [] = Err NoBody
parts_behind items root header (at ∷ []) =
    if is_element items root soap (codes "Body") at
    then Ok (record { header = header; body = at })
    else Err (Misplaced at)
parts_behind items root header (at ∷ next ∷ more) =
    if is_element items root soap (codes "Body") at then Err (Misplaced next) else Err
    (Misplaced at)

-- the parts, of which these are the children of the root
abbrev pub parts_among : List Item → Scope → List ℕ → Result Parts SoapFault
parts_among items root [] = Err NoBody
parts_among items root (at ∷ more) =
    if is_element items root soap (codes "Header") at
    then parts_behind items root (Some at) more
    else parts_behind items root None (at ∷ more)

-- the declarations within the root
abbrev pub root_scope : List Item → Scope
root_scope items = within items 0 []

abbrev pub parts_of : List Item → Result Parts SoapFault
parts_of items = parts_among items (root_scope items) (kept_children items 0)
