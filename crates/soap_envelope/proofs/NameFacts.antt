-- What one item more says of names.
use Rattle.std.proofs.Common.{◌≡◌, ℕ, ◌+◌, ◌≤◌, true, false, List, [], ◌∷◌, ◌++◌, length, take}
use Rattle.std.proofs.Common.{drop, is_some, Some, None, Option, option_copied, sym, refl, ap}
use Rattle.std.proofs.Common.{arith, Bor}
use Rattle.nbfx_values.specs.declared.content.AttrItem.{AttrItem, TheVariants.Attr as AttrOn}
use Rattle.nbfx_values.specs.declared.content.AttrItem.TheVariants.{Xmlns as DeclaresOn}
use Rattle.nbfx_values.specs.declared.content.Item.{Item, TheVariants.Attr, TheVariants.Xmlns}
use Rattle.nbfx_values.specs.declared.scalars.Value.{Value}
use Rattle.soap_envelope.specs.BadNames.{are_good, bad_attribute}
use Rattle.soap_envelope.specs.Scopes.{Declaration, declaration, declared, declared_on, is_bound}
use Rattle.soap_envelope.{specs.Scopes.Scope, specs.Scopes.uri_in, proofs.Lists.drop-head}

-- one declaration more of an element's
one-declared : (own : List Declaration) (before : ℕ) (prefix uri : List ℕ) (tail : List Declaration)
    → drop before own ≡ declaration prefix uri ∷ tail
    → (before + 1 ≤ length own) × (drop (before + 1) own ≡ tail)
    × ((take before own) ++ declaration prefix uri ∷ [] ≡ take (before + 1) own)
one-declared own before prefix uri tail left =
    let r = drop-head own before (declaration prefix uri) tail left in (omega arith, r.2, sym r.1)

-- one declaration more
pub xmlns-step : (scope : Scope) (own : List Declaration) (before place : ℕ) (prefix uri : List ℕ)
    (rest : List Item)
    → drop before own ≡ declared (Xmlns prefix uri ∷ rest)
    → is_some (uri_in (take before own) prefix) ≡ false
    → (before + 1 ≤ length own) × (drop (before + 1) own ≡ declared rest)
    × (bad_attribute scope (take before own) place (Xmlns prefix uri ∷ rest)
    ≡ bad_attribute scope (take (before + 1) own) (place + 1) rest)
xmlns-step scope own before place prefix uri rest left fresh =
    let r = one-declared own before prefix uri (declared rest) left in
    (r.0, r.1, rw fresh (ap (λ bs. bad_attribute scope bs (place + 1) rest) r.2))

pub declares-step : (scope : Scope) (own : List Declaration) (before : ℕ) (prefix uri : List ℕ)
    (rest : List AttrItem)
    → drop before own ≡ declared_on (DeclaresOn prefix uri ∷ rest)
    → is_some (uri_in (take before own) prefix) ≡ false
    → (before + 1 ≤ length own) × (drop (before + 1) own ≡ declared_on rest)
    × (are_good scope (take before own) (DeclaresOn prefix uri ∷ rest)
    ≡ are_good scope (take (before + 1) own) rest)
declares-step scope own before prefix uri rest left fresh =
    let r = one-declared own before prefix uri (declared_on rest) left in
    (r.0, r.1, rw fresh (ap (λ bs. are_good scope bs rest) r.2))

-- one attribute more
pub attr-step : (scope : Scope) (before : List Declaration) (place : ℕ) (prefix local : List ℕ)
    (value : Value) (rest : List Item)
    → is_bound scope prefix ≡ true
    → bad_attribute scope before place (Attr prefix local value ∷ rest) ≡ bad_attribute scope before
    (place + 1) rest
attr-step scope before place prefix local value rest h = rw h refl

pub has-step : (scope : Scope) (before : List Declaration) (prefix local : List ℕ) (value : Value)
    (rest : List AttrItem)
    → is_bound scope prefix ≡ true
    → are_good scope before (AttrOn prefix local value ∷ rest) ≡ are_good scope before rest
has-step scope before prefix local value rest h = rw h refl

-- whether there is what a reference points to
pub is_some-copied : {X : Type 0} (r : Option (Bor X)) → is_some (option_copied r) ≡ is_some r
is_some-copied None = refl
is_some-copied (Some x) = refl
