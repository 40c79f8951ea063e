-- The names of replies and faults are good.
use Rattle.std.proofs.Common.{Bool, List, None, Option, Some, [], ap, append_assoc, arith, false}
use Rattle.std.proofs.Common.{flat_map, if◌then◌else◌, is_some, length, refl, true, ℕ, ◌++◌, ◌+◌}
use Rattle.std.proofs.{Common.◌∙◌, Common.◌∷◌, Common.◌≡◌, lemmas.Bool.and_parts}
use Rattle.std.specs.{List.list_all, Option.option_or}
use Rattle.nbfx_values.specs.declared.content.Item.TheVariants.{Array, Attr, Close, Start, Text}
use Rattle.nbfx_values.specs.{Items.is_valid_item, declared.content.Item.Item}
use Rattle.nbfx_values.specs.{declared.content.Item.TheVariants.Xmlns}
use Rattle.nbfx_values.specs.{declared.position.Position.TheVariants.Within}
use Rattle.soap_envelope.proofs.Nesting.{declared-inside, nowhere}
use Rattle.soap_envelope.proofs.OnLiterals.{envelopes_on_literals}
use Rattle.soap_envelope.specs.BadNames.{bad_attribute, bad_in_head, bad_name, first_bad_name}
use Rattle.soap_envelope.specs.Made.{StandsInReplies, reply_scope}
use Rattle.soap_envelope.specs.Making.{IsContent, ending, envelope_items, is_valid_text, middle}
use Rattle.soap_envelope.specs.Scopes.{Declaration, Scope, around, declaration, declared, is_bound}
use Rattle.soap_envelope.specs.{BadNames.is_good_array, Body.behind_head}
use Rattle.soap_envelope.specs.{Faults.not_understood_block, Making.relates_block, Qualified.Name}
use Rattle.soap_envelope.specs.{Scopes.uri_in, declared.versions.Addressing.Addressing}

-- the scope after items
abbrev behind : Scope → List Item → Scope
behind scope [] = scope
behind scope (Start prefix local ∷ more) = behind (declared more ∷ scope) more
behind scope (Close ∷ more) = behind (around scope) more
behind scope (item ∷ more) = behind scope more

-- where the first of two places is none, neither is there
pub neither : (a b : Option ℕ) → option_or a b ≡ None → (a ≡ None) × (b ≡ None)
neither None b h = (refl, h)
neither (Some at) b h = absurd cc

-- a choice that isn't a place is the other
pub unless_bad : (good : Bool) (other : Option ℕ) (at : ℕ) → (if good then other else Some at)
    ≡ None
    → (good ≡ true) × (other ≡ None)
unless_bad true other at h = (refl, h)
unless_bad false other at h = absurd cc

-- an element's attributes end where items do
attributes-inside : (scope : Scope) (xs ys : List Item) (before : List Declaration) (at : ℕ)
    → bad_attribute scope before at (xs ++ Close ∷ ys) ≡ bad_attribute scope before at xs
attributes-inside scope (Xmlns p u ∷ xs) ys before at =
    ap (λ o. if is_some (uri_in before p) then Some at else o)
    (attributes-inside scope xs ys (before ++ declaration p u ∷ []) (at + 1))
attributes-inside scope (Attr p l v ∷ xs) ys before at =
    ap (λ o. if is_bound scope p then o else Some at)
    (attributes-inside scope xs ys before (at + 1))
attributes-inside scope xs ys before at = refl

-- items whose names are good, before an end
pub names-inside : (xs ys : List Item) (scope : Scope) (at : ℕ)
    → first_bad_name scope at xs ≡ None
    → first_bad_name scope at (xs ++ Close ∷ ys)
    ≡ first_bad_name (behind scope xs) (at + length xs) (Close ∷ ys)
names-inside [] ys scope at h =
    ap (λ k. first_bad_name (around scope) (k + 1) ys) (omega arith)
names-inside (Start p l ∷ xs) ys scope at h =
    let inner = declared xs ∷ scope in
    let parts = neither (bad_in_head inner p at xs) (first_bad_name inner (at + 1) xs) h in
    let head = unless_bad (is_bound inner p) (bad_attribute inner [] (at + 1) xs) at parts.0 in
    rw (declared-inside xs ys, head.0, attributes-inside inner xs ys [] (at + 1), head.1)
    (names-inside xs ys inner (at + 1) parts.1
    ∙ ap (λ k. first_bad_name (behind inner xs) k (Close ∷ ys)) (omega arith))
names-inside (Array a ∷ xs) ys scope at h =
    let good = unless_bad (is_good_array scope a) (first_bad_name scope (at + 1) xs) at h in
    rw good.0
    (names-inside xs ys scope (at + 1) good.1
    ∙ ap (λ k. first_bad_name (behind scope xs) k (Close ∷ ys)) (omega arith))
names-inside (Close ∷ xs) ys scope at h =
    names-inside xs ys (around scope) (at + 1) h
    ∙ ap (λ k. first_bad_name (behind (around scope) xs) k (Close ∷ ys)) (omega arith)
names-inside (x ∷ xs) ys scope at h =
    names-inside xs ys scope (at + 1) h
    ∙ ap (λ k. first_bad_name (behind scope xs) k (Close ∷ ys)) (omega arith)

-- what stands in Body begins with no declaration and no attribute
pub record BeginsWithContent (xs ys : List Item) : Type 0 where
  pub declares : declared (xs ++ Close ∷ ys) ≡ []
  pub attributes : (scope : Scope) (at : ℕ) → bad_attribute scope [] at (xs ++ Close ∷ ys) ≡ None
  pub head : behind_head (xs ++ Close ∷ ys) ≡ xs ++ Close ∷ ys

pub begins-with-content : (xs ys : List Item) → IsContent xs → BeginsWithContent xs ys
begins-with-content (Xmlns p u ∷ xs) ys h = absurd (nowhere (Xmlns p u) xs (Within 0 false) h)
begins-with-content (Attr p l v ∷ xs) ys h = absurd (nowhere (Attr p l v) xs (Within 0 false) h)
begins-with-content xs ys h = record { declares = refl; attributes = λ scope at. refl; head = refl }

-- from the end of Header on
tail-named : (version : Addressing) (body : List Item) → IsContent body
    → StandsInReplies version body → (at : ℕ)
    → first_bad_name (reply_scope version) at (middle ++ (body ++ ending)) ≡ None
unfolding envelopes_on_literals
tail-named version body content named at =
    let begins = begins-with-content body (Close ∷ []) content in
    rw (begins.declares, begins.attributes (reply_scope version) (at + 1 + 1))
    (names-inside body (Close ∷ []) (reply_scope version) (at + 1 + 1) (named (at + 1 + 1)))

-- what comes after texts
texts-named : (texts rest : List Item) (scope : Scope) → list_all is_valid_text texts ≡ true
    → ((at : ℕ) → first_bad_name scope at rest ≡ None) → (at : ℕ)
    → first_bad_name scope at (texts ++ rest) ≡ None
texts-named [] rest scope h good at = good at
texts-named (Text v ∷ texts) rest scope h good at =
    texts-named texts rest scope
    (and_parts (is_valid_item (Text v)) (list_all is_valid_text texts) h).1 good (at + 1)
texts-named (x ∷ texts) rest scope h good at = absurd cc

relates-named : (version : Addressing) (texts rest : List Item)
    → list_all is_valid_text texts ≡ true
    → ((at : ℕ) → first_bad_name (reply_scope version) at rest ≡ None) → (at : ℕ)
    → first_bad_name (reply_scope version) at (relates_block texts ++ rest) ≡ None
unfolding envelopes_on_literals
relates-named version [] rest h good at = good at
relates-named version (Text v ∷ texts) rest h good at =
    rw (append_assoc texts (Close ∷ []) rest)
    (texts-named texts (Close ∷ rest) ([] ∷ (reply_scope version))
    (and_parts (is_valid_item (Text v)) (list_all is_valid_text texts) h).1
    (λ i. good (i + 1)) (at + 1 + 1))
relates-named version (x ∷ texts) rest h good at = absurd cc

blocks-named : (version : Addressing) (names : List Name) (rest : List Item)
    → ((at : ℕ) → first_bad_name (reply_scope version) at rest ≡ None) → (at : ℕ)
    → first_bad_name (reply_scope version) at (flat_map not_understood_block names ++ rest) ≡ None
unfolding envelopes_on_literals
blocks-named version [] rest good at = good at
blocks-named version (name ∷ names) rest good at = blocks-named version names rest good (at + 1 + 1
    + 1 + 1)

pub made-named : (version : Addressing) (action : List ℕ) (relates : List Item) (names : List Name)
    (body : List Item) → list_all is_valid_text relates ≡ true → IsContent body
    → StandsInReplies version body
    → bad_name (envelope_items version action relates (flat_map not_understood_block names) body) ≡
    None
unfolding envelopes_on_literals
made-named version action relates names body texts content named =
    relates-named version relates (flat_map not_understood_block names ++ (middle ++ (body ++
    ending)))
    texts (blocks-named version names (middle ++ (body ++ ending)) (tail-named version body content
    named)) 8
