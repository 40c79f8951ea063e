-- The blocks of addressing that count in a version, the first that is repeated, and the first item
-- of Header that isn't as the standards have it.
use Rattle.std.specs.Prelude.{ℕ, min, Bool, true, false, not, ◌&&◌, ◌||◌, List, [], ◌∷◌, ◌++◌}
use Rattle.std.specs.Prelude.{is_some, if◌then◌else◌, slice_get, Some, None, codes, filter, Option}
use Rattle.std.specs.Prelude.{option_map, find, bytes_eq}
use Rattle.std.specs.{List.list_any, Option.option_or}
use Rattle.nbfx_values.specs.declared.content.Item.{Item}
use Rattle.soap_envelope.specs.declared.{attributes.Found.Found, blocks.Block.Block}
use Rattle.soap_envelope.specs.declared.versions.Addressing.{Addressing}
use Rattle.soap_envelope.specs.Blocks.{block_of, is_no, is_yes, must_understand_of, role_of}
use Rattle.soap_envelope.specs.{Characters.has_plain_content, Parts.is_element}
use Rattle.soap_envelope.specs.Children.{children_of, is_start}
use Rattle.soap_envelope.specs.{Names.is_named, Names.is_same_name, Versions.namespace}
use Rattle.soap_envelope.specs.Scopes.{Scope, within}

-- whether a block counts as addressing's of a local name: it does where it is targeted
abbrev pub counts_as : Addressing → List ℕ → Block → Bool
counts_as version local b = b.targeted && is_named b.name (namespace version) local

-- the first that does
abbrev pub first_counted : Addressing → List ℕ → List Block → Option Block
first_counted version local blocks = find (counts_as version local) blocks

abbrev pub counted_at : Addressing → List ℕ → List Block → Option ℕ
counted_at version local blocks =
    option_map (λ (b : Block). b.from) (first_counted version local blocks)

-- whether a block counts as one with content of characters alone, and as one that may stand once
abbrev pub is_textual : Addressing → Block → Bool
is_textual version b =
    counts_as version (codes "Action") b
    || (counts_as version (codes "To") b || counts_as version (codes "MessageID") b)

abbrev pub is_single : Addressing → Block → Bool
is_single version b = is_textual version b || counts_as version (codes "ReplyTo") b

-- whether another block is targeted, and has the block's name
abbrev pub is_first_of : Block → Block → Bool
is_first_of b other = other.targeted && is_same_name other.name b.name

-- whether a block that may stand once comes behind one of its name that counts
abbrev pub is_again : Addressing → List Block → Block → Bool
is_again version before b =
    is_single version b && list_any (is_first_of b) before

-- the beginning of the first such, where these stand before
abbrev pub repeated_behind : Addressing → List Block → List Block → Option ℕ
repeated_behind version before [] = None
repeated_behind version before (b ∷ more) =
    if is_again version before b
    then Some b.from
    else repeated_behind version (before ++ b ∷ []) more

abbrev pub repeated : Addressing → List Block → Option ℕ
repeated version = repeated_behind version []

-- whether an Address of characters alone begins at a place
abbrev pub is_address : Addressing → List Item → Scope → ℕ → Bool
is_address version items outer at =
    is_element items outer (namespace version) (codes "Address") at && has_plain_content items at

abbrev pub addresses_among : Addressing → List Item → Scope → List ℕ → List ℕ
addresses_among version items inner children = filter (is_address version items inner) children

-- the children of a ReplyTo that are an Address of characters alone
abbrev pub addresses : Addressing → List Item → Scope → ℕ → List ℕ
addresses version items outer at =
    addresses_among version items (within items at outer) (children_of items at)

-- the only one of places
abbrev pub only : List ℕ → Option ℕ
only [] = None
only (at ∷ []) = Some at
only (at ∷ other ∷ more) = None

abbrev pub is_missing : Option ℕ → Bool
is_missing None = true
is_missing (Some at) = false

-- whether the content of a block that counts isn't what addressing asks of it
abbrev pub is_bad_content : Addressing → List Item → Scope → Block → Bool
is_bad_content version items outer b =
    (is_textual version b && not (has_plain_content items b.from))
    || (counts_as version (codes "ReplyTo") b
    && is_missing (only (addresses version items outer b.from)))

-- the place of an attribute mustUnderstand that is no truth, and of a role without characters
abbrev pub bad_must_understand : Option Found → Option ℕ
bad_must_understand None = None
bad_must_understand (Some f) = if is_yes f.characters || is_no f.characters then None else Some f.at

abbrev pub bad_role : Option Found → Option ℕ
bad_role None = None
bad_role (Some f) = if is_some f.characters then None else Some f.at

-- the lesser of places
abbrev pub earlier : Option ℕ → Option ℕ → Option ℕ
earlier None other = other
earlier (Some at) None = Some at
earlier (Some at) (Some other) = Some (min at other)

-- the first item of a block that isn't as SOAP asks, by its mustUnderstand and its role
abbrev pub bad_by : Block → (must_understand role : Option Found) → Option ℕ
bad_by b must_understand role =
    if bytes_eq b.name.uri []
    then Some b.from
    else earlier (bad_must_understand must_understand) (bad_role role)

abbrev pub bad_in_block : List Item → Scope → Block → Option ℕ
bad_in_block items outer b =
    bad_by b (must_understand_of items outer b.from) (role_of items outer b.from)

-- the same of a child of Header
abbrev pub bad_child : List Item → Scope → ℕ → Option ℕ
bad_child items outer at =
    if is_start (slice_get items at) then bad_in_block items outer (block_of items outer at)
    else Some at

-- the same of children of Header
abbrev pub bad_children : List Item → Scope → List ℕ → Option ℕ
bad_children items outer [] = None
bad_children items outer (at ∷ more) =
    option_or (bad_child items outer at) (bad_children items outer more)

-- the first block whose content isn't what addressing asks of it
abbrev pub bad_content : Addressing → List Item → Scope → List Block → Option ℕ
bad_content version items outer [] = None
bad_content version items outer (b ∷ more) =
    if is_bad_content version items outer b
    then Some b.from
    else bad_content version items outer more
