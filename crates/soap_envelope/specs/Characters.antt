-- The characters of texts and elements.
use Rattle.std.specs.Prelude.{ℕ, Bool, true, false, ◌||◌, List, [], is_some, ◌==◌, slice_get, Some}
use Rattle.std.specs.{Prelude.None, Prelude.Option, Prelude.flat_map, List.list_all}
use Rattle.nbfx_values.specs.declared.content.Item.{Item, TheVariants.Comment, TheVariants.Text}
use Rattle.{nbfx_values.specs.Characters.value_characters, soap_envelope.specs.Children.children_of}

-- space, tab, line feed and carriage return
abbrev pub is_white : ℕ → Bool
is_white c = c == 32 || c == 9 || c == 10 || c == 13

-- whether a value has characters, and only white ones
abbrev pub are_white : Option (List ℕ) → Bool
are_white None = false
are_white (Some characters) = list_all is_white characters

-- whether a child is passed over where elements are wanted: a comment or a blank text
abbrev pub is_passed : Option Item → Bool
is_passed (Some (Comment bytes)) = true
is_passed (Some (Text value)) = are_white (value_characters value)
is_passed _ = false

-- whether a child may stand where characters are wanted: a comment or a text with characters
abbrev pub is_plain : Option Item → Bool
is_plain (Some (Comment bytes)) = true
is_plain (Some (Text value)) = is_some (value_characters value)
is_plain _ = false

-- whether all children of the element at a place are
abbrev pub has_plain_content : List Item → ℕ → Bool
has_plain_content items at = list_all (λ child. is_plain (slice_get items child))
    (children_of items at)

abbrev pub or_none : Option (List ℕ) → List ℕ
or_none None = []
or_none (Some characters) = characters

-- the characters of a text, and no others
abbrev pub characters_of : Option Item → List ℕ
characters_of (Some (Text value)) = or_none (value_characters value)
characters_of _ = []

-- the characters of the element at a place: those of its texts, joined
abbrev pub text_of : List Item → ℕ → List ℕ
text_of items at = flat_map (λ child. characters_of (slice_get items child)) (children_of items at)
