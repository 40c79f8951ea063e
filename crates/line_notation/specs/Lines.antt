-- The lines of documents.
use Rattle.std.specs.Prelude.{◌≡◌, ℕ, Bool, not, List, [], ◌∷◌, ◌++◌, map, if◌then◌else◌, ◌==◌}
use Rattle.std.specs.{Prelude.flat_map, List.list_all}
use Rattle.nbfx_values.specs.declared.content.AttrItem.{AttrItem, TheVariants.Attr as AttrOn}
use Rattle.nbfx_values.specs.declared.content.AttrItem.TheVariants.{Xmlns as DeclaresOn}
use Rattle.nbfx_values.specs.declared.content.Item.{Item, TheVariants.Text, TheVariants.Xmlns}
use Rattle.nbfx_values.specs.declared.content.Item.TheVariants.{Array, Attr, Close, Comment, Start}
use Rattle.nbfx_values.specs.Documents.{IsDocument}
use Rattle.line_notation.specs.Forms.{array, attr, close, comment, Form, IsLine, line_of, ns, start}
use Rattle.line_notation.specs.Forms.{text, values}
use Rattle.line_notation.specs.Values.{written_scalars, written_value}

-- what the line of a declaration or an attribute of an array's element says
abbrev pub attribute_form : AttrItem → Form
attribute_form (DeclaresOn prefix uri) = ns prefix uri
attribute_form (AttrOn prefix local value) = attr prefix local (written_value value)

-- what the lines of an item say: an array has several lines, any other item has one
abbrev pub item_forms : Item → List Form
item_forms (Start prefix local) = start prefix local ∷ []
item_forms (Xmlns prefix uri) = ns prefix uri ∷ []
item_forms (Attr prefix local value) = attr prefix local (written_value value) ∷ []
item_forms (Text value) = text (written_value value) ∷ []
item_forms (Comment bytes) = comment bytes ∷ []
item_forms (Array a) =
    array a.kind a.prefix a.local ∷ map attribute_form a.attrs
    ++ values (written_scalars a.values) ∷ []
item_forms Close = close ∷ []

-- what the lines of items say
abbrev pub forms_of : List Item → List Form
forms_of = flat_map item_forms

-- the lines of items as they are put, without their line feeds
abbrev pub lines_of : List Item → List (List ℕ)
lines_of items = map line_of (forms_of items)

-- and with them
abbrev pub with_line_feed : List ℕ → List ℕ
with_line_feed line = line ++ 10 ∷ []

unfoldable pub items_text : List Item → List ℕ
items_text items = flat_map with_line_feed (lines_of items)

-- whether no byte is a line feed
abbrev pub has_no_feed : List ℕ → Bool
has_no_feed = list_all (λ b. not (b == 10))

-- a byte before the first line, or before what is left where there is none
abbrev pub cut_before : ℕ → List (List ℕ) × List ℕ → List (List ℕ) × List ℕ
cut_before b ([], rest) = ([], b ∷ rest)
cut_before b (line ∷ lines, rest) = ((b ∷ line) ∷ lines, rest)

-- the lines of a text, each up to its line feed, and what is left behind the last
abbrev pub cut : List ℕ → List (List ℕ) × List ℕ
cut [] = ([], [])
cut (b ∷ bytes) =
    let more = cut bytes in if b == 10 then ([] ∷ more.0, more.1) else cut_before b more

-- the bytes of a line, by what it says, and of an item's lines
abbrev pub form_text : Form → List ℕ
form_text form = with_line_feed (line_of form)

abbrev pub item_text : Item → List ℕ
item_text item = flat_map form_text (item_forms item)

-- a line for each form, in any spelling
abbrev pub AreLines : List Form → List (List ℕ) → Type 0
AreLines [] lines = lines ≡ []
AreLines (form ∷ forms) lines =
    (line : List ℕ) × (rest : List (List ℕ)) × (lines ≡ line ∷ rest) × IsLine form line
    × AreLines forms rest

-- empty lines
abbrev pub AreBlank : List (List ℕ) → Type 0
AreBlank [] = Unit {0}
AreBlank (line ∷ lines) = (line ≡ []) × AreBlank lines

-- the lines of documents, between which, before which and behind which empty ones may stand
abbrev pub AreLinesOf : List (List Item) → List (List ℕ) → Type 0
AreLinesOf [] lines = AreBlank lines
AreLinesOf (doc ∷ docs) lines =
    (blank own rest : List (List ℕ)) × (lines ≡ blank ++ own ++ rest)
    × AreBlank blank × IsDocument doc × AreLines (forms_of doc) own × AreLinesOf docs rest
