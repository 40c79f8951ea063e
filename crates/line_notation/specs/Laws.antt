-- What holds of lines, forms and documents by the definitions alone.
use Rattle.std.specs.Prelude.{◌≡◌, ℕ, ◌+◌, true, ◌↔◌, List, [], ◌∷◌, ◌++◌, map, length, Some, None}
use Rattle.std.specs.{Prelude.Ok, Prelude.Err, Prelude.Option, List.list_all}
use Rattle.nbfx_values.specs.declared.content.{ArrayItem.ArrayItem, Item.Item}
use Rattle.nbfx_values.specs.{Documents.IsDocument, Items.is_valid_item}
use Rattle.line_notation.specs.declared.reader.LineFault.{LineFault, TheVariants.Bad}
use Rattle.line_notation.specs.declared.reader.LineKind.{LineKind}
use Rattle.line_notation.specs.Forms.{array, Form, form_of, IsLine}
use Rattle.line_notation.specs.LineReaderState.{after, documents_of, ending, failed, going, outcome}
use Rattle.line_notation.specs.LineReaderState.{Standing, standing}
use Rattle.line_notation.specs.Lines.{AreLines, AreLinesOf, attribute_form, cut, forms_of}
use Rattle.line_notation.specs.Lines.{has_no_feed, items_text, lines_of}

-- a line has the form that is read out of it, and no other
abbrev pub HaveOneForm : Type 0
HaveOneForm = (form : Form) (line : List ℕ) → IsLine form line ↔ (form_of line ≡ Some form)

-- the lines that are put for a document bring it, and then none is unfinished
abbrev pub BringTheirDocument : Type 0
BringTheirDocument = (doc : List Item) → IsDocument doc → documents_of (lines_of doc) ≡ doc ∷ []

abbrev pub LeaveNothingUnfinished : Type 0
LeaveNothingUnfinished =
    (doc : List Item) → IsDocument doc
    → standing (lines_of doc) ≡ going (length (lines_of doc)) [] None

-- lines bring documents and end with the last of them exactly where they are the lines of these
-- documents
abbrev pub AreOfWhatTheyBring : Type 0
AreOfWhatTheyBring = (docs : List (List Item)) (lines : List (List ℕ))
    → AreLinesOf docs lines ↔ ((documents_of lines ≡ docs) × (ending (standing lines) ≡ Ok tt))

-- what the lines of an unfinished document say so far
abbrev pub begun_forms : List Item → Option ArrayItem → List Form
begun_forms items None = forms_of items
begun_forms items (Some a) =
    forms_of items ++ array a.kind a.prefix a.local ∷ map attribute_form a.attrs

-- so many lines: those of whole documents, and those of an unfinished one
pub record AreReadTo (lines : List (List ℕ)) (docs : List (List Item)) (n : ℕ) (items : List Item)
    (opened : Option ArrayItem) : Type 0 where
  pub whole : List (List ℕ)
  pub own : List (List ℕ)
  pub lines_are : lines ≡ whole ++ own
  pub whole_are : AreLinesOf docs whole
  pub own_are : AreLines (begun_forms items opened) own
  pub count : n ≡ length lines

-- what was read, unless a line was refused
abbrev pub HaveRead : List (List ℕ) → List (List Item) → Standing → Type 0
HaveRead lines docs (failed fault) = Unit {0}
HaveRead lines docs (going n items opened) = AreReadTo lines docs n items opened

abbrev pub AreReadAsTheySay : Type 0
AreReadAsTheySay = (lines : List (List ℕ)) → HaveRead lines (documents_of lines) (standing lines)

-- the first line that is refused, by where a reader stands behind those before it
pub record IsRefusedAt (lines : List (List ℕ)) (fault : LineFault) : Type 0 where
  pub front : List (List ℕ)
  pub line : List ℕ
  pub rest : List (List ℕ)
  pub items : List Item
  pub opened : Option ArrayItem
  pub kind : LineKind
  pub lines_are : lines ≡ front ++ line ∷ rest
  pub stood : standing front ≡ going (length front) items opened
  pub refused : outcome items opened line ≡ Err kind
  pub fault_is : fault ≡ Bad (length front + 1) kind

abbrev pub AreRefusedAtALine : Type 0
AreRefusedAtALine =
    (lines : List (List ℕ)) (fault : LineFault) → standing lines ≡ failed fault
    → IsRefusedAt lines fault

-- a line more leads from where the lines before it lead
abbrev pub LeadOn : Type 0
LeadOn =
    (lines : List (List ℕ)) (line : List ℕ)
    → standing (lines ++ line ∷ []) ≡ after (standing lines) line

-- no line of a form has a line feed in it
abbrev pub HoldNoFeed : Type 0
HoldNoFeed = (form : Form) (line : List ℕ) → IsLine form line → has_no_feed line ≡ true

-- the text of items is cut into their lines, and nothing is left
abbrev pub AreCutAgain : Type 0
AreCutAgain =
    (items : List Item) → list_all is_valid_item items ≡ true
    → cut (items_text items) ≡ (lines_of items, [])
