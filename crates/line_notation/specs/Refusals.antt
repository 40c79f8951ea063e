-- Which lines are refused, by what they say. Of several reasons the first holds.
use Rattle.std.specs.Prelude.{◌≡◌, ℕ, true, false, ◌↔◌, List, [], ◌∷◌, ◌++◌, Some, None, Err}
use Rattle.std.specs.Prelude.{Option}
use Rattle.nbfx_values.specs.{declared.content.ArrayItem.ArrayItem, Documents.IsFront}
use Rattle.nbfx_values.specs.declared.content.Item.{Item, TheVariants.Text, TheVariants.Xmlns}
use Rattle.nbfx_values.specs.declared.content.Item.TheVariants.{Array, Attr, Close, Comment, Start}
use Rattle.line_notation.specs.declared.reader.LineKind.TheVariants.{BadText, Cut, NotALine}
use Rattle.line_notation.specs.declared.reader.LineKind.TheVariants.{OutOfPlace, OutOfRange}
use Rattle.line_notation.specs.{declared.reader.LineKind.TheVariants.WrongCount, Forms.values}
use Rattle.line_notation.specs.Forms.{array, attr, close, comment, Form, IsLine, ns, start, text}
use Rattle.line_notation.specs.Judging.{has_bad_text, is_out_of_range, scalars_of, value_said}
use Rattle.line_notation.specs.LineReaderState.{is_passed_over, kind_of, outcome}

-- no document begins with these items and this one
abbrev pub CannotStand : List Item → Item → Type 0
CannotStand items item = IsFront (items ++ item ∷ []) → ⊥

-- what a form says can't follow the items of a document, where no array is open or this one is
abbrev pub CannotFollow : List Item → Option ArrayItem → Form → Type 0
CannotFollow items None (start prefix local) = CannotStand items (Start prefix local)
CannotFollow items None (ns prefix uri) = CannotStand items (Xmlns prefix uri)
CannotFollow items None (attr prefix local written) =
    CannotStand items (Attr prefix local (value_said written))
CannotFollow items None (text written) = CannotStand items (Text (value_said written))
CannotFollow items None (comment bytes) = CannotStand items (Comment bytes)
CannotFollow items None (array kind prefix local) = (a : ArrayItem) → CannotStand items (Array a)
CannotFollow items None (values written) = Unit {0}
CannotFollow items None close = CannotStand items Close
CannotFollow items (Some a) (ns prefix uri) = ⊥
CannotFollow items (Some a) (attr prefix local written) = ⊥
CannotFollow items (Some a) (values written) =
    CannotStand items (Array (record a { values = scalars_of written }))
CannotFollow items (Some a) _ = Unit {0}

-- the line isn't passed over, and has no form
pub record IsNoLine (items : List Item) (opened : Option ArrayItem) (line : List ℕ) : Type 0 where
  pub read : is_passed_over items opened line ≡ false
  pub no_form : (form : Form) → IsLine form line → ⊥

-- a text in it isn't UTF-8
pub record HasBadText (line : List ℕ) : Type 0 where
  pub form : Form
  pub is : IsLine form line
  pub bad : has_bad_text form ≡ true

-- else, a value in it is out of range
pub record IsOutOfRange (opened : Option ArrayItem) (line : List ℕ) : Type 0 where
  pub form : Form
  pub is : IsLine form line
  pub texts : has_bad_text form ≡ false
  pub range : is_out_of_range (kind_of opened) form ≡ true

-- else, it can't follow
pub record IsOutOfPlace (items : List Item) (opened : Option ArrayItem) (line : List ℕ)
    : Type 0 where
  pub form : Form
  pub is : IsLine form line
  pub texts : has_bad_text form ≡ false
  pub range : is_out_of_range (kind_of opened) form ≡ false
  pub place : CannotFollow items opened form

-- each kind of refusal comes exactly so
abbrev pub RefusedForNoForm : Type 0
RefusedForNoForm = (items : List Item) (opened : Option ArrayItem) (line : List ℕ)
    → (outcome items opened line ≡ Err NotALine) ↔ IsNoLine items opened line

abbrev pub RefusedForText : Type 0
RefusedForText = (items : List Item) (opened : Option ArrayItem) (line : List ℕ)
    → (outcome items opened line ≡ Err BadText) ↔ HasBadText line

abbrev pub RefusedForRange : Type 0
RefusedForRange = (items : List Item) (opened : Option ArrayItem) (line : List ℕ)
    → (outcome items opened line ≡ Err OutOfRange) ↔ IsOutOfRange opened line

abbrev pub RefusedForPlace : Type 0
RefusedForPlace = (items : List Item) (opened : Option ArrayItem) (line : List ℕ)
    → (outcome items opened line ≡ Err OutOfPlace) ↔ IsOutOfPlace items opened line

-- no line is refused otherwise
pub record IsRefusedForNothingElse (items : List Item) (opened : Option ArrayItem) (line : List ℕ)
    : Type 0 where
  pub cut : outcome items opened line ≡ Err Cut → ⊥
  pub count : outcome items opened line ≡ Err WrongCount → ⊥

abbrev pub RefusedForNothingElse : Type 0
RefusedForNothingElse =
    (items : List Item) (opened : Option ArrayItem) (line : List ℕ)
    → IsRefusedForNothingElse items opened line
