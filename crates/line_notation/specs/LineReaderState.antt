-- Where a reader stands behind some lines, and what a line brings there.
use Rattle.std.specs.Prelude.{◌≡◌, ℕ, ◌+◌, ◌^◌, ◌<◌, Bool, true, false, List, [], ◌∷◌, ◌++◌}
use Rattle.std.specs.Prelude.{if◌then◌else◌, Some, None, Ok, Err, Option, Result, option_map}
use Rattle.nbfx_values.specs.declared.content.{ArrayItem.ArrayItem, ArrayKind.ArrayKind, Item.Item}
use Rattle.nbfx_values.specs.declared.content.AttrItem.{AttrItem, TheVariants.Attr as AttrOn}
use Rattle.nbfx_values.specs.declared.content.AttrItem.TheVariants.{Xmlns as DeclaresOn}
use Rattle.nbfx_values.specs.declared.content.Item.TheVariants.{Array, Attr, Xmlns}
use Rattle.nbfx_values.specs.{declared.position.Position.Position, Positions.position_of}
use Rattle.nbfx_values.specs.declared.position.Position.TheVariants.{After, Before, Within}
use Rattle.line_notation.specs.declared.{line.Line.Line, reader.LineStep.LineStep}
use Rattle.line_notation.specs.declared.reader.{LineFault.LineFault, LineKind.LineKind}
use Rattle.line_notation.specs.declared.reader.LineFault.TheVariants.{Bad, Memory}
use Rattle.line_notation.specs.declared.reader.LineKind.TheVariants.{Cut, NotALine, OutOfPlace}
use Rattle.line_notation.specs.declared.reader.LineStep.TheVariants.{Done, More}
use Rattle.line_notation.specs.{Forms.Form, Forms.form_of, Judging.judged}
use Rattle.line_notation.specs.declared.line.Line.TheVariants as says

-- refused, or behind so many lines, with the items of the unfinished document and the array that is
-- open
pub data Standing : Type 0 where
  failed : LineFault → Standing
  going : (lines : ℕ) → (items : List Item) → (array : Option ArrayItem) → Standing

-- where a line leads that isn't refused
pub data Placed : Type 0 where
  -- on within a document, or between documents
  on : (items : List Item) → (array : Option ArrayItem) → Placed
  -- to the end of a document
  ends : (doc : List Item) → Placed

-- where items lead, by the position behind them
abbrev pub placed_at : Option Position → List Item → Result Placed LineKind
placed_at None items = Err OutOfPlace
placed_at (Some Before) items = Ok (on items None)
placed_at (Some (Within inner attributes)) items = Ok (on items None)
placed_at (Some After) items = Ok (ends items)

abbrev pub placed_item : List Item → Item → Result Placed LineKind
placed_item items item = placed_at (position_of (items ++ item ∷ [])) (items ++ item ∷ [])

abbrev pub with_attribute : ArrayItem → AttrItem → ArrayItem
with_attribute a one = record a { attrs = a.attrs ++ one ∷ [] }

-- an array begins within the root
abbrev pub placed_array : Option Position → List Item → ArrayItem → Result Placed LineKind
placed_array (Some (Within inner attributes)) items a = Ok (on items (Some a))
placed_array _ items a = Err OutOfPlace

-- where what a line says leads, behind the items of a document and within the array that is open
abbrev pub placed : List Item → Option ArrayItem → Line → Result Placed LineKind
placed items None (says.Item item) = placed_item items item
placed items None (says.Array a) = placed_array (position_of items) items a
placed items None (says.Values scalars) = Err OutOfPlace
placed items (Some a) (says.Item (Xmlns prefix uri)) =
    Ok (on items (Some (with_attribute a (DeclaresOn prefix uri))))
placed items (Some a) (says.Item (Attr prefix local value)) =
    Ok (on items (Some (with_attribute a (AttrOn prefix local value))))
placed items (Some a) (says.Values scalars) =
    placed_item items (Array (record a { values = scalars }))
placed items (Some a) _ = Err OutOfPlace

abbrev pub kind_of : Option ArrayItem → Option ArrayKind
kind_of = option_map (λ a. a.kind)

abbrev pub led : List Item → Option ArrayItem → Result Line LineKind → Result Placed LineKind
led items array (Err kind) = Err kind
led items array (Ok line) = placed items array line

-- where a line leads that has a form, or has none
abbrev pub outcome_of : List Item → Option ArrayItem → Option Form → Result Placed LineKind
outcome_of items array None = Err NotALine
outcome_of items array (Some form) = led items array (judged (kind_of array) form)

-- an empty line where no document has begun
abbrev pub is_passed_over : List Item → Option ArrayItem → List ℕ → Bool
is_passed_over [] None [] = true
is_passed_over _ _ _ = false

-- where a line leads. One that is passed over leads nowhere
abbrev pub outcome : List Item → Option ArrayItem → List ℕ → Result Placed LineKind
outcome items array line =
    if is_passed_over items array line then Ok (on items array)
    else outcome_of items array (form_of line)

-- what the line of a number brings, by where it leads
abbrev pub answer_of : ℕ → Result Placed LineKind → Result LineStep LineFault
answer_of n (Ok (on items array)) = Ok More
answer_of n (Ok (ends doc)) = Ok (Done doc)
answer_of n (Err kind) = Err (Bad n kind)

abbrev pub standing_of : ℕ → Result Placed LineKind → Standing
standing_of n (Ok (on items array)) = going n items array
standing_of n (Ok (ends doc)) = going n [] None
standing_of n (Err kind) = failed (Bad n kind)

-- what a line brings, and where a reader stands behind it
abbrev pub answer : Standing → List ℕ → Result LineStep LineFault
answer (failed fault) line = Err fault
answer (going n items array) line = answer_of (n + 1) (outcome items array line)

abbrev pub after : Standing → List ℕ → Standing
after (failed fault) line = failed fault
after (going n items array) line = standing_of (n + 1) (outcome items array line)

-- behind lines
abbrev pub standing_from : Standing → List (List ℕ) → Standing
standing_from z [] = z
standing_from z (line ∷ lines) = standing_from (after z line) lines

abbrev pub at_start : Standing
at_start = going 0 [] None

abbrev pub standing : List (List ℕ) → Standing
standing lines = standing_from at_start lines

-- the documents that lines bring
abbrev pub document_of : Result LineStep LineFault → List (List Item)
document_of (Ok (Done doc)) = doc ∷ []
document_of (Ok More) = []
document_of (Err fault) = []

abbrev pub documents_from : Standing → List (List ℕ) → List (List Item)
documents_from z [] = []
documents_from z (line ∷ lines) = document_of (answer z line) ++ documents_from (after z line) lines

abbrev pub documents_of : List (List ℕ) → List (List Item)
documents_of lines = documents_from at_start lines

-- what the end of the lines brings
abbrev pub ending : Standing → Result (Unit {0}) LineFault
ending (failed fault) = Err fault
ending (going n [] None) = Ok tt
ending (going n items array) = Err (Bad (n + 1) Cut)

-- and where a reader stands behind it
abbrev pub ended : Standing → Standing
ended (failed fault) = failed fault
ended (going n [] None) = going n [] None
ended (going n items array) = failed (Bad (n + 1) Cut)

-- where a reader stands, by what it keeps
abbrev pub standing_kept : Option LineFault → ℕ → List Item → Option ArrayItem → Standing
standing_kept (Some fault) n items array = failed fault
standing_kept None n items array = going n items array

-- a reader has refused a line, or wanted memory
abbrev pub HasFailed : Standing → LineFault → Type 0
HasFailed z fault = z ≡ failed fault

-- a reader stands behind these lines
abbrev pub StandsBehind : Standing → List (List ℕ) → Type 0
StandsBehind z lines = z ≡ standing lines

-- what comes where memory didn't run out
abbrev pub UnlessMemory : {T : Type 0} → Result T LineFault → Type 0 → Type 0
UnlessMemory (Err Memory) claim = Unit {0}
UnlessMemory _ claim = claim

-- fewer lines than so many were read, unless one was refused
abbrev pub HasReadFewer : ℕ → Standing → Type 0
HasReadFewer most (failed fault) = Unit {0}
HasReadFewer most (going n items array) = n < most

abbrev pub HasReadFew : Standing → Type 0
HasReadFew = HasReadFewer (2 ^ 63)
