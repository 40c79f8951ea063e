-- What a reader makes of what a line says, for private calls.
use Rattle.std.specs.Prelude.{◌≡◌, ℕ, Bool, ◌&&◌, List, [], length, IsTrue, nat_lt, Some, None, Ok}
use Rattle.std.specs.{Prelude.Err, Prelude.Option, Prelude.Result, List.list_all}
use Rattle.nbfx_values.specs.declared.content.{ArrayItem.ArrayItem, ArrayKind.ArrayKind, Item.Item}
use Rattle.nbfx_values.specs.Documents.{IsDocument}
use Rattle.nbfx_values.specs.Items.{are_texts, fits_kind, is_valid_attribute, is_valid_item}
use Rattle.line_notation.specs.declared.line.{Keyword.Keyword, Line.Line}
use Rattle.line_notation.specs.declared.placing.Leads.{Leads, TheVariants.On, TheVariants.ToTheEnd}
use Rattle.line_notation.specs.declared.{placing.Refusal.Refusal, words.Stop.Stop}
use Rattle.line_notation.specs.declared.placing.Refusal.TheVariants.{Kind, Memory}
use Rattle.line_notation.specs.declared.reader.LineFault.{LineFault, TheVariants.Bad}
use Rattle.line_notation.specs.declared.reader.LineKind.{LineKind, TheVariants.NotALine}
use Rattle.line_notation.specs.BehindKeywords.{judged_behind}
use Rattle.line_notation.specs.LineReaderState.{ends, kind_of, led, on, Placed}
use Rattle.line_notation.specs.declared.line.Line.TheVariants as says
use Rattle.line_notation.specs.declared.reader.LineFault.TheVariants as faults
use Rattle.line_notation.specs.declared.words.Stop.TheVariants as stops

-- where a step of reading stopped
abbrev pub stopped : Stop → Refusal
stopped stops.NotALine = Kind NotALine
stopped stops.Memory = Memory

-- a refusal, by the number of the line that is refused
abbrev pub fault_of : ℕ → Refusal → LineFault
fault_of n (Kind kind) = Bad n kind
fault_of n Memory = faults.Memory

-- records can hold the names of the array that is open, if one is, and its attributes
abbrev pub is_held : ArrayItem → Bool
is_held a = are_texts a.prefix a.local && list_all is_valid_attribute a.attrs

abbrev pub IsOpen : Option ArrayItem → Type 0
IsOpen None = Unit {0}
IsOpen (Some a) = IsTrue (is_held a)

-- records can hold what a line says, where an array of the kind is open, or none is
abbrev pub IsHeld : Option ArrayKind → Line → Type 0
IsHeld kind (says.Item item) = IsTrue (is_valid_item item)
IsHeld kind (says.Array a) = IsTrue (is_held a)
IsHeld None (says.Values values) = Unit {0}
IsHeld (Some kind) (says.Values values) =
    IsTrue (nat_lt 0 (length values) && list_all (fits_kind kind) values)

-- where what was read of a line leads, or it has no form
abbrev pub led_by : List Item → Option ArrayItem → Option (Result Line LineKind)
    → Result Placed LineKind
led_by items array None = Err NotALine
led_by items array (Some judged) = led items array judged

-- a line led where these items and this array are, unless memory ran out
abbrev pub Places : Result Leads Refusal → Result Placed LineKind → List Item → Option ArrayItem
    → Type 0
Places (Ok On) placed items array = placed ≡ Ok (on items array)
Places (Ok ToTheEnd) placed items array =
    (placed ≡ Ok (ends items)) × IsDocument items × (array ≡ None)
Places (Err (Kind kind)) placed items array = placed ≡ Err kind
Places (Err Memory) placed items array = Unit {0}

-- what the words behind a keyword say led from these items and this array to those, unless memory
-- ran out
pub record PlacesRead (result : Result Leads Refusal) (keyword : Keyword) (words : List (List ℕ))
    (items : List Item) (array : Option ArrayItem) (items' : List Item) (array' : Option ArrayItem)
    : Type 0 where
  pub places : Places result (led_by items array (judged_behind (kind_of array) keyword words))
      items' array'
  pub is_open : IsOpen array'
