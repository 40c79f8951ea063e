-- What a file of actions says: a text for each action.
use Rattle.std.specs.Prelude.{◌≡◌, ℕ, ◌+◌, Bool, true, false, ◌&&◌, List, [], ◌∷◌, is_some, ⊤}
use Rattle.std.specs.Prelude.{if◌then◌else◌, Some, None, Ok, Err, codes, Option, Result, bytes_eq}
use Rattle.std.specs.{BTreeMap.insert_entry, Cmp.Lexicographic.slice_cmp, Map.lookup, Str.is_utf8}
use Rattle.std.specs.{Option.option_map_or, Ordering.nat_cmp}
use Rattle.csv_rows.specs.Rows.{Row, two_of}
use Rattle.action_dispatch.specs.declared.fault.{ActionFault.ActionFault, ActionKind.ActionKind}
use Rattle.action_dispatch.specs.declared.fault.ActionFault.TheVariants.{Bad, Memory}
use Rattle.action_dispatch.specs.declared.fault.ActionKind.TheVariants as kind

-- an action and its text
abbrev pub Entry : Type 0
Entry = List ℕ × List ℕ

-- the text of each action that has one, by the order of the actions' bytes
abbrev pub Texts : Type 0
Texts = List Entry

-- the text of an action
abbrev pub text_for : Texts → List ℕ → Option (List ℕ)
text_for texts action = lookup (bytes_eq action) texts

-- whether a row is the first that a file must have
abbrev pub is_header : Row → Bool
is_header row =
    option_map_or
    (λ fields. bytes_eq fields.0 (codes "action") && bytes_eq fields.1 (codes "text"))
    (two_of row) false

-- what two fields say, which may be missing
abbrev pub entry_in : Option Entry → Result Entry ActionKind
entry_in None = Err kind.Fields
entry_in (Some fields) =
    if is_utf8 fields.0 && is_utf8 fields.1 then Ok fields else Err kind.NotUtf8

-- what a row behind the first says, or what is wrong with it by itself
abbrev pub entry_of : Row → Result Entry ActionKind
entry_of row = entry_in (two_of row)

-- the texts with an entry more, whose action must be new
abbrev pub with_entry : Texts → Entry → Result Texts ActionKind
with_entry texts entry =
    if is_some (text_for texts entry.0)
    then Err kind.Repeated
    else Ok (insert_entry (slice_cmp nat_cmp) texts entry.0 entry.1)

abbrev pub with_read : Texts → Result Entry ActionKind → Result Texts ActionKind
with_read texts (Err wrong) = Err wrong
with_read texts (Ok entry) = with_entry texts entry

-- the texts with those of a row
abbrev pub with_row : Texts → Row → Result Texts ActionKind
with_row texts row = with_read texts (entry_of row)

-- a row that fails: its number, from 0, and what is wrong with it
abbrev pub Fault : Type 0
Fault = ℕ × ActionKind

-- what the rows behind one lead to, or the fault of that one
abbrev pub and_then : (Texts → Result Texts Fault) → ℕ → Result Texts ActionKind
    → Result Texts Fault
and_then more number (Err wrong) = Err (number, wrong)
and_then more number (Ok texts) = more texts

-- the texts with those of rows, of which the first has this number; or the first fault
abbrev pub texts_from : ℕ → List Row → Texts → Result Texts Fault
texts_from number [] texts = Ok texts
texts_from number (row ∷ rows) texts =
    and_then (texts_from (number + 1) rows) number (with_row texts row)

-- the texts of a file's rows, or the first fault
abbrev pub texts_of : List Row → Result Texts Fault
texts_of [] = Err (0, kind.Header)
texts_of (header ∷ rows) =
    if is_header header then texts_from 1 rows [] else Err (0, kind.Header)

-- a bad row is the first that fails; want of memory may come at any time
abbrev pub Explains : Result Texts Fault → ActionFault → Type 0
Explains read (Bad row kind) = read ≡ Err (row, kind)
Explains read Memory = ⊤

-- whether the first of these rows names the fields, which leaves those to come
abbrev pub Headed : Bool → (rows coming : List Row) → Type 0
Headed true rows coming = texts_of rows ≡ texts_from 1 coming []
Headed false rows coming = texts_of rows ≡ Err (0, kind.Header)

-- what is wrong with a row of this number, if something is
abbrev pub row_read : ℕ → Texts → Row → Result Texts Fault
row_read number texts row = and_then (λ more. Ok more) number (with_row texts row)
