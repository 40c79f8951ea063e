-- What the rows of a static table's file say. A row is the list of its fields, and a field the list
-- of its bytes.
use Rattle.std.specs.Prelude.{ℕ, ◌+◌, ◌-◌, ◌%◌, ◌^◌, Bool, false, ◌&&◌, List, [], ◌∷◌, ◌++◌, drop}
use Rattle.std.specs.Prelude.{is_some, if◌then◌else◌, nat_lt, nat_le, ◌==◌, Some, None, Ok, Err}
use Rattle.std.specs.Prelude.{codes, Option, Result, filter_map, bytes_eq}
use Rattle.std.specs.{Char.is_ascii_digit, Option.option_map_or, Result.result_ok}
use Rattle.std.specs.Str.{all_ascii_digits, is_utf8, Parse.digits_value}
use Rattle.string_tables.specs.StaticStrings.{Entry, in_order, static_text}
use Rattle.static_dictionary.specs.declared.fault.TableKind.{TableKind}
pub use Rattle.csv_rows.specs.Rows.{Row, rows_of, two_of}
use Rattle.static_dictionary.specs.declared.fault.TableKind.TheVariants as kind

-- decimal digits without a leading zero, or the zero alone
abbrev pub is_plain_number : List ℕ → Bool
is_plain_number [] = false
is_plain_number (digit ∷ []) = is_ascii_digit digit
is_plain_number (digit ∷ next ∷ rest) = nat_lt 48 digit && all_ascii_digits (digit ∷ next ∷ rest)

-- the greatest identifier there can be
abbrev pub most_id : ℕ
most_id = 2 ^ 31 - 1

-- the identifier that a field writes
abbrev pub id_of : List ℕ → Option ℕ
id_of field =
    if is_plain_number field && nat_le (digits_value 10 field) most_id
    then Some (digits_value 10 field)
    else None

-- the entry of an identifier, which may be missing, and a text: an identifier of a static table is
-- even
abbrev pub even_entry : Option ℕ → List ℕ → Result Entry TableKind
even_entry None text = Err kind.NotANumber
even_entry (Some id) text = if id % 2 == 1 then Err kind.Odd else Ok (id, text)

-- the entry of two fields, which may be missing
abbrev pub two_entry : Option (List ℕ × List ℕ) → Result Entry TableKind
two_entry None = Err kind.Fields
two_entry (Some fields) =
    if is_utf8 fields.0 && is_utf8 fields.1
    then even_entry (id_of fields.0) fields.1
    else Err kind.NotUtf8

-- the entry that a row after the first writes, or what is wrong with the row by itself
abbrev pub entry_of : Row → Result Entry TableKind
entry_of row = two_entry (two_of row)

-- whether a row is the first that a file must have
abbrev pub is_header : Row → Bool
is_header row =
    option_map_or (λ fields. bytes_eq fields.0 (codes "id") && bytes_eq fields.1 (codes "string"))
    (two_of row) false

-- a row that fails: its number, from 0, and what is wrong with it
abbrev pub Fault : Type 0
Fault = ℕ × TableKind

-- the fault of row n after these entries, or else what the rows after it give
abbrev pub fault_or : (ℕ → List Entry → Option Fault) → ℕ → List Entry → Result Entry TableKind
    → Option Fault
fault_or later n before (Err wrong) = Some (n, wrong)
fault_or later n before (Ok entry) =
    if is_some (static_text before entry.0)
    then Some (n, kind.Repeated)
    else later (n + 1) (before ++ entry ∷ [])

-- the first fault of the rows from row n on, after these entries
abbrev pub fault_from : List Row → ℕ → List Entry → Option Fault
fault_from [] n before = None
fault_from (row ∷ rows) n before = fault_or (fault_from rows) n before (entry_of row)

-- the first row of a file that fails
abbrev pub fault_of : List Row → Option Fault
fault_of [] = Some (0, kind.Header)
fault_of (header ∷ rows) = if is_header header then fault_from rows 1 [] else Some (0, kind.Header)

-- the entries of rows, in the rows' order
abbrev pub entries_of : List Row → List Entry
entries_of rows = filter_map (λ row. result_ok (entry_of row)) rows

-- the entries of a file, which come after its first row, in rising order of their identifiers
abbrev pub table_of : List Row → List Entry
table_of rows = in_order (entries_of (drop 1 rows))
