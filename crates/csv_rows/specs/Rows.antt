-- The rows of a CSV file. A row is the list of its fields, and a field the list of its bytes.
use Rattle.std.specs.Prelude.{◌≡◌, ℕ, Bool, true, false, List, [], ◌∷◌, if◌then◌else◌, Some, None}
use Rattle.std.specs.{Prelude.Option, Str.is_utf8}
use Rattle.csv.specs.Reading.{default_config, records, strip_bom}

-- the fields of a row
abbrev pub Row : Type 0
Row = List (List ℕ)

-- the rows of a file: its records as CSV of the default form, without a byte order mark
abbrev pub rows_of : List ℕ → List Row
rows_of bytes = records default_config (strip_bom bytes)

-- the two fields of a row that has just two
abbrev pub two_of : Row → Option (List ℕ × List ℕ)
two_of [] = None
two_of (first ∷ []) = None
two_of (first ∷ second ∷ []) = Some (first, second)
two_of (first ∷ second ∷ third ∷ more) = None

-- a field as text, where it is UTF-8
abbrev pub text_of : List ℕ → Option (List ℕ)
text_of field = if is_utf8 field then Some field else None

-- the row that was read last, and those to come
pub record Rows : Type 0 where
  pub row : Row
  pub coming : List Row

abbrev pub rows : Row → List Row → Rows
rows row coming = record { row = row; coming = coming }

-- the first of the rows to come was read, which leaves these; or there was none
abbrev pub Advanced : Bool → List Row → Row → List Row → Type 0
Advanced true coming row left = coming ≡ row ∷ left
Advanced false coming row left = coming ≡ []
