-- What a reader of `csv` has left, and what it keeps.
use Rattle.std.specs.Prelude.{◌≡◌, ℕ, ◌+◌, true, false, List, [], length, Some, None, Option}
use denote.Ref.{Bor}
use Rattle.csv.specs.declared.{parser.State.State, reader.Reader.Reader}
use Rattle.csv.specs.Reading.{default_config, has_failed, is_flexible, reader_config, reader_state}
use Rattle.csv.specs.Reading.{reader_trim, Ready, records_from, source_of}
use Rattle.csv_rows.specs.Rows.{Row}
use Rattle.csv.specs.declared.reader.Trim.TheVariants as trim

-- the bytes that weren't read yet, of a reader that hasn't failed
abbrev pub unread : Reader (Bor (List ℕ)) → Option (List ℕ)
unread reader = source_of (λ (s : Bor (List ℕ)). Some s.now) reader

-- the rows of bytes, read from a state
abbrev pub rows_from : State → Option (List ℕ) → List Row
rows_from state None = []
rows_from state (Some bytes) = records_from default_config (length bytes + 1) state bytes

abbrev pub rows_in : Reader (Bor (List ℕ)) → List Row
rows_in reader = rows_from (reader_state reader) (unread reader)

-- a reader in the default form, but for rows of any length
pub record IsReading (reader : Reader (Bor (List ℕ))) : Type 0 where
  pub untrimmed : reader_trim reader ≡ trim.None
  pub any_length : is_flexible reader ≡ true
  pub ready : Ready reader
  pub plain : reader_config reader ≡ default_config
  pub rest : List ℕ
  pub left : unread reader ≡ Some rest

-- a reader is such a one unless a read failed
abbrev pub KeepsReading : Reader (Bor (List ℕ)) → Type 0
KeepsReading reader = has_failed reader ≡ false → IsReading reader
