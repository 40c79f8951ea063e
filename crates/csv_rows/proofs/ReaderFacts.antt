-- What a reader of `csv` has left behind a read.
use Rattle.std.proofs.Common.{◌≡◌, ℕ, Bool, true, false, List, [], Some, None, Option, refl, ◌∙◌}
use Rattle.{std.proofs.Common.inl, std.proofs.Common.Bor, csv.specs.Machine.next_record}
use Rattle.csv.specs.declared.{parser.Config.Config, parser.State.State, reader.Reader.Reader}
use Rattle.csv.specs.Reading.{default_config, has_failed, is_flexible, NextIs, pending_of}
use Rattle.csv.specs.Reading.{ReadRecord, ReadsNext, took_first}
use Rattle.csv_rows.specs.Inside.{IsReading, rows_from, rows_in, unread}
use Rattle.csv_rows.specs.Rows.{Advanced, Row}
use Rattle.csv_rows.proofs.RecordFacts.{first_read, none_read}

known-left : (cfg : Config) (s s2 : State) (xs : List ℕ) (left : Option (List ℕ)) (found : Bool)
    (row : Row) → ReadsNext cfg s (Some xs) left found row s2
    → (ys : List ℕ) × (left ≡ Some ys) × NextIs (next_record cfg s [] [] xs) found row s2 ys
known-left cfg s s2 xs None found row h = absurd h
known-left cfg s s2 xs (Some ys) found row h = (ys, refl, h)

advanced : (s s2 : State) (xs ys : List ℕ) (found : Bool) (row : Row)
    → NextIs (next_record default_config s [] [] xs) found row s2 ys
    → Advanced found (rows_from s (Some xs)) row (rows_from s2 (Some ys))
advanced s s2 xs ys true row is = first_read default_config s s2 xs ys row is
advanced s s2 xs ys false row is = none_read default_config s s2 xs ys row is

pub read-on : (old new : Reader (Bor (List ℕ))) (found : Bool) (row : Row) → IsReading old
    → ReadRecord (λ (s : Bor (List ℕ)). Some s.now) old new found row → took_first new ≡ true
    → is_flexible new ≡ is_flexible old
    → IsReading new × Advanced found (rows_in old) row (rows_in new)
read-on old new found row reading read first flexible =
    let next =
    known-left default_config old.state new.state reading.rest (pending_of (Some new.rdr.now) new)
    found row (rw (reading.plain, reading.left) at read.0) in
    let left : unread new ≡ Some next.0 = rw read.1 next.1 in (
      record {
        untrimmed = read.3 ∙ reading.untrimmed;
        any_length = flexible ∙ reading.any_length;
        ready = inl first;
        plain = read.2 ∙ reading.plain;
        rest = next.0;
        left = left;
      },
      rw (reading.left, left) (advanced old.state new.state reading.rest next.0 found row next.2),
    )

-- a reader that failed has none left
pub failed-none : (old new : Reader (Bor (List ℕ))) (found : Bool) (row : Row)
    → has_failed old ≡ true → found ≡ false → Advanced found (rows_in old) row (rows_in new)
failed-none old new found row failed none = rw (none, failed) refl
