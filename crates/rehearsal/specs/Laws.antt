-- What holds of histories by the definitions alone.
use Rattle.std.specs.Prelude.{◌≡◌, ℕ, ◌<◌, ◌↔◌, false, List, [], length, Some, None}
use Rattle.unit_streams.specs.{Going.IsPending, Judging.refusal_at, Tellers.Closes}
use Rattle.unit_streams.specs.Tellers.{told_so_far}
use Rattle.rehearsal.specs.declared.TheConstants.{MOST_BYTES}
use Rattle.rehearsal.specs.Forms.{Form, form_of, IsLine}
use Rattle.rehearsal.specs.History.{delivered_lines, history, IsPlayed, run_over, Settings, told}

-- no event ends the input, and each line is known by its own bytes
abbrev pub HistoryIsClosed : Type 0
HistoryIsClosed = (x : Settings) → Closes (history x) (λ played. false)

-- input of no bytes isn't refused
abbrev pub HistoryMayBegin : Type 0
HistoryMayBegin = (x : Settings) → refusal_at (history x) [] ≡ None

-- input that may go on has fewer bytes than may be read
abbrev pub HistoryIsBounded : Type 0
HistoryIsBounded = (x : Settings) (bytes : List ℕ) → IsPending (history x) bytes
    → length bytes < MOST_BYTES

-- a line has a form exactly where the form is read out of it
abbrev pub HaveOneForm : Type 0
HaveOneForm = (form : Form) (line : List ℕ) → IsLine form line ↔ (form_of line ≡ Some form)

-- of input that may go on, the lines are written of the bodies that the events of its first lines
-- deliver
abbrev pub PendingIsPlayed : Type 0
PendingIsPlayed = (x : Settings) (bytes : List ℕ) → IsPending (history x) bytes
    → (p : IsPlayed x bytes)
    × (told_so_far (history x) told bytes ≡ delivered_lines (run_over x p.events).delivered)
