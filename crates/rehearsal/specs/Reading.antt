-- What reading a line answers, for private calls.
use Rattle.std.specs.Prelude.{◌≡◌, ℕ, Bool, List, if◌then◌else◌, Some, None, Ok, Err, Option}
use Rattle.std.specs.Prelude.{Result, ⊤}
use Rattle.{std.specs.Str.is_utf8}
use Rattle.line_notation.specs.declared.reader.LineKind.{LineKind, TheVariants.BadText}
use Rattle.line_notation.specs.declared.reader.LineKind.TheVariants.{NotALine}
use Rattle.reliable_sequence.specs.declared.events.Event.{Event}
use Rattle.rehearsal.specs.declared.line.Stop.{Stop, TheVariants.Bad, TheVariants.Memory}
use Rattle.rehearsal.specs.Forms.{submission}

-- what was read, unless memory ran out
abbrev pub Reads : {A : Type 0} → Result A LineKind → Result A Stop → Type 0
Reads read (Ok a) = read ≡ Ok a
Reads read (Err (Bad kind)) = read ≡ Err kind
Reads read (Err Memory) = ⊤

-- a text that an argument may write
abbrev pub text_read : Option (List ℕ) → Result (List ℕ) LineKind
text_read None = Err NotALine
text_read (Some text) = if is_utf8 text then Ok text else Err BadText

-- its submission
abbrev pub submission_of : Option (List ℕ) → Bool → Result Event LineKind
submission_of None last = Err NotALine
submission_of (Some text) last = submission text last

-- an event that there may be
abbrev pub event_or : Option Event → Result Event LineKind
event_or None = Err NotALine
event_or (Some event) = Ok event
