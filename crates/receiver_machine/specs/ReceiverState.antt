-- What a receiver stands for, and what it shows: what its reader of streams does.
use Rattle.std.specs.Prelude.{◌≡◌, ℕ, List, length, Some, None, Option}
use Rattle.unit_streams.specs.Judging.{Answer}
use Rattle.nbfx_values.specs.{declared.refusals.Offence.Offence, Limits.IsGood}
use Rattle.stream_reader.specs.declared.reader.ReadRefusal.{ReadRefusal}
use Rattle.stream_reader.specs.Stream.{Settings, StreamEvent}
use Rattle.receiver_machine.specs.declared.{owed.Owed.Owed, receiver.Receiver.Receiver}
use Rattle.receiver_machine.specs.Owed.{bytes_of, owed_for}
use Rattle.stream_reader.specs.StreamReaderState as reader

-- what it is set to
unfoldable pub settings_of : Receiver → Settings
settings_of r = reader.settings_of r.reader

-- its quotas may be
pub has_good_quotas : (r : Receiver) → IsGood (settings_of r).limits
unfolding settings_of
has_good_quotas r = reader.has_good_quotas r.reader

-- how many bytes it has used, or that show its offence
unfoldable pub taken_of : Receiver → ℕ
taken_of r = reader.taken_of r.reader

-- how many documents were whole
unfoldable pub messages_of : Receiver → ℕ
messages_of r = reader.messages_of r.reader

-- the refusal that it answers from now on
unfoldable pub failure_of : Receiver → Option ReadRefusal
failure_of r = reader.failure_of r.reader

-- how many bytes of the input it holds
unfoldable pub held_of : Receiver → ℕ
held_of r = reader.held_of r.reader

-- the content of an open payload's items that it holds
unfoldable pub content_held_of : Receiver → ℕ
content_held_of r = reader.content_held_of r.reader

-- what it owes the initiator: for a refusal, or else for the last event
abbrev pub owed_unless : Option ReadRefusal → Owed → List ℕ
owed_unless None owed = bytes_of owed
owed_unless (Some refusal) owed = owed_for refusal

unfoldable pub owed_of : Receiver → List ℕ
owed_of r = owed_unless (reader.failure_of r.reader) r.owed

-- the text that it shows: the Via
unfoldable pub ShowsText : Receiver → List ℕ → Type 0
ShowsText r text = reader.ShowsText r.reader text

-- the strings that it shows
unfoldable pub ShowsStrings : Receiver → List (List ℕ) → Type 0
ShowsStrings r strings = reader.ShowsStrings r.reader strings

-- the bytes used, of a stream that isn't refused
unfoldable pub StandsFor : Receiver → List ℕ → Type 0
StandsFor r p = reader.StandsFor r.reader p

-- it has used the bytes that it stands for
pub counts_taken : (r : Receiver) (p : List ℕ) → StandsFor r p → taken_of r ≡ length p
unfolding StandsFor taken_of
counts_taken r p stands = reader.counts_taken r.reader p stands

-- what it shows that is refused, by the bytes p
unfoldable pub FailedBehind : Receiver → ReadRefusal → ℕ → List ℕ → Type 0
FailedBehind r refusal taken p = reader.FailedBehind r.reader refusal taken p

-- what a piece y behind p leaves of a receiver that it makes fail: what it would of a reader
abbrev pub FailsBy : Receiver → List ℕ → List ℕ → Answer StreamEvent Offence → ReadRefusal
    → Type 0
FailsBy r = reader.FailsSo (settings_of r) (FailedBehind r)

-- this holds wherever it stands
abbrev pub WhereItStands : Receiver → (List ℕ → Type 0) → Type 0
WhereItStands r Holds = (p : List ℕ) → StandsFor r p → Holds p

-- this holds wherever it has failed
abbrev pub WhereItFailed : Receiver → (ReadRefusal → ℕ → List ℕ → Type 0) → Type 0
WhereItFailed r Holds = (refusal : ReadRefusal) (taken : ℕ) (p : List ℕ)
    → FailedBehind r refusal taken p → Holds refusal taken p
