-- Where a reader of a history stands.
use Rattle.std.specs.Prelude.{◌≡◌, ℕ, List, length}
use Rattle.line_streams.specs.LineStreamState.{Reached}
use Rattle.rehearsal.specs.declared.{reader.HistoryReader.HistoryReader, TheConstants.MOST_BYTES}
use Rattle.rehearsal.specs.{History.history_rules, History.Settings, PlayerState.Plays}
use Rattle.rehearsal.specs.{PlayerState.set_to}

-- the sequence whose history it reads
unfoldable pub settings_of : HistoryReader → Settings
settings_of r = set_to r.stream.lines

-- how many bytes it has read
unfoldable pub taken_of : HistoryReader → ℕ
taken_of r = r.stream.taken

-- the bytes read so far, of input that isn't refused
unfoldable pub StandsFor : HistoryReader → List ℕ → Type 0
StandsFor r p = (MOST_BYTES ≡ r.stream.most)
    × Reached (history_rules (set_to r.stream.lines)) (λ z. Plays z r.stream.lines.player)
    r.stream.begun.items r.stream.taken p

-- it has read as many bytes as it stands for
pub counts_taken : (r : HistoryReader) (p : List ℕ) → StandsFor r p → taken_of r ≡ length p
unfolding StandsFor taken_of
counts_taken r p stands = stands.1.taken_is
