-- Where what plays the lines of a history stands, and how it answers a line.
use Rattle.std.specs.Prelude.{◌≡◌, ℕ, List, Some, Ok, Err, Result, ⊤}
use Rattle.stream_loop.specs.declared.reading_end.FeedFault.{FeedFault}
use Rattle.stream_loop.specs.declared.reading_end.FeedFault.TheVariants.{Memory, Refused}
use Rattle.rehearsal.specs.declared.{fault.HistoryFault.HistoryFault, played.Played.Played}
use Rattle.rehearsal.specs.declared.{player.Player.Player, reader.HistoryLines.HistoryLines}
use Rattle.rehearsal.specs.{Forms.event_of, History.brought, History.Settings, History.Situation}

-- a player is in this situation
pub record Plays (z : Situation) (p : Player) : Type 0 where
  pub kept : p.world ≡ Some z.kept
  pub lines : p.lines ≡ z.lines

-- what a line is answered with in a situation, by a player that is so then
abbrev pub PlaysLine : Situation → (line : List ℕ) → Player
    → Result Played (FeedFault HistoryFault) → Type 0
PlaysLine z line p (Ok played) = (behind : Situation)
    × (brought z (event_of line) ≡ Ok (behind, played)) × Plays behind p
PlaysLine z line p (Err (Refused fault)) = brought z (event_of line) ≡ Err fault
PlaysLine z line p (Err Memory) = ⊤

-- the sequence whose history the lines are
abbrev pub set_to : HistoryLines → Settings
set_to lines = record { identifier = lines.identifier.now; window = lines.window }
