-- The lines of connections that were relayed.
use Rattle.std.specs.Prelude.{ℕ, ◌+◌, List, [], ◌∷◌, ◌++◌, codes, decimal}
use Rattle.nbfx_values.specs.Refusals.{reason_number}
use Rattle.line_notation.specs.{Lines.with_line_feed, Words.spaced}
use Rattle.relay.specs.declared.outcome.{Pump.Pump, PumpIn.PumpIn, PumpOut.PumpOut}
use Rattle.relay.specs.declared.outcome.RelayOutcome.{RelayOutcome}
use Rattle.relay.specs.declared.outcome.PumpIn.TheVariants as ins
use Rattle.relay.specs.declared.outcome.PumpOut.TheVariants as outs

-- how the reading of a direction ended
abbrev pub read_word : PumpIn → List ℕ
read_word ins.Ended = codes "ended"
read_word (ins.Offended offence) = codes "offence-" ++ decimal (reason_number offence.reason)
read_word ins.PeerFault = codes "fault"
read_word ins.NotOpened = codes "not-opened"
read_word ins.ReadFault = codes "read-fault"
read_word ins.Memory = codes "memory"

-- how a direction ended: its writing, or else its reading
abbrev pub pump_word : PumpIn → PumpOut → List ℕ
pump_word read outs.Done = read_word read
pump_word read (outs.Unfit number fault) = codes "unfit"
pump_word read outs.WriteFault = codes "write-fault"
pump_word read outs.Memory = codes "memory"

abbrev pub word_of : Pump → List ℕ
word_of pump = pump_word pump.read pump.written

-- the line of the connection with this number
unfoldable pub relay_line : ℕ → RelayOutcome → List ℕ
relay_line number o = with_line_feed (spaced (codes "relay" ∷ decimal number
    ∷ codes "forward" ∷ decimal o.forward.documents ∷ word_of o.forward
    ∷ codes "backward" ∷ decimal o.backward.documents ∷ word_of o.backward ∷ []))

-- the lines of connections with the numbers from this on
unfoldable pub lines_from : ℕ → List RelayOutcome → List ℕ
lines_from number [] = []
lines_from number (outcome ∷ outcomes) =
    relay_line number outcome ++ lines_from (number + 1) outcomes
