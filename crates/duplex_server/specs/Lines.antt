-- The lines of connections that were served.
use Rattle.std.specs.Prelude.{ℕ, ◌+◌, List, [], ◌∷◌, ◌++◌, codes, decimal}
use Rattle.nbfx_values.specs.Refusals.{reason_number}
use Rattle.stream_loop.specs.declared.outbound.Outbound.{Outbound}
use Rattle.line_notation.specs.{Lines.with_line_feed, Words.spaced}
use Rattle.duplex_server.specs.declared.outcome.{Inbound.Inbound, Outcome.Outcome}
use Rattle.stream_loop.specs.declared.outbound.Outbound.TheVariants as outbounds
use Rattle.duplex_server.specs.declared.outcome.Inbound.TheVariants as inbounds

-- how the reading of a connection ended
abbrev pub inbound_word : Inbound → List ℕ
inbound_word inbounds.Ended = codes "ended"
inbound_word (inbounds.Offended offence) =
    codes "offence-" ++ decimal (reason_number offence.reason)
inbound_word inbounds.ReadFault = codes "read-fault"
inbound_word inbounds.Memory = codes "memory"

-- and the writing
abbrev pub outbound_word : Outbound → List ℕ
outbound_word outbounds.Done = codes "done"
outbound_word outbounds.WriteFault = codes "write-fault"
outbound_word outbounds.Memory = codes "memory"

-- the line of the connection with this number
unfoldable pub connection_line : ℕ → Outcome → List ℕ
connection_line number outcome = with_line_feed (spaced (codes "connection" ∷ decimal number
    ∷ codes "messages" ∷ decimal outcome.messages ∷ codes "answers" ∷ decimal outcome.answers
    ∷ codes "in" ∷ inbound_word outcome.inbound ∷ codes "out" ∷ outbound_word outcome.outbound
    ∷ []))

-- the lines of connections with the numbers from this on
unfoldable pub lines_from : ℕ → List Outcome → List ℕ
lines_from number [] = []
lines_from number (outcome ∷ outcomes) =
    connection_line number outcome ++ lines_from (number + 1) outcomes
