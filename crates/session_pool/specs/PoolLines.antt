-- The lines of connections that were served at once.
use Rattle.std.specs.Prelude.{◌≡◌, ℕ, ◌+◌, ◌-◌, ◌^◌, min, List, [], ◌∷◌, ◌++◌, map, length, codes}
use Rattle.std.specs.Prelude.{decimal, Some, None, Ok, Err, OnOk, Option, Result, ⊤}
use Rattle.io_edges.specs.{declared.SinkFault.SinkFault, Puts.Puts, Views.SinkView, Wires.Network}
use Rattle.stream_loop.specs.declared.outbound.Outbound.{Outbound}
use Rattle.duplex_server.specs.declared.{outcome.Outcome.Outcome, stopping.ServeFault.ServeFault}
use Rattle.duplex_server.specs.{Lines.inbound_word, Lines.outbound_word, Served.Ends}
use Rattle.duplex_server.specs.{Served.stop_by}
use Rattle.duplex_server.specs.ServerStream.{Answering}
use Rattle.session_pool.specs.declared.pooling.{PoolReport.PoolReport, PoolWire.PoolWire}
use Rattle.session_pool.specs.declared.turns.{Turns.Turns, TurnsEnd.TurnsEnd}
use Rattle.session_pool.specs.{Pooling.PoolsAll, Turns.last_of}
use Rattle.duplex_server.specs.declared.stopping.ServeFault.TheVariants as faults
use Rattle.session_pool.specs.declared.pooling.PoolWire.TheVariants as wires
use Rattle.session_pool.specs.declared.turns.TurnsEnd.TheVariants as ends
use Rattle.stream_loop.specs.declared.outbound.Outbound.TheVariants as outbounds

-- the sum of counts, which stands still at its type's end
unfoldable pub added_to : ℕ → List ℕ → ℕ
added_to sum [] = sum
added_to sum (count ∷ counts) = added_to (min (sum + count) (2 ^ 128 - 1)) counts

abbrev pub messages_of : List Outcome → ℕ
messages_of outcomes = added_to 0 (map (λ (o : Outcome). o.messages) outcomes)

abbrev pub answers_of : List Outcome → ℕ
answers_of outcomes = added_to 0 (map (λ (o : Outcome). o.answers) outcomes)

-- how the last session ended: its writing, where that failed, or else its reading
abbrev pub ended_word : Outcome → Outbound → List ℕ
ended_word outcome outbounds.Done = inbound_word outcome.inbound
ended_word outcome outbound = outbound_word outbound

abbrev pub last_word : Option Outcome → List ℕ
last_word None = []
last_word (Some outcome) = ended_word outcome outcome.outbound

abbrev pub end_word : Turns → TurnsEnd → List ℕ
end_word turns ends.Done = codes "done"
end_word turns ends.Most = codes "most"
end_word turns ends.Stopped = last_word (last_of turns.outcomes)
end_word turns ends.ReadFault = codes "read-fault"
end_word turns ends.Memory = codes "memory"

-- the number of a connection, and how many sessions, messages and answers it had
abbrev pub counts_line : (number sessions messages answers : ℕ) → List ℕ
counts_line number sessions messages answers = codes "connection " ++ (decimal number
    ++ (codes " sessions " ++ (decimal sessions ++ (codes " messages " ++ (decimal messages
    ++ (codes " answers " ++ (decimal answers ++ codes " end ")))))))

-- its line
unfoldable pub pool_line : ℕ → Turns → List ℕ
pool_line number turns = counts_line number (length turns.outcomes) (messages_of turns.outcomes)
    (answers_of turns.outcomes) ++ (end_word turns turns.end ++ codes "\n")

-- the lines of connections with the numbers from this on
unfoldable pub pool_lines : ℕ → List Turns → List ℕ
pool_lines number [] = []
pool_lines number (turns ∷ more) = pool_line number turns ++ pool_lines (number + 1) more

-- a fault of the wire goes before one of the output
abbrev pub fault_of : PoolWire → Result ⊤ SinkFault → Result ⊤ ServeFault
fault_of wires.Failed put = Err faults.Wire
fault_of wires.Done (Ok _) = Ok tt
fault_of wires.Done (Err fault) = Err (stop_by fault)

module _ (x : Answering) (endpoint : Option (List ℕ)) (most : ℕ) {R K : Type 0}
    (seen : R × K → Ends) (asked : ℕ) (n n' : Network R K) (o o' : SinkView)
    (result : Result ⊤ ServeFault)
  where
    -- connections were served at once, and then their lines were put to an output
    pub record PoolsAndTells : Type 0 where
      pub report : PoolReport
      pub pools : PoolsAll x endpoint most seen asked n n' report
      pub put : Result ⊤ SinkFault
      pub lines : Puts o o' (pool_lines 0 report.turns) put
      pub emptied : OnOk put (o'.held ≡ [])
      pub result_is : result ≡ fault_of report.wire put
