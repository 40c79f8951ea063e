-- What contracts see of a wire over TCP, and of the sinks of its connections.
use Rattle.std.specs.Prelude.{◌≡◌, ℕ, ℤ, pos, Bool, true, false, ◌⊎◌, ◌↔◌, Some, None, Option}
use Rattle.std.specs.declared.io.ErrorKind.{ErrorKind, TheVariants.ConnectionAborted}
use Rattle.std.specs.declared.io.ErrorKind.TheVariants.{ConnectionReset}
use Rattle.io_edges.specs.declared.{tcp_sink.TcpSink.TcpSink, tcp_wire.TcpWire.TcpWire}
use Rattle.io_edges.specs.declared.tcp_wire.Retry.{Retry, TheVariants.AtOnce, TheVariants.Later}

-- how many connections are handed out and not closed
abbrev pub wire_out : {R S L : Type 0} → TcpWire R S L → ℕ
wire_out wire = wire.out

-- how many of its calls failed
abbrev pub wire_faults : {R S L : Type 0} → TcpWire R S L → ℕ
wire_faults wire = wire.faults

-- how many faults the ends of closed connections met
abbrev pub wire_end_faults : {R S L : Type 0} → TcpWire R S L → ℕ
wire_end_faults wire = wire.end_faults

-- how many of its accepts were tried again
abbrev pub wire_retried : {R S L : Type 0} → TcpWire R S L → ℕ
wire_retried wire = wire.retried

-- a peer was gone before its connection was accepted
abbrev pub is_gone : ErrorKind → Bool
is_gone ConnectionAborted = true
is_gone ConnectionReset = true
is_gone kind = false

-- the system has no memory (ENOMEM), no descriptor (ENFILE, EMFILE) or no buffer (ENOBUFS) left, by
-- the numbers that Linux gives these errors
abbrev pub Lacks : Option ℤ → Type 0
Lacks code = (code ≡ Some (pos 12)) ⊎ (code ≡ Some (pos 23)) ⊎ (code ≡ Some (pos 24))
    ⊎ (code ≡ Some (pos 105))

-- whether an accept that failed with such an error is tried again, and when
pub record Retries (kind : ErrorKind) (code : Option ℤ) (retry : Option Retry) : Type 0 where
  pub at_once : (retry ≡ Some AtOnce) ↔ (is_gone kind ≡ true)
  pub later : retry ≡ Some Later → Lacks code
  pub never : retry ≡ None → Lacks code → ⊥

-- how many of a sink's writes failed or took nothing
abbrev pub sink_faults : {S : Type 0} → TcpSink S → ℕ
sink_faults sink = sink.sink.faults

-- whether its stream's writing was shut down
abbrev pub has_ended : {S : Type 0} → TcpSink S → Bool
has_ended sink = sink.ended
