-- What is left of the counts where connections were answered at once.
use Rattle.std.proofs.Common.{◌≡◌, ℕ, ◌≤◌, ◌⊎◌, List, Ok, Err, Option, Result, sym, refl, ap, ◌∙◌, subst, inl, inr, arith}
use Rattle.io_edges.specs.{declared.SinkFault.SinkFault, Faults.CountsFaults, Faults.Rose}
use Rattle.io_edges.specs.{Views.SinkView, Wires.Network}
use Rattle.duplex_server.specs.{declared.stopping.ServeFault.ServeFault, Served.Ends}
use Rattle.duplex_server.specs.ServerStream.{Answering}
use Rattle.session_pool.specs.{declared.pooling.PoolWire.PoolWire, PoolLines.fault_of, PoolLines.PoolsAndTells}
use Rattle.dump_replay.specs.Pooling.{PoolsOrNot}
use Rattle.io_edges.specs.declared.SinkFault.TheVariants as sinks
use Rattle.duplex_server.specs.declared.stopping.ServeFault.TheVariants as stops
use Rattle.session_pool.specs.declared.pooling.PoolWire.TheVariants as wires

-- a count that stays, whatever failed
stays : (count count' : ℕ) (failed : Type 0) → (failed → ⊥) → count' ≡ count
    → CountsFaults count count' failed
stays count count' failed none same = record {
  rose = λ f. absurd (none f);
  same = λ _. same;
  grows = omega (arith, same);
}

wire_fault : (wire : PoolWire) (put : Result (Unit {0}) SinkFault)
    (stop : Result (Unit {0}) ServeFault) (count count' : ℕ) → stop ≡ fault_of wire put
    → CountsFaults count count' (wire ≡ wires.Failed)
    → CountsFaults count count' (stop ≡ Err stops.Wire)
wire_fault wires.Failed put stop count count' is c =
    record { rose = λ _. c.rose refl; same = λ not. absurd (not is); grows = c.grows }
wire_fault wires.Done (Ok v) stop count count' is c =
    stays count count' _ (λ e. cc (sym is ∙ e)) (c.same (λ e. cc))
wire_fault wires.Done (Err sinks.Failed) stop count count' is c =
    stays count count' _ (λ e. cc (sym is ∙ e)) (c.same (λ e. cc))
wire_fault wires.Done (Err sinks.Memory) stop count count' is c =
    stays count count' _ (λ e. cc (sym is ∙ e)) (c.same (λ e. cc))

output_fault : (wire : PoolWire) (put : Result (Unit {0}) SinkFault)
    (stop : Result (Unit {0}) ServeFault) → stop ≡ fault_of wire put → stop ≡ Err stops.Output
    → put ≡ Err sinks.Failed
output_fault wires.Failed put stop is e = cc (sym is ∙ e)
output_fault wires.Done (Ok v) stop is e = cc (sym is ∙ e)
output_fault wires.Done (Err sinks.Failed) stop is e = refl
output_fault wires.Done (Err sinks.Memory) stop is e = cc (sym is ∙ e)

module _ (x : Answering) (endpoint : Option (List ℕ)) (sessions : ℕ) {R K : Type 0}
    (seen : R × K → Ends) (connections : ℕ) (n n' : Network R K) (o o' : SinkView)
    (stop : Result (Unit {0}) ServeFault) where
  abbrev Left : Type 0
  Left = PoolsOrNot x endpoint sessions seen connections n n' o o' stop

  pub pool_wire_counted : Left → CountsFaults n.faults n'.faults (stop ≡ Err stops.Wire)
  pool_wire_counted (inl h) = stays n.faults n'.faults _ (λ e. cc (sym h.0 ∙ e))
      (ap (λ (w : Network R K). w.faults) h.1)
  pool_wire_counted (inr h) =
      wire_fault h.report.wire h.put stop n.faults n'.faults h.result_is h.pools.counted

  pub pool_out : Left → n'.out ≡ n.out
  pool_out (inl h) = ap (λ (w : Network R K). w.out) h.1
  pool_out (inr h) = h.pools.out

  pub pool_rose : Left → stop ≡ Err stops.Output → Rose o.faults o'.faults
  pool_rose (inl h) e = cc (sym h.0 ∙ e)
  pool_rose (inr h) e = h.lines.counted.rose (output_fault h.report.wire h.put stop h.result_is e)

  pub pool_grows : Left → o.faults ≤ o'.faults
  pool_grows (inl h) = let e = ap (λ (v : SinkView). v.faults) h.2 in omega (arith, e)
  pool_grows (inr h) = h.lines.counted.grows

-- what is left of wire and output, by what was known of them and of the Via that is served
module _ (x : Answering) (sessions : ℕ) {R K : Type 0} (seen : R × K → Ends) (connections : ℕ)
    {W O : Type 0} (of_wire : W → Network R K) (of_output : O → SinkView) (w w' : W) (o o' : O)
    (stop : Result (Unit {0}) ServeFault) where
  pub pooled_so : (via via' : Option (List ℕ)) → via ≡ via'
      → ((stop ≡ Err stops.Memory) × (w' ≡ w) × (o' ≡ o))
      ⊎ PoolsAndTells x via sessions seen connections (of_wire w) (of_wire w') (of_output o)
      (of_output o') stop
      → PoolsOrNot x via' sessions seen connections (of_wire w) (of_wire w') (of_output o)
      (of_output o') stop
  pooled_so via via' same (inl h) = inl (h.0, ap of_wire h.1, ap of_output h.2)
  pooled_so via via' same (inr h) = inr (subst (λ (v : Option (List ℕ)). PoolsAndTells x v sessions
      seen connections (of_wire w) (of_wire w') (of_output o) (of_output o') stop) same h)
