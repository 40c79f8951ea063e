use Rattle.std.proofs.Common.{◌≡◌, ℕ, List, Err, Option, refl, ap, subst, inl}
use Rattle.{nbfx_values.specs.QuotasOf.limits_of, stream_reader.specs.Sides.endpoint_of}
use Rattle.relay.specs.{Connections.Ends, Connections.RelaysAll, Relayed.Relay}
use Rattle.dump_replay.specs.Relaying.{sides_seen}
use Rattle.dump_replay.proofs.RelayEnds.{relay_out, relays_less, wire_counted}
use Rattle.dump_replay.proofs.Seen.{input_by, network_by, output_by}
use Rattle.dump_replay.proofs.Works.{relay_counts}
use Rattle.dump_replay.proofs.relaying.relay_between.Given.{Over}
use Rattle.relay.specs.declared.stopping.RelayFault.TheVariants as stops
use Rattle.dump_replay.proofs.relaying.relay_between.Goals as goal

module _ (g : Over) where
  abbrev seen : g.row.W-Reader.Denot × g.row.W-Writer.Denot → Ends
  seen = sides_seen (input_by g.W.Reader.Source) (output_by g.W.Writer.Sink)

-- there was no memory for the Via
pub returns-in_default-clause-joins : goal.returns-in_default-clause-joins
returns-in_default-clause-joins g c = record {
  stop = Err stops.Memory;
  status_is = refl;
  relays = inl (refl, refl);
  says = (c.note_status.ensures.notes, c.note_status.ensures.none);
}

pub returns-clause-joins : goal.returns-clause-joins
returns-clause-joins g c =
    let p = c.relay_connections-stop in
    let n = network_by g.W.Wire c.args.wire.now in
    let n' = network_by g.W.Wire p.new.wire in
    let o = output_by g.O.Sink c.args.output in
    let o' = output_by g.O.Sink p.result.1 in
    let to : Option (List ℕ) → Relay = λ via. record {
      front = c.args.front.now;
      back = c.args.back.now;
      forward = limits_of c.args.quotas.now.forward;
      backward = limits_of c.args.quotas.now.back;
      endpoint = via;
      via = c.args.relaying.via.now;
    } in
    record {
      stop = p.result.0;
      status_is = c.relay_status-status.ensures;
      relays = subst (λ (via : Option (List ℕ)). RelaysAll (to via) (seen g)
          c.args.relaying.connections n n' o o' (o' ≡ o) p.result.0) c.in-Ok.ensures
          (relays_less (to (endpoint_of c.in-Ok.endpoint)) (seen g) c.args.relaying.connections n n'
          o o' (p.result.1 ≡ c.args.output) (o' ≡ o) (λ same. ap (output_by g.O.Sink) same)
          p.result.0 p.ensures.relayed);
      says = (c.note_status-2.ensures.notes, c.note_status-2.ensures.none);
    }

pub returns-clause-wire_fault : goal.returns-clause-wire_fault
returns-clause-wire_fault g c =
    let j = returns-clause-joins g c in
    let n = network_by g.W.Wire c.args.wire.now in
    let n' = network_by g.W.Wire c.relay_connections-stop.new.wire in
    relay_counts n.faults n'.faults j.stop c.relay_status-status.result j.status_is
    (wire_counted _ (seen g) _ n n' _ _ _ j.stop j.relays)

pub returns-clause-out : goal.returns-clause-out
returns-clause-out g c =
    let j = returns-clause-joins g c in
    relay_out _ (seen g) _ (network_by g.W.Wire c.args.wire.now)
    (network_by g.W.Wire c.relay_connections-stop.new.wire) _ _ _ j.stop j.relays
