use Rattle.std.proofs.Common.{Err, refl, inl}
use Rattle.command_words.specs.Asking.{two_of}
use Rattle.duplex_server.specs.Served.{Ends}
use Rattle.dump_replay.specs.{Answering.answering_by, Outside.ends_seen}
use Rattle.dump_replay.proofs.Seen.{input_by, network_by, output_by}
use Rattle.dump_replay.proofs.PoolEnds.{pool_out, pool_wire_counted, pooled_so}
use Rattle.dump_replay.proofs.{Works.stop_counts, pooling.pool_wire.Given.Over}
use Rattle.duplex_server.specs.declared.stopping.ServeFault.TheVariants as stops
use Rattle.dump_replay.proofs.pooling.pool_wire.Goals as goal

module _ (g : Over) where
  abbrev seen : g.row.W-Reader.Denot × g.row.W-Writer.Denot → Ends
  seen = ends_seen (input_by g.W.Reader.Source) (output_by g.W.Writer.Sink)

-- there was no memory for the Via
pub returns-in_default-clause-pools : goal.returns-in_default-clause-pools
returns-in_default-clause-pools g c = λ i. inl (record {
  responder = c.in-Ok.responder;
  asked_for = c.in-Ok.ensures.found;
  stop = Err stops.Memory;
  status_is = refl;
  pools = inl (refl, refl, refl);
  says = (c.note_status.ensures.notes, c.note_status.ensures.none);
  unread = refl;
})

pub returns-clause-pools : goal.returns-clause-pools
returns-clause-pools g c = λ i. inl (record {
  responder = c.in-Ok.responder;
  asked_for = c.in-Ok.ensures.found;
  stop = c.pool_connections-stop.result.0;
  status_is = c.stop_status-status.ensures;
  pools = pooled_so (answering_by c.in-Ok.responder c.args.statics.now (two_of c.args.quotas.now))
      c.args.sessions (seen g) c.args.connections (network_by g.W.Wire) (output_by g.O.Sink)
      c.args.wire.now c.pool_connections-stop.new.wire c.args.output
      c.pool_connections-stop.result.1 c.pool_connections-stop.result.0 _ _
      c.in-Ok-endpoint_in.ensures c.pool_connections-stop.ensures.pooled;
  says = (c.note_status-2.ensures.notes, c.note_status-2.ensures.none);
  unread = refl;
})

pub returns-clause-wire_fault : goal.returns-clause-wire_fault
returns-clause-wire_fault g c =
    let n = network_by g.W.Wire c.args.wire.now in
    let n' = network_by g.W.Wire c.pool_connections-stop.new.wire in
    let o = output_by g.O.Sink c.args.output in
    let o' = output_by g.O.Sink c.pool_connections-stop.result.1 in
    let x = answering_by c.in-Ok.responder c.args.statics.now (two_of c.args.quotas.now) in
    let stop = c.pool_connections-stop.result.0 in
    let left = pooled_so x c.args.sessions (seen g) c.args.connections (network_by g.W.Wire)
    (output_by g.O.Sink) c.args.wire.now c.pool_connections-stop.new.wire c.args.output
    c.pool_connections-stop.result.1 stop _ _ c.in-Ok-endpoint_in.ensures
    c.pool_connections-stop.ensures.pooled in
    stop_counts n.faults n'.faults stop c.stop_status-status.result c.stop_status-status.ensures
    (pool_wire_counted x _ c.args.sessions (seen g) c.args.connections n n' o o' stop left)

pub returns-clause-out : goal.returns-clause-out
returns-clause-out g c =
    let n = network_by g.W.Wire c.args.wire.now in
    let n' = network_by g.W.Wire c.pool_connections-stop.new.wire in
    let o = output_by g.O.Sink c.args.output in
    let o' = output_by g.O.Sink c.pool_connections-stop.result.1 in
    let x = answering_by c.in-Ok.responder c.args.statics.now (two_of c.args.quotas.now) in
    let stop = c.pool_connections-stop.result.0 in
    let left = pooled_so x c.args.sessions (seen g) c.args.connections (network_by g.W.Wire)
    (output_by g.O.Sink) c.args.wire.now c.pool_connections-stop.new.wire c.args.output
    c.pool_connections-stop.result.1 stop _ _ c.in-Ok-endpoint_in.ensures
    c.pool_connections-stop.ensures.pooled in
    pool_out x _ c.args.sessions (seen g) c.args.connections n n' o o' stop left
