use Rattle.std.proofs.Common.{◌≡◌, ℕ, List, Err, Option, refl, ap, subst, inl}
use Rattle.{stream_reader.specs.Sides.endpoint_of, dump_replay.specs.Outside.ends_seen}
use Rattle.command_words.specs.Asking.{serving_of, two_of}
use Rattle.duplex_server.{proofs.Stops.none_served, specs.Served.Ends, specs.Served.ServesAll}
use Rattle.dump_replay.specs.Answering.{answering_by}
use Rattle.dump_replay.proofs.Seen.{input_by, network_by, output_by}
use Rattle.dump_replay.proofs.{ServeEnds.served_less, serving.serve_wire.Given.Over}
use Rattle.io_edges.specs.Views.{SinkView}
use Rattle.duplex_server.specs.declared.stopping.ServeFault.TheVariants as stops
use Rattle.dump_replay.proofs.serving.serve_wire.Goals as goal

module _ (g : Over) where
  abbrev ends : g.row.W-Reader.Denot × g.row.W-Writer.Denot → Ends
  ends = ends_seen (input_by g.W.Reader.Source) (output_by g.W.Writer.Sink)

  abbrev out : g.row.O.Denot → SinkView
  out = output_by g.O.Sink

-- there was no memory for the Via
pub returns-in_default-clause-answers : goal.returns-in_default-clause-answers
returns-in_default-clause-answers g c = λ i.
    let x = answering_by c.in-Ok.responder c.args.statics.now (two_of c.args.quotas.now) in
    let via = (serving_of c.args.serving).endpoint in
    let o = c.args.output in
    inl (record {
      responder = c.in-Ok.responder;
      asked_for = c.in-Ok.ensures.found;
      stop = Err stops.Memory;
      status_is = refl;
      serves = served_less x via (ends g) c.args.connections (network_by g.W.Wire c.args.wire.now)
          (network_by g.W.Wire c.args.wire.now) (out g o) (out g o) (Err stops.Memory) (o ≡ o)
          (out g o ≡ out g o) (λ same. refl)
          (none_served x via (ends g) c.args.connections (network_by g.W.Wire c.args.wire.now)
          (out g o) refl);
      says = (c.note_status.ensures.notes, c.note_status.ensures.none);
      unread = refl;
    })

pub returns-clause-answers : goal.returns-clause-answers
returns-clause-answers g c = λ i.
    let x = answering_by c.in-Ok.responder c.args.statics.now (two_of c.args.quotas.now) in
    let served = c.serve_connections-stop in
    let o = c.args.output in
    let last = served.result.1 in
    let n = network_by g.W.Wire c.args.wire.now in
    let n' = network_by g.W.Wire served.new.wire in
    inl (record {
      responder = c.in-Ok.responder;
      asked_for = c.in-Ok.ensures.found;
      stop = served.result.0;
      status_is = c.stop_status-status.ensures;
      serves = subst (λ (via : Option (List ℕ)). ServesAll x via (ends g) c.args.connections n n'
          (out g o) (out g last) (out g last ≡ out g o) served.result.0)
          c.in-Ok-endpoint_in.ensures
          (served_less x (endpoint_of c.in-Ok-endpoint_in.endpoint) (ends g) c.args.connections
          n n' (out g o) (out g last) served.result.0 (last ≡ o) (out g last ≡ out g o)
          (λ same. ap (out g) same) served.ensures.served);
      says = (c.note_status-2.ensures.notes, c.note_status-2.ensures.none);
      unread = refl;
    })
