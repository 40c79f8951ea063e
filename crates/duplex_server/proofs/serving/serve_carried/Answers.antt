use Rattle.std.proofs.Common.{◌≡◌, List, [], map, sym, refl, ◌∙◌, arith}
use Rattle.unit_streams.specs.Tellers.{state_behind}
use Rattle.stream_reader.specs.{Sides.endpoint_of, Stream.stream, Stream.StreamEvent}
use Rattle.stream_loop.proofs.{Parts.given_none, Taking.follows_as, Taking.handled_whole}
use Rattle.stream_loop.specs.Edges.{Input, input_at}
use Rattle.duplex_server.specs.{declared.outcome.Outcome.Outcome, Requests.request_for}
use Rattle.duplex_server.specs.declared.requests.Request.{Request}
use Rattle.duplex_server.specs.ServerStream.{Answering, answering, messages_along, replies}
use Rattle.duplex_server.specs.ServerStream.{requests_to}
use Rattle.duplex_server.specs.Replying.{answering_of, answers_in, HasHandled}
use Rattle.duplex_server.proofs.Served.{kept, served}
use Rattle.duplex_server.proofs.serving.serve_carried.Given.{Over}
use Rattle.stream_loop.{specs.PartsDue.AreDue, proofs.PartsDue.wrote_so}
use Rattle.io_edges.specs.Views.{SinkView}
use Rattle.duplex_server.proofs.serving.serve_carried.Goals as goal

module _ (g : Over) where
  abbrev input_of : g.row.S.Denot → Input
  input_of source = input_at g.S.Source.left g.S.Source.taken g.S.Source.faults
      g.S.Source.empty_takes source

pub follow_requests-ending-requires-clause-first : goal.follow_requests-ending-requires-clause-first
unfolding messages_along AreDue state_behind
follow_requests-ending-requires-clause-first g c =
    let r = c.new-replier.result in
    let e = c.new-replier.ensures in
    record {
      counted = e.messages;
      parts = [];
      due = refl;
      stands = record {
        given = given_none
            (g.K.Sink.view c.args.sink.now) r.writer.parts e.fresh;
        is_at = λ going. rw e.unopened refl;
        little = rw e.fresh.nothing (omega arith);
      };
    }

pub follow_requests-ending-requires-clause-halts : goal.follow_requests-ending-requires-clause-halts
follow_requests-ending-requires-clause-halts g c =
    λ first now paused since at halt replier handled. handled

pub returns-clause-serves : goal.returns-clause-serves
returns-clause-serves g c =
    let e = c.new-replier.ensures in
    let r = c.new-replier.result in
    let f = c.follow_requests-ending in
    let n = f.new.handler in
    let k = c.close.new.self in
    let endpoint = endpoint_of c.args.endpoint.now in
    let x : Answering = answering (g.V.Service.served c.args.service.now) c.args.statics.now
    c.args.quotas.now in
    let xr : Answering = answering_of g.V.Service.served r in
    let xn : Answering = answering_of g.V.Service.served n in
    let begun : xr ≡ x = rw (e.service, e.statics, e.quotas) refl in
    let outcome : Outcome = record {
      messages = n.answerer.messages;
      answers = k.whole;
      inbound = c.inbound_of.result;
      outbound = k.outbound;
    } in
    let first : SinkView = g.K.Sink.view c.args.sink.now in
    let last : SinkView = g.K.Sink.view c.close.new.sink in
    let i' : Input = input_of g f.new.source in
    let Handled : List Request → Type 0 = λ requests. HasHandled xn first requests n
    (g.K.Sink.view f.new.output) in
    kept x first last outcome f.result c.inbound_of.ensures endpoint
    (input_of g c.args.source.now) i' c.args.buffer.now f.new.buffer
    (λ (events : List StreamEvent). Handled (map request_for events))
    (λ i taken. follows_as (stream (requests_to x endpoint)) _ _ i i' f.result
    (handled_whole request_for Handled) (f.ensures.follows i taken))
    f.ensures.left
    (λ events h. served x first last outcome f.result c.inbound_of.ensures xn
    (f.ensures.settings ∙ begun) events h.counted
    (wrote_so (replies xn) answers_in refl first last (map request_for events) h.parts h.due
    k.whole _ k.outbound
    (rw c.last_bytes.ensures at (c.close.ensures.closed first h.parts h.stands.given))))
    f.ensures.counted

-- where the writing is done at last, it had not stopped before
pub returns-clause-same_end : goal.returns-clause-same_end
returns-clause-same_end g c = λ done.
    let k = c.close.ensures in
    k.same_end ∙ c.follow_requests-ending.ensures.same_end
    (λ stopped. stopped (sym (k.stopped stopped).0 ∙ done))
