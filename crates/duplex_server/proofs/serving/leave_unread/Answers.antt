use Rattle.std.proofs.Common.{[], refl}
use Rattle.unit_streams.specs.Judging.{events_in, events_of}
use Rattle.stream_reader.specs.Sides.{endpoint_of}
use Rattle.stream_reader.specs.Stream.{ends, Settings, stream}
use Rattle.stream_loop.proofs.{LoopSteps.first_pending, Parts.given_none, Taking.unbegun}
use Rattle.stream_loop.proofs.Writing.{counted_none}
use Rattle.stream_loop.specs.Edges.{Input, input_at}
use Rattle.duplex_server.specs.declared.outcome.{Inbound.TheVariants.Memory, Outcome.Outcome}
use Rattle.duplex_server.specs.ServerStream.{Answering, answering, messages_along, replies}
use Rattle.duplex_server.specs.ServerStream.{requests_to}
use Rattle.duplex_server.specs.{Replying.answers_in, Serving.HasServed}
use Rattle.duplex_server.proofs.{Served.served, Served.serves, Streams.ends_within}
use Rattle.stream_loop.{specs.PartsDue.AreDue, proofs.PartsDue.wrote_so}
use Rattle.io_edges.specs.Views.{SinkView}
use Rattle.stream_loop.specs.declared.following.FollowEnding.TheVariants as endings
use Rattle.duplex_server.proofs.serving.leave_unread.Goals as goal

-- no event was there to be answered
pub returns-clause-serves : goal.returns-clause-serves
unfolding messages_along AreDue events_of events_in
returns-clause-serves g c =
    let x : Answering = answering (g.V.Service.served c.args.service.now) c.args.statics.now
    c.args.quotas.now in
    let endpoint = endpoint_of c.args.endpoint.now in
    let y : Settings = requests_to x endpoint in
    let first : SinkView = g.K.Sink.view c.args.sink.now in
    let last : SinkView = g.K.Sink.view c.close.new.sink in
    let k = c.close.new.self in
    let i : Input = input_at g.S.Source.left g.S.Source.taken g.S.Source.faults
    g.S.Source.empty_takes c.args.source.now in
    let outcome : Outcome = record {
      messages = 0;
      answers = k.whole;
      inbound = Memory;
      outbound = k.outbound;
    } in
    let none : HasServed x outcome first last [] = served x first last outcome endings.Memory refl
    x refl [] refl (wrote_so (replies x) answers_in refl first last [] [] refl k.whole _ k.outbound
    (c.close.ensures.closed first [] (given_none first c.new-parts.result
    c.new-parts.ensures.fresh))) in
    serves x first last outcome endings.Memory refl endpoint i i (HasServed x outcome first last)
    (unbegun (stream y) _ i (first_pending (stream y) ends y.limits.session
    (ends_within y c.args.quotas.now.forward.good)) none)
    (λ events h. h) (counted_none _ _ _ refl (λ e. cc))

pub returns-clause-same_end : goal.returns-clause-same_end
returns-clause-same_end g c = λ done. c.close.ensures.same_end
