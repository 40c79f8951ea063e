use Rattle.std.proofs.Common.{List, [], map, None, sym, refl, ◌∙◌, append-nil}
use Rattle.nbfx_values.specs.QuotasOf.{limits_of}
use Rattle.stream_reader.specs.{Sides.endpoint_of, Stream.Settings, Stream.stream}
use Rattle.stream_reader.specs.Stream.{StreamEvent}
use Rattle.stream_loop.proofs.{Counts.handled_some, Taking.follows_as, Taking.handled_whole}
use Rattle.stream_loop.specs.{Edges.Input, Edges.input_at, Followed.Follows, Followed.WasTaken}
use Rattle.worker_thread.specs.{Jobs.AreFirst, Sending.sent_by}
use Rattle.duplex_server.specs.declared.requests.Request.{Request}
use Rattle.duplex_server.specs.{Asking.HasAsked, Jobs.AskFor, ServerStream.answering}
use Rattle.duplex_server.specs.{ServerStream.messages_along}
use Rattle.duplex_server.specs.{ServerStream.requests_to, Requests.request_for}
use Rattle.duplex_server.proofs.AskedFor.{asked_to_end, were_asked}
use Rattle.duplex_server.proofs.asking.ask_for_replies.{Given.Over, Goals.After-send}
use Rattle.duplex_server.proofs.asking.ask_for_replies.Goals as goal

module _ (g : Over) where
  abbrev input_of : g.row.S.Denot → Input
  input_of source = input_at g.S.Source.left g.S.Source.taken g.S.Source.faults
      g.S.Source.empty_takes source

pub follow_requests-ending-requires-clause-first : goal.follow_requests-ending-requires-clause-first
unfolding messages_along AreFirst AskFor
follow_requests-ending-requires-clause-first g c = record {
  counted = c.new-answerer.ensures.messages;
  asked = [];
  sent = sym (append-nil (sent_by c.args.sender.now));
  go_on = tt;
  asks = refl;
  to = refl;
}

pub follow_requests-ending-requires-clause-halts : goal.follow_requests-ending-requires-clause-halts
follow_requests-ending-requires-clause-halts g c =
    λ first now paused since at halt answerer handled. handled

module _ (g : Over) (c : After-send g) where
  -- what was asked for of these requests, before the last job
  abbrev Asked : List Request → Type 0
  Asked requests = HasAsked
      (g.V.Service.served c.follow_requests-ending.new.handler.answerer.service.now)
      (limits_of c.follow_requests-ending.new.handler.answerer.quotas) c.args.sender.now requests
      c.follow_requests-ending.new.handler.answerer c.follow_requests-ending.new.output

  abbrev requests : Settings
  requests = requests_to (answering (g.V.Service.served c.args.service.now) c.args.statics.now
      c.args.quotas.now) (endpoint_of c.args.endpoint.now)

  followed : (i : Input) → WasTaken c.args.buffer.now i (input_of g c.args.source.now)
      → Follows (stream requests) (λ events. Asked (map request_for events)) i
      (input_of g c.follow_requests-ending.new.source) c.follow_requests-ending.result
  followed i taken =
      let f = c.follow_requests-ending in
      follows_as (stream requests) _ _ i (input_of g f.new.source)
      f.result (handled_whole request_for Asked) (f.ensures.follows i taken)

  -- some requests were asked for: of an input of which nothing is told the bytes could have been
  -- taken
  asked : (events : List StreamEvent) × Asked (map request_for events)
  asked =
      let now = input_of g c.args.source.now in
      let i : Input = record now { left = None; taken = None } in
      handled_some (stream requests) _ i (input_of g c.follow_requests-ending.new.source)
      c.follow_requests-ending.result
      (followed i (record { stream = tt; took = tt; faults = refl; empty_takes = refl }))

pub returns-clause-follows : goal.returns-clause-follows
returns-clause-follows g c = λ i taken.
    let f = c.follow_requests-ending in
    let n = f.new.handler.answerer in
    follows_as (stream (requests g c)) (λ events. Asked g c (map request_for events)) _
    i (input_of g f.new.source) f.result
    (λ events h. were_asked (g.V.Service.served c.args.service.now)
    (limits_of c.args.quotas.now.back)
    c.args.sender.now f.new.output c.send.new.self n f.result c.requires.unsent c.send.ensures.sent
    (g.V.Service.served n.service.now) (limits_of n.quotas) (map request_for events) h
    (f.ensures.settings
    ∙ rw (c.new-answerer.ensures.service, c.new-answerer.ensures.quotas) refl))
    (followed g c i taken)

pub returns-clause-ended : goal.returns-clause-ended
returns-clause-ended g c =
    let f = c.follow_requests-ending in
    let n = f.new.handler.answerer in
    let some = asked g c in
    asked_to_end (g.V.Service.served c.args.service.now) (limits_of c.args.quotas.now.back)
    c.args.sender.now f.new.output c.send.new.self n f.result c.requires.unsent
    c.send.ensures.sent (g.V.Service.served n.service.now) (limits_of n.quotas)
    (map request_for some.0) some.1

pub returns-clause-to : goal.returns-clause-to
returns-clause-to g c = c.send.ensures.to ∙ (asked g c).1.to
