use Rattle.std.proofs.Common.{[], refl, ap, ◌∙◌, subst}
use Rattle.unit_streams.specs.Judging.{events_in, events_of}
use Rattle.nbfx_values.specs.QuotasOf.{limits_of}
use Rattle.stream_reader.specs.{declared.side.Endpoint.Endpoint, Sides.endpoint_of}
use Rattle.stream_reader.specs.Stream.{ends, initiators, Settings, stream}
use Rattle.stream_loop.proofs.{LoopSteps.first_pending, Taking.unbegun_held}
use Rattle.stream_loop.specs.{Edges.Input, Edges.input_at, Followed.Leaves}
use Rattle.receiver_machine.specs.ReceiverState.{has_good_quotas, settings_of}
use Rattle.duplex_server.proofs.{Served.followed_as, Streams.ends_within}
use Rattle.duplex_server.proofs.following.follow_requests.Given.{Over}
use Rattle.duplex_server.proofs.following.follow_requests.Goals as goal

module _ (g : Over) where
  abbrev input_of : g.row.S.Denot → Input
  input_of source = input_at g.S.Source.left g.S.Source.taken g.S.Source.faults
      g.S.Source.empty_takes source

pub returns-in_default-clause-follows : goal.returns-in_default-clause-follows
unfolding events_of events_in
returns-in_default-clause-follows g c = λ i taken.
    let y : Settings = record {
      side = initiators (endpoint_of c.args.endpoint.now);
      statics = c.args.statics.now;
      limits = limits_of c.args.quotas;
    } in
    unbegun_held (stream y) _ i (input_of g c.args.source.now) c.args.buffer.now
    (first_pending (stream y) ends y.limits.session (ends_within y c.args.quotas.good))
    c.bytes-held.ensures.short taken
    (record { paused = []; since = []; joined = refl; handled = c.requires.first })

pub returns-in_default-new-clause-follows : goal.returns-in_default-new-clause-follows
unfolding events_of events_in
returns-in_default-new-clause-follows g c = λ i taken.
    let y : Settings = record {
      side = initiators (endpoint_of c.args.endpoint.now);
      statics = c.args.statics.now;
      limits = limits_of c.args.quotas;
    } in
    unbegun_held (stream y) _ i (input_of g c.args.source.now) c.args.buffer.now
    (first_pending (stream y) ends y.limits.session (ends_within y c.args.quotas.good))
    c.bytes-held.ensures.short taken
    (record { paused = []; since = []; joined = refl; handled = c.requires.first })

pub follow_on-requires-clause-ends : goal.follow_on-requires-clause-ends
follow_on-requires-clause-ends g c =
    ends_within (settings_of c.in-Ok-new.reader.receiver)
    (has_good_quotas c.in-Ok-new.reader.receiver)

pub returns-clause-follows : goal.returns-clause-follows
returns-clause-follows g c = λ i taken.
    let y : Settings = record {
      side = initiators (endpoint_of c.args.endpoint.now);
      statics = c.args.statics.now;
      limits = limits_of c.args.quotas;
    } in
    let to : Endpoint → Settings = λ e. record {
      side = initiators (endpoint_of e);
      statics = c.args.statics.now;
      limits = limits_of c.args.quotas;
    } in
    followed_as (settings_of c.in-Ok-new.reader.receiver) y
    (c.in-Ok-new.ensures.settings ∙ ap to c.in-Ok.ensures) _ i
    (input_of g c.follow_on.new.input) c.follow_on.result (c.follow_on.ensures.follows i taken)

pub returns-clause-left : goal.returns-clause-left
returns-clause-left g c = λ i taken good.
    let to : Endpoint → Settings = λ e. record {
      side = initiators (endpoint_of e);
      statics = c.args.statics.now;
      limits = limits_of c.args.quotas;
    } in
    subst (λ (s : Settings). Leaves (stream s) i (input_of g c.follow_on.new.input)
    c.follow_on.new.buffer) (c.in-Ok-new.ensures.settings ∙ ap to c.in-Ok.ensures)
    (c.follow_on.ensures.left i taken good)
