use Rattle.std.proofs.Common.{ℕ, List, Option, refl, subst}
use Rattle.command_words.specs.Asking.{serving_of, two_of}
use Rattle.duplex_server.proofs.Outcomes.{unbegun_so}
use Rattle.duplex_server.specs.Replaying.{Replays}
use Rattle.dump_replay.specs.Answering.{answering_by}
use Rattle.dump_replay.proofs.Seen.{input_by, output_by}
use Rattle.stream_loop.specs.declared.outbound.Outbound.TheVariants as outbounds
use Rattle.duplex_server.specs.declared.outcome.Inbound.TheVariants as inbounds
use Rattle.dump_replay.proofs.replaying.answer_input.Goals as goal

-- there was no memory for the Via
pub returns-in_default : goal.returns-in_default
returns-in_default g c = λ files asked. record {
  responder = c.args.responder.now;
  asked_for = asked;
  inbound = inbounds.Memory;
  outbound = outbounds.Memory;
  status_is = refl;
  replays = unbegun_so (answering_by c.args.responder.now c.args.statics.now
      (two_of c.args.quotas.now)) (serving_of c.args.serving).endpoint
      (input_by g.I.Source c.args.input)
      (output_by g.O.Sink c.args.output)
      c.args.quotas.now.forward.good;
  says = (c.note_status.ensures.notes, c.note_status.ensures.none);
}

pub returns : goal.returns
returns g c = λ files asked. record {
  responder = c.args.responder.now;
  asked_for = asked;
  inbound = c.replay_stream-input.result.0.inbound;
  outbound = c.replay_stream-input.result.0.outbound;
  status_is = c.replay_status.ensures;
  replays = subst (λ (via : Option (List ℕ)). Replays (answering_by
      c.args.responder.now c.args.statics.now (two_of c.args.quotas.now)) via
      (input_by g.I.Source c.args.input)
      (input_by g.I.Source c.replay_stream-input.result.1)
      (output_by g.O.Sink c.args.output)
      (output_by g.O.Sink c.replay_stream-input.result.2)
      c.replay_stream-input.result.0.inbound c.replay_stream-input.result.0.outbound)
      c.in-Ok.ensures c.replay_stream-input.ensures;
  says = (c.note_replay.ensures.notes, c.note_replay.ensures.none);
}
