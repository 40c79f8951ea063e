use Rattle.std.proofs.Common.{refl}
use Rattle.client.proofs.LaneWriting.{writing_on}
use Rattle.client.proofs.lane_writer.LaneWriter.catch_up.Goals as goal

pub returns-clause-writing : goal.returns-clause-writing
returns-clause-writing g c = λ first all h.
    writing_on first _ _ (g.K.Sink.view c.args.sink.now) (g.K.Sink.view c.pause.new.sink) all refl
    (λ set. set) refl refl refl refl (λ stopped. (c.pause.ensures.stopped stopped).0)
    (λ parts given. c.pause.ensures.given first parts given) h
