use Rattle.std.proofs.Common.{refl}
use Rattle.client.proofs.LaneWriting.{writing_out}
use Rattle.client.proofs.lane_writer.LaneWriter.run_out.Goals as goal

pub returns-clause-writing : goal.returns-clause-writing
returns-clause-writing g c = λ first all more h.
    writing_out first _ _ (g.K.Sink.view c.args.sink.now) (g.K.Sink.view c.run_out.new.sink) all
    more refl refl refl refl c.run_out.ensures.stopped
    (λ parts next given. c.run_out.ensures.given first parts next given) h
