use Rattle.std.proofs.Common.{refl}
use Rattle.client.proofs.LaneWriting.{writing_unfit}
use Rattle.client.proofs.lane_writer.LaneWriter.refuse.Goals as goal

pub returns-in_default : goal.returns-in_default
returns-in_default g c = record {
  writing = λ first all lane document refuses h.
      writing_unfit first _ _ (g.K.Sink.view c.args.sink.now) all lane document
      c.requires.going c.requires.fits refl refl refl refl c.args.fault refl c.in_default.not-Memory
      refuses h;
  set = record { settings = refl; set = λ set. set };
  same_end = refl;
}
