use Rattle.std.proofs.Common.{refl}
use Rattle.nbfx_decoder.proofs.AllSteps.{takes_one_more}
use Rattle.nbfx_decoder.proofs.decoder.Decoder.take_quickly.Goals as goal

pub loop-used-preserved : goal.loop-used-preserved
loop-used-preserved c = takes_one_more c.args.self.now c.loop-used.self _ c.args.bytes.now
    c.loop-used.used c.loop-used.invariant refl refl c.in-Some.more c.in-Some.ensures.read
