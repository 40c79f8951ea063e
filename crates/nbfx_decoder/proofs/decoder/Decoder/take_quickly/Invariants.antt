use Rattle.std.proofs.Common.{◌-◌, length}
use Rattle.nbfx_decoder.specs.Taking.{TakesRecords}
use Rattle.nbfx_decoder.proofs.decoder.Decoder.take_quickly.Given as goal

abbrev pub invariant-loop-used : goal.invariant-loop-used
invariant-loop-used l = TakesRecords l.initial.self l.self l.bytes l.used

abbrev pub decreases-loop-used : goal.decreases-loop-used
decreases-loop-used l = length l.bytes - l.used
