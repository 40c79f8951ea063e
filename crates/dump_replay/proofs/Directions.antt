-- The quotas of each direction are good.
use Rattle.nbfx_values.specs.{declared.limits.Two.Two, Limits.IsGood}
use Rattle.command_words.specs.{Asking.two_of, declared.task.Origin.Origin}
use Rattle.command_words.specs.declared.task.Origin.TheVariants.{Initiator, Receiver}
use Rattle.dump_replay.specs.Statics.{limits_for}

pub good_for : (origin : Origin) (quotas : Two) → IsGood (limits_for origin (two_of quotas))
good_for Initiator quotas = quotas.forward.good
good_for (Receiver mode kind) quotas = quotas.back.good
