use Rattle.std.proofs.Common.{[], refl, arith}
use Rattle.nbfx_records.specs.Resuming.{Fits}
use Rattle.nbfx_records.proofs.resume.Resume.new.Goals as goal

pub returns : goal.returns
unfolding Fits
returns c bytes = (
  record { items = []; are = refl; within = omega arith },
  record
      { items = []; are = refl; within = omega arith },
)
