use Rattle.nbfx_records.specs.Resuming.{Fits}
use Rattle.nbfx_records.proofs.resume.Resume.list_goes_on.Goals as goal

pub returns-then-self-from : goal.returns-then-self-from
unfolding Fits
returns-then-self-from c bytes fits within = rw c.if-self-from.true at fits.0
