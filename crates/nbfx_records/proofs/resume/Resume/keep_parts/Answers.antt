use Rattle.nbfx_records.specs.Resuming.{Fits}
use Rattle.nbfx_records.proofs.resume.Resume.keep_parts.Goals as goal

pub returns-clause-fits : goal.returns-clause-fits
unfolding Fits
returns-clause-fits c bytes fits passes = (fits.0, passes)
