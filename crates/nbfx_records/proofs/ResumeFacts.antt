-- What was seen of a record that isn't whole holds when more of its bytes came.
use Rattle.std.proofs.Common.{ℕ, true, List, ◌++◌}
use Rattle.nbfx_records.specs.{declared.resume.Resume.Resume, Resuming.Fits}
use Rattle.nbfx_records.specs.Shapes.{array_turn, list_turn}
use Rattle.nbfx_records.proofs.ManyFacts.{passes_kept}

pub still_fits : (resume : Resume) (bytes next : List ℕ) → Fits resume bytes
    → Fits resume (bytes ++ next)
unfolding Fits
still_fits resume bytes next fits = (
  passes_kept (list_turn true) bytes next resume.list_from resume.list_at fits.0,
  passes_kept array_turn bytes next resume.parts_from resume.parts_at fits.1,
)
