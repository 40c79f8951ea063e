use Rattle.{std.proofs.Common.sym, nbfx_values.proofs.Positions.open-position}
use Rattle.nbfx_values.proofs.laws.a_position_counts_the_open.Goals as goal

pub returns : goal.returns
returns c items position leads = sym (open-position items position leads)
