use Rattle.session_pool.proofs.Owing.{last_is, last_none}
use Rattle.session_pool.proofs.lines.last_of.Goals as goal

pub returns-in-empty : goal.returns-in-empty
returns-in-empty c = last_none c.args.outcomes.now c.in-empty.len_below

pub returns-in-len1-up : goal.returns-in-len1-up
returns-in-len1-up c = last_is c.args.outcomes.now _ c.in-len1-up.len_at_least
