use Rattle.dump_replay.proofs.Rehearsals.{zero_in_form, zero_is_played_whole}
use Rattle.dump_replay.proofs.laws.complete_rehearsals.Goals as goal

pub returns-clause-in_form : goal.returns-clause-in_form
returns-clause-in_form c = zero_in_form

pub returns-clause-played : goal.returns-clause-played
returns-clause-played c = zero_is_played_whole
