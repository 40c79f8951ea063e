use Rattle.string_tables.proofs.ChosenFacts.{chooses_appended, keeps_chosen}
use Rattle.string_tables.proofs.SessionFacts.{least_session_id-append, least_session_id-push}
use Rattle.string_tables.proofs.TableFacts.{names-append, names-push}
use Rattle.string_tables.proofs.laws.appended_strings.Goals as goal

pub returns-clause-kept : goal.returns-clause-kept
returns-clause-kept c = names-append

pub returns-clause-named : goal.returns-clause-named
returns-clause-named c = names-push

pub returns-clause-least_kept : goal.returns-clause-least_kept
returns-clause-least_kept c = least_session_id-append

pub returns-clause-least : goal.returns-clause-least
returns-clause-least c = least_session_id-push

pub returns-clause-chosen_kept : goal.returns-clause-chosen_kept
returns-clause-chosen_kept c = keeps_chosen

pub returns-clause-chosen : goal.returns-clause-chosen
returns-clause-chosen c = chooses_appended
