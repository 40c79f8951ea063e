use Rattle.string_tables.proofs.ChosenFacts.{finds_chosen, names_chosen, names_small}
use Rattle.string_tables.proofs.laws.chosen_identifiers.Goals as goal

pub returns : goal.returns
returns c = record { found = finds_chosen; named = names_chosen; small = names_small }
