use Rattle.multibyte_ints.proofs.ShortestLaws.{shortest_spells, shortest_only}
use Rattle.multibyte_ints.proofs.laws.shortest_spelling.Goals as goal

pub returns-clause-spells : goal.returns-clause-spells
returns-clause-spells c = shortest_spells

pub returns-clause-alone : goal.returns-clause-alone
returns-clause-alone c = shortest_only
