use Rattle.multibyte_ints.proofs.{IntegerBytes.above_from, IntegerFacts.wrong_is}
use Rattle.multibyte_ints.proofs.IntegerLaws.{begun_from_spells, goes_on_from_begun}
use Rattle.multibyte_ints.proofs.IntegerLaws.{no_longer_spelling, spells_from_whole}
use Rattle.multibyte_ints.proofs.IntegerLaws.{whole_from_spells}
use Rattle.multibyte_ints.proofs.laws.integer_spellings.Goals as goal

pub returns-clause-read : goal.returns-clause-read
returns-clause-read c b n k = (spells_from_whole b n k, λ h. whole_from_spells b n k h.0 h.1)

pub returns-clause-begun : goal.returns-clause-begun
returns-clause-begun c b = (goes_on_from_begun b, λ h. begun_from_spells b h.0 h.1 h.2 h.3)

pub returns-clause-wrong : goal.returns-clause-wrong
returns-clause-wrong c b k = (above_from b tt k, λ h. rw h.0 (wrong_is b h.1))

pub returns-clause-none_goes_on : goal.returns-clause-none_goes_on
returns-clause-none_goes_on c = no_longer_spelling
