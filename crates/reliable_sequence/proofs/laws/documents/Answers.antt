use Rattle.reliable_sequence.proofs.NumberFacts.{below-of}
use Rattle.reliable_sequence.proofs.{ReadData.data-read, ReadRanges.ranges-read}
use Rattle.reliable_sequence.proofs.laws.documents.Goals as goal

pub returns-clause-sent : goal.returns-clause-sent
returns-clause-sent c = λ identifier sent fit.
    data-read identifier sent fit.content fit.named fit.some fit.small

pub returns-clause-ranges : goal.returns-clause-ranges
returns-clause-ranges c = λ identifier ranges fit.
    ranges-read identifier ranges fit.rising (below-of _ ranges fit.small)
