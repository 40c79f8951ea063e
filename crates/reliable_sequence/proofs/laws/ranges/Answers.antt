use Rattle.reliable_sequence.proofs.laws.ranges.Goals as goal
use Rattle.reliable_sequence.proofs.Acknowledged.{none-at-first, same-with-more}
use Rattle.reliable_sequence.proofs.RangeLaws.{counted, received-are, rising}

pub returns-clause-counted : goal.returns-clause-counted
returns-clause-counted c = counted

pub returns-clause-received : goal.returns-clause-received
returns-clause-received c = received-are

pub returns-clause-rising : goal.returns-clause-rising
returns-clause-rising c = rising

pub returns-clause-first : goal.returns-clause-first
returns-clause-first c = none-at-first

pub returns-clause-submitted : goal.returns-clause-submitted
returns-clause-submitted c = same-with-more
