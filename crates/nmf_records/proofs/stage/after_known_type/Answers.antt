use Rattle.std.proofs.Common.{[], refl}
use Rattle.multibyte_ints.specs.Integer.{int_at, int_ending_at}
use Rattle.multibyte_ints.specs.Text.{string_at, text_behind}
use Rattle.nmf_records.proofs.stage.after_known_type.Goals as goal

pub returns-in-2-clause-reads : goal.returns-in-2-clause-reads
unfolding int_at int_ending_at string_at text_behind
returns-in-2-clause-reads c = λ limits. rw c.in-2.is refl

pub returns-in-4-clause-reads : goal.returns-in-4-clause-reads
unfolding int_at int_ending_at string_at text_behind
returns-in-4-clause-reads c = λ limits. rw c.in-4.is refl

pub returns-in-5-clause-reads : goal.returns-in-5-clause-reads
returns-in-5-clause-reads c = λ limits. ([], rw c.in-5.is refl)

pub returns-in-6-clause-reads : goal.returns-in-6-clause-reads
unfolding int_at int_ending_at
returns-in-6-clause-reads c = λ limits. rw c.in-6.is refl

pub returns-in-7-clause-reads : goal.returns-in-7-clause-reads
returns-in-7-clause-reads c = λ limits. ([], rw c.in-7.is refl)

pub returns-in-8-clause-reads : goal.returns-in-8-clause-reads
unfolding int_at int_ending_at string_at text_behind
returns-in-8-clause-reads c = λ limits. rw c.in-8.is refl

pub returns-in-11-clause-reads : goal.returns-in-11-clause-reads
returns-in-11-clause-reads c = λ limits. ([], rw c.in-11.is refl)

pub returns-in-12-clause-reads : goal.returns-in-12-clause-reads
returns-in-12-clause-reads c = λ limits. ([], rw c.in-12.is refl)
