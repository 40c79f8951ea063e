use Rattle.std.proofs.Common.{◌≡◌, Bool, true, false, Err, sym, ap, ◌∙◌}
use Rattle.nbfx_values.specs.declared.refusals.Reason.TheVariants.{Truncated}
use Rattle.stream_reader.specs.declared.reader.ReadRefusal.TheVariants.{Offence as Refused}
use Rattle.stream_reader.specs.{declared.reader.StreamReader.StreamReader, Sides.side_of}
use Rattle.stream_reader.specs.{Saying.said_at_end, Stepping.may_end_at}
use Rattle.stream_reader.specs.Stream.{direction_of, offence_at}
use Rattle.stream_reader.specs.StreamReaderState.{failure_of, settings_of, StandsFor}
use Rattle.stream_reader.proofs.ReaderFacts.{ending_is, failed_as_set, not_failed, refused_shows}
use Rattle.stream_reader.proofs.ReaderFacts.{same_settings}
use Rattle.stream_reader.proofs.reader.StreamReader.end_of_input.Goals as goal

-- whose stream it reads
as_set : (r : StreamReader) (b : Bool)
    → may_end_at (direction_of (side_of r.side)) r.mode r.awaited r.unit_from r.taken ≡ b
    → may_end_at (direction_of (settings_of r).side) r.mode r.awaited r.unit_from r.taken ≡ b
unfolding settings_of
as_set r b e = e

pub returns-in-Some-clause-answers : goal.returns-in-Some-clause-answers
unfolding StandsFor
returns-in-Some-clause-answers c = λ p h. absurd (not_failed c.args.self.now _ p c.in-Some.refusal h
    c.in-Some.is)

pub returns-in-Some-clause-repeated : goal.returns-in-Some-clause-repeated
unfolding failure_of
returns-in-Some-clause-repeated c = λ refusal e. let same = c.in-Some.is in cc

pub returns-in-Some-clause-failed : goal.returns-in-Some-clause-failed
unfolding StandsFor
returns-in-Some-clause-failed c = λ p h. absurd (not_failed c.args.self.now _ p c.in-Some.refusal h
    c.in-Some.is)

pub returns-in-Some-clause-refused : goal.returns-in-Some-clause-refused
unfolding failure_of
returns-in-Some-clause-refused c = c.in-Some.is

pub returns-then-may_end-clause-answers : goal.returns-then-may_end-clause-answers
unfolding StandsFor
returns-then-may_end-clause-answers c = λ p h.
    let may = sym c.may_end.ensures ∙ c.if-may_end.true in
    sym (ap said_at_end (ending_is c.args.self.now _ p h true (as_set c.args.self.now true may)))

pub returns-then-may_end-clause-repeated : goal.returns-then-may_end-clause-repeated
unfolding failure_of
returns-then-may_end-clause-repeated c = λ refusal e. absurd (c.in_default.not-Some refusal e)

pub returns-clause-answers : goal.returns-clause-answers
unfolding StandsFor
returns-clause-answers c = λ p h.
    let may = sym c.may_end.ensures ∙ c.if-may_end.false in
    ap Err (c.refuse.ensures.offence
    ∙ ap (λ from. Refused (offence_at from Truncated)) c.open_from-from.ensures)
    ∙ sym (ap said_at_end
    (ending_is c.args.self.now _ p h false (as_set c.args.self.now false may)))

pub returns-clause-repeated : goal.returns-clause-repeated
unfolding failure_of
returns-clause-repeated c = λ refusal e. absurd (c.in_default.not-Some refusal e)

pub returns-clause-unchanged : goal.returns-clause-unchanged
unfolding failure_of
returns-clause-unchanged c = λ refusal e. absurd (c.in_default.not-Some refusal e)

pub returns-clause-failed : goal.returns-clause-failed
unfolding StandsFor
returns-clause-failed c = λ p h.
    let same = same_settings c.args.self.now c.refuse.new.self c.refuse.ensures.shown.side
    c.refuse.ensures.shown.statics c.refuse.ensures.shown.quotas in
    failed_as_set c.refuse.new.self _ c.refuse.result _ p same
    (refused_shows c.args.self.now c.refuse.new.self _ p c.refuse.result _ h
    c.refuse.ensures.failure (c.refuse.ensures.taken ∙ h.taken) c.refuse.ensures.shown)

pub returns-clause-refused : goal.returns-clause-refused
unfolding failure_of
returns-clause-refused c = c.refuse.ensures.failure

pub returns-clause-settings : goal.returns-clause-settings
returns-clause-settings c = same_settings _ _ c.refuse.ensures.shown.side
    c.refuse.ensures.shown.statics c.refuse.ensures.shown.quotas

pub returns-in-Some-clause-wanted : goal.returns-in-Some-clause-wanted
unfolding failure_of
returns-in-Some-clause-wanted c = λ e. let same = c.in-Some.is in cc
