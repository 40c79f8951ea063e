use Rattle.std.proofs.Common.{true, false, sym, subst, Result}
use Rattle.line_notation.specs.{declared.reader.LineKind.LineKind, Quoted.quoted_in}
use Rattle.reliable_sequence.specs.declared.events.Event.{Event}
use Rattle.rehearsal.specs.Reading.{Reads}
use Rattle.rehearsal.proofs.Words.{said-submission}
use Rattle.rehearsal.proofs.line.with_argument.Goals as goal

pub returns-in-Submit : goal.returns-in-Submit
returns-in-Submit c =
    rw c.in-Submit.is (subst (λ (said : Result Event LineKind). Reads said c.submitted.result)
    (sym (said-submission (quoted_in c.args.argument.now) false)) c.submitted.ensures)

pub returns-in-Last : goal.returns-in-Last
returns-in-Last c =
    rw c.in-Last.is (subst (λ (said : Result Event LineKind). Reads said c.submitted-in-Last.result)
    (sym (said-submission (quoted_in c.args.argument.now) true)) c.submitted-in-Last.ensures)
