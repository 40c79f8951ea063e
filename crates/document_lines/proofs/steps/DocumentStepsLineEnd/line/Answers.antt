use Rattle.std.proofs.Common.{ap, ◌∙◌}
use Rattle.line_notation.specs.declared.reader.LineStep.TheVariants.{Done, More}
use Rattle.line_notation.specs.LineReaderState.{after, answer}
use Rattle.document_lines.proofs.Stepping.{one_more, step_answered}
use Rattle.document_lines.proofs.steps.DocumentStepsLineEnd.line.Goals as goal

pub returns-in-Ok-More-clause-answers : goal.returns-in-Ok-More-clause-answers
returns-in-Ok-More-clause-answers c =
    let s = c.args.self.now in
    let line = c.args.line.now in
    let same = c.make_room.ensures.lines in
    step_answered s.quota s.lines c.line.new.self line More
    ((rw c.in-Ok-More.field-0-is at c.in-Ok-More.ensures.answer) ∙ ap (λ z. answer z line) same)
    (c.in-Ok-More.ensures.stands ∙ ap (λ z. after z line) same)

pub returns-in-Ok-More-clause-count : goal.returns-in-Ok-More-clause-count
returns-in-Ok-More-clause-count c =
    one_more c.args.self.now.lines c.line.new.self c.args.line.now
    (c.in-Ok-More.ensures.stands ∙ ap (λ z. after z c.args.line.now) c.make_room.ensures.lines)

pub returns-in-Ok-Done-clause-answers : goal.returns-in-Ok-Done-clause-answers
returns-in-Ok-Done-clause-answers c =
    let s = c.args.self.now in
    let line = c.args.line.now in
    let same = c.make_room.ensures.lines in
    step_answered s.quota s.lines c.line.new.self line (Done c.in-Ok-Done.doc)
    ((rw c.in-Ok-Done.field-0-is at c.in-Ok-Done.ensures.answer) ∙ ap (λ z. answer z line) same)
    (c.in-Ok-Done.ensures.stands ∙ ap (λ z. after z line) same)

pub returns-in-Ok-Done-clause-count : goal.returns-in-Ok-Done-clause-count
returns-in-Ok-Done-clause-count c =
    one_more c.args.self.now.lines c.line.new.self c.args.line.now
    (c.in-Ok-Done.ensures.stands ∙ ap (λ z. after z c.args.line.now) c.make_room.ensures.lines)

pub returns-in-Err-Bad-clause-count : goal.returns-in-Err-Bad-clause-count
returns-in-Err-Bad-clause-count c =
    one_more c.args.self.now.lines c.line.new.self c.args.line.now
    ((rw c.in-Err-Bad.field-0-is at c.in-Err-Bad.ensures.stands)
    ∙ ap (λ z. after z c.args.line.now) c.make_room.ensures.lines)
