use Rattle.line_notation.proofs.PlainFacts.{gives-shown}
use Rattle.line_notation.proofs.texts.text.Goals as goal

pub returns-in-Some : goal.returns-in-Some
returns-in-Some c =
    gives-shown (λ text. text) c.shown_text.result c.in-Some.shown.now c.args.words.now
    c.next_shown.new.self c.in-Some.ensures.shown c.shown_text.ensures
