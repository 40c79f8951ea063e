use Rattle.std.proofs.Common.{◌∙◌, Some, ap, sym}
use Rattle.line_notation.proofs.IdentifierCase.{identifier_in-lower, identifier_in-none}
use Rattle.line_notation.proofs.PartsFacts.{identifier-none}
use Rattle.line_notation.proofs.digits.identifier.Goals as goal

pub returns-then-word-ne-HYPHENATED : goal.returns-then-word-ne-HYPHENATED
returns-then-word-ne-HYPHENATED c = sym (identifier_in-none c.args.word.now
    (λ count small. absurd (c.if-word-ne-HYPHENATED.true count)))

pub returns-then-not-has_no_capitals : goal.returns-then-not-has_no_capitals
returns-then-not-has_no_capitals c = sym (identifier_in-none c.args.word.now
    (λ count small.
    let none = c.has_no_capitals.ensures ∙ small in
    let some = c.if-not-has_no_capitals.true in
    cc))

pub returns-in-Ok : goal.returns-in-Ok
returns-in-Ok c = ap Some c.to_bytes_le.ensures
    ∙ sym (identifier_in-lower c.args.word.now c.in-Ok.fields c.if-word-ne-HYPHENATED.false
    (sym c.has_no_capitals.ensures ∙ c.if-not-has_no_capitals.false) (sym c.in-Ok.ensures.bytes))

pub returns-in-Err : goal.returns-in-Err
returns-in-Err c = sym
    (identifier-none c.args.word.now (λ u h. let e = c.in-Err.ensures.ok.1 (u, h) in cc))
