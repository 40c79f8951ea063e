use Rattle.std.proofs.Common.{◌≡◌, ℕ, true, List, subst}
use Rattle.std.specs.Str.{is_utf8}
use Rattle.line_notation.specs.Quoted.{IsQuoted}
use Rattle.line_notation.proofs.ArgumentFacts.{bad-text, good-text, quoted-by, unquoted}
use Rattle.line_notation.proofs.arguments.unquote.Goals as goal

pub returns-in-Ok-judged_text : goal.returns-in-Ok-judged_text
returns-in-Ok-judged_text c =
    let read = c.in-Ok.bytes.items in
    let is = quoted-by c.args.text.now c.in-Some.pieces.now read c.in-Some.ensures c.in-Ok.ensures in
    let good = good-text read c.in-Ok-judged_text.text c.in-Ok-judged_text.ensures in
    subst (λ (t : List ℕ). IsQuoted t c.args.text.now × (is_utf8 t ≡ true)) good.0 (is, good.1)

pub returns-in-Err : goal.returns-in-Err
returns-in-Err c =
    let read = c.in-Ok.bytes.items in (
      read,
      quoted-by c.args.text.now c.in-Some.pieces.now read c.in-Some.ensures c.in-Ok.ensures,
      bad-text read c.in-Err.field-0 c.in-Err.ensures,
    )

pub returns-in-Err-NotALine : goal.returns-in-Err-NotALine
returns-in-Err-NotALine c = unquoted c.args.text.now c.in-Some.pieces.now c.in-Some.ensures
    (rw c.in-Err-NotALine.field-0-is at c.in-Err-NotALine.ensures)
