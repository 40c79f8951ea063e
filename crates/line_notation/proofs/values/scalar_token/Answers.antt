use Rattle.std.proofs.Common.{◌≡◌, Some, arith}
use Rattle.line_notation.{specs.Scalars.scalar_kind_in, proofs.ValuesFacts.plain_at-judged}
use Rattle.line_notation.proofs.values.scalar_token.Goals as goal

pub returns : goal.returns
returns c =
    let kind : scalar_kind_in c.args.word.now ≡ Some c.in_ok-kind.kind = grind arith in
    rw (plain_at-judged c.args.word.now c.in_ok-kind.kind c.args.words.now kind)
    c.kind_token.ensures
