use Rattle.std.proofs.Common.{◌+◌, length, take_while, ap, ◌∙◌}
use Rattle.line_notation.{specs.Quoted.is_plain, proofs.QuotedFacts.plain-behind}
use Rattle.line_notation.proofs.puts.plain_count.Goals as goal

pub returns : goal.returns
returns c =
    let eights = c.plain_eights-eights.result in
    ap (λ n. eights + n) (c.plain_ones-2.ensures ∙ ap (λ rest. length (take_while is_plain rest))
    c.split_at.ensures.back)
    ∙ plain-behind eights c.args.bytes.now c.plain_eights-eights.ensures.within
    c.plain_eights-eights.ensures.plain
