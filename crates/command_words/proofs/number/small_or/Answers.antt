use Rattle.std.proofs.Common.{◌^◌, ◌<◌, arith}
use Rattle.command_words.{specs.Values.text_behind, proofs.NumberFacts.small-none}
use Rattle.command_words.proofs.number.small_or.Goals as goal

pub returns-clause-none : goal.returns-clause-none
returns-clause-none c =
    let fits : c.in_ok-number_or.field-0 < 2 ^ 64 = omega arith in
    rw c.ok.ensures.value
    (small-none (text_behind c.args.value) c.args.usual c.in_ok-number_or.field-0 c.try_from.result
    c.try_from.ensures fits c.in_ok-number_or.ensures.written)
