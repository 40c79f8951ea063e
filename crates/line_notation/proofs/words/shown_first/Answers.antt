use Rattle.std.proofs.Common.{◌≡◌, arith, get_or}
use Rattle.line_notation.proofs.PlainFacts.{cuts-first, cuts-last}
use Rattle.line_notation.proofs.words.shown_first.Goals as goal

pub returns-in-34-closing : goal.returns-in-34-closing
returns-in-34-closing c =
    let first : get_or c.args.line.now 0 0 ≡ 34 = grind arith in
    let last : get_or c.split_at.result.1.now 0 0 ≡ 34 = grind arith in
    cuts-last c.args.line.now c.split_at.result.0.now c.split_at.result.1.now c.plain_count.result
    (record {
      some = c.in-34.len_at_least;
      quote = first;
      count = c.plain_count.ensures;
      front = c.split_at.ensures.front;
      back = c.split_at.ensures.back;
    }) c.in-34-closing.len_at_least c.in-34-closing.len_below last

pub returns-in-34-2 : goal.returns-in-34-2
returns-in-34-2 c =
    let first : get_or c.args.line.now 0 0 ≡ 34 = grind arith in
    let last : get_or c.split_at.result.1.now 0 0 ≡ 34 = grind arith in
    let space : get_or c.split_at.result.1.now 1 0 ≡ 32 = grind arith in
    cuts-first c.args.line.now c.split_at.result.0.now c.split_at.result.1.now c.plain_count.result
    (record {
      some = c.in-34.len_at_least;
      quote = first;
      count = c.plain_count.ensures;
      front = c.split_at.ensures.front;
      back = c.split_at.ensures.back;
    }) c.in-34-2.len_at_least last space
