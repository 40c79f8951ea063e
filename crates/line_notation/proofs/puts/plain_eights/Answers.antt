use Rattle.std.proofs.Common.{◌≡◌, ◌+◌, ◌-◌, true, take, drop, sym, ◌∙◌, arith}
use Rattle.std.specs.List.{list_all}
use Rattle.line_notation.{specs.Quoted.is_plain, proofs.QuotedFacts.more-plain}
use Rattle.line_notation.proofs.puts.plain_eights.Goals as goal

pub loop-count-preserved : goal.loop-count-preserved
loop-count-preserved c =
    let count = c.loop-count.count in
    let width : count + 8 - count ≡ 8 = omega arith in
    let next : list_all is_plain (take 8 (drop count c.args.bytes.now)) ≡ true = rw width at
    (sym c.each_is_plain.ensures ∙ c.if-not-each_is_plain.false) in
    record {
      within = omega (arith, c.loop-count-test.true, c.loop-count.invariant.within);
      plain = more-plain count 8 c.args.bytes.now c.loop-count.invariant.plain next;
    }
