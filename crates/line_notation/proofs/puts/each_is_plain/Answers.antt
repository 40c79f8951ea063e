use Rattle.std.proofs.{Common.sym, lemmas.List.Folds.list_all_more}
use Rattle.line_notation.specs.Quoted.{is_plain}
use Rattle.line_notation.proofs.puts.each_is_plain.Goals as goal

pub loop-byte-preserved : goal.loop-byte-preserved
loop-byte-preserved c =
    let more = list_all_more is_plain c.args.bytes.now c.loop-byte.byte-index 0
    c.loop-byte-test.true in
    rw (c.loop-byte.invariant, c.is_plain-plain.ensures) (sym more)
