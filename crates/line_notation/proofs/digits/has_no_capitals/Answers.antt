use Rattle.std.proofs.{Common.sym, lemmas.List.Folds.list_all_more}
use Rattle.line_notation.specs.Parts.{is_no_capital}
use Rattle.line_notation.proofs.digits.has_no_capitals.Goals as goal

pub loop-byte-preserved : goal.loop-byte-preserved
loop-byte-preserved c =
    let more = list_all_more is_no_capital c.args.word.now c.loop-byte.byte-index 0
    c.loop-byte-test.true in
    rw (c.loop-byte.invariant, c.is_no_capital-none.ensures) (sym more)
