use Rattle.{std.proofs.lemmas.Result.err_from_is_err_and, line_notation.specs.Puts.spaced_word}
use Rattle.line_notation.proofs.PutsFacts.{HavePut-one, HavePut-one_cut}
use Rattle.line_notation.proofs.puts.put_spaced_words.Goals as goal

pub returns-in_err-put_spaced_word : goal.returns-in_err-put_spaced_word
returns-in_err-put_spaced_word g c =
    let p = err_from_is_err_and c.from_residual.result c.from_residual.ensures.1 in
    rw (p.1, p.2) (HavePut-one_cut spaced_word c.loop-word.word-index _ c.loop-word-test.true
    c.loop-word.invariant c.in_err-put_spaced_word.ensures)

pub loop-word-preserved : goal.loop-word-preserved
loop-word-preserved g c = HavePut-one spaced_word c.loop-word.word-index _ c.loop-word-test.true
    c.loop-word.invariant c.in_ok-put_spaced_word.ensures
