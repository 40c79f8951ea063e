use Rattle.std.proofs.{Common.◌∙◌, lemmas.Result.err_from_is_err_and}
use Rattle.io_edges.proofs.Putting.{Puts-cut, Puts-then}
use Rattle.line_notation.{specs.Forms.keyword_word, proofs.PrintFacts.two_quoted}
use Rattle.line_notation.proofs.printing.put_names.Goals as goal

pub returns-in_err-put_bytes : goal.returns-in_err-put_bytes
returns-in_err-put_bytes g c =
    let p = err_from_is_err_and c.from_residual.result c.from_residual.ensures.1 in
    rw (p.1, p.2, two_quoted (keyword_word c.args.keyword) c.args.first.now c.args.second.now)
    (Puts-cut _ (rw (c.as_bytes.ensures.value ∙ c.word.ensures) at c.in_err-put_bytes.ensures))

pub returns-in_err-put_bytes-2 : goal.returns-in_err-put_bytes-2
returns-in_err-put_bytes-2 g c =
    let p = err_from_is_err_and c.from_residual-in_err-put_bytes-2.result
    c.from_residual-in_err-put_bytes-2.ensures.1 in
    rw (p.1, p.2, two_quoted (keyword_word c.args.keyword) c.args.first.now c.args.second.now)
    (Puts-then _ (rw (c.as_bytes.ensures.value ∙ c.word.ensures) at c.in_ok-put_bytes.ensures)
    (Puts-cut _ c.in_err-put_bytes-2.ensures))

pub returns-in_err-put_within_quotes : goal.returns-in_err-put_within_quotes
returns-in_err-put_within_quotes g c =
    let p = err_from_is_err_and c.from_residual-in_err-put_within_quotes.result
    c.from_residual-in_err-put_within_quotes.ensures.1 in
    rw (p.1, p.2, two_quoted (keyword_word c.args.keyword) c.args.first.now c.args.second.now)
    (Puts-then _ (rw (c.as_bytes.ensures.value ∙ c.word.ensures) at c.in_ok-put_bytes.ensures)
    (Puts-then _ c.in_ok-put_bytes-2.ensures
    (Puts-cut _ (rw c.as_str.ensures.same at c.in_err-put_within_quotes.ensures))))

pub returns-in_err-put_bytes-3 : goal.returns-in_err-put_bytes-3
returns-in_err-put_bytes-3 g c =
    let p = err_from_is_err_and c.from_residual-in_err-put_bytes-3.result
    c.from_residual-in_err-put_bytes-3.ensures.1 in
    rw (p.1, p.2, two_quoted (keyword_word c.args.keyword) c.args.first.now c.args.second.now)
    (Puts-then _ (rw (c.as_bytes.ensures.value ∙ c.word.ensures) at c.in_ok-put_bytes.ensures)
    (Puts-then _ c.in_ok-put_bytes-2.ensures
    (Puts-then _ (rw c.as_str.ensures.same at c.in_ok-put_within_quotes.ensures)
    (Puts-cut _ c.in_err-put_bytes-3.ensures))))

pub returns-in_err-put_within_quotes-2 : goal.returns-in_err-put_within_quotes-2
returns-in_err-put_within_quotes-2 g c =
    let p = err_from_is_err_and c.from_residual-in_err-put_within_quotes-2.result
    c.from_residual-in_err-put_within_quotes-2.ensures.1 in
    rw (p.1, p.2, two_quoted (keyword_word c.args.keyword) c.args.first.now c.args.second.now)
    (Puts-then _ (rw (c.as_bytes.ensures.value ∙ c.word.ensures) at c.in_ok-put_bytes.ensures)
    (Puts-then _ c.in_ok-put_bytes-2.ensures
    (Puts-then _ (rw c.as_str.ensures.same at c.in_ok-put_within_quotes.ensures)
    (Puts-then _ c.in_ok-put_bytes-3.ensures
    (Puts-cut _ (rw c.as_str-2.ensures.same at c.in_err-put_within_quotes-2.ensures))))))

pub returns : goal.returns
returns g c =
    rw (two_quoted (keyword_word c.args.keyword) c.args.first.now c.args.second.now)
    (Puts-then _ (rw (c.as_bytes.ensures.value ∙ c.word.ensures) at c.in_ok-put_bytes.ensures)
    (Puts-then _ c.in_ok-put_bytes-2.ensures
    (Puts-then _ (rw c.as_str.ensures.same at c.in_ok-put_within_quotes.ensures)
    (Puts-then _ c.in_ok-put_bytes-3.ensures
    (Puts-then _ (rw c.as_str-2.ensures.same at c.in_ok-put_within_quotes-2.ensures)
    c.put_bytes-4.ensures)))))
