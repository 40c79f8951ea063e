use Rattle.std.proofs.Common.{◌≡◌, ℕ, List, [], ◌∷◌, ◌++◌, codes, decimal, length, ap, ◌∙◌, append_assoc}
use Rattle.std.proofs.{Common.append-nil, lemmas.Result.err_from_is_err_and}
use Rattle.io_edges.proofs.Putting.{Puts-cut, Puts-then}
use Rattle.{session_report.specs.Report.line, client.specs.Tags.letters, client.specs.Tags.tags_word}
use Rattle.client.proofs.tags.put_sent.Goals as goal

-- the line, by what is put of it
parts : (number word : List ℕ) → line (codes "sent") (number ∷ codes "tags" ∷ word ∷ [])
    ≡ (codes "sent " ++ number) ++ (codes " tags " ++ (word ++ 10 ∷ []))
parts number word =
    ap (λ l. codes "sent " ++ l) (append_assoc number _ (10 ∷ [])
    ∙ ap (λ l. number ++ (codes " tags " ++ (l ++ 10 ∷ []))) (append-nil word))

pub returns-in_err-put_labelled : goal.returns-in_err-put_labelled
returns-in_err-put_labelled g c =
    let t = c.args.tags.now in
    let r = err_from_is_err_and c.from_residual.result c.from_residual.ensures.1 in
    rw (r.1, r.2, parts (decimal (length t)) (tags_word (letters t)))
    (Puts-cut _ c.in_err-put_labelled.ensures)

pub returns-in_err-put_plain : goal.returns-in_err-put_plain
returns-in_err-put_plain g c =
    let t = c.args.tags.now in
    let r = err_from_is_err_and c.from_residual-in_err-put_plain.result
    c.from_residual-in_err-put_plain.ensures.1 in
    rw (r.1, r.2, parts (decimal (length t)) (tags_word (letters t)))
    (Puts-then _ c.in_ok-put_labelled.ensures (Puts-cut _ c.in_err-put_plain.ensures))

pub returns-in_err-put_tags : goal.returns-in_err-put_tags
returns-in_err-put_tags g c =
    let t = c.args.tags.now in
    let r = err_from_is_err_and c.from_residual-in_err-put_tags.result
    c.from_residual-in_err-put_tags.ensures.1 in
    rw (r.1, r.2, parts (decimal (length t)) (tags_word (letters t)))
    (Puts-then _ c.in_ok-put_labelled.ensures (Puts-then _ c.in_ok-put_plain.ensures
    (Puts-cut _ c.in_err-put_tags.ensures)))

pub returns : goal.returns
returns g c =
    let t = c.args.tags.now in
    rw (parts (decimal (length t)) (tags_word (letters t)))
    (Puts-then _ c.in_ok-put_labelled.ensures (Puts-then _ c.in_ok-put_plain.ensures
    (Puts-then _ c.in_ok-put_tags.ensures c.put_plain-2.ensures)))
