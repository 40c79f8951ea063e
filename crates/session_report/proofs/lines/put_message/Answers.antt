use Rattle.std.proofs.Common.{◌≡◌, ℕ, List, [], ◌∷◌, ◌++◌, codes, decimal, ap, ◌∙◌, append_assoc}
use Rattle.std.proofs.lemmas.{Grind.flat_map-append, Result.err_from_is_err_and}
use Rattle.io_edges.proofs.Putting.{Puts-cut, Puts-then}
use Rattle.line_notation.specs.Words.{behind_spaces}
use Rattle.session_report.specs.Report.{line, measure_words, string_words}
use Rattle.session_report.proofs.lines.put_message.Goals as goal

-- the line, by what is put of it
parts : (number size : List ℕ) (measures strings : List (List ℕ))
    → line (codes "message") (number ∷ codes "payload" ∷ size ∷ measures ++ strings)
    ≡ (codes "message " ++ number) ++ ((codes " payload " ++ size) ++ (behind_spaces measures ++
    (behind_spaces strings ++ (10 ∷ []))))
parts number size measures strings =
    let m = behind_spaces measures in
    let s = behind_spaces strings in
    let whole : behind_spaces (measures ++ strings) ++ (10 ∷ []) ≡ m ++ (s ++ (10 ∷ [])) =
    ap (λ l. l ++ (10 ∷ [])) (flat_map-append (λ word. 32 ∷ word) measures strings)
    ∙ append_assoc m s (10 ∷ []) in
    ap (λ l. codes "message " ++ l) (append_assoc number _ (10 ∷ []))
    ∙ ap (λ l. codes "message " ++ (number ++ (codes " payload " ++ l))) (append_assoc size
    (behind_spaces (measures ++ strings)) (10 ∷ []) ∙ ap (λ l. size ++ l) whole)

pub returns-in_err-put_labelled : goal.returns-in_err-put_labelled
returns-in_err-put_labelled g c =
    let e = c.args.received.now in
    let r = err_from_is_err_and c.from_residual.result c.from_residual.ensures.1 in
    rw (
      r.1,
      r.2,
      parts (decimal e.number) (decimal e.size) (measure_words e.doc e.content)
          (string_words e.strings e.used),
    )
    (Puts-cut _ c.in_err-put_labelled.ensures)

pub returns-in_err-put_labelled-2 : goal.returns-in_err-put_labelled-2
returns-in_err-put_labelled-2 g c =
    let e = c.args.received.now in
    let r = err_from_is_err_and c.from_residual-in_err-put_labelled-2.result
    c.from_residual-in_err-put_labelled-2.ensures.1 in
    rw (
      r.1,
      r.2,
      parts (decimal e.number) (decimal e.size) (measure_words e.doc e.content)
          (string_words e.strings e.used),
    )
    (Puts-then _ c.in_ok-put_labelled.ensures (Puts-cut _
    (rw c.from.ensures at c.in_err-put_labelled-2.ensures)))

pub returns-in_err-put_measures : goal.returns-in_err-put_measures
returns-in_err-put_measures g c =
    let e = c.args.received.now in
    let r = err_from_is_err_and c.from_residual-in_err-put_measures.result
    c.from_residual-in_err-put_measures.ensures.1 in
    rw (
      r.1,
      r.2,
      parts (decimal e.number) (decimal e.size) (measure_words e.doc e.content)
          (string_words e.strings e.used),
    )
    (Puts-then _ c.in_ok-put_labelled.ensures (Puts-then _
    (rw c.from.ensures at c.in_ok-put_labelled-2.ensures)
    (Puts-cut _ c.in_err-put_measures.ensures)))

pub returns-in_err-put_strings : goal.returns-in_err-put_strings
returns-in_err-put_strings g c =
    let e = c.args.received.now in
    let r = err_from_is_err_and c.from_residual-in_err-put_strings.result
    c.from_residual-in_err-put_strings.ensures.1 in
    rw (
      r.1,
      r.2,
      parts (decimal e.number) (decimal e.size) (measure_words e.doc e.content)
          (string_words e.strings e.used),
    )
    (Puts-then _ c.in_ok-put_labelled.ensures (Puts-then _
    (rw c.from.ensures at c.in_ok-put_labelled-2.ensures)
    (Puts-then _ c.in_ok-put_measures.ensures (Puts-cut _ c.in_err-put_strings.ensures))))

pub returns : goal.returns
returns g c =
    let e = c.args.received.now in
    rw (parts (decimal e.number) (decimal e.size) (measure_words e.doc e.content)
    (string_words e.strings e.used))
    (Puts-then _ c.in_ok-put_labelled.ensures (Puts-then _
    (rw c.from.ensures at c.in_ok-put_labelled-2.ensures)
    (Puts-then _ c.in_ok-put_measures.ensures
    (Puts-then _ c.in_ok-put_strings.ensures c.put_plain.ensures))))
