use Rattle.std.proofs.Common.{◌≡◌, ℕ, ◌<◌, ◌≤◌, List, ◌∷◌, length, get_or, slice_get, slice_range}
use Rattle.std.proofs.Common.{Some, IsUtf8, sym, ap, ◌∙◌, arith}
use Rattle.session_dictionary.specs.Pieces.{AreTexts, pieces}
use Rattle.session_dictionary.proofs.PieceFacts.{piece_at, piece_known, piece_past}
use Rattle.session_dictionary.proofs.texts.Texts.get.Goals as goal

pub returns-in_err-end : goal.returns-in_err-end
returns-in_err-end c =
    let t = c.self.inside in
    let past : length t.ends.items ≤ c.args.place =
    omega (arith, c.in_err-end.ensures.lookup.3, ap length c.deref.ensures.value) in
    rw (c.from_residual.ensures, ← c.self.view_is)
    (sym (piece_past 0 t.ends.items t.bytes.items c.args.place past))

module _ (bytes ends got starts all : List ℕ) (place start end : ℕ) (are : AreTexts ends bytes)
    (got_is : got ≡ ends) (starts_is : starts ≡ ends) (all_is : all ≡ bytes)
    (h : place < length got) (end_is : end ≡ get_or got place 0)
    (start_is : start ≡ get_or (0 ∷ starts) place 0) where
  there : place < length ends
  there = omega (arith, h, ap length got_is)

  ends_at : end ≡ get_or ends place 0
  ends_at = end_is ∙ ap (λ xs. get_or xs place 0) got_is

  starts_at : start ≡ get_or (0 ∷ ends) place 0
  starts_at = start_is ∙ ap (λ xs. get_or (0 ∷ xs) place 0) starts_is

  rises : start ≤ end
  rises = omega (arith, starts_at, ends_at, (piece_known 0 ends bytes place are there).rises)

  within : end ≤ length all
  within =
      omega (arith, ends_at, ap length all_is, (piece_known 0 ends bytes place are there).within)

  utf8 : IsUtf8 (slice_range all start end)
  utf8 = rw (all_is, starts_at, ends_at) (piece_known 0 ends bytes place are there).utf8

  text_is : Some (slice_range all start end) ≡ slice_get (pieces 0 ends bytes) place
  text_is = rw (all_is, starts_at, ends_at) (sym (piece_at 0 ends bytes place there))

pub part_of-requires-clause-rises : goal.part_of-requires-clause-rises
part_of-requires-clause-rises c =
    let t = c.self.inside in
    let found = c.in_ok-end.ensures.lookup.3 in
    rises t.bytes.items t.ends.items c.deref.result.now c.deref-2.result.now c.deref-3.result.now
    c.args.place c.start_at-start.result c.in_ok-end.field-0.now c.self.invariant
    c.deref.ensures.value c.deref-2.ensures.value c.deref-3.ensures.value found.0 (found.1 0)
    c.start_at-start.ensures

pub part_of-requires-clause-within : goal.part_of-requires-clause-within
part_of-requires-clause-within c =
    let t = c.self.inside in
    let found = c.in_ok-end.ensures.lookup.3 in
    within t.bytes.items t.ends.items c.deref.result.now c.deref-2.result.now c.deref-3.result.now
    c.args.place c.start_at-start.result c.in_ok-end.field-0.now c.self.invariant
    c.deref.ensures.value c.deref-2.ensures.value c.deref-3.ensures.value found.0 (found.1 0)
    c.start_at-start.ensures

pub part_of-requires-clause-utf8 : goal.part_of-requires-clause-utf8
part_of-requires-clause-utf8 c =
    let t = c.self.inside in
    let found = c.in_ok-end.ensures.lookup.3 in
    utf8 t.bytes.items t.ends.items c.deref.result.now c.deref-2.result.now c.deref-3.result.now
    c.args.place c.start_at-start.result c.in_ok-end.field-0.now c.self.invariant
    c.deref.ensures.value c.deref-2.ensures.value c.deref-3.ensures.value found.0 (found.1 0)
    c.start_at-start.ensures

pub returns : goal.returns
returns c =
    let t = c.self.inside in
    let found = c.in_ok-end.ensures.lookup.3 in
    let text =
    text_is t.bytes.items t.ends.items c.deref.result.now c.deref-2.result.now c.deref-3.result.now
    c.args.place c.start_at-start.result c.in_ok-end.field-0.now c.self.invariant
    c.deref.ensures.value c.deref-2.ensures.value c.deref-3.ensures.value found.0 (found.1 0)
    c.start_at-start.ensures in
    rw (← c.self.view_is) (ap Some c.part_of.ensures ∙ text)
