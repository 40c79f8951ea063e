-- Bytes are cut at their line feeds, also where they came in pieces.
use Rattle.std.proofs.Common.{◌≡◌, ℕ, Bool, true, false, List, [], ◌∷◌, ◌++◌, ◌==◌, sym, refl, ap}
use Rattle.std.proofs.Common.{◌∙◌, append_assoc, append-nil}
use Rattle.std.proofs.lemmas.List.Folds.{list_all-append}
use Rattle.line_notation.specs.Lines.{cut, cut_before, has_no_feed}

abbrev Cut : Type 0
Cut = List (List ℕ) × List ℕ

-- lines before what is cut
abbrev pub behind_lines : List (List ℕ) → Cut → Cut
behind_lines lines c = (lines ++ c.0, c.1)

feed_cut : (b : ℕ) (bytes : List ℕ) → (b == 10) ≡ true
    → cut (b ∷ bytes) ≡ ([] ∷ (cut bytes).0, (cut bytes).1)
feed_cut b bytes is = rw is refl

other_cut : (b : ℕ) (bytes : List ℕ) → (b == 10) ≡ false
    → cut (b ∷ bytes) ≡ cut_before b (cut bytes)
other_cut b bytes is = rw is refl

-- what comes behind bytes is cut behind what they leave
before_more : (b : ℕ) (c : List ℕ) (m : Cut) → (b == 10) ≡ false
    → cut_before b (behind_lines m.0 (cut (m.1 ++ c)))
    ≡ behind_lines (cut_before b m).0 (cut ((cut_before b m).1 ++ c))
before_more b c ([], rest) is = sym (other_cut b (rest ++ c) is)
before_more b c (line ∷ lines, rest) is = refl

pub cut_append : (p c : List ℕ) → cut (p ++ c) ≡ behind_lines (cut p).0 (cut ((cut p).1 ++ c))
cut_append [] c = refl
cut_append (b ∷ p) c = by_feed (cut_append p c) (b == 10) refl where
  by_feed : cut (p ++ c) ≡ behind_lines (cut p).0 (cut ((cut p).1 ++ c)) → (v : Bool)
      → (b == 10) ≡ v
      → cut (b ∷ (p ++ c)) ≡ behind_lines (cut (b ∷ p)).0 (cut ((cut (b ∷ p)).1 ++ c))
  by_feed more true is =
      feed_cut b (p ++ c) is ∙ ap (λ (m : Cut). ([] ∷ m.0, m.1)) more
      ∙ ap (λ (m : Cut). behind_lines m.0 (cut (m.1 ++ c))) (sym (feed_cut b p is))
  by_feed more false is =
      other_cut b (p ++ c) is ∙ ap (cut_before b) more ∙ before_more b c (cut p) is
      ∙ ap (λ (m : Cut). behind_lines m.0 (cut (m.1 ++ c))) (sym (other_cut b p is))

-- bytes without a line feed are left
pub free_cut : (a : List ℕ) → has_no_feed a ≡ true → cut a ≡ ([], a)
free_cut [] free = refl
free_cut (b ∷ a) free = by_feed (free_cut a) (b == 10) refl free where
  by_feed : (has_no_feed a ≡ true → cut a ≡ ([], a)) → (v : Bool) → (b == 10) ≡ v
      → has_no_feed (b ∷ a) ≡ true → cut (b ∷ a) ≡ ([], b ∷ a)
  by_feed more true is free = absurd (let h = rw is at free in cc)
  by_feed more false is free = other_cut b a is ∙ ap (cut_before b) (more (rw is at free))

-- and with one behind them they are a line
pub line_cut : (a : List ℕ) → has_no_feed a ≡ true → cut (a ++ 10 ∷ []) ≡ (a ∷ [], [])
line_cut [] free = refl
line_cut (b ∷ a) free = by_feed (line_cut a) (b == 10) refl free where
  by_feed : (has_no_feed a ≡ true → cut (a ++ 10 ∷ []) ≡ (a ∷ [], [])) → (v : Bool)
      → (b == 10) ≡ v → has_no_feed (b ∷ a) ≡ true
      → cut (b ∷ (a ++ 10 ∷ [])) ≡ ((b ∷ a) ∷ [], [])
  by_feed more true is free = absurd (let h = rw is at free in cc)
  by_feed more false is free =
      other_cut b (a ++ 10 ∷ []) is ∙ ap (cut_before b) (more (rw is at free))

-- what is left has no line feed
before_free : (b : ℕ) (m : Cut) → (b == 10) ≡ false → has_no_feed m.1 ≡ true
    → has_no_feed (cut_before b m).1 ≡ true
before_free b ([], rest) is free = rw is free
before_free b (line ∷ lines, rest) is free = free

pub rest_free : (p : List ℕ) → has_no_feed (cut p).1 ≡ true
rest_free [] = refl
rest_free (b ∷ p) = by_feed (rest_free p) (b == 10) refl where
  by_feed : has_no_feed (cut p).1 ≡ true → (v : Bool) → (b == 10) ≡ v
      → has_no_feed (cut (b ∷ p)).1 ≡ true
  by_feed more true is = ap (λ (m : Cut). has_no_feed m.1) (feed_cut b p is) ∙ more
  by_feed more false is =
      ap (λ (m : Cut). has_no_feed m.1) (other_cut b p is) ∙ before_free b (cut p) is more

module _ (p a : List ℕ) (free : has_no_feed a ≡ true) where
  joined_free : has_no_feed ((cut p).1 ++ a) ≡ true
  joined_free = list_all-append _ (cut p).1 a ∙ rw (rest_free p, free) refl

  -- bytes behind others, without a line feed
  pub begun_behind : cut (p ++ a) ≡ ((cut p).0, (cut p).1 ++ a)
  begun_behind =
      cut_append p a ∙ ap (behind_lines (cut p).0) (free_cut ((cut p).1 ++ a) joined_free)
      ∙ ap (λ (l : List (List ℕ)). (l, (cut p).1 ++ a)) (append-nil (cut p).0)

  -- and with one
  pub line_behind : cut (p ++ a ++ 10 ∷ []) ≡ ((cut p).0 ++ ((cut p).1 ++ a) ∷ [], [])
  line_behind =
      ap cut (append_assoc p a (10 ∷ [])) ∙ cut_append p (a ++ 10 ∷ [])
      ∙ ap (λ (l : List ℕ). behind_lines (cut p).0 (cut l))
      (sym (append_assoc (cut p).1 a (10 ∷ [])))
      ∙ ap (behind_lines (cut p).0) (line_cut ((cut p).1 ++ a) joined_free)
