-- The lines of connections, one more behind others.
use Rattle.std.proofs.Common.{◌≡◌, ℕ, suc, ◌+◌, ◌<◌, List, [], ◌∷◌, ◌++◌, length, take, drop}
use Rattle.std.proofs.Common.{get_or, sym}
use Rattle.std.proofs.Common.{refl, ap, ◌∙◌, append_assoc, append-nil, arith, length-take-le}
use Rattle.std.proofs.Common.{take-append-drop}
use Rattle.std.proofs.lemmas.List.{take_more}
use Rattle.session_pool.specs.{declared.turns.Turns.Turns, PoolLines.counts_line}
use Rattle.session_pool.specs.PoolLines.{answers_of, end_word, messages_of, pool_line, pool_lines}
use Rattle.std.specs.Prelude.{codes}

none_more : (n : ℕ) → n ≡ n + 0
none_more n = omega arith

next_more : (n size : ℕ) → (n + 1) + size ≡ n + suc size
next_more n size = omega arith

pub lines_append : (n : ℕ) (a b : List Turns)
    → pool_lines n (a ++ b) ≡ pool_lines n a ++ pool_lines (n + length a) b
unfolding pool_lines
lines_append n [] b = ap (λ (m : ℕ). pool_lines m b) (none_more n)
lines_append n (turns ∷ a) b =
    ap (λ l. pool_line n turns ++ l) (lines_append (n + 1) a b
    ∙ ap (λ (m : ℕ). pool_lines (n + 1) a ++ pool_lines m b) (next_more n (length a)))
    ∙ sym (append_assoc (pool_line n turns) (pool_lines (n + 1) a)
    (pool_lines (n + suc (length a)) b))

lines_one : (n : ℕ) (turns : Turns) → pool_lines n (turns ∷ []) ≡ pool_line n turns
unfolding pool_lines
lines_one n turns = append-nil (pool_line n turns)

module _ (all : List Turns) (i : ℕ) (none : Turns) (lt : i < length all) where
  pub lines_more : pool_lines 0 (take (i + 1) all)
      ≡ pool_lines 0 (take i all) ++ pool_line i (get_or all i none)
  lines_more = ap (pool_lines 0) (take_more all i none lt)
      ∙ lines_append 0 (take i all) (get_or all i none ∷ [])
      ∙ ap (λ l. pool_lines 0 (take i all) ++ l)
      (ap (λ (n : ℕ). pool_lines n (get_or all i none ∷ [])) number
      ∙ lines_one i (get_or all i none)) where
        number : 0 + length (take i all) ≡ i
        number = let size = length-take-le i all (omega (arith, lt)) in omega (arith, size)

  -- and what follows them
  pub lines_split : pool_lines 0 all
      ≡ (pool_lines 0 (take i all) ++ pool_line i (get_or all i none))
      ++ pool_lines (0 + length (take (i + 1) all)) (drop (i + 1) all)
  lines_split = ap (pool_lines 0) (sym (take-append-drop (i + 1) all))
      ∙ lines_append 0 (take (i + 1) all) (drop (i + 1) all)
      ∙ ap (λ l. l ++ pool_lines (0 + length (take (i + 1) all)) (drop (i + 1) all)) lines_more

pub line_is : (number : ℕ) (turns : Turns) → pool_line number turns
    ≡ counts_line number (length turns.outcomes) (messages_of turns.outcomes)
    (answers_of turns.outcomes) ++ (end_word turns turns.end ++ codes "\n")
unfolding pool_line
line_is number turns = refl
