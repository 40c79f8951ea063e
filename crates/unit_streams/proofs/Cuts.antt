-- Where pieces are cut changes nothing.
use Rattle.std.proofs.Common.{◌≡◌, ℕ, suc, ◌+◌, ◌≤◌, List, [], ◌∷◌, ◌++◌, length, take, Some, None}
use Rattle.std.proofs.Common.{Option, refl, ap, ◌∙◌, arith, length-append}
use Rattle.std.proofs.Math.Seq.{drop-append_seam, take-append_seam}
use Rattle.std.proofs.lemmas.List.{take-append-le}
use Rattle.unit_streams.specs.{Going.IsQuiet, Going.IsQuietBefore, Going.Means, Grammar.Grammar}
use Rattle.unit_streams.specs.Judging.{Answer, answer, answer_from, completes, event_at, goes_on}
use Rattle.unit_streams.specs.Judging.{offends, refusal_at, unless_completed, unless_offended}
use Rattle.unit_streams.specs.Laws.{CutsChangeNothing, raised, unless_decided}
use Rattle.unit_streams.proofs.Answers.{answer_skips, answers_are_first}

-- bytes counted with more before them
raised_offended : {E R : Type 0} (k n : ℕ) (v : Option R) (a b : Answer E R) → a ≡ raised k b
    → unless_offended (k + n) v a ≡ raised k (unless_offended n v b)
raised_offended k n (Some r) a b e = refl
raised_offended k n None a b e = e

raised_completed : {E R : Type 0} (k n : ℕ) (v : Option E) (a b : Answer E R) → a ≡ raised k b
    → unless_completed (suc (k + n)) v a ≡ raised k (unless_completed (suc n) v b)
raised_completed k n (Some v) a b e = let same : suc (k + n) ≡ k + suc n = omega arith in
    ap (λ m. completes m v) same
raised_completed k n None a b e = e

module _ {Z U E R : Type 0} (g : Grammar Z U E R) where
  raised_from : (y p : List ℕ) (k n : ℕ) → answer_from g p (k + n) y
      ≡ raised k (answer_from g p n y)
  unfolding answer_from
  raised_from [] p k n = raised_offended k n (refusal_at g p) goes_on goes_on refl
  raised_from (b ∷ y) p k n =
      let same : suc (k + n) ≡ k + suc n = omega arith in
      raised_offended k n (refusal_at g p) _ _
      (raised_completed k n (event_at g (p ++ b ∷ [])) _ _
      (ap (λ m. answer_from g (p ++ b ∷ []) m y) same ∙ raised_from y (p ++ b ∷ []) k (suc n)))

  module _ (p y z : List ℕ) where
    at : (i k : ℕ) → i ≤ k → k ≤ length y → p ++ take i (y ++ z) ≡ p ++ take i y
    at i k le within = ap (λ c. p ++ c) (take-append-le i y z (omega arith))

    -- what is said of a piece holds of it where more follows
    quiet_longer : (k : ℕ) → IsQuiet g p y k → IsQuiet g p (y ++ z) k
    quiet_longer k q = record {
      within = omega (arith, length-append y z, q.within);
      unrefused = λ i lt. ap (refusal_at g) (at i k (omega arith) q.within) ∙ q.unrefused i lt;
      eventless = λ i some le. ap (event_at g) (at i k le q.within) ∙ q.eventless i some le;
    }

    quiet_before_longer : (k : ℕ) → IsQuietBefore g p y k → IsQuietBefore g p (y ++ z) k
    quiet_before_longer k q = record {
      within = omega (arith, length-append y z, q.within);
      unrefused = λ i lt. ap (refusal_at g) (at i k (omega arith) q.within) ∙ q.unrefused i lt;
      eventless = λ i some lt. ap (event_at g) (at i k (omega arith) q.within) ∙ q.eventless i some
          lt;
    }

    -- two pieces as one
    cut : (a : Answer E R) → Means g p y a → answer g p (y ++ z) ≡ unless_decided a
        (raised (length y) (answer g (p ++ y) z))
    unfolding answer
    cut goes_on m =
        let q = quiet_longer (length y) m.0 in
        let front : p ++ take (length y) (y ++ z) ≡ p ++ y = ap (λ c. p ++ c) (take-append_seam y z)
        in
        let count : 0 + length y ≡ length y + 0 = omega arith in
        answer_skips g (length y) p 0 (y ++ z) q
        ∙ ap (λ c. answer_from g (p ++ take (length y) (y ++ z)) (0 + length y) c)
        (drop-append_seam y z)
        ∙ ap (λ c. answer_from g c (0 + length y) z) front
        ∙ ap (λ n. answer_from g (p ++ y) n z) count
        ∙ raised_from z (p ++ y) (length y) 0
    cut (completes k e) m = (answers_are_first g p (y ++ z) (completes k e)).1
        (quiet_before_longer k m.0, m.1, ap (event_at g) (at k k (omega arith) m.0.within) ∙ m.2)
    cut (offends k r) m = (answers_are_first g p (y ++ z) (offends k r)).1
        (quiet_longer k m.0, ap (refusal_at g) (at k k (omega arith) m.0.within) ∙ m.1)

  -- of each grammar
  pub cuts_change_nothing : CutsChangeNothing g
  cuts_change_nothing p y z = cut p y z (answer g p y)
      ((answers_are_first g p y (answer g p y)).0 refl)
