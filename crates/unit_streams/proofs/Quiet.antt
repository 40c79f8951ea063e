-- Bytes that decide nothing, in two parts, and before more.
use Rattle.std.proofs.Common.{◌≡◌, ℕ, ◌+◌, ◌-◌, ◌<◌, ◌≤◌, List, ◌++◌, length, take, drop, None, sym}
use Rattle.std.proofs.Common.{ap, ◌∙◌, inl, inr, append_assoc, arith, length-append, length-drop}
use Rattle.std.proofs.{Math.Seq.take-add, lemmas.Bool.cases_lt, lemmas.List.take-append-le}
use Rattle.unit_streams.specs.{Going.IsQuiet, Going.IsQuietBefore, Grammar.Grammar}
use Rattle.unit_streams.specs.Judging.{event_at, refusal_at}

module _ {Z U E R : Type 0} (g : Grammar Z U E R) (p y : List ℕ) (k m : ℕ) (first : IsQuiet g p y k)
  where
    -- more bytes behind the first part
    joined : (i : ℕ) → (p ++ take k y) ++ take i (drop k y) ≡ p ++ take (k + i) y
    joined i = append_assoc p (take k y) (take i (drop k y)) ∙ ap (λ c. p ++ c) (sym (take-add k i y))

    behind : (i : ℕ) → k ≤ i → p ++ take i y ≡ (p ++ take k y) ++ take (i - k) (drop k y)
    behind i le = let sum : i ≡ k + (i - k) = omega arith in ap (λ n. p ++ take n y) sum ∙ sym
        (joined (i - k))

    all_within : m ≤ length (drop k y) → k + m ≤ length y
    all_within le = let size = length-drop k y in let w = first.within in omega (arith, size, le, w)

    unrefused : ((i : ℕ) → i < m → refusal_at g ((p ++ take k y) ++ take i (drop k y)) ≡ None)
        → (i : ℕ) → i < k + m → refusal_at g (p ++ take i y) ≡ None
    unrefused rest i lt =
        elim (cases_lt i k) [
          | inl less ↦ first.unrefused i less
          | inr le ↦ ap (refusal_at g) (behind i le) ∙ rest (i - k) (omega arith)
        ]

    pub quiet_joined : IsQuiet g (p ++ take k y) (drop k y) m → IsQuiet g p y (k + m)
    quiet_joined rest = record {
      within = all_within rest.within;
      unrefused = unrefused
          rest.unrefused;
      eventless = eventless;
    } where
      eventless : (i : ℕ) → 0 < i → i ≤ k + m → event_at g (p ++ take i y) ≡ None
      eventless i some le =
          elim (cases_lt k i) [
            | inl more ↦ ap (event_at g) (behind i (omega arith)) ∙ rest.eventless (i - k)
                (omega arith) (omega arith)
            | inr few ↦ first.eventless i some few
          ]

    pub quiet_before_joined : IsQuietBefore g (p ++ take k y) (drop k y) m → IsQuietBefore g p y
        (k + m)
    quiet_before_joined rest = record {
      within = all_within rest.within;
      unrefused = unrefused
          rest.unrefused;
      eventless = eventless;
    } where
      eventless : (i : ℕ) → 0 < i → i < k + m → event_at g (p ++ take i y) ≡ None
      eventless i some lt =
          elim (cases_lt k i) [
            | inl more ↦ ap (event_at g) (behind i (omega arith)) ∙ rest.eventless (i - k)
                (omega arith) (omega arith)
            | inr few ↦ first.eventless i some few
          ]

-- what is quiet is so before more bytes
module _ {Z U E R : Type 0} (g : Grammar Z U E R) (p y more : List ℕ) (k : ℕ) where
  same_front : (i : ℕ) → i ≤ k → k ≤ length y → p ++ take i (y ++ more) ≡ p ++ take i y
  same_front i le within = ap (λ c. p ++ c) (take-append-le i y more (omega arith))

  pub quiet_before_behind : IsQuietBefore g p y k → IsQuietBefore g p (y ++ more) k
  quiet_before_behind q = record {
    within = (let w = q.within in let n = length-append y more in omega (arith, w, n));
    unrefused = λ i lt. ap (refusal_at g) (same_front i (omega (arith, lt)) q.within) ∙ q.unrefused
        i lt;
    eventless = λ i some lt. ap (event_at g) (same_front i (omega (arith, lt)) q.within) ∙
        q.eventless i some lt;
  }

  pub quiet_behind : IsQuiet g p y k → IsQuiet g p (y ++ more) k
  quiet_behind q = record {
    within = (let w = q.within in let n = length-append y more in omega (arith, w, n));
    unrefused = λ i lt. ap (refusal_at g) (same_front i (omega (arith, lt)) q.within) ∙ q.unrefused
        i lt;
    eventless = λ i some le. ap (event_at g) (same_front i le q.within) ∙ q.eventless i some le;
  }
