-- How the standing of a stream grows with its bytes.
use Rattle.std.proofs.Common.{◌≡◌, ℕ, zero, suc, ◌+◌, ◌<◌, ◌≤◌, ◌⊎◌, inl, inr, List, [], ◌++◌}
use Rattle.std.proofs.Common.{length, take, drop, Option, None, refl, sym, ap, ◌∙◌, arith}
use Rattle.std.proofs.Common.{length-append, length-drop}
use Rattle.std.proofs.lemmas.List.{drop-append-le, drop_all, length-take-le}
use Rattle.unit_streams.specs.Front.{Front, begun, whole, wrong, on_whole, IsOpen}
use Rattle.unit_streams.specs.Grammar.{Grammar, Standing, next_unit, behind_unit, peeled, peel}
use Rattle.unit_streams.specs.Grammar.{at_start, standing, with_more, resumed, IsReadable}
use Rattle.unit_streams.proofs.Peeling.{extent, Decides, Leaves}
use Rattle.unit_streams.proofs.Fronts.{whole_some, begun_open, wrong_open}

module _ {Z U E R : Type 0} (g : Grammar Z U E R) where
  -- a unit that isn't whole is left
  unpeeled : (v : Front U R) (next : U → ℕ → Standing Z E R) (s : Standing Z E R) → IsOpen v
      → on_whole v next s ≡ s
  unpeeled begun next s o = refl
  unpeeled (whole u n) next s o = absurd o
  unpeeled (wrong r n) next s o = refl

  peeled_open : (n : ℕ) (s : Standing Z E R) → IsOpen (next_unit g s) → peeled g n s ≡ s
  unfolding peeled
  peeled_open zero s o = refl
  peeled_open (suc n) s o = unpeeled (next_unit g s) (λ u k. peeled g n (behind_unit g s u k)) s o

  -- a whole one is peeled off
  peeled_whole : (n : ℕ) (s : Standing Z E R) (u : U) (k : ℕ) → next_unit g s ≡ whole u k
      → peeled g (suc n) s ≡ peeled g n (behind_unit g s u k)
  unfolding peeled
  peeled_whole n s u k e = rw e

module _ {Z U E R : Type 0} (g : Grammar Z U E R) (readable : IsReadable g) where
  -- the unit at the front isn't whole, or it has some of the bytes
  pub unit_cases : (s : Standing Z E R) → IsOpen (next_unit g s)
      ⊎ ((u : U) × (k : ℕ) × (next_unit g s ≡ whole u k) × (0 < k) × (k ≤ length s.begun))
  unit_cases s = go (next_unit g s) refl
    where
      go : (v : Front U R) → next_unit g s ≡ v → IsOpen v
          ⊎ ((u : U) × (k : ℕ) × (v ≡ whole u k) × (0 < k) × (k ≤ length s.begun))
      go begun e = inl tt
      go (whole u k) e =
          let w = whole_some (g.unit_at s.situation s.from) (readable.reads s.situation s.from)
          (readable.nothing s.situation s.from) s.begun u k e in
          inr (u, k, refl, w.0, w.1)
      go (wrong r k) e = inl tt

  -- no unit is whole where there are no bytes
  small_open : (s : Standing Z E R) → length s.begun ≤ 0 → IsOpen (next_unit g s)
  small_open s h = elim (unit_cases s) [ inl o ↦ o | inr p ↦ absurd (omega (arith, p.3, p.4)) ]

  -- as many units as bytes are enough
  fuel : (m n : ℕ) (s : Standing Z E R) → length s.begun ≤ m → length s.begun ≤ n → peeled g m s
      ≡ peeled g n s
  fuel zero n s hm hn = let o = small_open s hm in peeled_open g 0 s o ∙ sym (peeled_open g n s o)
  fuel (suc m) zero s hm hn = let o = small_open s hn in peeled_open g (suc m) s o ∙ sym
      (peeled_open g 0 s o)
  fuel (suc m) (suc n) s hm hn =
      elim (unit_cases s) [
        | inl o ↦ peeled_open g (suc m) s o ∙ sym (peeled_open g (suc n) s o)
        | inr p ↦
            peeled_whole g m s p.0 p.1 p.2
            ∙ fuel m n (behind_unit g s p.0 p.1) (simp length-drop (omega (arith, p.3)))
            (simp length-drop (omega (arith, p.3)))
            ∙ sym (peeled_whole g n s p.0 p.1 p.2)
      ]

  -- a unit that isn't whole stays
  pub peel_open : (s : Standing Z E R) → IsOpen (next_unit g s) → peel g s ≡ s
  unfolding peel
  peel_open s o = peeled_open g (length s.begun) s o

  -- a whole unit is peeled off
  pub peel_whole : (s : Standing Z E R) (u : U) (k : ℕ) → next_unit g s ≡ whole u k → peel g s
      ≡ peel g (behind_unit g s u k)
  unfolding peel
  peel_whole s u k e =
      fuel (length s.begun) (suc (length s.begun)) s (omega arith) (omega arith)
      ∙ peeled_whole g (length s.begun) s u k e
      ∙ fuel (length s.begun) (length (drop k s.begun)) (behind_unit g s u k)
      (simp length-drop (omega arith)) (omega arith)

  -- what holds where nothing more is peeled, and before a unit where it holds behind it, holds of
  -- each peeling
  peel_by_length : (P : Standing Z E R → Standing Z E R → Type 0)
      → ((s : Standing Z E R) → IsOpen (next_unit g s) → P s s)
      → ((s : Standing Z E R) (u : U) (k : ℕ) (t : Standing Z E R) → next_unit g s ≡ whole u k → 0
      < k → k ≤ length s.begun → P (behind_unit g s u k) t → P s t)
      → (n : ℕ) (s : Standing Z E R) → length s.begun ≤ n → P s (peel g s)
  peel_by_length P stop more zero s h = let o = small_open s h in rw (peel_open s o) (stop s o)
  peel_by_length P stop more (suc n) s h =
      elim (unit_cases s) [
        | inl o ↦ rw (peel_open s o) (stop s o)
        | inr p ↦
            rw (peel_whole s p.0 p.1 p.2)
            (more s p.0 p.1 (peel g (behind_unit g s p.0 p.1)) p.2 p.3 p.4
            (peel_by_length P stop more n (behind_unit g s p.0 p.1)
            (simp length-drop (omega (arith, p.3)))))
      ]

  pub peel_by : (P : Standing Z E R → Standing Z E R → Type 0)
      → ((s : Standing Z E R) → IsOpen (next_unit g s) → P s s)
      → ((s : Standing Z E R) (u : U) (k : ℕ) (t : Standing Z E R) → next_unit g s ≡ whole u k → 0
      < k → k ≤ length s.begun → P (behind_unit g s u k) t → P s t)
      → (s : Standing Z E R) → P s (peel g s)
  peel_by P stop more s = peel_by_length P stop more (length s.begun) s (omega arith)

  -- the unit that is begun isn't whole
  pub peel_is_open : (s : Standing Z E R) → IsOpen (next_unit g (peel g s))
  peel_is_open = peel_by (λ s t. IsOpen (next_unit g t)) (λ s o. o) (λ s u k t e some within h. h)

  -- the whole units and the one that is begun are all the bytes
  pub peel_length : (s : Standing Z E R) → (peel g s).from + length (peel g s).begun ≡ s.from
      + length s.begun
  peel_length = peel_by (λ s t. t.from + length t.begun ≡ s.from + length s.begun) (λ s o. refl)
      (λ s u k t e some within h. h ∙ simp length-drop (omega arith))

  -- bytes behind go to the unit that is begun
  pub peel_append : (c : List ℕ) (s : Standing Z E R) → peel g (with_more s c)
      ≡ resumed g (peel g s) c
  unfolding resumed
  peel_append c =
      peel_by (λ s t. peel g (with_more s c) ≡ peel g (with_more t c)) (λ s o. refl)
      (λ s u k t e some within h.
      let grown : next_unit g (with_more s c)
      ≡ whole u k = (readable.reads s.situation s.from).whole_stays s.begun c u k e in
      peel_whole (with_more s c) u k grown ∙
      ap (λ b. peel g (record (behind_unit g s u k) { begun = b }))
      (drop-append-le k s.begun c within) ∙ h)

  -- no bytes
  pub standing_nothing : standing g [] ≡ at_start g []
  unfolding standing
  standing_nothing = peel_open (at_start g []) (begun_open _ (readable.nothing g.start 0))

  -- the standing of more bytes from that of some
  pub standing_append : (p c : List ℕ) → standing g (p ++ c) ≡ resumed g (standing g p) c
  unfolding standing
  standing_append p c = peel_append c (at_start g p)

  -- the whole units and the one that is begun are all the bytes
  pub standing_length : (p : List ℕ) → (standing g p).from + length (standing g p).begun ≡ length p
  unfolding standing
  standing_length p = peel_length (at_start g p) ∙ omega arith

  -- the unit that is begun isn't whole
  pub standing_open : (p : List ℕ) → IsOpen (next_unit g (standing g p))
  unfolding standing
  standing_open p = peel_is_open (at_start g p)

  -- what holds of the first situation, and of each behind a unit where it holds before, holds of
  -- every situation
  pub standing_keeps : (P : Z → ℕ → Type 0) → P g.start 0
      → ((z : Z) (from : ℕ) (b : List ℕ) (u : U) (k : ℕ) → g.unit_at z from b ≡ whole u k → 0 < k
      → P z from → P (g.after z from u) (from + k))
      → (p : List ℕ) → P (standing g p).situation (standing g p).from
  unfolding standing
  standing_keeps P first more p =
      peel_by (λ s t. P s.situation s.from → P t.situation t.from) (λ s o h. h)
      (λ s u k t e some within rest h. rest (more s.situation s.from s.begun u k e some h))
      (at_start g p) first

  -- what holds before the first unit, and behind each where it holds before, holds of what the last
  -- one left and gave
  pub standing_last : (P : Z → ℕ → Option E → Option R → Type 0) → P g.start 0 None None
      → ((z : Z) (from : ℕ) (event : Option E) (refusal : Option R) (b : List ℕ) (u : U) (k : ℕ)
      → g.unit_at z from b ≡ whole u k → 0 < k → P z from event refusal
      → P (g.after z from u) (from + k) (g.completed z from (from + k) u) (g.refused z from u))
      → (p : List ℕ) → P (standing g p).situation (standing g p).from (standing g p).event
      (standing g p).refusal
  unfolding standing
  standing_last P first behind p =
      peel_by (λ s t. P s.situation s.from s.event s.refusal → P t.situation t.from t.event
      t.refusal) (λ s o h. h)
      (λ s u k t e some within rest h. rest (behind s.situation s.from s.event s.refusal s.begun u k
      e some h)) (at_start g p) first

  -- a unit that has all the bytes
  pub peel_all : (s : Standing Z E R) (u : U) (k : ℕ) → next_unit g s ≡ whole u k → k
      ≡ length s.begun → peel g s ≡ record (behind_unit g s u k) { begun = [] }
  peel_all s u k e h =
      let none : drop k s.begun ≡ [] = drop_all k s.begun (omega arith) in
      peel_whole s u k e ∙ ap (λ b. peel g (record (behind_unit g s u k) { begun = b })) none
      ∙ peel_open (record (behind_unit g s u k) { begun = [] })
      (small_open (record (behind_unit g s u k) { begun = [] }) (omega arith))

  -- where c leaves the unit begun
  module _ (s : Standing Z E R) (c : List ℕ) where
    pub leaves_at : Leaves (g.unit_at s.situation s.from) s.begun c → (j : ℕ)
        → resumed g s (take j c) ≡ with_more s (take j c)
    unfolding resumed
    leaves_at l j = peel_open (with_more s (take j c)) (begun_open _ (l.along j))

    pub leaves_all : Leaves (g.unit_at s.situation s.from) s.begun c → resumed g s c ≡ with_more s c
    unfolding resumed
    leaves_all l = peel_open (with_more s c) (begun_open _ l.at_end)

    module _ (n : ℕ) (d : Decides (g.unit_at s.situation s.from) s.begun c n) where
      -- before c decides it
      pub undecided_at : (j : ℕ) → j < n → resumed g s (take j c) ≡ with_more s (take j c)
      unfolding resumed
      undecided_at j lt = peel_open (with_more s (take j c)) (begun_open _ (d.before j lt))

      -- where c makes it whole
      pub whole_at : (u : U) (k : ℕ) → g.unit_at s.situation s.from (s.begun ++ c) ≡ whole u k
          → (k ≡ length s.begun + n)
          × (resumed g s (take n c) ≡ record (behind_unit g s u k) { begun = [] })
      unfolding resumed
      whole_at u k e =
          let size : k ≡ length s.begun + n = sym (ap extent e) ∙ d.extent_is in
          let all : k ≡ length (s.begun ++ take n c) = size ∙ ap (λ j. length s.begun + j)
          (sym (length-take-le n c d.within)) ∙ sym (length-append s.begun (take n c)) in
          (size, peel_all (with_more s (take n c)) u k (d.decided ∙ e) all)

      -- where c shows it to be wrong
      pub wrong_at : (r : R) (k : ℕ) → g.unit_at s.situation s.from (s.begun ++ c) ≡ wrong r k
          → (g.unit_at s.situation s.from (s.begun ++ take n c) ≡ wrong r k)
          × (resumed g s (take n c) ≡ with_more s (take n c))
      unfolding resumed
      wrong_at r k e = (
        d.decided ∙ e,
        peel_open (with_more s (take n c))
            (wrong_open _ r k (d.decided ∙ e)),
      )
