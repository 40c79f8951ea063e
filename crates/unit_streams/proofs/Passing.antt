-- What the bytes of one unit decide behind a prefix that goes on.
use Rattle.std.proofs.Common.{◌≡◌, ℕ, zero, suc, ◌+◌, ◌<◌, ◌≤◌, ◌⊎◌, List, [], ◌∷◌, ◌++◌, length}
use Rattle.std.proofs.Common.{take, Some, None, Option, sym, refl, ap, ◌∙◌, subst, inl, inr}
use Rattle.std.proofs.Common.{append-nil, arith, length-append, length-take-le}
use Rattle.std.{proofs.Math.Nat.eq-or-lt_of_le, specs.Option.option_or}
use Rattle.unit_streams.specs.Front.{begun, Front, IsOpen, whole, wrong, wrong_of}
use Rattle.unit_streams.specs.Going.{IsGoing, IsQuiet, IsQuietBefore}
use Rattle.unit_streams.specs.Grammar.{behind_unit, Grammar, IsReadable, next_unit, resumed}
use Rattle.unit_streams.specs.Grammar.{Standing, standing, with_more}
use Rattle.unit_streams.specs.Judging.{event_at, event_of, given_at, refusal_at, refusal_of}
use Rattle.unit_streams.proofs.Peeling.{Decides, Leaves}
use Rattle.unit_streams.proofs.Standing.{leaves_all, leaves_at, standing_append, standing_open}
use Rattle.unit_streams.proofs.Standing.{undecided_at, whole_at, wrong_at}

-- behind some bytes the last unit gave nothing
pub given_none : {A : Type 0} (b : List ℕ) (given : Option A) → 0 < length b → given_at b given
    ≡ None
given_none [] given h = absurd (omega arith)
given_none (x ∷ b) given h = refl

-- what it gave is given where nothing is begun behind it
pub given_some : {A : Type 0} (b : List ℕ) (given : Option A) (a : A) → given_at b given ≡ Some a
    → (b ≡ []) × (given ≡ Some a)
given_some [] given a e = (refl, e)
given_some (x ∷ b) given a e = cc

module _ {Z U E R : Type 0} (g : Grammar Z U E R) where
  -- an event and a refusal are those of where the prefix stands
  pub event_from : (p : List ℕ) (s : Standing Z E R) → standing g p ≡ s → event_at g p
      ≡ event_of g s
  unfolding event_at
  event_from p s e = ap (event_of g) e

  pub refusal_from : (p : List ℕ) (s : Standing Z E R) → standing g p ≡ s → refusal_at g p
      ≡ refusal_of g s (length p)
  unfolding refusal_at
  refusal_from p s e = ap (λ t. refusal_of g t (length p)) e

  -- only its length refuses what goes on
  pub going_refusal : (s : Standing Z E R) (n : ℕ) → IsGoing g s → refusal_of g s n
      ≡ g.at_length s.situation s.from n
  going_refusal s n h = rw (h.last, h.next) refl

  -- what isn't refused goes on
  pub unrefused_going : (s : Standing Z E R) (n : ℕ) → (next_unit g s ≡ begun)
      ⊎ ((r : R) × (k : ℕ) × (next_unit g s ≡ wrong r k)) → refusal_of g s n ≡ None → IsGoing g s
  unrefused_going s n cases e = by_last (given_at s.begun s.refusal) refl e cases
    where
      by_last : (v : Option R) → given_at s.begun s.refusal ≡ v
          → option_or v (option_or (wrong_of (next_unit g s)) (g.at_length s.situation s.from n))
          ≡ None
          → (next_unit g s ≡ begun) ⊎ ((r : R) × (k : ℕ) × (next_unit g s ≡ wrong r k))
          → IsGoing g s
      by_last (Some r) l none cases = cc
      by_last None l none (inl b) = record { next = b; last = l }
      by_last None l none (inr (r, k, w)) = let more : option_or (Some r)
          (g.at_length s.situation s.from n) ≡ None = rw w at none in cc

module _ {Z U E R : Type 0} (g : Grammar Z U E R) (readable : IsReadable g) (p : List ℕ) where
  -- where p stands
  abbrev here : Standing Z E R
  here = standing g p

  abbrev front : List ℕ → Front U R
  front = g.unit_at (standing g p).situation (standing g p).from

  -- the unit that is begun behind p has begun or is wrong
  pub open_cases : (next_unit g here ≡ begun) ⊎ ((r : R) × (k : ℕ) × (next_unit g here ≡ wrong r k))
  open_cases = go (next_unit g here) refl
    where
      go : (v : Front U R) → next_unit g here ≡ v → (v ≡ begun)
          ⊎ ((r : R) × (k : ℕ) × (v ≡ wrong r k))
      go begun e = inl refl
      go (whole u k) e = absurd (subst IsOpen e (standing_open g readable p))
      go (wrong r k) e = inr (r, k, refl)

  -- a prefix that isn't refused goes on
  pub going_at : refusal_at g p ≡ None → IsGoing g here
  going_at e = unrefused_going g here (length p) open_cases (sym (refusal_from g p here refl) ∙ e)

  module _ (c : List ℕ) where
    -- the length of p with some bytes behind
    longer : (i : ℕ) → i ≤ length c → length (p ++ take i c) ≡ length p + i
    longer i le = length-append p (take i c) ∙ ap (λ n. length p + n) (length-take-le i c le)

    -- some bytes behind p that leave its unit begun
    module _ (i : ℕ) (within : i ≤ length c) (at : resumed g here (take i c)
        ≡ with_more here (take i c)) where
      begun_at : standing g (p ++ take i c) ≡ with_more here (take i c)
      begun_at = standing_append g readable p (take i c) ∙ at

      begun_length : 0 < i → 0 < length (here.begun ++ take i c)
      begun_length some = let n = length-append here.begun (take i c) in let m = length-take-le i c
          within in omega (arith, n, m)

      -- complete no event
      pub begun_event : 0 < i → event_at g (p ++ take i c) ≡ None
      begun_event some = event_from g (p ++ take i c) (with_more here (take i c)) begun_at ∙
          given_none (here.begun ++ take i c) here.event (begun_length some)

      -- and are refused by their length alone
      pub begun_refusal : 0 < i → front (here.begun ++ take i c) ≡ begun
          → refusal_at g (p ++ take i c) ≡ g.at_length here.situation here.from (length p + i)
      begun_refusal some e =
          refusal_from g (p ++ take i c) (with_more here (take i c)) begun_at
          ∙ going_refusal g (with_more here (take i c)) (length (p ++ take i c))
          (record {
            next = e;
            last = given_none (here.begun ++ take i c) here.refusal
                (begun_length some);
          })
          ∙ ap (g.at_length here.situation here.from) (longer i within)

    -- before any byte
    no_refusal_first : IsGoing g here → g.at_length here.situation here.from (length p) ≡ None
        → refusal_at g (p ++ take 0 c) ≡ None
    no_refusal_first going short = ap (refusal_at g) (append-nil p) ∙ refusal_from g p here refl ∙
        going_refusal g here (length p) going ∙ short

    module _ (going : IsGoing g here) where
      -- all bytes leave the unit begun
      module _ (l : Leaves front here.begun c) (short : (i : ℕ) → i < length c
          → g.at_length here.situation here.from (length p + i) ≡ None) where
        pub leaves_quiet : IsQuiet g p c (length c)
        leaves_quiet = record {
          within = omega arith;
          unrefused = unrefused;
          eventless = λ i some le. begun_event i le (leaves_at g readable here c l i) some;
        } where
          unrefused : (i : ℕ) → i < length c → refusal_at g (p ++ take i c) ≡ None
          unrefused zero lt = no_refusal_first going
              (ap (g.at_length here.situation here.from) (omega arith) ∙ short 0 lt)
          unrefused (suc i) lt = begun_refusal (suc i) (omega arith)
              (leaves_at g readable here c l (suc i)) (omega arith) (l.along (suc i)) ∙ short
              (suc i) lt

        pub leaves_standing : standing g (p ++ c) ≡ with_more here c
        leaves_standing = standing_append g readable p c ∙ leaves_all g readable here c l

      -- the first n bytes decide the unit
      module _ (n : ℕ) (d : Decides front here.begun c n)
          (short : (i : ℕ) → i < n → g.at_length here.situation here.from (length p + i) ≡ None)
        where
          undecided_unrefused : (i : ℕ) → i < n → refusal_at g (p ++ take i c) ≡ None
          undecided_unrefused zero lt = no_refusal_first going
              (ap (g.at_length here.situation here.from) (omega arith) ∙ short 0 lt)
          undecided_unrefused (suc i) lt =
              begun_refusal (suc i) (let w = d.within in omega arith)
              (undecided_at g readable here c n d (suc i) lt) (omega arith) (d.before (suc i) lt) ∙
              short (suc i) lt

          undecided_eventless : (i : ℕ) → 0 < i → i < n → event_at g (p ++ take i c) ≡ None
          undecided_eventless i some lt = begun_event i (let w = d.within in omega arith)
              (undecided_at g readable here c n d i lt) some

          pub decides_quiet : IsQuietBefore g p c n
          decides_quiet = record {
            within = d.within;
            unrefused = undecided_unrefused;
            eventless =
                undecided_eventless;
          }

          -- and make it whole
          module _ (u : U) (k : ℕ) (e : front (here.begun ++ c) ≡ whole u k) where
            abbrev closed : Standing Z E R
            closed = record (behind_unit g here u k) { begun = [] }

            pub whole_size : k ≡ length here.begun + n
            whole_size = (whole_at g readable here c n d u k e).0

            pub whole_standing : standing g (p ++ take n c) ≡ closed
            whole_standing = standing_append g readable p (take n c) ∙
                (whole_at g readable here c n d u k e).1

            pub whole_event : event_at g (p ++ take n c) ≡ g.completed here.situation here.from
                (here.from + k) u
            whole_event = event_from g (p ++ take n c) closed whole_standing

            pub whole_refusal : refusal_at g (p ++ take n c)
                ≡ option_or (g.refused here.situation here.from u)
                (g.at_length (g.after here.situation here.from u) (here.from + k) (length p + n))
            whole_refusal =
                refusal_from g (p ++ take n c) closed whole_standing
                ∙ ap (λ v. option_or (g.refused here.situation here.from u)
                (option_or (wrong_of v)
                (g.at_length closed.situation closed.from (length (p ++ take n c)))))
                (readable.nothing closed.situation closed.from)
                ∙ ap (λ m. option_or (g.refused here.situation here.from u)
                (g.at_length closed.situation closed.from m)) (longer n d.within)

            -- unless that completes an event, nothing is decided
            pub whole_quiet : g.completed here.situation here.from (here.from + k) u ≡ None
                → IsQuiet g p c n
            whole_quiet none = record {
              within = d.within;
              unrefused = undecided_unrefused;
              eventless = λ i some le.
                  elim (eq-or-lt_of_le le) [
                    | inl same ↦ rw same (whole_event ∙ none)
                    | inr lt ↦ undecided_eventless i some lt
                  ];
            }

          -- and show it to be wrong
          module _ (r : R) (k : ℕ) (e : front (here.begun ++ c) ≡ wrong r k) where
            pub wrong_standing : standing g (p ++ take n c) ≡ with_more here (take n c)
            wrong_standing = standing_append g readable p (take n c) ∙
                (wrong_at g readable here c n d r k e).1

            pub wrong_quiet : IsQuiet g p c n
            wrong_quiet = record {
              within = d.within;
              unrefused = undecided_unrefused;
              eventless = λ i some le.
                  elim (eq-or-lt_of_le le) [
                    | inl same ↦ rw same
                        (begun_event n d.within (wrong_at g readable here c n d r k e).1 d.some)
                    | inr lt ↦ undecided_eventless i some lt
                  ];
            }

            pub wrong_refusal : refusal_at g (p ++ take n c) ≡ Some r
            wrong_refusal =
                let n_length = begun_length n d.within (wrong_at g readable here c n d r k e).1 d.some
                in
                let w = (wrong_at g readable here c n d r k e).0 in
                refusal_from g (p ++ take n c) (with_more here (take n c)) wrong_standing
                ∙ rw (given_none (here.begun ++ take n c) here.refusal n_length, w) refl
