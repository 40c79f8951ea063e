-- What refuses a prefix: its last whole unit, the bytes behind its whole units, or its length.
use Rattle.std.proofs.Common.{◌≡◌, ℕ, ◌<◌, ◌≤◌, ◌⊎◌, List, [], ◌∷◌, ◌++◌, length, take, drop, Some}
use Rattle.std.proofs.Common.{None, Option, sym, refl, ap, ◌∙◌, subst, inl, inr, append_assoc}
use Rattle.std.proofs.Common.{append-nil, arith, take-append-drop, length-take-le}
use Rattle.std.specs.Option.{option_or}
use Rattle.unit_streams.specs.Front.{begun, Front, whole, wrong, wrong_of}
use Rattle.unit_streams.specs.Grammar.{at_start, behind_unit, Grammar, IsReadable, next_unit}
use Rattle.unit_streams.specs.Grammar.{resumed, Standing, standing, with_more}
use Rattle.unit_streams.specs.Judging.{given_at, refusal_at}
use Rattle.unit_streams.specs.Refusals.{AreUnits, IsRefusedByBytes, IsRefusedByLength}
use Rattle.unit_streams.specs.Refusals.{IsRefusedByUnit, RefusalsAreThree}
use Rattle.unit_streams.proofs.{Fronts.wrong_open, Passing.refusal_from, Standing.standing_nothing}
use Rattle.unit_streams.proofs.Passing.{given_none, given_some, going_refusal, open_cases}
use Rattle.unit_streams.proofs.Standing.{peel_all, peel_by, peel_open, standing_append}

module _ {Z U E R : Type 0} (g : Grammar Z U E R) (readable : IsReadable g) where
  -- a standing with nothing begun
  abbrev closed : Standing Z E R → Standing Z E R
  closed s = record s { begun = [] }

  -- behind bytes that are whole units
  pub units_standing : (p : List ℕ) → AreUnits g p → standing g p ≡ closed (standing g p)
  units_standing p e = ap (λ b. record (standing g p) { begun = b }) e

  resumed_by : (p bytes : List ℕ) → AreUnits g p → standing g (p ++ bytes)
      ≡ resumed g (closed (standing g p)) bytes
  resumed_by p bytes e = standing_append g readable p bytes ∙ ap (λ s. resumed g s bytes)
      (units_standing p e)

  -- one more
  pub unit_standing : (p bytes : List ℕ) (u : U) → AreUnits g p → g.unit_at (standing g p).situation
      (standing g p).from bytes ≡ whole u (length bytes)
      → standing g (p ++ bytes) ≡ closed (behind_unit g (standing g p) u (length bytes))
  unfolding resumed
  unit_standing p bytes u e reads = resumed_by p bytes e ∙ peel_all g readable
      (with_more (closed (standing g p)) bytes) u (length bytes) reads refl

  -- bytes that are no unit
  wrong_standing : (p bytes : List ℕ) (r : R) (k : ℕ) → AreUnits g p
      → g.unit_at (standing g p).situation (standing g p).from bytes ≡ wrong r k
      → standing g (p ++ bytes) ≡ with_more (closed (standing g p)) bytes
  unfolding resumed
  wrong_standing p bytes r k e reads = resumed_by p bytes e ∙ peel_open g readable
      (with_more (closed (standing g p)) bytes) (wrong_open _ r k reads)

  -- a unit at the front of what is begun
  front_standing : (q : List ℕ) (s : Standing Z E R) (u : U) (k : ℕ) → standing g q ≡ closed s
      → next_unit g s ≡ whole u k → k ≤ length s.begun
      → standing g (q ++ take k s.begun) ≡ closed (behind_unit g s u k)
  unfolding resumed
  front_standing q s u k at e within =
      standing_append g readable q (take k s.begun) ∙ ap (λ t. resumed g t (take k s.begun)) at
      ∙ peel_all g readable (with_more (closed s) (take k s.begun)) u k
      ((readable.reads s.situation s.from).whole_alone s.begun u k e)
      (sym (length-take-le k s.begun within))

  joined_again : (q b : List ℕ) (k : ℕ) → (q ++ take k b) ++ drop k b ≡ q ++ b
  joined_again q b k = append_assoc q (take k b) (drop k b) ∙ ap (λ c. q ++ c)
      (take-append-drop k b)

  -- the whole units before what a prefix has begun
  record UnitsBefore (bytes : List ℕ) (t : Standing Z E R) : Type 0 where
    before : List ℕ
    joined : bytes ≡ before ++ t.begun
    stands : standing g before ≡ closed t

  -- all but their last, and that
  record LastUnit (bytes : List ℕ) (t : Standing Z E R) : Type 0 where
    before : List ℕ
    last : List ℕ
    unit : U
    joined : bytes ≡ before ++ (last ++ t.begun)
    units : AreUnits g before
    reads : g.unit_at (standing g before).situation (standing g before).from last
        ≡ whole unit (length last)
    refusal : t.refusal ≡ g.refused (standing g before).situation (standing g before).from unit

  -- no unit was peeled off
  record IsUnpeeled (s t : Standing Z E R) : Type 0 where
    refusal : t.refusal ≡ s.refusal
    begun : t.begun ≡ s.begun

  Peeled : Standing Z E R → Standing Z E R → Type 0
  Peeled s t = (q : List ℕ) → standing g q ≡ closed s → UnitsBefore (q ++ s.begun) t
      × (IsUnpeeled s t ⊎ LastUnit (q ++ s.begun) t)

  peeled_one : (s : Standing Z E R) (u : U) (k : ℕ) (t : Standing Z E R) → next_unit g s ≡ whole u k
      → k ≤ length s.begun → (q : List ℕ) → standing g q ≡ closed s
      → IsUnpeeled (behind_unit g s u k) t
      → LastUnit (q ++ s.begun) t
  peeled_one s u k t e within q at h = record {
    before = q;
    last = take k s.begun;
    unit = u;
    joined = ap (λ c. q ++ c) (sym (take-append-drop k s.begun) ∙ ap (λ c. take k s.begun ++ c)
        (sym h.begun));
    units = ap (λ (w : Standing Z E R). w.begun) at;
    reads = ap (λ (w : Standing Z E R). g.unit_at w.situation w.from (take k s.begun)) at ∙
        (readable.reads s.situation s.from).whole_alone s.begun u k e ∙ ap (whole u)
        (sym (length-take-le k s.begun within));
    refusal = h.refusal ∙ ap (λ (w : Standing Z E R). g.refused w.situation w.from u) (sym at);
  }

  peeled_more : (s : Standing Z E R) (u : U) (k : ℕ) (t : Standing Z E R) → next_unit g s
      ≡ whole u k → 0 < k → k ≤ length s.begun → Peeled (behind_unit g s u k) t → Peeled s t
  unfolding Peeled
  peeled_more s u k t e some within rest q at =
      let h = rest (q ++ take k s.begun) (front_standing q s u k at e within) in
      let all : (q ++ take k s.begun) ++ drop k s.begun ≡ q ++ s.begun = joined_again q s.begun k in (
        subst (λ c. UnitsBefore c t) all h.0,
        elim h.1 [
          | inl none ↦ inr (peeled_one s u k t e within q at none)
          | inr last ↦ inr (subst (λ c. LastUnit c t) all last)
        ],
      )

  standing_parts : (p : List ℕ) → UnitsBefore p (standing g p)
      × (IsUnpeeled (at_start g p) (standing g p) ⊎ LastUnit p (standing g p))
  unfolding standing Peeled
  standing_parts p =
      peel_by g readable Peeled
      (λ s o q at. (
        record { before = q; joined = refl; stands = at },
        inl
            (record { refusal = refl; begun = refl }),
      )) peeled_more (at_start g p) []
      (standing_nothing g readable)

  -- a unit that is wrong has a byte
  some_wrong : (z : Z) (from : ℕ) (bytes : List ℕ) (r : R) (k : ℕ) → g.unit_at z from bytes
      ≡ wrong r k → 0 < length bytes
  some_wrong z from [] r k e = let none = readable.nothing z from in cc
  some_wrong z from (b ∷ bytes) r k e = omega arith

  module _ (p : List ℕ) (r : R) where
    -- each way refuses
    by_unit : IsRefusedByUnit g p r → refusal_at g p ≡ Some r
    by_unit h =
        let stands = ap (standing g) h.joined ∙ unit_standing h.before h.bytes h.unit h.units
        h.reads in
        refusal_from g p (closed (behind_unit g (standing g h.before) h.unit (length h.bytes)))
        stands ∙ rw h.refused refl

    by_bytes : IsRefusedByBytes g p r → refusal_at g p ≡ Some r
    by_bytes h =
        let stands = ap (standing g) h.joined ∙ wrong_standing h.before h.bytes r h.size h.units
        h.reads in
        let none = given_none h.bytes (standing g h.before).refusal
        (some_wrong _ _ h.bytes r h.size h.reads) in
        refusal_from g p (with_more (closed (standing g h.before)) h.bytes) stands ∙
        rw (none, h.reads) refl

    by_length : IsRefusedByLength g p r → refusal_at g p ≡ Some r
    by_length h = refusal_from g p (standing g p) refl ∙ going_refusal g (standing g p) (length p)
        h.going ∙ h.refused

    -- and there is no other
    of_unit : given_at (standing g p).begun (standing g p).refusal ≡ Some r → IsRefusedByUnit g p r
    of_unit e =
        let given = given_some (standing g p).begun (standing g p).refusal r e in
        elim (standing_parts p).1 [
          | inl none ↦ absurd (let start = none.refusal in let some = given.1 in cc)
          | inr last ↦ record {
            before = last.before;
            bytes = last.last;
            unit = last.unit;
            joined = last.joined ∙ ap (λ c. last.before ++ (last.last ++ c)) given.0 ∙
                ap (λ c. last.before ++ c) (append-nil last.last);
            units = last.units;
            reads = last.reads;
            refused = sym last.refusal ∙ given.1;
          }
        ]

    of_bytes : (k : ℕ) → next_unit g (standing g p) ≡ wrong r k → IsRefusedByBytes g p r
    of_bytes k e =
        let h = (standing_parts p).0 in
        record {
          before = h.before;
          bytes = (standing g p).begun;
          size = k;
          joined = h.joined;
          units = ap (λ (w : Standing Z E R). w.begun) h.stands;
          reads = ap (λ (w : Standing Z E R). g.unit_at w.situation w.from (standing g p).begun)
              h.stands ∙ e;
        }

    of_refusal : refusal_at g p ≡ Some r → IsRefusedByUnit g p r ⊎ IsRefusedByBytes g p r
        ⊎ IsRefusedByLength g p r
    of_refusal e = by_last (given_at (standing g p).begun (standing g p).refusal) refl
        (sym (refusal_from g p (standing g p) refl) ∙ e)
      where
        by_front : given_at (standing g p).begun (standing g p).refusal ≡ None
            → (next_unit g (standing g p) ≡ begun)
            ⊎ ((r' : R) × (k : ℕ) × (next_unit g (standing g p) ≡ wrong r' k))
            → option_or (wrong_of (next_unit g (standing g p)))
            (g.at_length (standing g p).situation (standing g p).from (length p)) ≡ Some r
            → IsRefusedByBytes g p r ⊎ IsRefusedByLength g p r
        by_front last (inl e) some = inr
            (record {
              going = record { next = e; last = last };
              refused = sym
                  (ap (λ (v : Front U R). option_or (wrong_of v)
                  (g.at_length (standing g p).situation (standing g p).from (length p))) e) ∙ some;
            })
        by_front last (inr (r', k, e)) some =
            let is : Some r'
            ≡ Some r = sym
            (ap (λ (v : Front U R). option_or (wrong_of v)
            (g.at_length (standing g p).situation (standing g p).from (length p))) e) ∙ some in
            let same : r' ≡ r = cc in
            inl (of_bytes k (e ∙ ap (λ w. wrong w k) same))

        by_last : (v : Option R) → given_at (standing g p).begun (standing g p).refusal ≡ v
            → option_or v (option_or (wrong_of (next_unit g (standing g p)))
            (g.at_length (standing g p).situation (standing g p).from (length p))) ≡ Some r
            → IsRefusedByUnit g p r ⊎ IsRefusedByBytes g p r ⊎ IsRefusedByLength g p r
        by_last (Some r') l some = inl (of_unit (l ∙ some))
        by_last None l some = inr (by_front l (open_cases g readable p) some)

  -- of each grammar
  pub refusals_are_three : RefusalsAreThree g
  refusals_are_three p r = (of_refusal p r, ways p r) where
    ways : (p : List ℕ) (r : R) → IsRefusedByUnit g p r ⊎ IsRefusedByBytes g p r ⊎ IsRefusedByLength
        g p r → refusal_at g p ≡ Some r
    ways p r (inl h) = by_unit p r h
    ways p r (inr (inl h)) = by_bytes p r h
    ways p r (inr (inr h)) = by_length p r h
