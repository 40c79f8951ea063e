-- What whole units bring to a stream, and which units it has.
use Rattle.std.proofs.Common.{◌≡◌, ℕ, zero, suc, ◌+◌, ◌-◌, ◌<◌, ◌≤◌, ◌⊎◌, List, [], ◌∷◌, ◌++◌}
use Rattle.std.proofs.Common.{length, take, drop, Some, None, Option, option_to_list, sym, refl, ap}
use Rattle.std.proofs.Common.{◌∙◌, subst, inl, inr, append_assoc, append-nil, arith, length-append}
use Rattle.std.proofs.Common.{length-drop, take-append-drop, drop-drop}
use Rattle.std.{proofs.Math.Seq.take-add, specs.Option.option_or}
use Rattle.unit_streams.specs.Front.{begun, Front, whole, wrong}
use Rattle.unit_streams.specs.{Going.IsGoing, Going.IsQuiet, Going.IsQuietBefore, Laws.NoUnitGoesOn}
use Rattle.unit_streams.specs.Grammar.{Grammar, IsReadable, resumed, Standing, standing, with_more}
use Rattle.unit_streams.specs.Judging.{event_at, given_at, history_from, led_by, refusal_at}
use Rattle.unit_streams.specs.Units.{AreShort, Counted, events_along, size_of, UnitsLead}
use Rattle.unit_streams.proofs.Fronts.{leaves_or_decides}
use Rattle.unit_streams.proofs.Histories.{completed_events, history_behind, led_by_append}
use Rattle.unit_streams.proofs.Histories.{led_by_none, quiet_events}
use Rattle.unit_streams.proofs.Passing.{begun_refusal, decides_quiet, going_refusal, refusal_from}
use Rattle.unit_streams.proofs.Passing.{whole_event, whole_quiet, whole_refusal, whole_size}
use Rattle.unit_streams.proofs.Passing.{whole_standing, wrong_refusal}
use Rattle.unit_streams.proofs.Peeling.{Decides, extent, Leaves}
use Rattle.unit_streams.proofs.Standing.{leaves_all, leaves_at, standing_append, standing_length}
use Rattle.unit_streams.proofs.Standing.{standing_nothing, undecided_at}

module _ {Z U E R : Type 0} (g : Grammar Z U E R) (readable : IsReadable g) where
  -- p stands at the beginning of a unit, in this situation
  pub record IsBetween (p : List ℕ) (z : Z) (from : ℕ) : Type 0 where
    pub situation : (standing g p).situation ≡ z
    pub place : (standing g p).from ≡ from
    pub begun : (standing g p).begun ≡ []
    pub refusal : (standing g p).refusal ≡ None

  pub between_going : (p : List ℕ) (z : Z) (from : ℕ) → IsBetween p z from
      → IsGoing g (standing g p)
  between_going p z from at = record {
    next = ap (g.unit_at (standing g p).situation (standing g p).from) at.begun ∙ readable.nothing
        (standing g p).situation (standing g p).from;
    last = ap (λ b. given_at b (standing g p).refusal) at.begun ∙ at.refusal;
  }

  -- it begins behind all of p
  pub between_place : (p : List ℕ) (z : Z) (from : ℕ) → IsBetween p z from → from ≡ length p
  between_place p z from at = let n = standing_length g readable p in let none = ap length at.begun
      in let place = at.place in omega (arith, n, none, place)

  -- so many bytes, behind p
  pub length_at : (p : List ℕ) (z : Z) (from : ℕ) → IsBetween p z from → (i : ℕ)
      → g.at_length (standing g p).situation (standing g p).from (length p + i) ≡ g.at_length z from
      (from + i)
  length_at p z from at i =
      ap (λ y. g.at_length y (standing g p).from (length p + i)) at.situation ∙
      ap (λ k. g.at_length z k (length p + i)) at.place ∙ ap (λ k. g.at_length z from (k + i))
      (sym (between_place p z from at))

  -- a unit at the front of the bytes behind p
  module _ (p : List ℕ) (z : Z) (from : ℕ) (at : IsBetween p z from) (bytes : List ℕ) (u : U)
      (n : ℕ) (e : g.unit_at z from bytes ≡ whole u n) where
    front : List ℕ → Front U R
    front = g.unit_at (standing g p).situation (standing g p).from

    unit_here : g.unit_at (standing g p).situation (standing g p).from
        ((standing g p).begun ++ bytes) ≡ whole u n
    unit_here = rw (at.situation, at.place, at.begun) e

    pub unit_decides : Decides (g.unit_at (standing g p).situation (standing g p).from)
        (standing g p).begun bytes n
    unit_decides =
        elim (leaves_or_decides (g.unit_at (standing g p).situation (standing g p).from)
        (readable.reads (standing g p).situation (standing g p).from) (standing g p).begun bytes
        (between_going p z from at).next) [
          | inl l ↦ let none = l.at_end in absurd (let v = unit_here in cc)
          | inr d ↦
              let size : length (standing g p).begun + d.0 ≡ n = sym d.1.extent_is ∙ ap extent
              unit_here in
              let none : length (standing g p).begun ≡ 0 = ap length at.begun in
              let same : d.0 ≡ n = omega (arith, size, none) in
              subst (λ (m : ℕ). Decides (g.unit_at (standing g p).situation (standing g p).from)
              (standing g p).begun bytes m) same d.1
        ]

    pub unit_within : n ≤ length bytes
    unit_within = unit_decides.within

    pub unit_some : 0 < n
    unit_some = unit_decides.some

    module _ (short : (i : ℕ) → i < n → g.at_length (standing g p).situation (standing g p).from
        (length p + i) ≡ None) where
      -- what it leads to
      pub unit_between : g.refused z from u ≡ None → IsBetween (p ++ take n bytes)
          (g.after z from u) (from + n)
      unit_between none =
          let s = whole_standing g readable p bytes (between_going p z from at) n unit_decides short
          u n unit_here in
          record {
            situation = ap (λ (t : Standing Z E R). t.situation) s ∙ rw (at.situation, at.place)
                refl;
            place = ap (λ (t : Standing Z E R). t.from) s ∙ rw at.place refl;
            begun = ap (λ (t : Standing Z E R). t.begun) s;
            refusal = ap (λ (t : Standing Z E R). t.refusal) s ∙ rw (at.situation, at.place) none;
          }

      -- what it decides
      pub unit_before : IsQuietBefore g p bytes n
      unit_before = decides_quiet g readable p bytes (between_going p z from at) n unit_decides
          short

      pub unit_event : event_at g (p ++ take n bytes) ≡ g.completed z from (from + n) u
      unit_event = whole_event g readable p bytes (between_going p z from at) n unit_decides short u
          n unit_here ∙ rw (at.situation, at.place) refl

      pub unit_quiet : g.completed z from (from + n) u ≡ None → IsQuiet g p bytes n
      unit_quiet none = whole_quiet g readable p bytes (between_going p z from at) n unit_decides
          short u n unit_here (rw (at.situation, at.place) none)

      -- and what it brings
      unit_events : (v : Option E) → g.completed z from (from + n) u ≡ v → history_from g p bytes
          ≡ led_by (option_to_list v) (history_from g (p ++ take n bytes) (drop n bytes))
      unit_events (Some v) c =
          let q = unit_before in
          let told = unit_event ∙ c in
          history_behind g p bytes n q.within q.unrefused ∙
          ap (λ es. led_by es (history_from g (p ++ take n bytes) (drop n bytes)))
          (completed_events g p bytes n v q unit_some told)
      unit_events None c =
          let q = unit_quiet c in
          history_behind g p bytes n q.within q.unrefused ∙
          ap (λ es. led_by es (history_from g (p ++ take n bytes) (drop n bytes)))
          (quiet_events g p bytes n q)

      pub unit_brings : history_from g p bytes
          ≡ led_by (option_to_list (g.completed z from (from + n) u))
          (history_from g (p ++ take n bytes) (drop n bytes))
      unit_brings = unit_events (g.completed z from (from + n) u) refl

  -- what several lead to and bring, where no length on the way is too long
  pub record Brings (p : List ℕ) (z : Z) (from : ℕ) (units : List (Counted U)) (bytes : List ℕ)
      (z' : Z) (rest : List ℕ) : Type 0 where
    pub within : size_of units ≤ length bytes
    pub between : IsBetween (p ++ take (size_of units) bytes) z' (from + size_of units)
    pub left : drop (size_of units) bytes ≡ rest
    pub history : history_from g p bytes ≡ led_by (events_along g z from units)
        (history_from g (p ++ take (size_of units) bytes) rest)

  further : (p bytes : List ℕ) (k n : ℕ) → (p ++ take k bytes) ++ take n (drop k bytes) ≡ p
      ++ take (k + n) bytes
  further p bytes k n = append_assoc p (take k bytes) (take n (drop k bytes)) ∙ ap (λ c. p ++ c)
      (sym (take-add k n bytes))

  pub units_bring : (units : List (Counted U)) (p : List ℕ) (z : Z) (from : ℕ) (bytes : List ℕ)
      (z' : Z) (rest : List ℕ)
      → IsBetween p z from → UnitsLead g z from units bytes z' rest → AreShort g z from units
      → Brings p z from units bytes z' rest
  unfolding UnitsLead AreShort events_along size_of
  units_bring [] p z from bytes z' rest at l short = record {
    within = omega arith;
    between = subst (λ (q : List ℕ). IsBetween q z' (from + 0)) (sym (append-nil p))
        (subst (λ (m : ℕ). IsBetween p z' m) (omega arith)
        (subst (λ (y : Z). IsBetween p y from) l.0 at));
    left = l.1;
    history = sym (led_by_none (history_from g (p ++ take 0 bytes) rest) ∙
        ap (λ q. history_from g q rest) (append-nil p) ∙ ap (history_from g p) (sym l.1));
  }
  units_bring (one ∷ units) p z from bytes z' rest at l short =
      let n : ℕ = one.size in
      let close : (i : ℕ) → i < n → g.at_length (standing g p).situation (standing g p).from
      (length p + i) ≡ None = λ i lt. length_at p z from at i ∙ short.0 (from + i) (omega arith)
      (omega arith) in
      let within = unit_within p z from at bytes one.unit n l.0 in
      let next = unit_between p z from at bytes one.unit n l.0 close l.1 in
      let b = units_bring units (p ++ take n bytes) (g.after z from one.unit) (from + n)
      (drop n bytes) z' rest next l.2 short.1 in
      let sum : from + n + size_of units ≡ from + (n + size_of units) = omega arith in
      record {
        within = let m = length-drop n bytes in omega (arith, b.within, m, within);
        between = subst (λ (q : List ℕ). IsBetween q z' (from + (n + size_of units)))
            (further p bytes n (size_of units))
            (subst (λ (m : ℕ). IsBetween
            ((p ++ take n bytes) ++ take (size_of units) (drop n bytes)) z' m) sum b.between);
        left = sym (drop-drop (size_of units) n bytes) ∙ b.left;
        history =
            unit_brings p z from at bytes one.unit n l.0 close
            ∙ ap (led_by (option_to_list (g.completed z from (from + n) one.unit))) b.history
            ∙ sym (led_by_append (option_to_list (g.completed z from (from + n) one.unit))
            (events_along g (g.after z from one.unit) (from + n) units)
            (history_from g ((p ++ take n bytes) ++ take (size_of units) (drop n bytes)) rest))
            ∙ ap (λ q. led_by (option_to_list (g.completed z from (from + n) one.unit)
            ++ events_along g (g.after z from one.unit) (from + n) units) (history_from g q rest))
            (further p bytes n (size_of units));
      }

  -- units within a limit, below which no length is too long
  pub short_below : (limit : ℕ) → ((z : Z) (from n : ℕ) → n < limit → g.at_length z from n ≡ None)
      → (units : List (Counted U)) (z : Z) (from : ℕ) → from + size_of units ≤ limit
      → AreShort g z from units
  unfolding AreShort size_of
  short_below limit short [] z from le = tt
  short_below limit short (one ∷ units) z from le = (
    λ n low lt. short z from n (omega (arith, le)),
    short_below limit short units (g.after z from one.unit) (from + one.size) (omega (arith, le)),
  )

  -- where a prefix isn't refused its length isn't too long
  module _ (p bytes : List ℕ) (going : IsGoing g (standing g p)) where
    short_at : (i : ℕ) → i ≤ length bytes → resumed g (standing g p) (take i bytes)
        ≡ with_more (standing g p) (take i bytes)
        → g.unit_at (standing g p).situation (standing g p).from
        ((standing g p).begun ++ take i bytes) ≡ begun
        → refusal_at g (p ++ take i bytes) ≡ None → g.at_length (standing g p).situation
        (standing g p).from (length p + i) ≡ None
    short_at zero le at e none =
        ap (g.at_length (standing g p).situation (standing g p).from) (omega arith)
        ∙ sym (going_refusal g (standing g p) (length p) going) ∙ sym
        (refusal_from g p (standing g p) refl) ∙ ap (refusal_at g) (sym (append-nil p)) ∙ none
    short_at (suc i) le at e none = sym
        (begun_refusal g readable p bytes (suc i) le at (omega arith) e) ∙ none

  -- the units of a stream that isn't refused
  pub record HasUnits (p : List ℕ) (z : Z) (from : ℕ) (bytes : List ℕ) : Type 0 where
    pub units : List (Counted U)
    pub lead : UnitsLead g z from units bytes (standing g (p ++ bytes)).situation
        (standing g (p ++ bytes)).begun
    pub units_short : AreShort g z from units
    pub rest_short : (n : ℕ) → from + size_of units ≤ n → n ≤ length p + length bytes
        → g.at_length (standing g (p ++ bytes)).situation (from + size_of units) n ≡ None

  module _ (p : List ℕ) (z : Z) (from : ℕ) (at : IsBetween p z from) (bytes : List ℕ)
      (unrefused : (i : ℕ) → i ≤ length bytes → refusal_at g (p ++ take i bytes) ≡ None) where
    left_begun : Leaves (g.unit_at (standing g p).situation (standing g p).from)
        (standing g p).begun bytes → HasUnits p z from bytes
    unfolding UnitsLead AreShort size_of
    left_begun l =
        let s : standing g (p ++ bytes) ≡ with_more (standing g p) bytes = standing_append g
        readable p bytes ∙ leaves_all g readable (standing g p) bytes l in
        let place = between_place p z from at in
        record {
          units = [];
          lead = (
            sym (ap (λ (t : Standing Z E R). t.situation) s ∙ at.situation),
            sym
                (ap (λ (t : Standing Z E R). t.begun) s ∙ rw at.begun refl),
          );
          units_short = tt;
          rest_short = λ n low high.
              let i : ℕ = n - from in
              let few : i ≤ length bytes = omega (arith, low, high, place) in
              let sum : n ≡ from + i = omega (arith, low) in
              let none : from + 0 ≡ from = omega arith in
              ap (λ (t : Standing Z E R). g.at_length t.situation (from + 0) n) s ∙
              ap (λ y. g.at_length y (from + 0) n) at.situation ∙ ap (λ k. g.at_length z k n) none ∙
              ap (g.at_length z from) sum
              ∙ sym (length_at p z from at i) ∙ short_at p bytes (between_going p z from at) i few
              (leaves_at g readable (standing g p) bytes l i) (l.along i) (unrefused i few);
        }

    module _ (n : ℕ) (d : Decides (g.unit_at (standing g p).situation (standing g p).from)
        (standing g p).begun bytes n) where
      close : (i : ℕ) → i < n → g.at_length (standing g p).situation (standing g p).from
          (length p + i) ≡ None
      close i lt =
          let le : i ≤ length bytes = let w = d.within in omega arith in
          short_at p bytes (between_going p z from at) i le
          (undecided_at g readable (standing g p) bytes n d i lt) (d.before i lt) (unrefused i le)

      not_wrong : (r : R) (k : ℕ) → g.unit_at (standing g p).situation (standing g p).from
          ((standing g p).begun ++ bytes) ≡ wrong r k → ⊥
      not_wrong r k e = let told = wrong_refusal g readable p bytes (between_going p z from at) n d
          close r k e in let none = unrefused n d.within in cc

      module _ (u : U) (k : ℕ) (e : g.unit_at (standing g p).situation (standing g p).from
          ((standing g p).begun ++ bytes) ≡ whole u k) where
        its_size : k ≡ n
        its_size = let size = whole_size g readable p bytes (between_going p z from at) n d close u
            k e in let none : length (standing g p).begun ≡ 0 = ap length at.begun in omega
            (arith, size, none)

        it_is : g.unit_at z from bytes ≡ whole u n
        it_is = rw (← at.situation, ← at.place)
            (ap (λ b. g.unit_at (standing g p).situation (standing g p).from (b ++ bytes))
            (sym at.begun) ∙ e ∙ ap (whole u) its_size)

        first_none : (a b : Option R) → option_or a b ≡ None → a ≡ None
        first_none None b h = refl
        first_none (Some r) b h = cc

        not_refused : g.refused z from u ≡ None
        not_refused =
            let told = sym (whole_refusal g readable p bytes (between_going p z from at) n d close u
            k e) ∙ unrefused n d.within in
            rw (← at.situation, ← at.place)
            (first_none (g.refused (standing g p).situation (standing g p).from u) _ told)

  -- of at most m bytes, wherever they begin
  abbrev HaveUnits : ℕ → Type 0
  HaveUnits m = (p : List ℕ) (z : Z) (from : ℕ) → IsBetween p z from → (bytes : List ℕ)
      → length bytes ≤ m
      → ((i : ℕ) → i ≤ length bytes → refusal_at g (p ++ take i bytes) ≡ None) → HasUnits p z from
      bytes

  module _ (p : List ℕ) (z : Z) (from : ℕ) (at : IsBetween p z from) (bytes : List ℕ)
      (unrefused : (i : ℕ) → i ≤ length bytes → refusal_at g (p ++ take i bytes) ≡ None) where
    -- a whole unit, and those behind it
    one_more : (m : ℕ) → HaveUnits m → length bytes ≤ suc m
        → (n : ℕ) (d : Decides (g.unit_at (standing g p).situation (standing g p).from)
        (standing g p).begun bytes n)
        → (u : U) (k : ℕ) → g.unit_at (standing g p).situation (standing g p).from
        ((standing g p).begun ++ bytes) ≡ whole u k → HasUnits p z from bytes
    unfolding UnitsLead AreShort size_of
    one_more m have le n d u k e =
        let it = it_is p z from at bytes unrefused n d u k e in
        let ok = not_refused p z from at bytes unrefused n d u k e in
        let next = unit_between p z from at bytes u n it (close p z from at bytes unrefused n d) ok
        in
        let joined : (p ++ take n bytes) ++ drop n bytes ≡ p ++ bytes = append_assoc p
        (take n bytes) (drop n bytes) ∙ ap (λ c. p ++ c) (take-append-drop n bytes) in
        let rest = have (p ++ take n bytes) (g.after z from u) (from + n) next (drop n bytes)
        (let some = d.some in let size = length-drop n bytes in omega (arith, size, some, le))
        (λ i less. ap (refusal_at g) (append_assoc p (take n bytes) (take i (drop n bytes)) ∙
        ap (λ c. p ++ c) (sym (take-add n i bytes))) ∙ unrefused (n + i)
        (let size = length-drop n bytes in let within = d.within in omega
        (arith, size, less, within))) in
        record {
          units = record { unit = u; size = n } ∷ rest.units;
          lead = (
            it,
            ok,
            subst (λ (q : List ℕ). UnitsLead g (g.after z from u) (from + n)
                rest.units (drop n bytes) (standing g q).situation (standing g q).begun) joined
                rest.lead,
          );
          units_short = (
            λ m low lt.
                let sum : m ≡ from + (m - from) = omega (arith, low) in
                ap (g.at_length z from) sum ∙ sym (length_at p z from at (m - from)) ∙ close p z
                from at bytes unrefused n d (m - from) (omega (arith, low, lt)),
            rest.units_short,
          );
          rest_short = λ m low high.
              let all : length p + length bytes ≡ length (p ++ take n bytes)
              + length (drop n bytes) = sym (length-append p bytes) ∙ ap length (sym joined) ∙
              length-append (p ++ take n bytes) (drop n bytes) in
              let sum : from + (n + size_of rest.units) ≡ from + n + size_of rest.units = omega
              arith in
              ap (λ k. g.at_length (standing g (p ++ bytes)).situation k m) sum
              ∙ ap (λ (q : List ℕ). g.at_length (standing g q).situation
              (from + n + size_of rest.units) m) (sym joined)
              ∙ rest.rest_short m (omega (arith, low)) (omega (arith, high, all));
        }

    by_front : (m : ℕ) → HaveUnits m → length bytes ≤ suc m
        → (n : ℕ) (d : Decides (g.unit_at (standing g p).situation (standing g p).from)
        (standing g p).begun bytes n)
        → (v : Front U R) → g.unit_at (standing g p).situation (standing g p).from
        ((standing g p).begun ++ bytes) ≡ v → HasUnits p z from bytes
    by_front m have le n d begun e = absurd
        (let size = d.extent_is in let some = d.some in let none : extent
        (g.unit_at (standing g p).situation (standing g p).from ((standing g p).begun ++ bytes))
        ≡ 0 = ap extent e in omega (arith, size, some, none))
    by_front m have le n d (wrong r k) e = absurd (not_wrong p z from at bytes unrefused n d r k e)
    by_front m have le n d (whole u k) e = one_more m have le n d u k e

    cases : Leaves (g.unit_at (standing g p).situation (standing g p).from) (standing g p).begun
        bytes ⊎ ((n : ℕ) × Decides (g.unit_at (standing g p).situation (standing g p).from)
        (standing g p).begun bytes n)
    cases = leaves_or_decides (g.unit_at (standing g p).situation (standing g p).from)
        (readable.reads (standing g p).situation (standing g p).from) (standing g p).begun bytes
        (between_going p z from at).next

  have_units : (m : ℕ) → HaveUnits m
  have_units zero p z from at bytes le unrefused =
      elim (cases p z from at bytes unrefused) [
        | inl l ↦ left_begun p z from at bytes unrefused l
        | inr d ↦ absurd (let some = d.1.some in let within = d.1.within in omega
            (arith, some, within, le))
      ]
  have_units (suc m) p z from at bytes le unrefused =
      elim (cases p z from at bytes unrefused) [
        | inl l ↦ left_begun p z from at bytes unrefused l
        | inr d ↦ by_front p z from at bytes unrefused m (have_units m) le d.0 d.1 _ refl
      ]

  -- no byte before, and none behind
  pub between_first : IsBetween [] g.start 0
  between_first =
      let s = standing_nothing g readable in
      record {
        situation = ap (λ (t : Standing Z E R). t.situation) s;
        place =
            ap (λ (t : Standing Z E R). t.from) s;
        begun = ap (λ (t : Standing Z E R). t.begun) s;
        refusal = ap (λ (t : Standing Z E R). t.refusal) s;
      }

  pub units_of : (bytes : List ℕ) → ((i : ℕ) → i ≤ length bytes → refusal_at g (take i bytes)
      ≡ None) → HasUnits [] g.start 0 bytes
  units_of bytes unrefused = have_units (length bytes) [] g.start 0 between_first bytes
      (omega arith) unrefused

  -- no unit begins a longer one
  pub no_unit_goes_on : NoUnitGoesOn g
  no_unit_goes_on z from b c u v one other =
      let same : length b ≡ length (b ++ c) = ap extent
      (sym ((readable.reads z from).whole_stays b c u (length b) one) ∙ other) in
      none c (omega (arith, same, length-append b c))
    where
      none : (c : List ℕ) → length c ≡ 0 → c ≡ []
      none [] h = refl
      none (x ∷ c) h = absurd (omega arith)
