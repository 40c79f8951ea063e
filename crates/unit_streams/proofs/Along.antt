-- Whole units by the bytes that they are, one part behind the other.
use Rattle.std.proofs.Common.{◌≡◌, ℕ, ◌+◌, ◌<◌, ◌≤◌, List, [], ◌∷◌, ◌++◌, length, take, drop, None}
use Rattle.std.proofs.Common.{option_to_list, sym, refl, ap, ◌∙◌, subst, append_assoc, append-nil}
use Rattle.std.proofs.Common.{arith, length-append}
use Rattle.std.proofs.Math.Seq.{drop-append_seam, take-append_seam}
use Rattle.unit_streams.specs.{Front.whole, Grammar.Grammar, Grammar.IsReadable}
use Rattle.unit_streams.specs.Judging.{history, history_from, led_by}
use Rattle.unit_streams.specs.Units.{Counted, events_along, size_of, UnitsLead}
use Rattle.unit_streams.proofs.Units.{between_first, Brings, IsBetween, short_below, units_bring}

module _ {Z U E R : Type 0} (g : Grammar Z U E R) where
  -- the bytes are whole units that lead from one situation, at an offset, to another, and complete
  -- these events
  pub record Passes (z : Z) (from : ℕ) (bytes : List ℕ) (z' : Z) (events : List E) : Type 0 where
    pub units : List (Counted U)
    pub lead : (rest : List ℕ) → UnitsLead g z from units (bytes ++ rest) z' rest
    pub brought : events_along g z from units ≡ events
    pub size : size_of units ≡ length bytes

  -- units behind units
  leads_then : (units : List (Counted U)) (z : Z) (from : ℕ) (bytes : List ℕ) (z' : Z)
      (mid : List ℕ) (more : List (Counted U)) (z'' : Z) (rest : List ℕ)
      → UnitsLead g z from units bytes z' mid → UnitsLead g z' (from + size_of units) more mid z''
      rest → UnitsLead g z from (units ++ more) bytes z'' rest
  unfolding UnitsLead size_of
  leads_then [] z from bytes z' mid more z'' rest first second =
      let same : from + 0 ≡ from = omega arith in
      subst (λ (c : List ℕ). UnitsLead g z from more c z'' rest) (sym first.1)
      (subst (λ (n : ℕ). UnitsLead g z n more mid z'' rest) same
      (subst (λ (y : Z). UnitsLead g y (from + 0) more mid z'' rest) (sym first.0) second))
  leads_then (one ∷ units) z from bytes z' mid more z'' rest first second =
      let same : from + (one.size + size_of units) ≡ (from + one.size) + size_of units = omega arith
      in (
        first.0,
        first.1,
        leads_then units (g.after z from one.unit) (from + one.size) (drop one.size bytes) z' mid
            more z'' rest first.2 (subst (λ (n : ℕ). UnitsLead g z' n more mid z'' rest) same
            second),
      )

  events_then : (units : List (Counted U)) (z : Z) (from : ℕ) (bytes : List ℕ) (z' : Z)
      (mid : List ℕ) (more : List (Counted U))
      → UnitsLead g z from units bytes z' mid → events_along g z from (units ++ more)
      ≡ events_along g z from units ++ events_along g z' (from + size_of units) more
  unfolding UnitsLead size_of events_along
  events_then [] z from bytes z' mid more first =
      let same : from ≡ from + 0 = omega arith in ap (λ (n : ℕ). events_along g z n more) same ∙
      ap (λ (y : Z). events_along g y (from + 0) more) first.0
  events_then (one ∷ units) z from bytes z' mid more first =
      let same : (from + one.size) + size_of units ≡ from + (one.size + size_of units) = omega arith
      in
      let here = option_to_list (g.completed z from (from + one.size) one.unit) in
      ap (λ es. here ++ es) (events_then units (g.after z from one.unit) (from + one.size)
      (drop one.size bytes) z' mid more first.2)
      ∙ sym (append_assoc here (events_along g (g.after z from one.unit) (from + one.size) units)
      (events_along g z' ((from + one.size) + size_of units) more))
      ∙ ap (λ (n : ℕ). (here ++ events_along g (g.after z from one.unit) (from + one.size) units)
      ++ events_along g z' n more) same

  size_then : (units more : List (Counted U)) → size_of (units ++ more) ≡ size_of units
      + size_of more
  unfolding size_of
  size_then [] more = omega arith
  size_then (one ∷ units) more = ap (λ n. one.size + n) (size_then units more) ∙ omega arith

  pub passes_none : (z : Z) (from : ℕ) → Passes z from [] z []
  unfolding UnitsLead size_of events_along
  passes_none z from = record {
    units = [];
    lead = λ rest. (refl, refl);
    brought = refl;
    size = refl;
  }

  pub passes_then : (z : Z) (from : ℕ) (a b : List ℕ) (z' z'' : Z) (es fs : List E)
      → Passes z from a z' es → Passes z' (from + length a) b z'' fs → Passes z from (a ++ b) z''
      (es ++ fs)
  passes_then z from a b z' z'' es fs first second =
      let place : from + length a ≡ from + size_of first.units = ap (λ n. from + n) (sym first.size)
      in
      record {
        units = first.units ++ second.units;
        lead = λ rest.
            subst (λ (c : List ℕ). UnitsLead g z from (first.units ++ second.units) c z'' rest)
            (sym (append_assoc a b rest))
            (leads_then first.units z from (a ++ (b ++ rest)) z' (b ++ rest) second.units z'' rest
            (first.lead (b ++ rest))
            (subst (λ (n : ℕ). UnitsLead g z' n second.units (b ++ rest) z'' rest) place
            (second.lead rest)));
        brought =
            events_then first.units z from (a ++ (b ++ [])) z' (b ++ []) second.units
            (first.lead (b ++ []))
            ∙ ap (λ (n : ℕ). events_along g z from first.units ++ events_along g z' n second.units)
            (sym place)
            ∙ ap (λ c. c ++ events_along g z' (from + length a) second.units) first.brought ∙
            ap (λ c. es ++ c) second.brought;
        size = size_then first.units second.units ∙ let n = length-append a b in let k = first.size
            in let m = second.size in omega (arith, n, k, m);
      }

  module _ (readable : IsReadable g) where
    pub passes_unit : (z : Z) (from : ℕ) (bytes : List ℕ) (u : U) → g.unit_at z from bytes
        ≡ whole u (length bytes) → g.refused z from u ≡ None
        → Passes z from bytes (g.after z from u)
        (option_to_list (g.completed z from (from + length bytes) u))
    unfolding UnitsLead size_of events_along
    passes_unit z from bytes u e ok = record {
      units = record { unit = u; size = length bytes } ∷ [];
      lead = λ rest. (
        (readable.reads z from).whole_stays bytes rest u (length bytes) e,
        ok,
        (refl, drop-append_seam bytes rest),
      );
      brought = append-nil (option_to_list (g.completed z from (from + length bytes) u));
      size = omega arith;
    }

    -- what units at the front of a stream bring to it
    module _ (limit : ℕ) (short : (z : Z) (from n : ℕ) → n < limit → g.at_length z from n ≡ None)
        (bytes rest : List ℕ) (z' : Z) (events : List E) (h : Passes g.start 0 bytes z' events)
        (within : length bytes ≤ limit) where
      front : take (size_of h.units) (bytes ++ rest) ≡ bytes
      front = ap (λ n. take n (bytes ++ rest)) h.size ∙ take-append_seam bytes rest

      brought_by : Brings g readable [] g.start 0 h.units (bytes ++ rest) z' rest
      brought_by =
          let short_all = short_below g readable limit short h.units g.start 0
          (let n = h.size in omega (arith, n, within)) in
          units_bring g readable h.units [] g.start 0 (bytes ++ rest) z' rest
          (between_first g readable) (h.lead rest) short_all

      pub passes_between : IsBetween g readable bytes z' (length bytes)
      passes_between =
          let place : 0 + size_of h.units ≡ length bytes = let n = h.size in omega (arith, n) in
          subst (λ (n : ℕ). IsBetween g readable bytes z' n) place
          (subst (λ (q : List ℕ). IsBetween g readable q z' (0 + size_of h.units)) front
          brought_by.between)

      pub passes_history : history g (bytes ++ rest) ≡ led_by events (history_from g bytes rest)
      unfolding history
      passes_history =
          brought_by.history ∙
          ap (λ es. led_by es (history_from g (take (size_of h.units) (bytes ++ rest)) rest))
          h.brought ∙ ap (λ q. led_by events (history_from g q rest)) front
