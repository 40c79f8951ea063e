-- Streams that may still come to their end, as their pieces are answered.
use Rattle.std.proofs.Common.{◌≡◌, ℕ, ◌+◌, ◌-◌, ◌<◌, ◌≤◌, Bool, false, List, [], ◌++◌, length, take}
use Rattle.std.proofs.Common.{drop, Some, None, sym, refl, ap, ◌∙◌, inl, inr, append-nil, arith}
use Rattle.std.proofs.Common.{length-append, take-append-drop, length-take-le, take_all}
use Rattle.std.proofs.Math.Seq.{take-append-add, take-nil}
use Rattle.std.proofs.lemmas.{Bool.cases_lt, List.take-append-le}
use Rattle.unit_streams.specs.Going.{IsOpenAt, IsPending, IsQuiet, IsQuietBefore}
use Rattle.unit_streams.specs.Grammar.{Grammar, IsReadable, TellsItsEnd}
use Rattle.unit_streams.specs.Judging.{ending_at, event_at, events_in, events_of, history}
use Rattle.unit_streams.specs.Judging.{history_from, is_over_at, led_by, only, refusal_at}
use Rattle.unit_streams.proofs.Ends.{not_over_along, not_over_first, over_along_event}
use Rattle.unit_streams.proofs.Histories.{events_in_append, front_at, front_length, history_along}
use Rattle.unit_streams.proofs.Histories.{history_ends}

module _ {Z U E R : Type 0} (g : Grammar Z U E R) where
  -- what a pending stream is
  pub pending_open : (bytes : List ℕ) → IsPending g bytes → IsOpenAt g bytes
  pending_open bytes h = record { before = λ n lt. h.unrefused n; going_on = h.going_on }

  pub pending_unrefused : (bytes : List ℕ) → IsPending g bytes → refusal_at g bytes ≡ None
  pending_unrefused bytes h = ap (refusal_at g) (sym (take_all (length bytes) bytes (omega arith)))
      ∙ h.unrefused (length bytes)

  pub open_going_on : (bytes : List ℕ) → IsOpenAt g bytes → is_over_at g bytes ≡ false
  open_going_on bytes h = ap (is_over_at g) (sym (take_all (length bytes) bytes (omega arith))) ∙
      h.going_on (length bytes)

  -- what comes behind an open prefix comes behind its events
  pub open_history : (p z : List ℕ) → IsOpenAt g p → history g (p ++ z) ≡ led_by (events_of g p)
      (history_from g p z)
  unfolding history events_of
  open_history p z h = history_along g p [] z (λ i lt. h.before i lt)

  -- a pending stream that ends here
  pub pending_history : (p : List ℕ) → IsPending g p → history g p ≡ led_by (events_of g p)
      (only (ending_at g p))
  pending_history p h =
      ap (history g) (sym (append-nil p)) ∙ open_history p [] (pending_open p h)
      ∙ ap (led_by (events_of g p)) (history_ends g p (pending_unrefused p h))

  -- the events of more bytes
  pub events_of_append : (p c : List ℕ) → events_of g (p ++ c) ≡ events_of g p ++ events_in g p c
  unfolding events_of
  events_of_append p c = events_in_append g p [] c

  -- what was open, and longer parts
  module _ (p y : List ℕ) where
    longer_part : (n : ℕ) → length p ≤ n → take n (p ++ y) ≡ p ++ take (n - length p) y
    longer_part n le = let sum : n ≡ length p + (n - length p) = omega (arith, le) in
        ap (λ m. take m (p ++ y)) sum ∙ take-append-add p y (n - length p)

    shorter_part : (n : ℕ) → n ≤ length p → take n (p ++ y) ≡ take n p
    shorter_part n le = take-append-le n p y le

    past_end : (n : ℕ) → length y ≤ n → take n y ≡ take (length y) y
    past_end n le = take_all n y le ∙ sym (take_all (length y) y (omega arith))

    -- an open prefix, and bytes behind it that leave it so
    pub open_longer : IsOpenAt g p → ((i : ℕ) → i < length y → refusal_at g (p ++ take i y) ≡ None)
        → ((i : ℕ) → i ≤ length y → is_over_at g (p ++ take i y) ≡ false) → IsOpenAt g (p ++ y)
    open_longer h unrefused on = record { before = before; going_on = going_on } where
      before : (n : ℕ) → n < length (p ++ y) → refusal_at g (take n (p ++ y)) ≡ None
      before n lt =
          elim (cases_lt n (length p)) [
            | inl less ↦ ap (refusal_at g) (shorter_part n (omega arith)) ∙ h.before n less
            | inr le ↦ ap (refusal_at g) (longer_part n le) ∙ unrefused (n - length p)
                (omega (arith, length-append p y, le, lt))
          ]

      going_on : (n : ℕ) → is_over_at g (take n (p ++ y)) ≡ false
      going_on n =
          elim (cases_lt n (length p)) [
            | inl less ↦ ap (is_over_at g) (shorter_part n (omega arith)) ∙ h.going_on n
            | inr le ↦ elim (cases_lt (n - length p) (length y)) [
              | inl less ↦ ap (is_over_at g) (longer_part n le) ∙ on (n - length p) (omega arith)
              | inr past ↦ ap (is_over_at g) (longer_part n le) ∙ ap (λ c. is_over_at g (p ++ c))
                  (past_end (n - length p) past) ∙ on (length y) (omega arith)
            ]
          ]

    -- and one that isn't refused itself is pending
    pub open_pending : IsOpenAt g (p ++ y) → refusal_at g (p ++ y) ≡ None → IsPending g (p ++ y)
    open_pending h none = record { unrefused = unrefused; going_on = h.going_on } where
      unrefused : (n : ℕ) → refusal_at g (take n (p ++ y)) ≡ None
      unrefused n =
          elim (cases_lt n (length (p ++ y))) [
            | inl lt ↦ h.before n lt
            | inr le ↦ ap (refusal_at g) (take_all n (p ++ y) le) ∙ none
          ]

module _ {Z U E R : Type 0} (g : Grammar Z U E R) (readable : IsReadable g) (ends : E → Bool)
    (tells : TellsItsEnd g ends) where
  -- before the first byte
  pub open_first : IsOpenAt g []
  open_first = record {
    before = λ n lt. absurd (omega arith);
    going_on = λ n. ap (is_over_at g)
        (take-nil n) ∙ not_over_first g readable ends tells;
  }

  module _ (p y : List ℕ) (h : IsOpenAt g p) where
    -- a piece that decides nothing
    pub open_goes_on : IsQuiet g p y (length y) → refusal_at g (p ++ y) ≡ None
        → IsPending g (p ++ y)
    open_goes_on q none =
        open_pending g p y
        (open_longer g p y h q.unrefused
        (not_over_along g readable ends tells y p (open_going_on g p h) q.eventless)) none

    module _ (k : ℕ) (e : E) (q : IsQuietBefore g p y k) (some : 0 < k)
        (last : event_at g (p ++ take k y) ≡ Some e) where
      eventless_before : (i : ℕ) → 0 < i → i < length (take k y)
          → event_at g (p ++ take i (take k y)) ≡ None
      eventless_before i more lt = let n = front_length g p y k q.within in ap (event_at g)
          (front_at g p y k q.within i (omega (arith, n))) ∙ q.eventless i more (omega (arith, n))

      -- an event ends it or not
      pub over_behind : is_over_at g (p ++ take k y) ≡ ends e
      over_behind =
          let n = front_length g p y k q.within in
          over_along_event g readable ends tells (take k y) p e (omega (arith, n))
          (open_going_on g p h) eventless_before last

      -- one that doesn't leaves it open
      pub open_completes : ends e ≡ false → IsOpenAt g (p ++ take k y)
      open_completes on = open_longer g p (take k y) h unrefused still where
        n : length (take k y) ≡ k
        n = front_length g p y k q.within

        unrefused : (i : ℕ) → i < length (take k y) → refusal_at g (p ++ take i (take k y)) ≡ None
        unrefused i lt = ap (refusal_at g) (front_at g p y k q.within i (omega (arith, n))) ∙
            q.unrefused i (omega (arith, n))

        -- the parts before the last byte
        before : (i : ℕ) → i < length (take k y) → is_over_at g (p ++ take i (take k y)) ≡ false
        before i lt =
            let m : length (take i (take k y)) ≡ i = length-take-le i (take k y) (omega arith) in
            let front : (j : ℕ) → j ≤ i → take j (take i (take k y)) ≡ take j (take k y) = λ j le.
            sym (take-append-le j (take i (take k y)) (drop i (take k y)) (omega (arith, m))) ∙
            ap (take j) (take-append-drop i (take k y)) in
            ap (λ c. is_over_at g (p ++ c)) (sym (front i (omega arith)) ∙ refl)
            ∙ not_over_along g readable ends tells (take i (take k y)) p (open_going_on g p h)
            (λ j more le. ap (λ c. event_at g (p ++ c)) (front j (omega (arith, m))) ∙
            eventless_before j more (omega (arith, m, lt))) i (omega (arith, m))

        still : (i : ℕ) → i ≤ length (take k y) → is_over_at g (p ++ take i (take k y)) ≡ false
        still i le =
            elim (cases_lt i (length (take k y))) [
              | inl lt ↦ before i lt
              | inr past ↦ ap (λ c. is_over_at g (p ++ c)) (take_all i (take k y) past) ∙
                  over_behind ∙ on
            ]
