-- What comes behind a prefix, by its parts and by what pieces are answered.
use Rattle.std.proofs.Common.{◌≡◌, ℕ, suc, ◌<◌, ◌≤◌, List, [], ◌∷◌, ◌++◌, length, take, drop, Some}
use Rattle.std.proofs.Common.{None, option_to_list, sym, refl, ap, ◌∙◌, append_assoc, append-nil}
use Rattle.std.proofs.Common.{arith, take-append-drop, length-take-le, take_all}
use Rattle.std.proofs.lemmas.List.{drop_all, take-append-le}
use Rattle.unit_streams.specs.Going.{history_by, IsQuiet, IsQuietBefore, Means}
use Rattle.unit_streams.specs.{Grammar.Grammar, Judging.refusal_at, Laws.HistoryIsAnswers}
use Rattle.unit_streams.specs.Judging.{Answer, answer, completes, ending_at, event_at, events_in}
use Rattle.unit_streams.specs.Judging.{goes_on, History, history_from, led_by, offends, only}
use Rattle.unit_streams.proofs.Answers.{answers_are_first, none_taken, shifted}

-- nothing before
pub led_by_none : {E R : Type 0} (h : History E R) → led_by [] h ≡ h
led_by_none h = refl

-- the same events in two parts
pub led_by_append : {E R : Type 0} (a b : List E) (h : History E R) → led_by (a ++ b) h
    ≡ led_by a (led_by b h)
led_by_append a b h = ap (λ events. record { events = events; offence = h.offence })
    (append_assoc a b h.events)

module _ {Z U E R : Type 0} (g : Grammar Z U E R) where
  -- a refusal ends it
  pub history_refused : (p y : List ℕ) (r : R) → refusal_at g p ≡ Some r → history_from g p y
      ≡ only (Some r)
  unfolding history_from
  history_refused p [] r e = rw e refl
  history_refused p (b ∷ y) r e = rw e refl

  -- so does the end
  pub history_ends : (p : List ℕ) → refusal_at g p ≡ None → history_from g p []
      ≡ only (ending_at g p)
  unfolding history_from
  history_ends p e = rw e refl

  -- else it goes on
  pub history_next : (p : List ℕ) (b : ℕ) (y : List ℕ) → refusal_at g p ≡ None → history_from g p
      (b ∷ y) ≡ led_by (option_to_list (event_at g (p ++ b ∷ []))) (history_from g (p ++ b ∷ []) y)
  unfolding history_from
  history_next p b y e = rw e refl

  -- the events of bytes in two parts
  pub events_in_append : (c p d : List ℕ) → events_in g p (c ++ d) ≡ events_in g p c
      ++ events_in g (p ++ c) d
  unfolding events_in
  events_in_append [] p d = ap (λ q. events_in g q d) (sym (append-nil p))
  events_in_append (b ∷ c) p d =
      ap (λ es. option_to_list (event_at g (p ++ b ∷ [])) ++ es)
      (events_in_append c (p ++ b ∷ []) d ∙ ap (λ q. events_in g (p ++ b ∷ []) c ++ events_in g q d)
      (append_assoc p (b ∷ []) c))
      ∙ sym (append_assoc (option_to_list (event_at g (p ++ b ∷ []))) (events_in g (p ++ b ∷ []) c)
      (events_in g (p ++ b ∷ c) d))

  -- bytes of which no shorter part is refused bring their events
  pub history_along : (c p d : List ℕ) → ((i : ℕ) → i < length c → refusal_at g (p ++ take i c)
      ≡ None) → history_from g p (c ++ d) ≡ led_by (events_in g p c) (history_from g (p ++ c) d)
  unfolding events_in
  history_along [] p d h = ap (λ q. history_from g q d) (sym (append-nil p)) ∙ sym
      (led_by_none (history_from g (p ++ []) d))
  history_along (b ∷ c) p d h =
      history_next p b (c ++ d) (ap (refusal_at g) (sym (none_taken g p (b ∷ c))) ∙ h 0
      (omega arith))
      ∙ ap (led_by (option_to_list (event_at g (p ++ b ∷ []))))
      (history_along c (p ++ b ∷ []) d (λ i lt. ap (refusal_at g) (shifted g p b c i) ∙ h (suc i)
      (omega arith)))
      ∙ sym (led_by_append (option_to_list (event_at g (p ++ b ∷ []))) (events_in g (p ++ b ∷ []) c)
      (history_from g ((p ++ b ∷ []) ++ c) d))
      ∙ ap (λ q. led_by (option_to_list (event_at g (p ++ b ∷ [])) ++ events_in g (p ++ b ∷ []) c)
      (history_from g q d)) (append_assoc p (b ∷ []) c)

  -- bytes without events
  pub events_in_none : (c p : List ℕ) → ((i : ℕ) → 0 < i → i ≤ length c → event_at g (p ++ take i c)
      ≡ None) → events_in g p c ≡ []
  unfolding events_in
  events_in_none [] p h = refl
  events_in_none (b ∷ c) p h =
      let first : event_at g (p ++ b ∷ []) ≡ None = h 1 (omega arith) (omega arith) in
      let rest : events_in g (p ++ b ∷ []) c ≡ [] = events_in_none c (p ++ b ∷ [])
      (λ i some le. ap (event_at g) (shifted g p b c i) ∙ h (suc i) (omega arith) (omega arith)) in
      rw (first, rest) refl

  -- bytes of which the last completes an event
  pub events_in_one : (c p : List ℕ) (e : E) → 0 < length c
      → ((i : ℕ) → 0 < i → i < length c → event_at g (p ++ take i c) ≡ None) → event_at g (p ++ c)
      ≡ Some e → events_in g p c ≡ e ∷ []
  unfolding events_in
  events_in_one [] p e some h last = absurd (omega arith)
  events_in_one (b ∷ []) p e some h last = rw last refl
  events_in_one (b ∷ d ∷ c) p e some h last =
      let first : event_at g (p ++ b ∷ []) ≡ None = h 1 (omega arith) (omega arith) in
      let rest : events_in g (p ++ b ∷ []) (d ∷ c) ≡ e ∷ [] =
      events_in_one (d ∷ c) (p ++ b ∷ []) e (omega arith)
      (λ i some lt. ap (event_at g) (shifted g p b (d ∷ c) i) ∙ h (suc i) (omega arith)
      (omega arith))
      (ap (event_at g) (append_assoc p (b ∷ []) (d ∷ c)) ∙ last) in
      rw (first, rest) refl

  module _ (p y : List ℕ) (k : ℕ) (within : k ≤ length y) where
    -- shorter parts of the first k bytes are parts of all
    pub front_at : (i : ℕ) → i ≤ k → p ++ take i (take k y) ≡ p ++ take i y
    front_at i le = ap (λ c. p ++ c)
        (sym (take-append-le i (take k y) (drop k y)
        (let n = length-take-le k y within in omega arith)) ∙ ap (take i) (take-append-drop k y))

    pub front_length : length (take k y) ≡ k
    front_length = length-take-le k y within

  -- the events of what an answer uses
  pub quiet_events : (p y : List ℕ) (k : ℕ) → IsQuiet g p y k → events_in g p (take k y) ≡ []
  quiet_events p y k q =
      let n = front_length p y k q.within in
      events_in_none (take k y) p
      (λ i some le. ap (event_at g) (front_at p y k q.within i (omega (arith, n))) ∙ q.eventless i
      some (omega (arith, n)))

  pub completed_events : (p y : List ℕ) (k : ℕ) (e : E) → IsQuietBefore g p y k → 0 < k
      → event_at g (p ++ take k y) ≡ Some e → events_in g p (take k y) ≡ e ∷ []
  completed_events p y k e q some last =
      let n = front_length p y k q.within in
      events_in_one (take k y) p e (omega (arith, n))
      (λ i more lt. ap (event_at g) (front_at p y k q.within i (omega (arith, n))) ∙ q.eventless i
      more (omega (arith, n))) last

  -- what comes behind the bytes that an answer uses
  module _ (p y : List ℕ) (k : ℕ) (within : k ≤ length y)
      (unrefused : (i : ℕ) → i < k → refusal_at g (p ++ take i y) ≡ None) where
    pub history_behind : history_from g p y ≡ led_by (events_in g p (take k y))
        (history_from g (p ++ take k y) (drop k y))
    history_behind =
        let n = front_length p y k within in
        ap (history_from g p) (sym (take-append-drop k y))
        ∙ history_along (take k y) p (drop k y)
        (λ i lt. ap (refusal_at g) (front_at p y k within i (omega (arith, n))) ∙ unrefused i
        (omega (arith, n)))

  by_answer : (p y : List ℕ) (a : Answer E R) → Means g p y a → history_from g p y
      ≡ history_by g p y a
  by_answer p y goes_on m =
      let all : take (length y) y ≡ y = take_all (length y) y (omega arith) in
      let none : drop (length y) y ≡ [] = drop_all (length y) y (omega arith) in
      history_behind p y (length y) (omega arith) m.0.unrefused
      ∙ ap (λ es. led_by es (history_from g (p ++ take (length y) y) (drop (length y) y)))
      (quiet_events p y (length y) m.0)
      ∙ ap (history_from g (p ++ take (length y) y)) none
      ∙ ap (λ c. history_from g (p ++ c) []) all
      ∙ history_ends (p ++ y) m.1
  by_answer p y (completes k e) m =
      history_behind p y k m.0.within m.0.unrefused
      ∙ ap (λ es. led_by es (history_from g (p ++ take k y) (drop k y)))
      (completed_events p y k e m.0 m.1 m.2)
  by_answer p y (offends k r) m =
      history_behind p y k m.0.within m.0.unrefused
      ∙ ap (λ es. led_by es (history_from g (p ++ take k y) (drop k y))) (quiet_events p y k m.0)
      ∙ history_refused (p ++ take k y) (drop k y) r m.1

  -- of each grammar
  pub history_is_answers : HistoryIsAnswers g
  history_is_answers p y = by_answer p y (answer g p y)
      ((answers_are_first g p y (answer g p y)).0 refl)
