-- What is told of pieces, of ends and of prefixes, for any grammar and teller.
use Rattle.std.proofs.Common.{◌≡◌, ℕ, ◌+◌, Bool, true, List, [], ◌∷◌, ◌++◌, length, take, drop}
use Rattle.std.proofs.Common.{Some, None, Option, option_to_list, sym, refl, ap, ◌∙◌, append_assoc}
use Rattle.std.proofs.Common.{append-nil}
use Rattle.unit_streams.specs.Going.{history_by, IsGoing, IsOpenAt, Means}
use Rattle.unit_streams.specs.{Grammar.Grammar, Grammar.standing, Laws.raised, Laws.unless_decided}
use Rattle.unit_streams.specs.Judging.{Answer, answer, completes, ending_at, event_at, events}
use Rattle.unit_streams.specs.Judging.{events_in, events_of, goes_on, History, history, refusal_at}
use Rattle.unit_streams.specs.Judging.{history_from, is_over_at, led_by, offence, offends, only}
use Rattle.unit_streams.specs.Tellers.{Adds, Closes, EndsAdd, OpenTellFronts, PiecesAdd}
use Rattle.unit_streams.specs.Tellers.{PrefixesTellFronts, report, state_at, state_behind, Teller}
use Rattle.unit_streams.specs.Tellers.{told_along, told_of_history, told_so_far}
use Rattle.unit_streams.proofs.{Answers.answers_are_first, Ends.over_closed, Standing.standing_last}
use Rattle.unit_streams.proofs.{Cuts.cuts_change_nothing, Passing.given_some}
use Rattle.unit_streams.proofs.Histories.{completed_events, events_in_none, history_ends}
use Rattle.unit_streams.proofs.Histories.{history_is_answers, history_next, history_refused}
use Rattle.unit_streams.proofs.Pending.{events_of_append, open_completes, open_goes_on}
use Rattle.unit_streams.proofs.Pending.{open_history, over_behind, pending_history}

module _ {S E R : Type 0} (t : Teller S E R) where
  pub told_append : (a b : List E) (s : S) → told_along t s (a ++ b) ≡ told_along t s a
      ++ told_along t (state_behind t s a) b
  unfolding told_along state_behind
  told_append [] b s = refl
  told_append (e ∷ a) b s = ap (λ l. t.told s e ++ l) (told_append a b (t.next s e)) ∙ sym
      (append_assoc (t.told s e) (told_along t (t.next s e) a)
      (told_along t (state_behind t (t.next s e) a) b))

  pub state_append : (a b : List E) (s : S) → state_behind t s (a ++ b)
      ≡ state_behind t (state_behind t s a) b
  unfolding state_behind
  state_append [] b s = refl
  state_append (e ∷ a) b s = state_append a b (t.next s e)

  pub told_one : (e : E) (s : S) → told_along t s (e ∷ []) ≡ t.told s e
  unfolding told_along
  told_one e s = append-nil (t.told s e)

  pub state_one : (e : E) (s : S) → state_behind t s (e ∷ []) ≡ t.next s e
  unfolding state_behind
  state_one e s = refl

  -- events before a history
  pub told_led : (before : List E) (h : History E R) (s : S) → told_of_history t s (led_by before h)
      ≡ told_along t s before ++ told_of_history t (state_behind t s before) h
  told_led before h s =
      ap (λ l. l ++ t.ends (state_behind t s (before ++ h.events)) h.offence)
      (told_append before h.events s)
      ∙ ap (λ z. (told_along t s before ++ told_along t (state_behind t s before) h.events)
      ++ t.ends z h.offence) (state_append before h.events s)
      ∙ append_assoc (told_along t s before) (told_along t (state_behind t s before) h.events)
      (t.ends (state_behind t (state_behind t s before) h.events) h.offence)

  pub told_only : (o : Option R) (s : S) → told_of_history t s (only o) ≡ t.ends s o
  unfolding told_along state_behind
  told_only o s = refl

-- the events of a prefix are a front of the whole's
module _ {Z U E R : Type 0} (g : Grammar Z U E R) where
  refused_events : (y p : List ℕ) (r : R) → refusal_at g p ≡ Some r → (history_from g p y).events
      ≡ []
  refused_events y p r e = ap (λ (h : History E R). h.events) (history_refused g p y r e)

  abbrev IsFront : List ℕ → List ℕ → List ℕ → Type 0
  IsFront y z p = (rest : List E)
      × ((history_from g p (y ++ z)).events ≡ (history_from g p y).events ++ rest)

  or_refused : (y z p : List ℕ) → (refusal_at g p ≡ None → IsFront y z p) → IsFront y z p
  or_refused y z p other = by (refusal_at g p) refl where
    by : (v : Option R) → refusal_at g p ≡ v → IsFront y z p
    by (Some r) e = (
      [],
      refused_events (y ++ z) p r e ∙ ap (λ l. l ++ [])
          (sym (refused_events y p r e)),
    )
    by None e = other e

  pub events_front : (y z p : List ℕ) → IsFront y z p
  events_front [] z p = or_refused [] z p
      (λ e. (
        (history_from g p z).events,
        ap (λ (h : History E R). h.events
            ++ (history_from g p z).events) (sym (history_ends g p e)),
      ))
  events_front (b ∷ y) z p =
      let more = events_front y z (p ++ b ∷ []) in
      let one : List E = option_to_list (event_at g (p ++ b ∷ [])) in
      or_refused (b ∷ y) z p (λ e. (
        more.0,
        ap (λ (h : History E R). h.events) (history_next g p b (y ++ z) e) ∙ ap (λ l. one ++ l)
            more.1 ∙ sym (append_assoc one (history_from g (p ++ b ∷ []) y).events more.0)
            ∙ ap (λ (h : History E R). h.events ++ more.0) (sym (history_next g p b y e)),
      ))

-- behind an event that ends the stream nothing comes
module _ {Z U E R : Type 0} (g : Grammar Z U E R) (ends : E → Bool) (c : Closes g ends) where
  abbrev Unrefused : Option E → Option R → Type 0
  Unrefused event refusal = (e : E) → event ≡ Some e → ends e ≡ true → refusal ≡ None

  module _ (p : List ℕ) (e : E) (last : event_at g p ≡ Some e) (is_end : ends e ≡ true) where
    end_going : IsGoing g (standing g p)
    unfolding event_at
    end_going =
        let h = given_some (standing g p).begun (standing g p).event e last in
        let none : (standing g p).refusal ≡ None = standing_last g c.readable
        (λ z from event refusal. Unrefused event refusal) (λ e some is. cc)
        (λ z from event refusal b u k reads some h e is. c.unrefused z from (from + k) u e is) p e
        h.1 is_end in
        record {
          next = rw h.0 (c.readable.nothing (standing g p).situation (standing g p).from);
          last = rw h.0 none;
        }

    pub closed_behind : is_over_at g p ≡ true → (y : List ℕ) → history_from g p y ≡ only None
    closed_behind over y = over_closed g c.readable c.quiet y p over end_going

module _ {Z U E R S : Type 0} (g : Grammar Z U E R) (t : Teller S E R) where
  pub told_nothing : told_so_far g t [] ≡ []
  unfolding told_so_far events_of events_in told_along
  told_nothing = refl

  pub state_first : state_at g t [] ≡ t.start
  unfolding state_at events_of events_in state_behind
  state_first = refl

  pub told_more : (p c : List ℕ) → told_so_far g t (p ++ c) ≡ told_so_far g t p
      ++ told_along t (state_at g t p) (events_in g p c)
  unfolding told_so_far state_at
  told_more p c = ap (told_along t t.start) (events_of_append g p c) ∙ told_append t (events_of g p)
      (events_in g p c) t.start

  pub state_more : (p c : List ℕ) → state_at g t (p ++ c) ≡ state_behind t (state_at g t p)
      (events_in g p c)
  unfolding state_at
  state_more p c = ap (state_behind t t.start) (events_of_append g p c) ∙ state_append t
      (events_of g p) (events_in g p c) t.start

  -- the end of the input
  pub ends_add : EndsAdd g t
  unfolding report told_so_far state_at offence
  ends_add p pending = (
    ap (told_of_history t t.start) (pending_history g p pending) ∙ told_led t (events_of g p)
        (only (ending_at g p)) t.start
        ∙ ap (λ l. told_along t t.start (events_of g p) ++ l)
        (told_only t (ending_at g p) (state_behind t t.start (events_of g p))),
    ap (λ (h : History E R). h.offence) (pending_history g p pending),
  )

  -- a report is what was told, and what is told of what comes
  pub open_report : (p z : List ℕ) → IsOpenAt g p → report g t (p ++ z) ≡ told_so_far g t p
      ++ told_of_history t (state_at g t p) (history_from g p z)
  unfolding report told_so_far state_at
  open_report p z on = ap (told_of_history t t.start) (open_history g p z on) ∙ told_led t
      (events_of g p) (history_from g p z) t.start

  pub open_offence : (p z : List ℕ) → IsOpenAt g p → offence g (p ++ z)
      ≡ (history_from g p z).offence
  unfolding offence
  open_offence p z on = ap (λ (h : History E R). h.offence) (open_history g p z on)

  pub open_tell_fronts : OpenTellFronts g t
  open_tell_fronts p z on = (
    told_of_history t (state_at g t p) (history_from g p z),
    open_report p
        z on,
  )

  pub prefixes_tell_fronts : PrefixesTellFronts g t
  unfolding report events history
  prefixes_tell_fronts p z =
      let front = events_front g p z [] in
      let es : List E = (history_from g [] p).events in
      let last : List ℕ = t.ends (state_behind t t.start (history_from g [] (p ++ z)).events)
      (history_from g [] (p ++ z)).offence in (
        told_along t (state_behind t t.start es) front.0 ++ last,
        ap (λ l. told_along t t.start l ++ last) front.1 ∙ ap (λ l. l ++ last)
            (told_append t es front.0 t.start)
            ∙ append_assoc (told_along t t.start es)
            (told_along t (state_behind t t.start es) front.0) last,
      )

  -- an answer stays where more follows
  module _ (p y more : List ℕ) where
    longer : (a : Answer E R) → answer g p y ≡ a → answer g p (y ++ more) ≡ unless_decided a
        (raised (length y) (answer g (p ++ y) more))
    longer a e = cuts_change_nothing g p y more ∙
        ap (λ a. unless_decided a (raised (length y) (answer g (p ++ y) more))) e

  module _ (ends : E → Bool) (c : Closes g ends) (p y : List ℕ) (on : IsOpenAt g p) where
    pub goes_on_adds : answer g p y ≡ goes_on → Adds g t ends p y goes_on
    unfolding told_along state_behind
    goes_on_adds e =
        let m = (answers_are_first g p y goes_on).0 e in
        let none : events_in g p y ≡ [] = events_in_none g y p m.0.eventless in (
          open_goes_on g c.readable ends c.tells p y on m.0 m.1,
          told_more p y ∙ ap (λ es. told_so_far g t p ++ told_along t (state_at g t p) es) none ∙
              append-nil (told_so_far g t p),
          state_more p y ∙ ap (state_behind t (state_at g t p)) none,
        )

    module _ (k : ℕ) (e : E) (is : answer g p y ≡ completes k e) where
      pub means : Means g p y (completes k e)
      means = (answers_are_first g p y (completes k e)).0 is

      here : events_in g p (take k y) ≡ e ∷ []
      here = completed_events g p y k e means.0 means.1 means.2

      over : is_over_at g (p ++ take k y) ≡ ends e
      over = over_behind g c.readable ends c.tells p y on k e means.0 means.1 means.2

      closes : ends e ≡ true → (more : List ℕ) → (report g t (p ++ (y ++ more)) ≡ told_so_far g t p
          ++ (t.told (state_at g t p) e ++ t.ends (t.next (state_at g t p) e) None))
          × (offence g (p ++ (y ++ more)) ≡ None)
      closes is_end more =
          let long : answer g p (y ++ more) ≡ completes k e = longer p y more (completes k e) is in
          let none = closed_behind g ends c (p ++ take k (y ++ more)) e
          ((answers_are_first g p (y ++ more) (completes k e)).0 long).2 is_end
          (over_behind g c.readable ends c.tells p (y ++ more) on k e
          ((answers_are_first g p (y ++ more) (completes k e)).0 long).0 means.1
          ((answers_are_first g p (y ++ more) (completes k e)).0 long).2 ∙ is_end)
          (drop k (y ++ more)) in
          let all = history_is_answers g p (y ++ more) ∙ ap (history_by g p (y ++ more)) long ∙
          ap (led_by (e ∷ [])) none in (
            open_report p (y ++ more) on
                ∙ ap (λ h. told_so_far g t p ++ told_of_history t (state_at g t p) h) all
                ∙ ap (λ l. told_so_far g t p ++ l) (told_led t (e ∷ []) (only None) (state_at g t p)
                ∙ ap (λ l. l ++ told_of_history t (state_behind t (state_at g t p) (e ∷ []))
                (only None)) (told_one t e (state_at g t p))
                ∙ ap (λ l. t.told (state_at g t p) e ++ l)
                (told_only t None (state_behind t (state_at g t p) (e ∷ [])) ∙
                ap (λ s. t.ends s None) (state_one t e (state_at g t p)))),
            open_offence p (y ++ more) on ∙ ap (λ (h : History E R). h.offence) all,
          )

      -- what is told of the event is due, whatever follows
      pub completes_due : (more : List ℕ) → (rest : List ℕ)
          × (report g t (p ++ (y ++ more)) ≡ told_so_far g t p
          ++ (t.told (state_at g t p) e ++ rest))
      completes_due more =
          let h : History E R = history_from g (p ++ take k (y ++ more)) (drop k (y ++ more)) in
          let rest : List ℕ = told_of_history t (state_behind t (state_at g t p) (e ∷ [])) h in (
            rest,
            open_report p (y ++ more) on
                ∙ ap (λ h. told_so_far g t p ++ told_of_history t (state_at g t p) h)
                (history_is_answers g p (y ++ more) ∙ ap (history_by g p (y ++ more))
                (longer p y more (completes k e) is))
                ∙ ap (λ l. told_so_far g t p ++ l)
                (told_led t (e ∷ []) h (state_at g t p) ∙ ap (λ l. l ++ rest)
                (told_one t e (state_at g t p))),
          )

      pub completes_adds : Adds g t ends p y (completes k e)
      completes_adds = (
        told_more p (take k y) ∙ ap (λ es. told_so_far g t p ++ told_along t (state_at g t p) es)
            here ∙ ap (λ l. told_so_far g t p ++ l) (told_one t e (state_at g t p)),
        state_more p (take k y) ∙ ap (state_behind t (state_at g t p)) here ∙ state_one t e
            (state_at g t p),
        open_completes g c.readable ends c.tells p y on k e means.0 means.1 means.2,
        closes,
      )

    pub offends_adds : (k : ℕ) (r : R) → answer g p y ≡ offends k r → Adds g t ends p y
        (offends k r)
    offends_adds k r e more =
        let all = history_is_answers g p (y ++ more) ∙ ap (history_by g p (y ++ more))
        (longer p y more (offends k r) e) in (
          open_report p (y ++ more) on ∙
              ap (λ h. told_so_far g t p ++ told_of_history t (state_at g t p) h) all ∙
              ap (λ l. told_so_far g t p ++ l) (told_only t (Some r) (state_at g t p)),
          open_offence p (y ++ more) on ∙ ap (λ (h : History E R). h.offence) all,
        )

    by_answer : (a : Answer E R) → answer g p y ≡ a → Adds g t ends p y a
    by_answer goes_on e = goes_on_adds e
    by_answer (completes k event) e = completes_adds k event e
    by_answer (offends k r) e = offends_adds k r e

  pub pieces_add : (ends : E → Bool) → Closes g ends → PiecesAdd g t ends
  pieces_add ends c p y on = by_answer ends c p y on (answer g p y) refl
