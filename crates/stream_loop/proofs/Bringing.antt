-- What bytes that are fed to a reading end bring behind the events so far: an event, the end, a
-- refusal, or nothing yet.
use Rattle.std.proofs.Common.{◌≡◌, ℕ, ◌<◌, ◌≤◌, ◌-◌, Bool, true, false, List, [], ◌∷◌, ◌++◌, length}
use Rattle.std.proofs.Common.{take, drop, Some, None, Ok, Err, Option, Result, sym, refl, ap, ◌∙◌}
use Rattle.std.proofs.Common.{append-nil, append_assoc, arith, inl, inr, length-append, length-take-le}
use Rattle.std.proofs.Common.{take-append-drop, take_all}
use Rattle.std.proofs.lemmas.{Bool.cases_lt, List.length-take, List.take-append-le, List.take-take}
use Rattle.unit_streams.proofs.{Answers.answers_are_first, Cuts.cuts_change_nothing}
use Rattle.unit_streams.proofs.Histories.{completed_events, events_in_none, history_is_answers}
use Rattle.unit_streams.proofs.Histories.{led_by_append}
use Rattle.unit_streams.proofs.Pending.{events_of_append, open_completes, open_going_on}
use Rattle.unit_streams.proofs.Ends.{not_over_along}
use Rattle.unit_streams.proofs.Pending.{open_goes_on, open_history, open_longer, open_pending}
use Rattle.unit_streams.proofs.Pending.{over_behind, pending_history}
use Rattle.unit_streams.proofs.Telling.{closed_behind}
use Rattle.unit_streams.specs.Going.{history_by, IsOpenAt, IsPending, IsQuietBefore}
use Rattle.unit_streams.specs.{Grammar.Grammar, Laws.raised, Laws.unless_decided}
use Rattle.unit_streams.specs.Judging.{Answer, answer, completes, ending_at, event_at, events, events_of}
use Rattle.unit_streams.specs.Judging.{goes_on, History, history, history_from, is_over_at, led_by}
use Rattle.unit_streams.specs.{Judging.offends, Judging.refusal_at, Tellers.Closes}
use Rattle.stream_loop.specs.declared.reading_end.FeedFault.{FeedFault}
use Rattle.stream_loop.specs.declared.reading_end.FeedFault.TheVariants.{Memory, Refused}
use Rattle.stream_loop.specs.{Answers.said, Answers.Says}
use Rattle.stream_loop.specs.Followed.{AreFirst, EndsWith, IsWhole}

-- the parts of what is said
module _ {E V R : Type 0} (f : E → V) where
  ok_parts : (m n : ℕ) (a b : Option V) → ◌≡◌ {A = Result (ℕ × Option V) (FeedFault R)} (Ok (m, a))
      (Ok (n, b)) → (m ≡ n) × (a ≡ b)
  ok_parts m n a b e = let pair : ◌≡◌ {A = ℕ × Option V} (m, a) (n, b) = cc in
      (ap (λ (q : ℕ × Option V). q.0) pair, ap (λ (q : ℕ × Option V). q.1) pair)

  said_more : (len n : ℕ) (a : Answer E R) → Ok (n, None) ≡ said f len a → (n ≡ len) × (a ≡ goes_on)
  said_more len n goes_on e = ((ok_parts n len None None e).0, refl)
  said_more len n (completes k event) e = let parts = (ok_parts n k None (Some (f event)) e).1 in cc
  said_more len n (offends k r) e = cc

  said_event : (len n : ℕ) (v : V) (a : Answer E R) → Ok (n, Some v) ≡ said f len a → (event : E)
      × (a ≡ completes n event) × (v ≡ f event)
  said_event len n v goes_on e = let parts = (ok_parts n len (Some v) None e).1 in cc
  said_event len n v (completes k event) e =
      let parts = ok_parts n k (Some v) (Some (f event)) e in
      let same : v ≡ f event = (let p = parts.1 in cc) in
      (event, ap (λ m. completes m event) (sym parts.0), same)
  said_event len n v (offends k r) e = cc

  said_refusal : (len : ℕ) (r : R) (a : Answer E R) → Err (Refused r) ≡ said f len a → (k : ℕ)
      × (a ≡ offends k r)
  said_refusal len r goes_on e = cc
  said_refusal len r (completes k event) e = cc
  said_refusal len r (offends k given) e = (k, cc)

  module _ (len : ℕ) (a : Answer E R) where
    says_ok : (r : Result (ℕ × Option V) (FeedFault R)) (v : ℕ × Option V) → r ≡ Ok v
        → Says f len a r → Ok v ≡ said f len a
    says_ok (Ok w) v is says = sym is ∙ says
    says_ok (Err (Refused r)) v is says = cc
    says_ok (Err Memory) v is says = cc

    says_refused : (r : Result (ℕ × Option V) (FeedFault R)) (refusal : R)
        → r ≡ Err (Refused refusal) → Says f len a r → Err (Refused refusal) ≡ said f len a
    says_refused (Ok w) refusal is says = cc
    says_refused (Err (Refused r)) refusal is says = sym is ∙ says
    says_refused (Err Memory) refusal is says = cc

module _ {Z U E R : Type 0} (g : Grammar Z U E R) where
  -- where the input ends
  pub whole_at_end : (p : List ℕ) → IsPending g p → IsWhole g (events_of g p) (ending_at g p) p
  whole_at_end p pending =
      let with_end : List E → History E R = λ l. record { events = l; offence = ending_at g p } in
      pending_history g p pending ∙ ap with_end (append-nil (events_of g p))

  -- the events of bytes behind which the stream may go on are first ones
  pub first_of_open : (q : List ℕ) → IsOpenAt g q → (more : List ℕ)
      → AreFirst g (events_of g q) (q ++ more)
  unfolding events
  first_of_open q on more = record {
    others = (history_from g q more).events;
    joined = ap (λ (h : History E R). h.events) (open_history g q more on);
  }

-- where the k-th byte of y behind p completes the event that ends the stream
module _ {Z U E R : Type 0} (g : Grammar Z U E R) (ends : E → Bool) (c : Closes g ends)
    (p y : List ℕ) (on : IsOpenAt g p) (k : ℕ) (e : E) (q : IsQuietBefore g p y k) (some : 0 < k)
    (last : event_at g (p ++ take k y) ≡ Some e) where
  abbrev before : List ℕ
  before = take (k - 1) y

  size : length before ≡ k - 1
  size = let within = q.within in length-take-le (k - 1) y (omega (arith, within))

  part : (i : ℕ) → i ≤ length before → take i before ≡ take i y
  part i le = take-take i (k - 1) y (omega (arith, le, size))

  going : IsOpenAt g (p ++ before)
  going = open_longer g p before on
      (λ i lt. ap (λ b. refusal_at g (p ++ b)) (part i (omega (arith, lt)))
      ∙ q.unrefused i (omega (arith, lt, size)))
      (not_over_along g c.readable ends c.tells before p (open_going_on g p on)
      (λ i more le. ap (λ b. event_at g (p ++ b)) (part i le)
      ∙ q.eventless i more (omega (arith, le, size, some))))

  pending : IsPending g (p ++ before)
  pending = open_pending g p before going (q.unrefused (k - 1) (omega (arith, some)))

  -- fewer bytes are some of those before the last one
  fewer : (n : ℕ) → n < length (p ++ take k y) → take n (p ++ take k y) ≡ take n (p ++ before)
  fewer n lt =
      let whole = length-append p (take k y) in
      let whole' = length-take-le k y q.within in
      let part' = length-append p before in
      sym (ap (take n) (append_assoc p before (drop (k - 1) (take k y))
      ∙ ap (λ b. p ++ b) (ap (λ b. b ++ drop (k - 1) (take k y))
      (sym (take-take (k - 1) k y (omega arith))) ∙ take-append-drop (k - 1) (take k y))))
      ∙ take-append-le n (p ++ before) (drop (k - 1) (take k y))
      (omega (arith, lt, whole, whole', part', size, some))

  pub ends_with : ends e ≡ true → EndsWith g (p ++ take k y)
  ends_with is_end = record {
    over = over_behind g c.readable ends c.tells p y on k e q some last ∙ is_end;
    first = λ n lt. record {
      unrefused = λ m. ap (λ b. refusal_at g (take m b)) (fewer n lt) ∙ at_part n m;
      going_on = λ m. ap (λ b. is_over_at g (take m b)) (fewer n lt) ∙ on_part n m;
    };
  } where
    all_part : (n m : ℕ) → n ≤ m → take m (take n (p ++ before)) ≡ take n (p ++ before)
    all_part n m le = take_all m (take n (p ++ before))
        (let short = length-take n (p ++ before) in omega (arith, le, short))

    at_part : (n m : ℕ) → refusal_at g (take m (take n (p ++ before))) ≡ None
    at_part n m = elim (cases_lt m n) [
      | inl lt ↦ ap (refusal_at g) (take-take m n (p ++ before) (omega (arith, lt)))
          ∙ pending.unrefused m
      | inr le ↦ ap (refusal_at g) (all_part n m le) ∙ pending.unrefused n
    ]

    on_part : (n m : ℕ) → is_over_at g (take m (take n (p ++ before))) ≡ false
    on_part n m = elim (cases_lt m n) [
      | inl lt ↦ ap (is_over_at g) (take-take m n (p ++ before) (omega (arith, lt)))
          ∙ pending.going_on m
      | inr le ↦ ap (is_over_at g) (all_part n m le) ∙ pending.going_on n
    ]

module _ {Z U E V R : Type 0} (g : Grammar Z U E R) (f : E → V) (ends : E → Bool)
    (c : Closes g ends) (p y : List ℕ) (on : IsOpenAt g p) (r : Result (ℕ × Option V) (FeedFault R))
    (says : is_over_at g p ≡ false → Says f (length y) (answer g p y) r) where
  says_so : Says f (length y) (answer g p y) r
  says_so = says (open_going_on g p on)

  longer : (a : Answer E R) (more : List ℕ) → answer g p y ≡ a
      → answer g p (y ++ more) ≡ unless_decided a (raised (length y) (answer g (p ++ y) more))
  longer a more e = cuts_change_nothing g p y more
      ∙ ap (λ a. unless_decided a (raised (length y) (answer g (p ++ y) more))) e

  -- what comes behind p, by the answer to y, whatever follows
  history_so : (a : Answer E R) (more : List ℕ) → answer g p (y ++ more) ≡ a
      → history g (p ++ (y ++ more)) ≡ led_by (events_of g p) (history_by g p (y ++ more) a)
  history_so a more long = open_history g p (y ++ more) on ∙ ap (led_by (events_of g p))
      (history_is_answers g p (y ++ more) ∙ ap (history_by g p (y ++ more)) long)

  -- nothing more
  pub brings_none : (n : ℕ) → r ≡ Ok (n, None) → (take n y ≡ y) × IsPending g (p ++ y)
      × (events_of g (p ++ y) ≡ events_of g p)
  brings_none n is =
      let so = said_more f (length y) n (answer g p y) (says_ok f (length y) (answer g p y) r
      (n, None) is says_so) in
      let m = (answers_are_first g p y goes_on).0 so.1 in (
        take_all n y (omega (arith, so.0)),
        open_goes_on g c.readable ends c.tells p y on m.0 m.1,
        events_of_append g p y
            ∙ ap (λ es. events_of g p ++ es) (events_in_none g y p m.0.eventless)
            ∙ append-nil (events_of g p),
      )

  -- a refusal
  pub brings_refusal : (refusal : R) → r ≡ Err (Refused refusal) → (more : List ℕ)
      → IsWhole g (events_of g p) (Some refusal) (p ++ (y ++ more))
  brings_refusal refusal is more =
      let so = said_refusal f (length y) refusal (answer g p y) (says_refused f (length y)
      (answer g p y) r refusal is says_so) in
      let judged : List E → History E R = λ l. record { events = l; offence = Some refusal } in
      history_so (offends so.0 refusal) more (longer (offends so.0 refusal) more so.1)
      ∙ ap judged (append-nil (events_of g p))

  -- an event that n bytes more complete
  pub record BringsEvent (n : ℕ) (v : V) : Type 0 where
    pub event : E
    pub is : v ≡ f event
    pub some : 0 < n
    pub within : n ≤ length y
    pub completed : event_at g (p ++ take n y) ≡ Some event
    pub events_are : events_of g (p ++ take n y) ≡ events_of g p ++ event ∷ []
    pub stays_open : ends event ≡ false → IsOpenAt g (p ++ take n y)
    pub ended : ends event ≡ true → EndsWith g (p ++ take n y)
    pub first : (more : List ℕ) → AreFirst g (events_of g p ++ event ∷ []) (p ++ (y ++ more))
    -- after the event that ends the stream it is judged
    pub last : ends event ≡ true → (more : List ℕ)
        → IsWhole g (events_of g p ++ event ∷ []) None (p ++ (y ++ more))

  pub brings_event : (n : ℕ) (v : V) → r ≡ Ok (n, Some v) → BringsEvent n v
  unfolding events
  brings_event n v is =
      let so = said_event f (length y) n v (answer g p y) (says_ok f (length y) (answer g p y) r
      (n, Some v) is says_so) in
      let e = so.0 in
      let m = (answers_are_first g p y (completes n e)).0 so.1 in
      record {
        event = e;
        is = so.2;
        some = m.1;
        within = m.0.within;
        completed = m.2;
        events_are = events_of_append g p (take n y)
            ∙ ap (λ es. events_of g p ++ es) (completed_events g p y n e m.0 m.1 m.2);
        stays_open = open_completes g c.readable ends c.tells p y on n e m.0 m.1 m.2;
        ended = λ is_end. ends_with g ends c p y on n e m.0 m.1 m.2 is_end;
        first = λ more. record {
          others = (history_from g (p ++ take n (y ++ more)) (drop n (y ++ more))).events;
          joined = ap (λ (h : History E R). h.events) (behind e so.1 more
              ∙ sym (led_by_append (events_of g p) (e ∷ [])
              (history_from g (p ++ take n (y ++ more)) (drop n (y ++ more)))));
        };
        last = λ is_end more.
            let long : answer g p (y ++ more) ≡ completes n e = longer (completes n e) more so.1 in
            let means = (answers_are_first g p (y ++ more) (completes n e)).0 long in
            let none = closed_behind g ends c (p ++ take n (y ++ more)) e means.2 is_end
            (over_behind g c.readable ends c.tells p (y ++ more) on n e means.0 means.1 means.2
            ∙ is_end) (drop n (y ++ more)) in
            let judged : List E → History E R = λ l. record { events = l; offence = None } in
            behind e so.1 more
            ∙ ap (λ h. led_by (events_of g p) (led_by (e ∷ []) h)) none
            ∙ ap judged (refl);
      } where
        behind : (e : E) → answer g p y ≡ completes n e → (more : List ℕ)
            → history g (p ++ (y ++ more)) ≡ led_by (events_of g p) (led_by (e ∷ [])
            (history_from g (p ++ take n (y ++ more)) (drop n (y ++ more))))
        behind e so more = history_so (completes n e) more (longer (completes n e) more so)
