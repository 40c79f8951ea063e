use Rattle.std.proofs.Common.{◌≡◌, ℕ, false, List, [], ◌∷◌, ◌++◌, map, length, take, Some, None}
use Rattle.std.proofs.Common.{Ok, Err, sym, ap, ◌∙◌, subst}
use Rattle.std.proofs.lemmas.List.{map-append}
use Rattle.unit_streams.proofs.Pending.{open_going_on, pending_open}
use Rattle.unit_streams.specs.{Grammar.Grammar, Judging.answer, Judging.event_at}
use Rattle.unit_streams.specs.Judging.{events_of, is_over_at}
use Rattle.stream_loop.specs.{declared.reading_end.FeedFault.TheVariants.Refused, Answers.Says}
use Rattle.stream_loop.specs.{Edges.Input, Resumed.HasComeTo}
use Rattle.stream_loop.proofs.Bringing.{brings_event, brings_none, brings_refusal, BringsEvent}
use Rattle.stream_loop.proofs.Bringing.{first_of_open}
use Rattle.stream_loop.proofs.Reading.{all_were_read, decides, decides_at, halted_at, handled_one}
use Rattle.stream_loop.proofs.Reading.{ran_out}
use Rattle.stream_loop.proofs.resuming.handle_next.{Given.Over, Goals.After-feed}
use Rattle.stream_loop.proofs.resuming.handle_next.Goals as goal

-- what is left is fed to an end that has read p
module _ (g : Over) (f : After-feed g) where
  abbrev x : Grammar g.E.ReadingEnd.Situation g.E.ReadingEnd.UnitOf g.E.ReadingEnd.Completed
      g.row.E-Refusal.Denot
  x = g.E.ReadingEnd.grammar f.args.end.now

  abbrev event_for : g.E.ReadingEnd.Completed → g.row.E-Event.Denot
  event_for = g.E.ReadingEnd.event_for

  abbrev y : List ℕ
  y = f.args.buffer.now

  abbrev HandledBy : g.row.O.Denot → g.row.H.Denot → g.row.O.Denot → List g.E.ReadingEnd.Completed
      → List g.E.ReadingEnd.Completed → Type 0
  HandledBy first handler output paused since =
      g.H.EventHandler.handled first (map event_for paused) (map event_for since) handler output

  module _ (i i' : Input) (first : g.row.O.Denot) (p : List ℕ)
      (h : HasComeTo x i i' (g.E.ReadingEnd.stands f.args.end.now)
      (HandledBy first f.args.handler.now f.args.output.now) p f.args.buffer.now) where
    says : is_over_at x p ≡ false → Says event_for (length y) (answer x p y) f.feed.result
    says on = subst (λ (l : List ℕ). Says event_for (length l) (answer x p l) f.feed.result)
        f.bytes.ensures.held (f.feed.ensures.answers p h.stands_for on)

    not_over : is_over_at x p ≡ false
    not_over = open_going_on x p h.on

    event : (n : ℕ) (v : g.row.E-Event.Denot) → f.feed.result ≡ Ok (n, Some v)
        → BringsEvent x event_for g.E.ReadingEnd.ends f.requires.closes p y h.on f.feed.result
        says n v
    event n v is = brings_event x event_for g.E.ReadingEnd.ends f.requires.closes p y h.on
        f.feed.result says n v is

    -- the values of one event more
    values_more : (e : g.E.ReadingEnd.Completed) (v : g.row.E-Event.Denot) → v ≡ event_for e
        → map event_for h.since ++ v ∷ [] ≡ map event_for (h.since ++ e ∷ [])
    values_more e v is = ap (λ w. map event_for h.since ++ w ∷ []) is
        ∙ sym (map-append event_for h.since (e ∷ []))

pub consume-requires : goal.consume-requires
consume-requires g c =
    let f : After-feed g = (goal.at-consume-requires g c).After-feed in
    let v = c.in-Ok-default-Some.event in
    let n = c.in-Ok-default-Some.n in
    let is : f.feed.result ≡ Ok (n, Some v) = (let a = c.in-Ok-default-Some.is in let
    b = c.in-Ok-default-Some.field-0-1-is in let d = c.in-Ok-default-Some.n-is in let
    e = c.in-Ok-default-Some.event-is in cc) in
    let r = f.requires.going in
    (event g f r.0 r.1 r.2 r.3 r.4 n v is).within

-- there was no memory to read on
pub returns-in-Err-Memory-clause-handles : goal.returns-in-Err-Memory-clause-handles
returns-in-Err-Memory-clause-handles g c = λ i i' first p h.
    let f : After-feed g = (goal.at-returns-in-Err-Memory-clause-handles g c).After-feed in
    ran_out (x g f) i i' _ _ p (y g f) h _ h.handled (first_of_open (x g f) p h.on)

-- a refusal
pub returns-in-Err-Refused-clause-handles : goal.returns-in-Err-Refused-clause-handles
returns-in-Err-Refused-clause-handles g c = λ i i' first p h.
    let f : After-feed g = (goal.at-returns-in-Err-Refused-clause-handles g c).After-feed in
    let o = c.in-Err-Refused.refusal in
    let is : f.feed.result ≡ Err (Refused o) = c.in-Err-Refused.is
    ∙ ap Err (c.in-Err-Refused.field-0-is ∙ ap Refused c.in-Err-Refused.refusal-is) in
    decides (x g f) i i' _ _ p (y g f) h _ (Some o) h.since h.handled (events_of (x g f) p)
    h.events_are (brings_refusal (x g f) (event_for g f) g.E.ReadingEnd.ends f.requires.closes p
    (y g f) h.on f.feed.result (says g f i i' first p h) o is) _ (λ e. cc)

-- nothing more
pub returns-in-Ok-default-None-clause-handles : goal.returns-in-Ok-default-None-clause-handles
returns-in-Ok-default-None-clause-handles g c = λ i i' first p h.
    let f : After-feed g = (goal.at-returns-in-Ok-default-None-clause-handles g c).After-feed in
    let n = c.in-Ok-default-None.field-0-0 in
    let is : f.feed.result ≡ Ok (n, None) = c.in-Ok-default-None.is
    ∙ ap (λ v. Ok (n, v)) c.in-Ok-default-None.field-0-1-is in
    let m = brings_none (x g f) (event_for g f) g.E.ReadingEnd.ends f.requires.closes p (y g f)
    h.on f.feed.result (says g f i i' first p h) n is in
    record {
      nothing = c.clear.ensures;
      pending = m.1;
      come = all_were_read (x g f) i i' _ _ p (y g f) h (g.E.ReadingEnd.stands c.feed.new.self) _
          (subst (λ (l : List ℕ). g.E.ReadingEnd.stands c.feed.new.self (p ++ l))
          (ap (take n) f.bytes.ensures.held ∙ m.0)
          (c.in-Ok-default-None.ensures.stands p h.stands_for (not_over g f i i' first p h)))
          (pending_open (x g f) (p ++ y g f) m.1) m.2 h.handled;
    }

-- the handler stopped
pub returns-in-Err-clause-handles : goal.returns-in-Err-clause-handles
returns-in-Err-clause-handles g c = λ i i' first p h.
    let f : After-feed g = (goal.at-returns-in-Err-clause-handles g c).After-feed in
    let v = c.in-Ok-default-Some.event in
    let n = c.in-Ok-default-Some.n in
    let is : f.feed.result ≡ Ok (n, Some v) = (let a = c.in-Ok-default-Some.is in let
    b = c.in-Ok-default-Some.field-0-1-is in let d = c.in-Ok-default-Some.n-is in let
    e = c.in-Ok-default-Some.event-is in cc) in
    let b = event g f i i' first p h n v is in
    halted_at (x g f) i i' _ _ p (y g f) h n b.event b.within b.events_are
    (g.E.ReadingEnd.stands c.feed.new.self) _
    (subst (λ (l : List ℕ). g.E.ReadingEnd.stands c.feed.new.self (p ++ take n l)) f.bytes.ensures.held
    (c.in-Ok-default-Some.ensures.stands p h.stands_for (not_over g f i i' first p h)))
    (subst (λ (w : g.row.E-Event.Denot). g.H.EventHandler.halted first
    (map (event_for g f) (events_of (x g f) h.before)) (map (event_for g f) h.since) (Some w)
    c.in-Err.halt c.handle.new.self c.handle.new.output) b.is
    (c.in-Err.ensures.halted first _ _ h.handled)) c.consume.new.self
    c.consume.ensures b.first g.E.ReadingEnd.ends b.stays_open b.last

-- an end
pub returns-then-is_last-clause-handles : goal.returns-then-is_last-clause-handles
returns-then-is_last-clause-handles g c = λ i i' first p h.
    let f : After-feed g = (goal.at-returns-then-is_last-clause-handles g c).After-feed in
    let v = c.in-Ok-default-Some.event in
    let n = c.in-Ok-default-Some.n in
    let is : f.feed.result ≡ Ok (n, Some v) = (let a = c.in-Ok-default-Some.is in let
    b = c.in-Ok-default-Some.field-0-1-is in let d = c.in-Ok-default-Some.n-is in let
    e = c.in-Ok-default-Some.event-is in cc) in
    let b = event g f i i' first p h n v is in
    let is_end = sym (c.is_end-is_last.ensures (p ++ take n (y g f)) b.event
    (ap (λ s. event_at s (p ++ take n (y g f))) c.in-Ok-default-Some.ensures.grammar ∙ b.completed)
    b.is) ∙ c.if-is_last.true in
    decides_at (x g f) i i' _ _ p (y g f) h n b.event b.within b.events_are _
    (rw (← values_more g f i i' first p h b.event v b.is)
    (c.in-Ok.ensures.handled first _ _ h.handled))
    (b.last is_end) (b.ended is_end) c.consume.new.self c.consume.ensures

-- one more event
pub returns-else-is_last-clause-handles : goal.returns-else-is_last-clause-handles
returns-else-is_last-clause-handles g c = λ i i' first p h.
    let f : After-feed g = (goal.at-returns-else-is_last-clause-handles g c).After-feed in
    let v = c.in-Ok-default-Some.event in
    let n = c.in-Ok-default-Some.n in
    let is : f.feed.result ≡ Ok (n, Some v) = (let a = c.in-Ok-default-Some.is in let
    b = c.in-Ok-default-Some.field-0-1-is in let d = c.in-Ok-default-Some.n-is in let
    e = c.in-Ok-default-Some.event-is in cc) in
    let b = event g f i i' first p h n v is in
    handled_one (x g f) i i' _ _ p (y g f) h n b.event b.within b.events_are
    (g.E.ReadingEnd.stands c.hand_back.new.end) _ b.some
    (c.hand_back.ensures.stands _
    (subst (λ (l : List ℕ). g.E.ReadingEnd.stands c.feed.new.self (p ++ take n l)) f.bytes.ensures.held
    (c.in-Ok-default-Some.ensures.stands p h.stands_for (not_over g f i i' first p h))))
    (b.stays_open (sym (c.is_end-is_last.ensures (p ++ take n (y g f)) b.event
    (ap (λ s. event_at s (p ++ take n (y g f))) c.in-Ok-default-Some.ensures.grammar ∙ b.completed)
    b.is) ∙ c.if-is_last.false))
    (rw (← values_more g f i i' first p h b.event v b.is)
    (c.in-Ok.ensures.handled first _ _ h.handled))
    c.consume.new.self c.consume.ensures
