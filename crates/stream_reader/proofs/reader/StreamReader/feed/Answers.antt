use Rattle.std.proofs.Common.{◌≡◌, ℕ, ◌+◌, ◌-◌, ◌<◌, ◌≤◌, true, false, List, ◌++◌, length, take}
use Rattle.std.proofs.Common.{drop, Some, Ok, Err, Result, sym, refl, ap, ◌∙◌, subst, inl, inr}
use Rattle.std.proofs.Common.{arith, length-append, length-drop, take-append-drop, length-take-le}
use Rattle.std.proofs.lemmas.Bool.{cases_lt}
use Rattle.unit_streams.specs.Judging.{event_at, is_over_at}
use Rattle.nbfx_values.specs.declared.refusals.{Offence.Offence, Reason.TheVariants.SessionTooLong}
use Rattle.stream_reader.specs.declared.reader.{ReadRefusal.ReadRefusal, StreamStep.StreamStep}
use Rattle.stream_reader.specs.declared.reader.ReadRefusal.TheVariants.{Offence as Refused}
use Rattle.stream_reader.specs.{declared.reader.StreamReader.StreamReader, Saying.Repeats}
use Rattle.stream_reader.specs.Stepping.{has_ended, taken_since, UnitAnswers}
use Rattle.stream_reader.specs.Stream.{offence_at, Settings, stream}
use Rattle.stream_reader.specs.StreamReaderState.{failure_of, Reached, settings_of, StandsFor}
use Rattle.stream_reader.proofs.FeedSteps.{Along, along_end, along_event, along_more, along_none}
use Rattle.stream_reader.proofs.FeedSteps.{along_refused, along_too_long, fails_at_once}
use Rattle.stream_reader.proofs.FeedSteps.{fails_since, Fed, FedRefused, says_refused, some_taken}
use Rattle.stream_reader.proofs.FeedSteps.{unit_by, wanted_payloads}
use Rattle.stream_reader.proofs.ReaderFacts.{not_failed, open_as_opened, over_as_ended}
use Rattle.stream_reader.proofs.ReaderFacts.{refused_shows, repeats_end, same_settings}
use Rattle.stream_reader.proofs.reader.StreamReader.feed.Goals.{At-loop-used}
use Rattle.stream_reader.specs.declared.reader.StreamStep.TheVariants as steps
use Rattle.stream_reader.proofs.reader.StreamReader.feed.Goals as goal

session_is : (r other : StreamReader) → settings_of r ≡ settings_of other → r.quotas.session
    ≡ other.quotas.session
unfolding settings_of
session_is r other e = ap (λ (x : Settings). x.limits.session) e

session_of : (r : StreamReader) → (settings_of r).limits.session ≡ r.quotas.session
unfolding settings_of
session_of r = refl

-- a refused reader stands for no stream
pub returns-in-Some-clause-answers : goal.returns-in-Some-clause-answers
unfolding StandsFor
returns-in-Some-clause-answers c = λ p stands on. absurd
    (not_failed c.args.self.now _ p _ stands c.in-Some.is)

pub returns-in-Some-clause-wanted : goal.returns-in-Some-clause-wanted
unfolding StandsFor
returns-in-Some-clause-wanted c = λ p stands wanted. absurd
    (not_failed c.args.self.now _ p _ stands c.in-Some.is)

pub returns-in-Some-clause-ended : goal.returns-in-Some-clause-ended
unfolding StandsFor
returns-in-Some-clause-ended c = λ p stands over. absurd
    (not_failed c.args.self.now _ p _ stands c.in-Some.is)

pub returns-in-Some-clause-repeated : goal.returns-in-Some-clause-repeated
unfolding failure_of
returns-in-Some-clause-repeated c = λ refusal e. let is = c.in-Some.is in cc

pub returns-in-Some-clause-failed : goal.returns-in-Some-clause-failed
unfolding StandsFor
returns-in-Some-clause-failed c = λ p stands on. absurd
    (not_failed c.args.self.now _ p _ stands c.in-Some.is)

pub returns-in-Some-clause-refused : goal.returns-in-Some-clause-refused
unfolding failure_of
returns-in-Some-clause-refused c = c.in-Some.is

-- it has ended exactly where it is over
over_is : (r : StreamReader) (p : List ℕ) → StandsFor r p → is_over_at (stream (settings_of r)) p
    ≡ has_ended r.awaited
unfolding StandsFor
over_is r p stands = over_as_ended r (settings_of r) p stands

pub returns-then-has_ended-clause-answers : goal.returns-then-has_ended-clause-answers
returns-then-has_ended-clause-answers c = λ p stands on. let over = over_is c.args.self.now p stands
    in let ended = c.has_ended.ensures in let true_here = c.if-has_ended.true in cc

pub returns-then-has_ended-clause-repeated : goal.returns-then-has_ended-clause-repeated
unfolding failure_of
returns-then-has_ended-clause-repeated c = λ refusal e. absurd (c.in_default.not-Some refusal e)

pub returns-then-has_ended-clause-ended : goal.returns-then-has_ended-clause-ended
unfolding StandsFor
returns-then-has_ended-clause-ended c = λ p stands over.
    subst (λ (step : StreamStep). Repeats (event_at (stream (settings_of c.args.self.now)) p)
    (Ok (0, step)))
    (sym c.closing_step.ensures) (repeats_end c.args.self.now (settings_of c.args.self.now) p stands
    over)

pub loop-used-init : goal.loop-used-init
unfolding StandsFor
loop-used-init c = record {
  within = omega arith;
  settings = refl;
  taken = omega arith;
  along = λ p stands on. along_none (settings_of c.args.self.now) p c.args.piece.now c.args.self.now
      stands on;
}

-- the bytes that a unit is read from, and those behind them
module _ (piece : List ℕ) (used room : ℕ) where
  abbrev here : List ℕ
  here = take (room - used) (drop used piece)

  abbrev behind : List ℕ
  behind = drop (room - used) (drop used piece)

  split : drop used piece ≡ here ++ behind
  split = sym (take-append-drop (room - used) (drop used piece))

  here_len : used ≤ room → room ≤ length piece → length here ≡ room - used
  here_len le within = length-take-le (room - used) (drop used piece)
      (let n = length-drop used piece in omega (arith, le, within, n))

pub unit-requires-clause-fits : goal.unit-requires-clause-fits
unit-requires-clause-fits c =
    let piece : List ℕ = c.args.piece.now in
    let inv = c.loop-used.invariant in
    let len = here_len piece c.loop-used.used c.room-room.result inv.within
    c.room-room.ensures.within in
    let session = session_is _ _ inv.settings in
    elim (cases_lt c.args.self.now.quotas.session c.args.self.now.taken) [
      | inl past ↦ let none = c.room-room.ensures.none past in absurd
          (omega (arith, none, c.loop-used-test.true))
      | inr le ↦ let fits = c.room-room.ensures.quota le in omega
          (arith, fits, len, inv.taken, session, inv.within)
    ]

-- a piece that fits is used whole
all_used : (room len session taken : ℕ) → room ≤ len → (room < len → session ≤ taken + room) → taken
    + room < session → room ≡ len
all_used room len session taken within full short =
    elim (cases_lt room len) [
      | inl less ↦ let past = full less in absurd (omega (arith, past, short))
      | inr le ↦ omega (arith, within, le)
    ]

stands_by : (new : StreamReader) (q : List ℕ) (x : Settings) → settings_of new ≡ x → Reached new x q
    → StandsFor new q
unfolding StandsFor
stands_by new q x e h = subst (λ (s : Settings). Reached new s q) (sym e) h

-- some bytes of the piece are used, of a session that wasn't over
module _ (f : At-loop-used) where
  abbrev x : Settings
  x = settings_of f.args.self.now

  abbrev piece : List ℕ
  piece = f.args.piece.now

  abbrev used : ℕ
  used = f.loop-used.used

  abbrev room : ℕ
  room = f.room-room.result

  on : (p : List ℕ) → StandsFor f.args.self.now p → is_over_at (stream x) p ≡ false
  on p stands = over_is f.args.self.now p stands ∙ sym f.has_ended.ensures ∙ f.if-has_ended.false

  so_far : (p : List ℕ) → StandsFor f.args.self.now p → Along f.loop-used.self x p piece used
  so_far p stands = f.loop-used.invariant.along p stands (on p stands)

  -- so what is said of one that was over, or of a reader that had refused, is said of none
  no_end : {A : Type 0} (p : List ℕ) → StandsFor f.args.self.now p → is_over_at (stream x) p ≡ true
      → A
  no_end p stands over = let not_over = on p stands in cc

  no_refusal : (A : ReadRefusal → Type 0) (refusal : ReadRefusal) → failure_of f.args.self.now
      ≡ Some refusal → A refusal
  unfolding failure_of
  no_refusal A refusal e = absurd (f.in_default.not-Some refusal e)

  -- what a unit answers
  unit_answers : (new : StreamReader) (result : Result (ℕ × StreamStep) ReadRefusal)
      → ((p : List ℕ) → StandsFor f.loop-used.self p
      → is_over_at (stream (settings_of f.loop-used.self)) p ≡ false
      → UnitAnswers (settings_of f.loop-used.self) p (here piece used room) new result)
      → (p : List ℕ) → StandsFor f.args.self.now p → UnitAnswers x (p ++ take used piece)
      (here piece used room) new result
  unit_answers new result answers p stands =
      let a = so_far p stands in
      unit_by f.loop-used.self x (p ++ take used piece) (here piece used room) new result
      f.loop-used.invariant.settings answers a.reached a.on

  settings_still : (new : StreamReader) → settings_of new ≡ settings_of f.loop-used.self
      → settings_of new ≡ x
  settings_still new e = e ∙ f.loop-used.invariant.settings

pub loop-used-preserved : goal.loop-used-preserved
loop-used-preserved c =
    let f : At-loop-used = (goal.at-loop-used-preserved c).At-loop-used in
    let inv = c.loop-used.invariant in
    record {
      within = let len = here_len (piece f) (used f) (room f) inv.within c.room-room.ensures.within
          in omega (arith, c.in-Ok.ensures.within, inv.within, len);
      settings = settings_still f c.unit.new.self c.in-Ok.ensures.settings;
      taken = omega (arith, c.in-Ok.ensures.taken, inv.taken);
      along = λ p stands on.
          let a = inv.along p stands on in
          let u = rw c.in-More.is at (unit_answers f c.unit.new.self (Ok c.in-Ok.answer)
          c.in-Ok.ensures.answers p stands) in
          along_more (x f) p (piece f) c.loop-used.self (used f) a
          (here (piece f) (used f) (room f)) (behind (piece f) (used f) (room f))
          (split (piece f) (used f) (room f)) c.unit.new.self c.in-Ok.answer.0 u;
    }

-- a refusal of a unit
pub returns-in-Err : goal.returns-in-Err
unfolding failure_of StandsFor
returns-in-Err c =
    let f : At-loop-used = (goal.at-returns-in-Err c).At-loop-used in
    let new : StreamReader = c.refused_since.new.self in
    let settings = same_settings c.unit.new.self new c.refused_since.ensures.shown.side
    c.refused_since.ensures.shown.statics c.refused_since.ensures.shown.quotas ∙ settings_still f
    c.unit.new.self c.in-Err.ensures.settings in
    let told : (p : List ℕ) → StandsFor c.args.self.now p → FedRefused c.unit.new.self (x f) p
    (piece f) c.in-Err.refusal
    = λ p stands.
    let a = so_far f p stands in
    along_refused (x f) p (piece f) c.loop-used.self (used f) a (here (piece f) (used f) (room f))
    (behind (piece f) (used f) (room f)) (split (piece f) (used f) (room f)) c.unit.new.self
    c.in-Err.refusal (unit_answers f c.unit.new.self (Err c.in-Err.refusal) c.in-Err.ensures.answers
    p stands) in
    rw c.refused_since.ensures.same (record {
      within = tt;
      answers = λ p stands on. says_refused c.unit.new.self (x f) p (piece f) c.in-Err.refusal
          (told p stands);
      wanted = λ p stands is. wanted_payloads c.unit.new.self (x f) p (piece f) c.in-Err.refusal
          (told p stands) (let e = is in cc);
      ended = λ p stands over. no_end f p stands over;
      repeated = no_refusal f _;
      unchanged = no_refusal f _;
      stands = λ p stands. tt;
      failed = λ p stands on.
          fails_since c.unit.new.self new (x f) p (piece f) c.in-Err.refusal settings
          c.refused_since.ensures.shown c.refused_since.ensures.failure
          (c.refused_since.ensures.taken ∙
          ap (λ n. taken_since n c.unit.new.self.taken c.in-Err.refusal) stands.taken)
          (told p stands);
      refused = c.refused_since.ensures.failure ∙ c.in-Err.ensures.refused;
      settings = settings;
    })

-- a unit uses some byte
pub returns-then-n-eq0 : goal.returns-then-n-eq0
unfolding failure_of StandsFor
returns-then-n-eq0 c =
    let f : At-loop-used = (goal.at-returns-then-n-eq0 c).At-loop-used in
    let inv = c.loop-used.invariant in
    let never : (p : List ℕ) → StandsFor c.args.self.now p → ⊥
    = λ p stands.
    let a = so_far f p stands in
    let some = some_taken (x f) p (piece f) c.loop-used.self (used f) a
    (here (piece f) (used f) (room f)) (behind (piece f) (used f) (room f))
    (split (piece f) (used f) (room f)) c.unit.new.self c.in-Ok.answer.0 c.in-Ok.answer.1
    (unit_answers f c.unit.new.self (Ok c.in-Ok.answer) c.in-Ok.ensures.answers p stands) in
    omega (arith, some, c.if-n-eq0.true) in
    record {
      within = let len = here_len (piece f) (used f) (room f) inv.within c.room-room.ensures.within
          in omega (arith, c.in-Ok.ensures.within, inv.within, len, c.room-room.ensures.within);
      answers = λ p stands on. absurd (never p stands);
      wanted = λ p stands wanted. absurd (never p stands);
      ended = λ p stands over. no_end f p stands over;
      repeated = no_refusal f _;
      unchanged = no_refusal f _;
      stands = λ p stands. absurd (never p stands);
      failed = λ p stands on. tt;
      refused = tt;
      settings = settings_still f c.unit.new.self c.in-Ok.ensures.settings;
    }

-- an event
pub returns-in_default-step : goal.returns-in_default-step
unfolding failure_of
returns-in_default-step c =
    let f : At-loop-used = (goal.at-returns-in_default-step c).At-loop-used in
    let n : ℕ = c.in-Ok.answer.0 in
    let inv = c.loop-used.invariant in
    let settings = settings_still f c.unit.new.self c.in-Ok.ensures.settings in
    let told : (p : List ℕ) → StandsFor c.args.self.now p → Fed c.unit.new.self (x f) p (piece f)
    (used f + n) c.in-Ok.answer.1
    = λ p stands.
    let a = so_far f p stands in
    along_event (x f) p (piece f) c.loop-used.self (used f) a (here (piece f) (used f) (room f))
    (behind (piece f) (used f) (room f)) (split (piece f) (used f) (room f)) c.unit.new.self n
    c.in-Ok.answer.1 c.in_default-step.not-More
    (unit_answers f c.unit.new.self (Ok c.in-Ok.answer) c.in-Ok.ensures.answers p stands) in
    record {
      within = let len = here_len (piece f) (used f) (room f) inv.within c.room-room.ensures.within
          in omega (arith, c.in-Ok.ensures.within, inv.within, len, c.room-room.ensures.within);
      answers = λ p stands on. sym (told p stands).0;
      wanted = λ p stands wanted. cc;
      ended = λ p stands over. no_end f p stands over;
      repeated = no_refusal f _;
      unchanged = no_refusal f _;
      stands = λ p stands. stands_by c.unit.new.self (p ++ take (used f + n) (piece f)) (x f)
          settings (told p stands).1;
      failed = λ p stands on. tt;
      refused = tt;
      settings = settings;
    }

-- the session quota is reached
pub returns-then-self : goal.returns-then-self
unfolding failure_of StandsFor
returns-then-self c =
    let f : At-loop-used = (goal.at-returns-then-self c).At-loop-used in
    let inv = c.loop-used.invariant in
    let new : StreamReader = c.refuse.new.self in
    let kept = c.refuse.ensures.shown in
    let settings = settings_still f new (same_settings c.loop-used.self new kept.side kept.statics
    kept.quotas) in
    let o : Offence = offence_at c.open_from-from.result SessionTooLong in
    let told : (p : List ℕ) → StandsFor c.args.self.now p → FedRefused new (x f) p (piece f)
    (Refused o)
    = λ p stands.
    let a = so_far f p stands in
    let here_len : length (p ++ take (used f) (piece f)) ≡ length p + used f = let m = length-append
    p (take (used f) (piece f)) in let k = length-take-le (used f) (piece f) a.quiet.within in omega
    (arith, m, k) in
    let long : (x f).limits.session ≤ length (p ++ take (used f) (piece f)) = let session =
    session_of c.args.self.now in omega (
      arith,
      c.if-self.true,
      a.reached.taken,
      session_is _ _
          inv.settings,
      session,
    ) in
    along_too_long (x f) p (piece f) c.loop-used.self (used f) a new o long
    (ap (λ n. offence_at n SessionTooLong)
    (c.open_from-from.ensures ∙ sym (open_as_opened c.loop-used.self (x f) _ a.reached)))
    (refused_shows c.loop-used.self new (x f) (p ++ take (used f) (piece f)) (Refused o)
    (length p + used f) a.reached (c.refuse.ensures.failure ∙ ap Some c.refuse.ensures.offence)
    (c.refuse.ensures.taken ∙ a.reached.taken ∙ here_len) kept) in
    rw c.refuse.ensures.offence (record {
      within = tt;
      answers = λ p stands on. says_refused new (x f) p (piece f) (Refused o) (told p stands);
      wanted = λ p stands is. cc;
      ended = λ p stands over. no_end f p stands over;
      repeated = no_refusal f _;
      unchanged = no_refusal f _;
      stands = λ p stands. tt;
      failed = λ p stands on. fails_at_once new (x f) p (piece f) o settings (told p stands);
      refused = c.refuse.ensures.failure ∙ ap Some c.refuse.ensures.offence;
      settings = settings;
    })

-- the piece is used up
pub returns : goal.returns
unfolding failure_of
returns c =
    let f : At-loop-used = (goal.at-returns c).At-loop-used in
    let inv = c.loop-used.invariant in
    let at_room : used f ≡ room f = omega (arith, inv.within, c.loop-used-test.false) in
    let session = session_is _ _ inv.settings in
    let short : c.args.self.now.taken + room f < c.args.self.now.quotas.session = omega
    (arith, c.if-self.false, inv.taken, at_room, session) in
    let all : used f ≡ length (piece f) = at_room ∙ all_used (room f) (length (piece f))
    c.args.self.now.quotas.session c.args.self.now.taken c.room-room.ensures.within
    c.room-room.ensures.full short in
    let told : (p : List ℕ) → StandsFor c.args.self.now p → Fed c.loop-used.self (x f) p (piece f)
    (used f) steps.More
    = λ p stands.
    let a = so_far f p stands in
    along_end (x f) p (piece f) c.loop-used.self (used f) a steps.More all
    (let quota = session_of c.args.self.now in omega
    (arith, c.if-self.false, a.reached.taken, session, quota)) refl in
    record {
      within = omega (arith, all);
      answers = λ p stands on. sym (told p stands).0;
      wanted = λ p stands wanted. cc;
      ended = λ p stands over. no_end f p stands over;
      repeated = no_refusal f _;
      unchanged = no_refusal f _;
      stands = λ p stands. stands_by c.loop-used.self (p ++ take (used f) (piece f)) (x f)
          inv.settings (told p stands).1;
      failed = λ p stands on. tt;
      refused = tt;
      settings = inv.settings;
    }
