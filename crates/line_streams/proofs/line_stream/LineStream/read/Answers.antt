use Rattle.std.proofs.Common.{◌≡◌, ℕ, ◌+◌, ◌-◌, ◌≤◌, true, List, [], ◌++◌, length, take, drop, OnOk}
use Rattle.std.proofs.Common.{None, Ok, Err, Option, Result, sym, refl, ap, ◌∙◌, subst, arith}
use Rattle.std.proofs.{Common.length-take-le, lemmas.Result.err_from_is_err_and}
use Rattle.memchr.specs.Find.{is_byte, NoneBefore, Passes}
use Rattle.stream_loop.specs.declared.reading_end.FeedFault.{FeedFault, TheVariants.Refused}
use Rattle.line_notation.specs.Lines.{has_no_feed}
use Rattle.line_streams.specs.LineRules.{LineRules}
use Rattle.line_streams.specs.LineStreamState.{LineAnswers, Reached}
use Rattle.line_streams.proofs.Feeding.{all_used, Along, along_end, along_event, along_more}
use Rattle.line_streams.proofs.Feeding.{along_none, along_refused, along_too_long, Answers, unread}
use Rattle.line_streams.proofs.Feeding.{unread_front, unread_length}
use Rattle.line_streams.proofs.Finding.{line_end, none_found}
use Rattle.line_streams.proofs.StreamFacts.{unit_begin, unit_line, UnitAnswers}
use Rattle.line_streams.proofs.line_stream.LineStream.read.{Given.Over, Goals.At-loop-end}
use Rattle.line_streams.proofs.line_stream.LineStream.read.Goals as goal

pub loop-end-init : goal.loop-end-init
loop-end-init g c = record {
  within = omega arith;
  settings = refl;
  most = refl;
  taken = omega arith;
  along = λ most p h.
      let s = c.args.self.now in
      let x = g.L.LineEnd.rules (g.L.LineEnd.settings s.lines) in
      along_none x p c.args.piece.now
      (Reached x (g.L.LineEnd.is_in s.lines) s.begun.items s.taken) h;
}

-- some bytes of the piece are used
module _ (g : Over) (f : At-loop-end g) where
  abbrev Situation : Type 0
  Situation = g.L.LineEnd.Situation

  abbrev Rules : Type 0
  Rules = LineRules Situation g.row.L-Event.Denot g.row.L-Refusal.Denot

  abbrev x : Rules
  x = g.L.LineEnd.rules (g.L.LineEnd.settings f.args.self.now.lines)

  abbrev piece : List ℕ
  piece = f.args.piece.now

  abbrev used : ℕ
  used = f.loop-end.used

  abbrev room : ℕ
  room = f.room-room.result

  abbrev c : List ℕ
  c = unread piece used room

  -- how many they are
  size : length c ≡ room - used
  size = unread_length piece used room f.loop-end.invariant.within f.room-room.ensures.within

  -- a reader of these lines has come to here
  abbrev Now : (lines : g.row.L.Denot) (begun : List ℕ) (taken : ℕ) → List ℕ → Type 0
  Now lines begun taken = Reached x (g.L.LineEnd.is_in lines) begun taken

  abbrev Before : List ℕ → Type 0
  Before = Now f.args.self.now.lines f.args.self.now.begun.items f.args.self.now.taken

  abbrev so_far : (most : x.most ≡ f.args.self.now.most) (p : List ℕ) → Before p
      → Along x (Now f.loop-end.self.lines f.loop-end.self.begun.items f.loop-end.self.taken) p
      piece used
  so_far most p h = f.loop-end.invariant.along most p h

  fits : x.most ≡ f.args.self.now.most → f.loop-end.self.taken + length c ≤ x.most
  fits most =
      let taken = f.loop-end.invariant.taken in
      let within = f.loop-end.invariant.within in
      let room_fits = f.room-room.ensures.fits in
      let len = size in
      omega (arith, most, taken, within, room_fits, len)

  -- what the line is answered with that ends before a line feed which was found
  module _ (k : ℕ) (low : NoneBefore (Passes (is_byte 10) c) 0 (length c) k)
      (found : Passes (is_byte 10) c k)
    where
      abbrev bytes : List ℕ
      bytes = take (used + k - used) (drop used piece)

      within : k ≤ length c
      within = let high = low.high in omega (arith, high)

      further : used + (k + 1) ≤ room
      further =
          let high = low.high in
          let so_far = f.loop-end.invariant.within in
          let len = size in
          omega (arith, high, so_far, len)

      bytes_are : bytes ≡ take k c
      bytes_are = unread_front piece used room k within

      count : length bytes ≡ k
      count = ap length bytes_are ∙ length-take-le k c within

      line_answers : (lines : g.row.L.Denot) (begun : List ℕ) (taken : ℕ)
          (result : Result (Option g.row.L-Event.Denot) (FeedFault g.row.L-Refusal.Denot))
          → taken ≡ f.loop-end.self.taken + length bytes + 1 → OnOk result (begun ≡ [])
          → ((z : Situation) → g.L.LineEnd.is_in f.loop-end.self.lines z
          → LineAnswers (g.L.LineEnd.rules (g.L.LineEnd.settings f.loop-end.self.lines))
          (g.L.LineEnd.is_in lines) z (f.loop-end.self.begun.items ++ bytes) result)
          → (most : x.most ≡ f.args.self.now.most) (p : List ℕ) → Before p
          → UnitAnswers x (p ++ take used piece) c (k + 1) (Now lines begun taken) result
      line_answers lines begun taken result more none answers most p h =
          let so = f.loop-end.self in
          let Answered : Rules → List ℕ → Situation → Type 0
          = λ r b z. LineAnswers r (g.L.LineEnd.is_in lines) z (so.begun.items ++ b) result in
          unit_line x (g.L.LineEnd.silent (g.L.LineEnd.settings f.args.self.now.lines))
          (g.L.LineEnd.is_in so.lines) (g.L.LineEnd.is_in lines) so.begun.items begun so.taken taken
          c (fits most) k (line_end c k low found) within
          (let n = count in omega (arith, more, n)) result none
          (λ z at. subst (λ (r : Rules). Answered r (take k c) z)
          (ap g.L.LineEnd.rules f.loop-end.invariant.settings)
          (subst (λ (b : List ℕ).
          Answered (g.L.LineEnd.rules (g.L.LineEnd.settings so.lines)) b z) bytes_are
          (answers z at))) (p ++ take used piece) (so_far most p h).reached

  -- the rest has no line feed: it is the front of an unfinished line
  rest_begun : has_no_feed c ≡ true → (lines : g.row.L.Denot) (begun : List ℕ) (taken : ℕ)
      → lines ≡ f.loop-end.self.lines → begun ≡ f.loop-end.self.begun.items ++ c
      → taken ≡ f.loop-end.self.taken + length c
      → (most : x.most ≡ f.args.self.now.most) (p : List ℕ) → Before p
      → Along x (Now lines begun taken) p piece room
  rest_begun free lines begun taken same more_begun more_taken most p h =
      let so = f.loop-end.self in
      let within = f.loop-end.invariant.within in
      let len = size in
      let all : used + length c ≡ room = omega (arith, within, len) in
      let a = so_far most p h in
      subst (λ (n : ℕ). Along x (Now lines begun taken) p piece n) all
      (along_more x p piece (g.L.LineEnd.is_in so.lines) so.begun.items so.taken used a room
      (Now lines begun taken) (length c) None refl
      (unit_begin x (g.L.LineEnd.silent (g.L.LineEnd.settings f.args.self.now.lines))
      (g.L.LineEnd.is_in so.lines) (g.L.LineEnd.is_in lines) so.begun.items begun so.taken taken c
      (fits most) free more_taken
      (λ z. subst (λ (l : g.row.L.Denot). g.L.LineEnd.is_in l z) (sym same)) more_begun
      (p ++ take used piece) a.reached))

-- a line brings nothing
pub loop-end-preserved : goal.loop-end-preserved
loop-end-preserved g c =
    let f : At-loop-end g = (goal.at-loop-end-preserved g c).At-loop-end in
    let inv = c.loop-end.invariant in
    let k = c.in-Some.end in
    let found = c.in-Some.ensures in
    let n = c.end_line.new.self in
    let e = c.in_ok-event.ensures in
    let so = f.loop-end.self in
    record {
      within = further g f k found.0 found.1;
      settings = e.settings ∙ inv.settings;
      most = e.most ∙ inv.most;
      taken =
          let more = e.taken in
          let same = count g f k found.0 found.1 in
          omega (arith, more, same, inv.taken);
      along = λ most p h. along_more (x g f) p (piece g f) (g.L.LineEnd.is_in so.lines)
          so.begun.items so.taken (used g f) (so_far g f most p h) (room g f)
          (Now g f n.lines n.begun.items n.taken) (k + 1) c.in_ok-event.event
          (sym c.is_some.ensures ∙ c.if-is_some.false)
          (line_answers g f k found.0 found.1 n.lines n.begun.items n.taken
          (Ok c.in_ok-event.event) e.taken e.begun e.answers most p h);
    }

-- a line is refused, or there is no memory
pub returns-in_err-event-clause-answers : goal.returns-in_err-event-clause-answers
returns-in_err-event-clause-answers g c =
    let f : At-loop-end g = (goal.at-returns-in_err-event-clause-answers g c).At-loop-end in
    let k = c.in-Some.end in
    let found = c.in-Some.ensures in
    let n = c.end_line.new.self in
    let e = c.in_err-event.ensures in
    let so = f.loop-end.self in
    let fault = c.in_err-event.field-0.0 in
    let r = err_from_is_err_and c.from_residual.result c.from_residual.ensures.1 in
    λ most p h. rw (r.1, r.2) (
      along_refused (x g f) p (piece g f) (g.L.LineEnd.is_in so.lines) so.begun.items so.taken
          (used g f) (so_far g f most p h) (room g f) (Now g f n.lines n.begun.items n.taken)
          (k + 1) fault
          (line_answers g f k found.0 found.1 n.lines n.begun.items n.taken (Err fault) e.taken
          e.begun e.answers most p h),
      tt,
    )

-- a line brings an event
pub returns-then-is_some-clause-answers : goal.returns-then-is_some-clause-answers
returns-then-is_some-clause-answers g c =
    let f : At-loop-end g = (goal.at-returns-then-is_some-clause-answers g c).At-loop-end in
    let k = c.in-Some.end in
    let found = c.in-Some.ensures in
    let n = c.end_line.new.self in
    let e = c.in_ok-event.ensures in
    let so = f.loop-end.self in
    λ most p h. along_event (x g f) p (piece g f) (g.L.LineEnd.is_in so.lines) so.begun.items
    so.taken (used g f) (so_far g f most p h) (room g f)
    (Now g f n.lines n.begun.items n.taken) (k + 1) c.in_ok-event.event
    (sym c.is_some.ensures ∙ c.if-is_some.true)
    (line_answers g f k found.0 found.1 n.lines n.begun.items n.taken (Ok c.in_ok-event.event)
    e.taken e.begun e.answers most p h)

-- there are as many bytes as are too many
pub returns-then-self-clause-answers : goal.returns-then-self-clause-answers
returns-then-self-clause-answers g c =
    let f : At-loop-end g = (goal.at-returns-then-self-clause-answers g c).At-loop-end in
    let inv = c.loop-end.invariant in
    let n = c.begin.new.self in
    let e = c.in_ok-begin.ensures in
    let free = none_found (unread (piece g f) (used g f) (room g f)) c.in_default.ensures in
    λ most p h. (
      subst (λ r. Answers (x g f) p (piece g f) (Err (Refused r)))
          (sym (c.too_long.ensures
          ∙ ap (λ (r : Rules g f). r.too_long)
          (ap g.L.LineEnd.rules (ap g.L.LineEnd.settings e.lines ∙ inv.settings))))
          (along_too_long (x g f) p (piece g f) (g.L.LineEnd.is_in n.lines) n.begun.items n.taken
          (room g f)
          (rest_begun g f free n.lines n.begun.items n.taken e.lines e.begun e.taken most p h)
          (let same = e.most in omega (arith, most, same, inv.most, c.if-self.true))),
      tt,
    )

-- the piece is used up
pub returns-clause-answers : goal.returns-clause-answers
returns-clause-answers g c =
    let f : At-loop-end g = (goal.at-returns-clause-answers g c).At-loop-end in
    let inv = c.loop-end.invariant in
    let n = c.begin.new.self in
    let e = c.in_ok-begin.ensures in
    let free = none_found (unread (piece g f) (used g f) (room g f)) c.in_default.ensures in
    λ most p h.
    let same = e.most in
    let a = rest_begun g f free n.lines n.begun.items n.taken e.lines e.begun e.taken most p h in
    let more = e.taken in
    let len = size g f in
    let full = all_used (room g f) (length (piece g f)) c.args.self.now.most
    c.args.self.now.taken c.room-room.ensures.within c.room-room.ensures.full
    (omega (arith, c.if-self.false, inv.taken, inv.within, inv.most, more, len, same)) in (
      along_end (x g f) p (piece g f) (g.L.LineEnd.is_in n.lines) n.begun.items n.taken (room g f) a
          full (omega (arith, most, same, inv.most, c.if-self.false)),
      a.reached,
    )
