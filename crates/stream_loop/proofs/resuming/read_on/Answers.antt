use Rattle.std.proofs.Common.{◌≡◌, ℕ, List, [], ◌++◌, map, length, Ok}
use Rattle.std.proofs.Common.{Option, sym, refl, ap, ◌∙◌, subst, arith, length-append}
use Rattle.std.proofs.lemmas.List.{map-append}
use Rattle.std.specs.Option.{option_map}
use Rattle.unit_streams.specs.{Grammar.Grammar, Judging.ending_at, Judging.events_of}
use Rattle.unit_streams.specs.Tellers.{Closes}
use Rattle.stream_loop.specs.declared.resuming.Step.{Step, TheVariants.AllRead}
use Rattle.stream_loop.specs.{Edges.Input, Edges.input_at, Resumed.HasComeTo, Resumed.WasHalted}
use Rattle.stream_loop.specs.{Steps.Handles, Steps.ReadsAll}
use Rattle.stream_loop.proofs.Reading.{by_grammar, ending_is, filled, halted_between, open_within}
use Rattle.stream_loop.proofs.Reading.{was_cut, was_over}
use Rattle.stream_loop.proofs.Writing.{counted_none, counted_with}
use Rattle.stream_loop.proofs.resuming.read_on.{Given.Over, Goals.After-handle_next}
use Rattle.stream_loop.proofs.resuming.read_on.Goals as goal

module _ (g : Over) where
  abbrev input_of : g.row.I.Denot → Input
  input_of input = input_at g.I.Source.left g.I.Source.taken g.I.Source.faults
      g.I.Source.empty_takes input

  abbrev event_for : g.E.ReadingEnd.Completed → g.row.E-Event.Denot
  event_for = g.E.ReadingEnd.event_for

  abbrev HandledBy : g.row.O.Denot → g.row.H.Denot → g.row.O.Denot → List g.E.ReadingEnd.Completed
      → List g.E.ReadingEnd.Completed → Type 0
  HandledBy first handler output paused since =
      g.H.EventHandler.handled first (map event_for paused) (map event_for since) handler output

pub loop-judged-init : goal.loop-judged-init
loop-judged-init g c = record {
  grammar = refl;
  settings = refl;
  same_end = λ on. refl;
  input_faults = refl;
  comes = λ i first p h. (p, h);
}

-- how far the reading has come before a step
module _ (g : Over) (f : After-handle_next g) where
  abbrev x : Grammar g.E.ReadingEnd.Situation g.E.ReadingEnd.UnitOf g.E.ReadingEnd.Completed
      g.row.E-Refusal.Denot
  x = g.E.ReadingEnd.grammar f.args.end.now

  abbrev Comes : Input → g.row.O.Denot → List ℕ → Type 0
  Comes i first p = HasComeTo x i (input_of g f.args.input.now)
      (g.E.ReadingEnd.stands f.args.end.now)
      (HandledBy g first f.args.handler.now f.args.output.now) p f.args.buffer.now

  abbrev HandledNow : g.row.O.Denot → List g.E.ReadingEnd.Completed
      → List g.E.ReadingEnd.Completed → Type 0
  HandledNow first = HandledBy g first f.handle_next.new.handler f.handle_next.new.output

  -- what it brings
  module _ (i : Input) (first : g.row.O.Denot) (p : List ℕ) (come : Comes i first p) where
    abbrev q : List ℕ
    q = (f.loop-judged.invariant.comes i first p come).0

    h : HasComeTo x i (input_of g f.loop-judged.input) (g.E.ReadingEnd.stands f.loop-judged.end)
        (HandledBy g first f.loop-judged.handler f.loop-judged.output) q f.loop-judged.buffer
    h = (f.loop-judged.invariant.comes i first p come).1

    abbrev HandlesSo : Grammar g.E.ReadingEnd.Situation g.E.ReadingEnd.UnitOf
        g.E.ReadingEnd.Completed g.row.E-Refusal.Denot
        → Step g.row.E-Refusal.Denot g.row.H-Halt.Denot → Type 0
    HandlesSo s r = Handles s (g.E.ReadingEnd.stands f.handle_next.new.end) (HandledNow first)
        g.E.ReadingEnd.ends (λ halt at paused since. g.H.EventHandler.halted first (map (event_for g) paused)
        (map (event_for g) since) (option_map (event_for g) at) halt f.handle_next.new.handler
        f.handle_next.new.output) i (input_of g f.loop-judged.input) q f.loop-judged.buffer
        f.handle_next.new.buffer r

    handles : HandlesSo x f.handle_next.result
    handles = by_grammar (g.E.ReadingEnd.grammar f.loop-judged.end) x
        f.loop-judged.invariant.grammar
        (λ s. HasComeTo s i (input_of g f.loop-judged.input)
        (g.E.ReadingEnd.stands f.loop-judged.end)
        (HandledBy g first f.loop-judged.handler f.loop-judged.output) q f.loop-judged.buffer)
        (λ s. HandlesSo s f.handle_next.result)
        (f.handle_next.ensures.handles i (input_of g f.loop-judged.input) first q) h

    -- by its answer
    handles_as : (r : Step g.row.E-Refusal.Denot g.row.H-Halt.Denot) → f.handle_next.result ≡ r
        → HandlesSo x r
    handles_as r is = subst (HandlesSo x) is handles

    -- how many bytes were read before, and how many are
    read_before : g.E.ReadingEnd.taken f.loop-judged.end ≡ length q
    read_before = g.met.E.ReadingEnd.counts f.loop-judged.end q h.stands_for

    within : (r : List ℕ) → g.E.ReadingEnd.stands f.handle_next.new.end r
        → g.E.ReadingEnd.taken f.handle_next.new.end ≡ length r
    within r here = g.met.E.ReadingEnd.counts f.handle_next.new.end r here

  -- the direction wasn't ended, unless the writing has stopped
  still : (g.H.EventHandler.has_stopped f.handle_next.new.handler → ⊥)
      → g.H.EventHandler.ended f.handle_next.new.output ≡ g.H.EventHandler.ended f.args.output.now
  still on = f.handle_next.ensures.same_end
      ∙ f.loop-judged.invariant.same_end (λ s. on (f.handle_next.ensures.stopped s))

pub handle_next-requires-clause-closes : goal.handle_next-requires-clause-closes
handle_next-requires-clause-closes g c =
    subst (λ s. Closes s g.E.ReadingEnd.ends) (sym c.loop-judged.invariant.grammar)
    c.requires.ends.closes

pub handle_next-requires-clause-going : goal.handle_next-requires-clause-going
handle_next-requires-clause-going g c =
    let r = c.requires.going in
    let k = c.loop-judged.invariant.comes r.0 r.1 r.2 r.3 in (
      r.0,
      input_of g c.loop-judged.input,
      r.1,
      k.0,
      subst (λ s. HasComeTo s r.0 (input_of g c.loop-judged.input)
          (g.E.ReadingEnd.stands c.loop-judged.end)
          (HandledBy g r.1 c.loop-judged.handler c.loop-judged.output) k.0 c.loop-judged.buffer)
          (sym c.loop-judged.invariant.grammar) k.1,
    )

-- an event was handled
pub loop-judged-smaller-in-Handled : goal.loop-judged-smaller-in-Handled
loop-judged-smaller-in-Handled g c =
    let f : After-handle_next g = (goal.at-loop-judged-smaller-in-Handled g c).After-handle_next in
    let r = f.requires.going in
    let s = handles_as g f r.0 r.1 r.2 r.3 _ c.in-Handled.is in
    let before = read_before g f r.0 r.1 r.2 r.3 in
    let now = within g f r.0 r.1 r.2 r.3 s.read s.come.stands_for in
    let most = open_within (x g f) g.E.ReadingEnd.ends (g.E.ReadingEnd.most f.args.end.now)
    f.requires.ends s.read s.come.on in
    omega (arith, before, now, most, s.more)

pub loop-judged-preserved-in-Handled : goal.loop-judged-preserved-in-Handled
loop-judged-preserved-in-Handled g c =
    let f : After-handle_next g =
    (goal.at-loop-judged-preserved-in-Handled g c).After-handle_next in
    record {
      grammar = c.handle_next.ensures.grammar ∙ c.loop-judged.invariant.grammar;
      settings = c.handle_next.ensures.settings ∙ c.loop-judged.invariant.settings;
      same_end = still g f;
      input_faults = c.loop-judged.invariant.input_faults;
      comes = λ i first p come.
          let s = handles_as g f i first p come _ c.in-Handled.is in (s.read, s.come);
    }

-- the stream is judged
pub returns-in-Judged-clause-reads : goal.returns-in-Judged-clause-reads
returns-in-Judged-clause-reads g c = λ i first p come.
    let f : After-handle_next g = (goal.at-returns-in-Judged-clause-reads g c).After-handle_next in
    handles_as g f i first p come _ c.in-Judged.is

pub returns-in-Judged-clause-counted : goal.returns-in-Judged-clause-counted
returns-in-Judged-clause-counted g c =
    counted_none _ _ _ c.loop-judged.invariant.input_faults (λ e. cc)

pub returns-in-Judged-clause-same_end : goal.returns-in-Judged-clause-same_end
returns-in-Judged-clause-same_end g c =
    still g (goal.at-returns-in-Judged-clause-same_end g c).After-handle_next

-- memory ran out
pub returns-in-Memory-clause-reads : goal.returns-in-Memory-clause-reads
returns-in-Memory-clause-reads g c = λ i first p come.
    let f : After-handle_next g = (goal.at-returns-in-Memory-clause-reads g c).After-handle_next in
    handles_as g f i first p come _ c.in-Memory.is

pub returns-in-Memory-clause-counted : goal.returns-in-Memory-clause-counted
returns-in-Memory-clause-counted g c =
    counted_none _ _ _ c.loop-judged.invariant.input_faults (λ e. cc)

pub returns-in-Memory-clause-same_end : goal.returns-in-Memory-clause-same_end
returns-in-Memory-clause-same_end g c =
    still g (goal.at-returns-in-Memory-clause-same_end g c).After-handle_next

-- the handler stopped at an event
pub returns-in-Halted-clause-reads : goal.returns-in-Halted-clause-reads
returns-in-Halted-clause-reads g c = λ i first p come.
    let f : After-handle_next g = (goal.at-returns-in-Halted-clause-reads g c).After-handle_next in
    handles_as g f i first p come _ c.in-Halted.is

pub returns-in-Halted-clause-counted : goal.returns-in-Halted-clause-counted
returns-in-Halted-clause-counted g c =
    counted_none _ _ _ c.loop-judged.invariant.input_faults (λ e. cc)

pub returns-in-Halted-clause-same_end : goal.returns-in-Halted-clause-same_end
returns-in-Halted-clause-same_end g c =
    still g (goal.at-returns-in-Halted-clause-same_end g c).After-handle_next

-- all that was taken is read
module _ (g : Over) (f : After-handle_next g) (is : f.handle_next.result ≡ AllRead)
    (i : Input) (first : g.row.O.Denot) (p : List ℕ) (come : Comes g f i first p) where
  abbrev read : List ℕ
  read = q g f i first p come ++ f.loop-judged.buffer

  all : ReadsAll (x g f) (g.E.ReadingEnd.stands f.handle_next.new.end) (HandledNow g f first) i
      (input_of g f.loop-judged.input) (q g f i first p come) f.loop-judged.buffer
      f.handle_next.new.buffer
  all = handles_as g f i first p come AllRead is

  -- what is handled at a pause
  paused : (handler : g.row.H.Denot) (output : g.row.O.Denot)
      → ((b s : List g.row.E-Event.Denot)
      → g.H.EventHandler.handled first b s f.handle_next.new.handler
      f.handle_next.new.output → g.H.EventHandler.handled first (b ++ s) [] handler output)
      → HandledBy g first handler output (events_of (x g f) read) []
  paused handler output pauses =
      let c = all.come in
      let before : List g.E.ReadingEnd.Completed = events_of (x g f) c.before in
      subst (λ (l : List g.row.E-Event.Denot). g.H.EventHandler.handled first l [] handler output)
      (sym (map-append (event_for g) before c.since) ∙ ap (map (event_for g)) (sym c.events_are))
      (pauses (map (event_for g) before) (map (event_for g) c.since) c.handled)

-- the handler stopped before more was taken
pub returns-in-Err-clause-reads : goal.returns-in-Err-clause-reads
returns-in-Err-clause-reads g c = λ i first p come.
    let f : After-handle_next g = (goal.at-returns-in-Err-clause-reads g c).After-handle_next in
    let s = all g f c.in-AllRead.is i first p come in
    let Halts : Option g.E.ReadingEnd.Completed → List g.E.ReadingEnd.Completed
    → List g.E.ReadingEnd.Completed
    → Type 0 = λ at paused since. g.H.EventHandler.halted first (map (event_for g) paused)
    (map (event_for g) since) (option_map (event_for g) at) c.in-Err.halt c.pause.new.self
    c.pause.new.output in
    subst (λ (b : List ℕ). WasHalted (x g f) i (input_of g f.loop-judged.input)
    g.E.ReadingEnd.ends (g.E.ReadingEnd.stands f.handle_next.new.end) Halts b) (sym s.nothing)
    (halted_between (x g f) i (input_of g f.loop-judged.input) _ _
    (read g f c.in-AllRead.is i first p come) s.come g.E.ReadingEnd.ends Halts
    (c.in-Err.ensures.halted first _ _ s.come.handled))

pub returns-in-Err-clause-counted : goal.returns-in-Err-clause-counted
returns-in-Err-clause-counted g c =
    counted_none _ _ _ c.loop-judged.invariant.input_faults (λ e. cc)

pub returns-in-Err-clause-same_end : goal.returns-in-Err-clause-same_end
returns-in-Err-clause-same_end g c = λ on.
    c.pause.ensures.same_end on
    ∙ still g (goal.at-returns-in-Err-clause-same_end g c).After-handle_next
    (λ s. on (c.pause.ensures.stopped s).0)

pub fill_more-requires-clause-may_wait : goal.fill_more-requires-clause-may_wait
fill_more-requires-clause-may_wait g c = c.in-Ok.ensures.may_wait

pub fill_more-requires-clause-empty : goal.fill_more-requires-clause-empty
fill_more-requires-clause-empty g c =
    let f : After-handle_next g = (goal.at-fill_more-requires-clause-empty g c).After-handle_next in
    let r = f.requires.going in
    (all g f c.in-AllRead.is r.0 r.1 r.2 r.3).nothing

-- the input failed
pub returns-in_default-clause-reads : goal.returns-in_default-clause-reads
returns-in_default-clause-reads g c = λ i first p come.
    let f : After-handle_next g = (goal.at-returns-in_default-clause-reads g c).After-handle_next in
    let s = all g f c.in-AllRead.is i first p come in
    was_cut (x g f) i (input_of g f.loop-judged.input) _ _
    (read g f c.in-AllRead.is i first p come) s.come s.pending (input_of g c.fill_more.new.input)
    c.fill_more.new.buffer _
    (paused g f c.in-AllRead.is i first p come c.pause.new.self c.pause.new.output
    (λ b s. c.in-Ok.ensures.handled first b s)) _ c.in_default.ensures _
    c.in-Ok.ensures.may_wait

pub returns-in_default-clause-counted : goal.returns-in_default-clause-counted
returns-in_default-clause-counted g c = counted_with _ _ _ _ _
    c.loop-judged.invariant.input_faults c.in_default.ensures.counted (λ e. cc)
    (λ e. refl)

pub returns-in_default-clause-same_end : goal.returns-in_default-clause-same_end
returns-in_default-clause-same_end g c = λ on.
    c.pause.ensures.same_end on
    ∙ still g (goal.at-returns-in_default-clause-same_end g c).After-handle_next
    (λ s. on (c.pause.ensures.stopped s).0)

-- the input is over
pub end_of_input-requires : goal.end_of_input-requires
end_of_input-requires g c =
    let f : After-handle_next g = (goal.at-end_of_input-requires g c).After-handle_next in
    let r = f.requires.going in (
      read g f c.in-AllRead.is r.0 r.1 r.2 r.3,
      (all g f c.in-AllRead.is r.0 r.1 r.2 r.3).come.stands_for,
    )

pub returns-then-n-eq0-clause-reads : goal.returns-then-n-eq0-clause-reads
returns-then-n-eq0-clause-reads g c = λ i first p come.
    let f : After-handle_next g = (goal.at-returns-then-n-eq0-clause-reads g c).After-handle_next in
    let s = all g f c.in-AllRead.is i first p come in
    let read : List ℕ = read g f c.in-AllRead.is i first p come in
    was_over (x g f) i (input_of g f.loop-judged.input) _ _ read s.come s.pending
    (input_of g c.fill_more.new.input) c.fill_more.new.buffer _
    (paused g f c.in-AllRead.is i first p come c.pause.new.self c.pause.new.output
    (λ b s. c.in-Ok.ensures.handled first b s)) c.in-Ok-fill_more.n c.if-n-eq0.true
    c.in-Ok-fill_more.ensures c.err.result
    (ap (λ s. ending_at s read) (sym (c.handle_next.ensures.grammar
    ∙ c.loop-judged.invariant.grammar))
    ∙ ending_is _ c.end_of_input.result c.err.result
    (c.end_of_input.ensures.answers read s.come.stands_for) c.err.ensures.value)

pub returns-then-n-eq0-clause-counted : goal.returns-then-n-eq0-clause-counted
returns-then-n-eq0-clause-counted g c =
    counted_none _ _ _ (c.in-Ok-fill_more.ensures.counted.same (λ e. cc)
    ∙ c.loop-judged.invariant.input_faults) (λ e. cc)

pub returns-then-n-eq0-clause-same_end : goal.returns-then-n-eq0-clause-same_end
returns-then-n-eq0-clause-same_end g c = λ on.
    c.pause.ensures.same_end on
    ∙ still g (goal.at-returns-then-n-eq0-clause-same_end g c).After-handle_next
    (λ s. on (c.pause.ensures.stopped s).0)

-- more was taken
pub loop-judged-smaller : goal.loop-judged-smaller
loop-judged-smaller g c =
    let f : After-handle_next g = (goal.at-loop-judged-smaller g c).After-handle_next in
    let r = f.requires.going in
    let s = all g f c.in-AllRead.is r.0 r.1 r.2 r.3 in
    let before = read_before g f r.0 r.1 r.2 r.3 in
    let now = within g f r.0 r.1 r.2 r.3 (read g f c.in-AllRead.is r.0 r.1 r.2 r.3)
    s.come.stands_for in
    let longer = length-append (q g f r.0 r.1 r.2 r.3) f.loop-judged.buffer in
    let most = f.requires.ends.within (read g f c.in-AllRead.is r.0 r.1 r.2 r.3) s.pending in
    let size = c.in-Ok-fill_more.ensures.size in
    let some = c.if-n-eq0.false in
    omega (arith, before, now, longer, most, size, some)

pub loop-judged-preserved : goal.loop-judged-preserved
loop-judged-preserved g c =
    let f : After-handle_next g = (goal.at-loop-judged-preserved g c).After-handle_next in
    record {
      grammar = c.handle_next.ensures.grammar ∙ c.loop-judged.invariant.grammar;
      settings = c.pause.ensures.settings ∙ c.handle_next.ensures.settings
          ∙ c.loop-judged.invariant.settings;
      same_end = λ on. c.pause.ensures.same_end on
          ∙ still g f (λ s. on (c.pause.ensures.stopped s).0);
      input_faults = c.in-Ok-fill_more.ensures.counted.same (λ e. cc)
          ∙ c.loop-judged.invariant.input_faults;
      comes = λ i first p come.
          let s = all g f c.in-AllRead.is i first p come in
          let read : List ℕ = read g f c.in-AllRead.is i first p come in (
            read,
            filled (x g f) i (input_of g f.loop-judged.input) _ _ read s.come s.pending
                (input_of g c.fill_more.new.input) c.fill_more.new.buffer _
                (paused g f c.in-AllRead.is i first p come c.pause.new.self c.pause.new.output
                (λ b s. c.in-Ok.ensures.handled first b s)) (Ok c.in-Ok-fill_more.n)
                c.in-Ok-fill_more.ensures (λ e. c.if-n-eq0.false (let is = e in cc)),
          );
    }
