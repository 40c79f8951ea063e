-- What is reported of a stream, by what was read of it and what was put of its events.
use Rattle.std.proofs.Common.{◌≡◌, ℕ, Bool, List, [], ◌∷◌, ◌++◌, map, Some, None, Ok, Err, Option}
use Rattle.std.proofs.Common.{Result, sym, refl, ap, ◌∙◌, subst, inl, inr, append-nil, arith}
use Rattle.std.{specs.Prelude.⊤, specs.Option.option_map, proofs.lemmas.List.map-append}
use Rattle.io_edges.proofs.Putting.{Puts-then}
use Rattle.io_edges.specs.{declared.SinkFault.SinkFault, Flow.GrowsByPrefix, Flow.Told}
use Rattle.unit_streams.specs.{Going.IsPending, Grammar.Grammar, Judging.events_of}
use Rattle.unit_streams.specs.Tellers.{AreDue, report, state_behind, Teller, told_along}
use Rattle.unit_streams.specs.Tellers.{told_so_far}
use Rattle.stream_loop.specs.declared.reporting.ReportEnding.{ReportEnding}
use Rattle.stream_loop.specs.declared.reporting.ReportEnding.TheVariants as endings
use Rattle.stream_loop.specs.{Answers.written_by, Edges.Input}
use Rattle.stream_loop.specs.{Followed.AreFirst, Followed.IsWhole, LoopParts.done}
use Rattle.stream_loop.specs.LoopParts.{HasReported}
use Rattle.stream_loop.specs.Report.{HasFailed, HasPut, WritesPaused}
use Rattle.stream_loop.specs.Reported.{Grows, IsJudged, Reaches, Writes}
use Rattle.stream_loop.specs.Resumed.{Came, RanOut, then_at, WasCut, WasHalted}
use Rattle.stream_loop.specs.{Resumed.WasJudged}
use Rattle.stream_loop.proofs.Amounts.{first_told, states_values, told_values, whole_told}
use Rattle.stream_loop.proofs.Grown.{all_written}
use Rattle.stream_loop.proofs.Knowing.{events_are, offence_of}
use Rattle.stream_loop.proofs.{Lines.left_more, Reading.told_then, Writing.known_told}
use Rattle.stream_loop.proofs.Writing.{told_as}
use Rattle.io_edges.specs.Puts.{Puts}
use Rattle.io_edges.specs.Views.{SinkView}

module _ {Z U E V R S : Type 0} (g : Grammar Z U E R) (f : E → V) (t : Teller S V R) (i i' : Input)
    (start first : SinkView) (flushed : Puts start first [] (Ok tt)) (none : first.held ≡ []) where
  abbrev said : Teller S E R
  said = written_by f t

  abbrev Left : List V → SinkView → Type 0
  Left = WritesPaused t first

  abbrev Put : SinkView → S → List E → List E → Type 0
  Put now state paused since =
      HasPut t first (map f paused) (map f since) state now

  abbrev Lines : List E → List ℕ
  Lines es = told_along t t.start (map f es)

  -- what is put and reported so
  abbrev pub Reports : SinkView → S → Result (ReportEnding R) SinkFault → Type 0
  Reports now state r = (lines : List ℕ) × Puts start now lines (done r)
      × HasReported g said i i' start now state r lines

  told_before : (before : List ℕ) → told_so_far g said before ≡ Lines (events_of g before)
  unfolding told_so_far
  told_before before = told_values f t (events_of g before) t.start

  wrote : (now : SinkView) (before : List ℕ) → Left (map f (events_of g before)) now
      → Told start.written now.written (Writes g said start.held before)
  wrote now before left =
      told_then (λ w w'. w' ≡ w ++ start.held ++ [])
      (λ w w'. Grows (w ++ first.held ++ Lines (events_of g before)) w')
      (Writes g said start.held before) start.written first.written now.written
      (known_told (λ w w'. w' ≡ w ++ start.held ++ []) start.written first.written
      (all_written start first [] flushed none)) left
      (λ w w1 w2 e k. inl (record {
        more = k.more;
        grown = k.grown ∙ ap (λ l. l ++ k.more)
            (ap (λ l. (w1 ++ l) ++ Lines (events_of g before)) none
            ∙ ap (λ l. l ++ Lines (events_of g before))
            (append-nil w1 ∙ e ∙ append-nil (w ++ start.held))
            ∙ ap (λ l. (w ++ start.held) ++ l) (sym (told_before before)));
      }))

  abbrev reached : (now : SinkView) (before piece : List ℕ) → Came g i i' before piece
      → Left (map f (events_of g before)) now → Reaches g said i i' start now
  reached now before piece came left = record {
    before = before;
    piece = piece;
    pending = came.pending;
    short = came.short;
    stream = came.stream;
    took = came.took;
    wrote = wrote now before left;
  }

  -- the lines of two lists of events
  joined_lines : (paused since : List E)
      → told_along t t.start (map f paused ++ map f since) ≡ Lines (paused ++ since)
  joined_lines paused since = ap (told_along t t.start) (sym (map-append f paused since))

  due : (es : List E) (bytes : List ℕ) → ((more : List ℕ) → AreFirst g es (bytes ++ more))
      → AreDue g said bytes [] (Lines es)
  due es bytes first more = first_told g f t es (bytes ++ more) (first more)

  -- a read failed
  pub cut_reports : (now : SinkView) (state : S) → WasCut g i i' (Put now state) (now.held ≡ [])
      → Reports now state (Ok endings.ReadFault)
  cut_reports now state w =
      let es : List E = events_of g w.before in (
        told_so_far g said w.before,
        subst (λ (l : List ℕ). Puts start now l (Ok tt))
            (ap (told_along t t.start) (append-nil (map f es)) ∙ sym (told_before w.before))
            (Puts-then (Ok tt) flushed w.handled.writing.puts),
        record {
          reached = reached now w.before [] w.came w.handled.left;
          ends = (refl, refl, w.waits, w.no_empty_take);
        },
      )

  -- memory ran out
  pub starved_reports : (now : SinkView) (state : S) → RanOut g i i' (Put now state)
      → Reports now state (Ok endings.Memory)
  starved_reports now state w =
      let es : List E = events_of g w.before in (
        Lines (es ++ w.since),
        subst (λ (l : List ℕ). Puts start now l (Ok tt))
            (joined_lines es w.since) (Puts-then (Ok tt) flushed w.handled.writing.puts),
        record {
          reached = reached now w.before w.piece w.came w.handled.left;
          ends = (due (es ++ w.since) (w.before ++ w.piece) w.first, w.no_empty_take);
        },
      )

  -- the output failed at an event, or between two pieces
  pub halted_reports : (ends : E → Bool) (now : SinkView) (state : S) (stands : List ℕ → Type 0) (y : List ℕ)
      (fault : SinkFault)
      → WasHalted g i i' ends stands (λ at paused since. HasFailed t first
      (map f paused) (map f since) (option_map f at) fault now) y
      → Reports now state (Err fault)
  halted_reports ends now state stands y fault w =
      let es : List E = events_of g w.before in (
        Lines (then_at (es ++ w.since) w.at),
        subst (λ (l : List ℕ). Puts start now l (Err fault))
            (all w.at) (Puts-then (Err fault) flushed w.halted.puts),
        record {
          reached = reached now w.before w.piece w.came w.halted.left;
          ends = inr (
            due (then_at (es ++ w.since) w.at) (w.before ++ w.piece) w.first,
            w.no_empty_take,
          );
        },
      ) where
        both : map f (events_of g w.before) ++ map f w.since
            ≡ map f (events_of g w.before ++ w.since)
        both = sym (map-append f (events_of g w.before) w.since)

        all : (at : Option E) → told_along t t.start
            (then_at (map f (events_of g w.before) ++ map f w.since) (option_map f at))
            ≡ Lines (then_at (events_of g w.before ++ w.since) at)
        all None = ap (told_along t t.start) both
        all (Some e) = ap (told_along t t.start) (ap (λ (l : List V). l ++ f e ∷ []) both
            ∙ sym (map-append f (events_of g w.before ++ w.since) (e ∷ [])))

  -- the stream was judged, and then the ending is put
  module _ (judged : Option R) (mid now : SinkView) (state : S)
      (left : List ℕ) (w : WasJudged g i i' (Put mid state) left judged) where
    abbrev es : List E
    es = events_of g w.before ++ w.since

    abbrev lines : List ℕ
    lines = Lines es ++ t.ends state judged

    state_is : state ≡ state_behind said said.start es
    state_is = w.handled.writing.state_is
        ∙ ap (state_behind t t.start) (sym (map-append f (events_of g w.before) w.since))
        ∙ sym (states_values f t es t.start)

    report_of : (bytes : List ℕ) → IsWhole g es judged bytes → report g said bytes ≡ lines
    report_of bytes whole = whole_told g f t es judged bytes whole
        ∙ ap (λ s. Lines es ++ t.ends s judged) (sym state_is)

    judged_so : (bytes : List ℕ) → IsWhole g es judged bytes → IsJudged g said judged state bytes
    judged_so bytes whole = (
      offence_of g es judged bytes whole,
      state_is ∙ ap (state_behind said said.start) (sym (events_are g es judged bytes whole)),
    )

    whole_before : w.piece ≡ [] → IsWhole g es judged w.before
    whole_before nothing = subst (IsWhole g es judged)
        (ap (λ l. w.before ++ l) nothing ∙ append-nil w.before) w.whole

    lines_put : (r : Result ⊤ SinkFault) → Puts mid now (t.ends state judged) r
        → Puts start now lines r
    lines_put r puts =
        Puts-then r (subst (λ (l : List ℕ). Puts start mid l
        (Ok tt)) (joined_lines (events_of g w.before) w.since)
        (Puts-then (Ok tt) flushed w.handled.writing.puts)) puts

    abbrev reached_so : (r : Result ⊤ SinkFault) → Puts mid now (t.ends state judged) r
        → Reaches g said i i' start now
    reached_so r puts = reached now w.before w.piece w.came
        (left_more t first (map f (events_of g w.before)) mid now
        (t.ends state judged) r w.handled.left puts)

    pub judged_reports : Puts mid now (t.ends state judged) (Ok tt)
        → Reports now state (Ok (endings.Judged judged))
    judged_reports puts = (
      lines,
      lines_put (Ok tt) puts,
      record {
        reached = reached_so (Ok tt) puts;
        ends = elim w.settled [
          | inl over ↦ inl (
            (
              over.nothing,
              report_of w.before (whole_before over.nothing),
              over.over,
              over.once,
            ),
            judged_so w.before (whole_before over.nothing),
          )
          | inr all ↦ inr (
            λ more. (judged_so _ (all.0 more), report_of _ (all.0 more)),
            all.1,
          )
        ];
      },
    )

    pub unsaid_reports : (fault : SinkFault) → Puts mid now (t.ends state judged) (Err fault)
        → Reports now state (Err fault)
    unsaid_reports fault puts = (
      lines,
      lines_put (Err fault) puts,
      record {
        reached = reached_so (Err fault) puts;
        ends = elim w.settled [
          | inl over ↦ inl (
            over.nothing,
            report_of w.before (whole_before over.nothing),
            over.over,
            over.once,
          )
          | inr all ↦ inr (
            λ more. ([], report_of _ (all.0 more) ∙ sym (append-nil lines)),
            all.1,
          )
        ];
      },
    )

-- nothing was read
module _ {Z U E R S : Type 0} (g : Grammar Z U E R) (t : Teller S E R) (i : Input) (o o' : SinkView)
    (pending : IsPending g []) where
  abbrev unread : Told o.written o'.written (λ w w'. GrowsByPrefix w w' o.held)
      → Reaches g t i i o o'
  unread wrote = record {
    before = [];
    piece = [];
    pending = pending;
    short = omega arith;
    stream = known_told (λ all rest. all ≡ [] ++ [] ++ rest) i.left i.left
        (λ bytes e. (bytes, e, refl));
    took = known_told (λ t t'. t' ≡ t ++ [] ++ []) i.taken i.taken
        (λ t e. (t, e, sym (append-nil (t ++ []) ∙ append-nil t)));
    wrote = told_as (λ w w'. GrowsByPrefix w w' o.held) (Writes g t o.held []) o.written
        o'.written wrote (λ w w' k. inr (refl, k));
  }

  -- what the output held isn't written
  pub unwritten_reports : (state : S) (fault : SinkFault)
      → Told o.written o'.written (λ w w'. GrowsByPrefix w w' o.held)
      → HasReported g t i i o o' state (Err fault) []
  unwritten_reports state fault wrote = record {
    reached = unread wrote;
    ends = inr (λ more. (report g t more, refl), refl);
  }

  -- there was no memory to begin with
  pub unbegun_reports : (state : S) → o'.written ≡ o.written
      → HasReported g t i i o o' state (Ok endings.Memory) []
  unbegun_reports state same = record {
    reached = unread (rw same (known_told (λ w w'. GrowsByPrefix w w' o.held) o.written o.written
        (λ w e. (w, e, record { kept = 0; grown = sym (append-nil w) }))));
    ends = (λ more. (report g t more, refl), refl);
  }
