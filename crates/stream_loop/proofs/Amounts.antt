-- How many bytes were written of a stream's events: all that is due for them, or first ones of
-- that.
use Rattle.std.proofs.Common.{◌≡◌, ℕ, List, [], ◌∷◌, ◌++◌, map, Option, sym, refl, ap, ◌∙◌}
use Rattle.std.proofs.Common.{subst, append_assoc, append-nil}
use Rattle.{io_edges.specs.Flow.GrowsByPrefix, unit_streams.proofs.Telling.told_append}
use Rattle.unit_streams.specs.{Grammar.Grammar, Judging.events, Judging.history}
use Rattle.unit_streams.specs.Tellers.{report, state_behind, Teller, told_along, told_of_history}
use Rattle.stream_loop.specs.{declared.outbound.Outbound.Outbound, Answers.written_by}
use Rattle.stream_loop.specs.declared.outbound.Outbound.TheVariants.{Done, Memory, WriteFault}
use Rattle.stream_loop.{specs.Followed.AreFirst, specs.Followed.IsWhole, proofs.Writing.told_some}
use Rattle.stream_loop.specs.Writing.{due_next, HasStopped, Wrote}
use Rattle.stream_loop.proofs.Grown.{all_grew, all_written, Grew, grew_more}
use Rattle.io_edges.specs.Views.{SinkView}

-- what is told of events by the values that they are said with
pub told_values : {S E V R : Type 0} (f : E → V) (t : Teller S V R) (es : List E) (s : S)
    → told_along (written_by f t) s es ≡ told_along t s (map f es)
unfolding told_along
told_values f t [] s = refl
told_values f t (e ∷ es) s =
    ap (λ l. t.told s (f e) ++ l) (told_values f t es (t.next s (f e)))

-- and the state behind them
pub states_values : {S E V R : Type 0} (f : E → V) (t : Teller S V R) (es : List E) (s : S)
    → state_behind (written_by f t) s es ≡ state_behind t s (map f es)
unfolding state_behind
states_values f t [] s = refl
states_values f t (e ∷ es) s = states_values f t es (t.next s (f e))

abbrev Grew' : SinkView → SinkView → List ℕ → Type 0
Grew' old new bytes = Grew old new bytes

module _ {S E R : Type 0} (t : Teller S E R) where
  -- what is due next is the front of what is due
  due_front : (s : S) (closing : List ℕ) (rest : List E) → (behind : List ℕ)
      × (told_along t s rest ++ closing
      ≡ due_next t s closing rest ++ behind)
  unfolding told_along
  due_front s closing [] = ([], sym (append-nil closing))
  due_front s closing (event ∷ rest) = (
    told_along t (t.next s event) rest ++ closing,
    append_assoc (t.told s event) (told_along t (t.next s event) rest) closing,
  )

  abbrev told : List E → List ℕ
  told events = told_along t t.start events

  stopped_grew : (o : Outbound) (closing : List ℕ) (first : SinkView) (es : List E) (Left : S
      → Type 0)
      (now : SinkView) → HasStopped t o closing first es Left now
      → Grew' first now (told es ++ closing)
  stopped_grew o closing first es Left now h =
      let s = state_behind t t.start h.done in
      let next : List ℕ = due_next t s closing h.rest in
      let front = due_front s closing h.rest in
      let same : (told h.done ++ next) ++ front.0 ≡ told es ++ closing =
      append_assoc (told h.done) next front.0
      ∙ ap (λ l. told h.done ++ l) (sym front.1)
      ∙ sym (append_assoc (told h.done) (told_along t s h.rest) closing)
      ∙ ap (λ l. l ++ closing) (sym (told_append t h.done h.rest t.start)
      ∙ ap (λ (l : List E). told l) (sym h.joined)) in
      subst (Grew' first now) same (grew_more first now
      (told h.done ++ next) front.0 (λ w is. told_some (λ w w'.
      GrowsByPrefix w w' (first.held ++ (told h.done ++ next))) first.written now.written w is
      h.grown))

  -- however the writing ends
  pub wrote_grew : (o : Outbound) (closing : List ℕ) (first : SinkView) (es : List E)
      (Left : S → Type 0) (now : SinkView)
      → Wrote t o closing first es Left now
      → Grew' first now (told_along t t.start es ++ closing)
  wrote_grew Done closing first es Left now h =
      all_grew first now (told es ++ closing)
      (all_written first now (told es ++ closing) h.puts h.emptied)
  wrote_grew WriteFault closing first es Left now h =
      stopped_grew WriteFault closing first es Left now h
  wrote_grew Memory closing first es Left now h =
      stopped_grew Memory closing first es Left now h

-- what is told of a stream whose history is this
module _ {Z U E V R S : Type 0} (g : Grammar Z U E R) (f : E → V) (t : Teller S V R) where
  abbrev by_values : Teller S E R
  by_values = written_by f t

  pub whole_told : (es : List E) (judged : Option R) (bytes : List ℕ) → IsWhole g es judged bytes
      → report g (written_by f t) bytes
      ≡ told_along t t.start (map f es) ++ t.ends (state_behind (written_by f t) t.start es) judged
  unfolding report
  whole_told es judged bytes whole =
      ap (told_of_history by_values t.start) whole
      ∙ ap (λ l. l ++ t.ends (state_behind by_values t.start es) judged)
      (told_values f t es t.start)

  pub first_told : (es : List E) (bytes : List ℕ) → AreFirst g es bytes
      → (behind : List ℕ)
      × (report g (written_by f t) bytes ≡ told_along t t.start (map f es) ++ behind)
  unfolding report events
  first_told es bytes first =
      let last : List ℕ = t.ends (state_behind by_values t.start (history g bytes).events)
      (history g bytes).offence in
      let rest : List ℕ = told_along by_values (state_behind by_values t.start es) first.others in (
        rest ++ last,
        ap (λ (l : List E). told_along by_values t.start l ++ last) first.joined
            ∙ ap (λ l. l ++ last) (told_append by_values es first.others t.start)
            ∙ append_assoc (told_along by_values t.start es) rest last
            ∙ ap (λ l. l ++ (rest ++ last)) (told_values f t es t.start),
      )
