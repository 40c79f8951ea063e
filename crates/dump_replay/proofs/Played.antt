-- The status of a run that plays a history, where nothing of the outside fails (specs/Complete).
use Rattle.std.proofs.Common.{◌≡◌, ℕ, List, subst, inl, inr}
use Rattle.{command_words.proofs.RequestFacts.request-one, command_words.specs.Tasks.Rehearsal}
use Rattle.command_words.specs.Requests.{IsRequest, of_sessions, rehearsal}
use Rattle.{io_edges.specs.Views.SinkView, stream_loop.specs.Edges.Input}
use Rattle.dump_replay.specs.{Complete.PlaysWell, Outside.Outside, Working.Runs}
use Rattle.dump_replay.specs.Rehearsing.{history_offence, Rehearsed, status_of_history}
use Rattle.dump_replay.specs.Rehearsing.{status_of_rehearsal}
use Rattle.dump_replay.proofs.{CompleteFiles.by_status, CompleteFiles.IsOr, Rehearsals.history_ends}

module _ (Says : List ℕ → Type 0) (Untouched : Type 0) {R K : Type 0} (reader : R → Input)
    (writer : K → SinkView) (old new : Outside R K) (status : ℕ) where
  rehearsed_ends : (asked : Rehearsal) (input : List ℕ) → PlaysWell old new input
      → Rehearsed Says asked old.input new.input old.output new.output status
      → IsOr (status_of_history (history_offence asked input)) status
  rehearsed_ends asked input well h =
      by_status (status_of_history (history_offence asked input)) status
      (status_of_rehearsal h.ending) h.status_is
      (history_ends asked old.input new.input old.output new.output h.ending h.plays input
      well.given well.read well.written)

  module _ (Unfetched Offline : Type 0) (words : List (List ℕ)) (asked : Rehearsal)
      (input : List ℕ) where
    pub played_ends : IsRequest words (rehearsal asked) → PlaysWell old new input
        → Runs Says Untouched reader writer Unfetched Offline words old new status
        → IsOr (status_of_history (history_offence asked input)) status
    played_ends is well (inl (inl two, says, same, no_empty_take)) =
        absurd (two.1 (rehearsal asked) is)
    played_ends is well (inl (inr five, says, same, no_empty_take)) = inr five
    played_ends is well (inr (inl (other, is_other, does))) =
        let one = request-one words (of_sessions other) (rehearsal asked) is_other is in cc
    played_ends is well (inr (inr (other, is_other, does, no_empty_take, offline))) =
        let one = request-one words (rehearsal other) (rehearsal asked) is_other is in
        let same : other ≡ asked = cc in
        rehearsed_ends asked input well (subst (λ (a : Rehearsal). Rehearsed Says a old.input
        new.input old.output new.output status) same does)
