-- What is known of an output that gathers is known of the one beneath, where nothing was gathered
-- at first.
use Rattle.std.proofs.Common.{◌≡◌, List, [], ◌++◌, ap, ◌∙◌, append-nil, ℕ}
use Rattle.{io_edges.specs.Gathering.with_room, stream_loop.specs.Edges.Input}
use Rattle.client.specs.{declared.outcome.CallOutcome.CallOutcome, Peers.CallsPeer, Sent.Sending}
use Rattle.io_edges.specs.Views.{SinkView}

module _ (x : Sending) (via line : List ℕ) (i i' : Input) (k k' : SinkView)
    (called : CallOutcome) where
  abbrev Calls : (o o' : SinkView) → Type 0
  Calls o o' = CallsPeer x via line i i' k k' o o' called

  pub beneath : (first last : SinkView) (gathered rest : List ℕ) → gathered ≡ []
      → Calls (with_room gathered first) (with_room rest last) → Calls first last
  beneath first last gathered rest none c =
      let plain : first.held ++ gathered ≡ first.held =
      ap (λ l. first.held ++ l) none ∙ append-nil first.held in
      record {
        exchanged = rw plain at c.exchanged;
        reported = rw plain at c.reported;
        reports_counted = c.reports_counted;
      }
