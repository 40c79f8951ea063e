-- What a connection that was called and closed leaves of a wire.
use Rattle.std.proofs.Common.{◌≡◌, ℕ, List, [], ◌∷◌, ◌++◌, IfSome, Some, None}
use Rattle.std.proofs.Common.{Option}
use Rattle.io_edges.specs.{Flow.Told, Wires.Fresh}
use Rattle.stream_reader.specs.Stream.{stream}
use Rattle.stream_loop.proofs.{Counts.handled_some, Counts.took_some, Writing.told_some}
use Rattle.stream_loop.specs.Edges.{Input}
use Rattle.client.specs.declared.{outcome.CallOutcome.CallOutcome}
use Rattle.client.specs.Called.{answers_to, ending_of}
use Rattle.client.specs.{Peers.CallsPeer, Sent.Sending}
use Rattle.io_edges.specs.Views.{SinkView}

-- the pair of what is told
paired : (taken written : Option (List ℕ)) (t w : List ℕ) → taken ≡ Some t → written ≡ Some w
    → (before after : List (List ℕ × List ℕ))
    → IfSome taken (λ t. IfSome written (λ w. after ≡ before ++ (t, w) ∷ []))
    → after ≡ before ++ (t, w) ∷ []
paired taken written t w is_taken is_written before after told = rw (is_taken, is_written) at told

module _ (x : Sending) (via line : List ℕ) (i i' : Input) (k k' o o' : SinkView)
    (called : CallOutcome) (c : CallsPeer x via line i i' k k' o o' called) where
  pub taken_told : (t : List ℕ) → i.taken ≡ Some t → (t' : List ℕ) × (i'.taken ≡ Some t')
  taken_told t is =
      took_some (stream (answers_to x)) _ i i' (ending_of called.inbound) c.exchanged.follows t is

  pub written_told : (w : List ℕ) → k.written ≡ Some w → (w' : List ℕ) × (k'.written ≡ Some w')
  written_told w is =
      let h = handled_some (stream (answers_to x)) _ i i' (ending_of called.inbound)
      c.exchanged.follows in
      let told = told_some _ k.written k'.written w is h.1.0 in
      (told.0, told.1)

  -- one pair more stands among the ended connections
  pub pair_more : (closed closed' : Option (List (List ℕ × List ℕ))) → Fresh closed i.taken
      → Fresh closed k.written → Told closed closed' (λ c c'. IfSome i'.taken (λ t.
      IfSome k'.written (λ w. c' ≡ c ++ (t, w) ∷ [])))
      → Told closed closed' (λ before after. (pair : List ℕ × List ℕ)
      × (after ≡ before ++ pair ∷ []) × (i'.taken ≡ Some pair.0) × (k'.written ≡ Some pair.1))
  pair_more None closed' fresh_in fresh_out told = tt
  pair_more (Some before) None fresh_in fresh_out told = absurd told
  pair_more (Some before) (Some after) fresh_in fresh_out told =
      let t = taken_told [] fresh_in in
      let w = written_told [] fresh_out in
      ((t.0, w.0), paired i'.taken k'.written t.0 w.0 t.1 w.1 before after told, t.1, w.1)
