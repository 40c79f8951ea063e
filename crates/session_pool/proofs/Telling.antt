-- What is told of a connection's ends behind its sessions, where it was told before.
use Rattle.std.proofs.Common.{◌≡◌, ℕ, List, [], ◌∷◌, ◌++◌, map, Some, Option, ap, ◌∙◌}
use Rattle.std.specs.Option.{option_map}
use Rattle.stream_reader.specs.Stream.{stream}
use Rattle.stream_loop.proofs.{Amounts.wrote_grew, Counts.handled_some, Counts.took_some}
use Rattle.stream_loop.proofs.Writing.{told_some}
use Rattle.stream_loop.specs.Edges.{Input}
use Rattle.duplex_server.specs.{declared.outcome.Outcome.Outcome, Requests.request_for}
use Rattle.duplex_server.specs.ServerStream.{Answering, replies, requests_to}
use Rattle.duplex_server.specs.Serving.{closing_of, ending_of, HasServed, Serves}
use Rattle.io_edges.specs.Views.{SinkView}
use Rattle.session_pool.specs.declared.turns.{Turns.Turns, TurnsEnd.TurnsEnd}
use Rattle.session_pool.specs.Turns.{behind_session, Ends, InTurn, Rests, ServesTurns}
use Rattle.session_pool.specs.declared.turns.TurnsEnd.TheVariants as stops

module _ (x : Answering) (endpoint : Option (List ℕ)) where
  -- of one session
  serves_taken : (i i' : Input) (sink sink' : SinkView) (outcome : Outcome)
      → Serves x endpoint i i' sink sink' outcome → (t : List ℕ) → i.taken ≡ Some t
      → (t' : List ℕ) × (i'.taken ≡ Some t')
  serves_taken i i' sink sink' outcome h t is =
      took_some (stream (requests_to x endpoint)) (HasServed x outcome sink sink') i i'
      (ending_of outcome.inbound) h.follows t is

  serves_written : (i i' : Input) (sink sink' : SinkView) (outcome : Outcome)
      → Serves x endpoint i i' sink sink' outcome → (w : List ℕ) → sink.written ≡ Some w
      → (w' : List ℕ) × (sink'.written ≡ Some w')
  serves_written i i' sink sink' outcome h w is =
      let s = handled_some (stream (requests_to x endpoint)) (HasServed x outcome sink sink') i i'
      (ending_of outcome.inbound) h.follows in
      let k = wrote_grew (replies x) outcome.outbound (closing_of (ending_of outcome.inbound)) sink
      (map request_for s.0) (λ s. outcome.answers ≡ s.answers) sink' s.1.wrote w is in (k.0, k.1)

  -- of those in turn
  along_taken : (served : List Outcome) (i next : Input) (sink later : SinkView)
      → InTurn x endpoint i sink served next later → (t : List ℕ) → i.taken ≡ Some t
      → (t' : List ℕ) × (next.taken ≡ Some t')
  unfolding InTurn
  along_taken [] i next sink later h t is = (t, ap (λ (n : Input). n.taken) h.0 ∙ is)
  along_taken (one ∷ served) i next sink later h t is =
      along_taken served (behind_session h.0 i h.1) next h.2 later h.7 (t ++ h.0)
      (ap (option_map (λ (taken : List ℕ). taken ++ h.0)) is)

  along_written : (served : List Outcome) (i next : Input) (sink later : SinkView)
      → InTurn x endpoint i sink served next later → (w : List ℕ) → sink.written ≡ Some w
      → (w' : List ℕ) × (later.written ≡ Some w')
  unfolding InTurn
  along_written [] i next sink later h w is = (w, ap (λ (s : SinkView). s.written) h.1 ∙ is)
  along_written (one ∷ served) i next sink later h w is =
      let k = serves_written i h.1 sink h.2 one h.4 w is in
      along_written served (behind_session h.0 i h.1) next h.2 later h.7 k.0 k.1

  module _ (most : ℕ) (i i' : Input) (sink sink' : SinkView) (turns : Turns)
      (h : ServesTurns x endpoint most i i' sink sink' turns) where
    rests_taken : Rests h.served h.next i' h.later sink' turns.outcomes → (t : List ℕ)
        → h.next.taken ≡ Some t → (t' : List ℕ) × (i'.taken ≡ Some t')
    rests_taken r t is =
        let k = told_some (λ t t'. t' ≡ t ++ r.carried) h.next.taken i'.taken t is r.took in
        (k.0, k.1)

    rests_written : Rests h.served h.next i' h.later sink' turns.outcomes → (w : List ℕ)
        → h.later.written ≡ Some w → (w' : List ℕ) × (sink'.written ≡ Some w')
    rests_written r w is = (w, ap (λ (s : SinkView). s.written) r.same ∙ is)

    abbrev Ended : TurnsEnd → Type 0
    Ended end = Ends x endpoint end most h.served h.next i' h.later sink' turns.outcomes

    pub turns_taken : (t : List ℕ) → i.taken ≡ Some t → (t' : List ℕ) × (i'.taken ≡ Some t')
    turns_taken t is = by turns.end h.ended where
      k : (t' : List ℕ) × (h.next.taken ≡ Some t')
      k = along_taken h.served i h.next sink h.later h.in_turn t is

      by : (end : TurnsEnd) → Ended end → (t' : List ℕ) × (i'.taken ≡ Some t')
      by stops.Done e = rests_taken e.1 k.0 k.1
      by stops.Most e = rests_taken e.1 k.0 k.1
      by stops.Stopped e =
          serves_taken h.next i' h.later sink' e.1.last e.1.serves k.0 k.1
      by stops.ReadFault e = rests_taken e.1 k.0 k.1
      by stops.Memory e = rests_taken e.1 k.0 k.1

    pub turns_written : (w : List ℕ) → sink.written ≡ Some w
        → (w' : List ℕ) × (sink'.written ≡ Some w')
    turns_written w is = by turns.end h.ended where
      k : (w' : List ℕ) × (h.later.written ≡ Some w')
      k = along_written h.served i h.next sink h.later h.in_turn w is

      by : (end : TurnsEnd) → Ended end → (w' : List ℕ) × (sink'.written ≡ Some w')
      by stops.Done e = rests_written e.1 k.0 k.1
      by stops.Most e = rests_written e.1 k.0 k.1
      by stops.Stopped e =
          serves_written h.next i' h.later sink' e.1.last e.1.serves k.0 k.1
      by stops.ReadFault e = rests_written e.1 k.0 k.1
      by stops.Memory e = rests_written e.1 k.0 k.1
