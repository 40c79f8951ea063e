-- What is left of a wire and of an output where a place was called.
use Rattle.std.specs.Prelude.{◌≡◌, ℕ, List, [], ◌∷◌, ◌++◌, Some, ⊤}
use Rattle.io_edges.specs.{Faults.CountsFaults, Flow.Told}
use Rattle.io_edges.specs.Wires.{added_up, Network}
use Rattle.stream_loop.specs.Edges.{AreNew, Input}
use Rattle.session_ends.specs.Sent.{MayBeSent}
use Rattle.client.specs.declared.called.Called.{Called, TheVariants.WrongCount}
use Rattle.client.specs.declared.called.Called.TheVariants.{Closed, Starved, Unconnected}
use Rattle.client.specs.{declared.outcome.CallOutcome.CallOutcome, Sent.Sending}
use Rattle.client.specs.Peers.{CallsPeer}
use Rattle.io_edges.specs.Views.{SinkView}

-- what is seen of the ends of connections
module _ {R K : Type 0} (input_of : R → Input) (output_of : K → SinkView) (x : Sending)
    (via : List ℕ) (line : ℕ → List ℕ) (n n' : Network R K) (o o' : SinkView) where
  -- The documents may be sent in one session. One connection was handed out, its peer was called
  -- over it, and it is closed.
  pub record CallsOne (outcome : CallOutcome) : Type 0 where
    pub admitted : MayBeSent x.mode x.documents
    pub ends : R × K
    pub left : R × K
    pub handed : Told n.waiting n'.waiting (λ before after. before ≡ ends ∷ after)
    pub begins : AreNew n.closed (input_of ends.0) (output_of ends.1)
    pub calls : CallsPeer x via (line outcome.sent) (input_of ends.0)
        (input_of left.0) (output_of ends.1) (output_of left.1) o o' outcome
    pub closed : Told n.closed n'.closed (λ before after. (pair : List ℕ × List ℕ)
        × (after ≡ before ++ pair ∷ []) × ((input_of left.0).taken ≡ Some pair.0)
        × ((output_of left.1).written ≡ Some pair.1))
    pub end_faults : n'.end_faults
        ≡ added_up n.end_faults (input_of left.0).faults (output_of left.1).faults
    pub out : n'.out ≡ n.out
    pub faults : n'.faults ≡ n.faults

  -- The wire made no connection.
  pub record CallsNone : Type 0 where
    pub waiting : Told n.waiting n'.waiting (λ before after. after ≡ before)
    pub closed : n'.closed ≡ n.closed
    pub end_faults : n'.end_faults ≡ n.end_faults
    pub out : n'.out ≡ n.out
    pub counted : CountsFaults n.faults n'.faults ⊤
    pub unwritten : o' ≡ o

  -- What is known where a place was called, however that ended. No connection is asked for where
  -- the documents may not be sent in one session, or where there was no memory to begin.
  abbrev pub CallsPlace : Called → Type 0
  CallsPlace WrongCount = (MayBeSent x.mode x.documents → ⊥) × (n' ≡ n) × (o' ≡ o)
  CallsPlace Starved = (n' ≡ n) × (o' ≡ o)
  CallsPlace Unconnected = CallsNone
  CallsPlace (Closed outcome) = CallsOne outcome
