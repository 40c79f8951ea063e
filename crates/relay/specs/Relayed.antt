-- What was read and written where two sessions were joined, however that ends.
use Rattle.std.specs.Prelude.{◌≡◌, ℕ, true, false, List, [], Some, Option, ⊤}
use Rattle.io_edges.specs.{Faults.CountsFaults, Views.SinkView}
use Rattle.nbfx_values.specs.{Limits.Limits}
use Rattle.string_tables.specs.StaticStrings.{Entry}
use Rattle.nbfx_values.specs.declared.session.{Kind.Kind, Mode.Mode}
use Rattle.nmf_records.specs.{declared.frame.Frame.TheVariants.PreambleAck, Writing.frame_bytes_of}
use Rattle.nbfx_encoder.specs.declared.sender.Side.TheVariants.{Initiator, Receiver}
use Rattle.stream_reader.specs.Stream.{initiators, receivers, Settings, stream}
use Rattle.stream_loop.specs.{Edges.Input, Followed.Follows}
use Rattle.receiver_machine.specs.Owed.{closing_bytes}
use Rattle.nbfx_values.specs.declared.session.Encoding.TheVariants.{Known}
use Rattle.initiator_machine.specs.Opening.{opening_bytes}
use Rattle.session_report.specs.declared.reading.Event.{Event}
use Rattle.relay.specs.declared.outcome.{PumpIn.PumpIn, PumpOut.PumpOut, RelayOutcome.RelayOutcome}
use Rattle.relay.specs.Events.{has_begun, kind_in, mode_in, said}
use Rattle.relay.specs.Carried.{Carried, carried_by, Carries, Carrying, EndsSo, last_of}
use Rattle.relay.specs.Outcomes.{ending_of}
use Rattle.relay.specs.declared.outcome.PumpIn.TheVariants as ins
use Rattle.relay.specs.declared.outcome.PumpOut.TheVariants as outs

-- what a relay is set to: the static strings of both sides, the quotas of what goes forward and of
-- what goes back, the Via that its front serves alone, or any, and the one that it calls
pub record Relay : Type 0 where
  pub front : List Entry
  pub back : List Entry
  pub forward : Limits
  pub backward : Limits
  pub endpoint : Option (List ℕ)
  pub via : List ℕ

-- the stream of the front
abbrev pub front_of : Relay → Settings
front_of x = record { side = initiators x.endpoint; statics = x.front; limits = x.forward }

-- in a session of this mode and encoding
module _ (x : Relay) (mode : Mode) (kind : Kind) where
  -- the stream of the back
  abbrev pub back_by : Settings
  back_by = record { side = receivers mode kind; statics = x.back; limits = x.backward }

  -- what is written to the back
  abbrev pub to_back : Carrying
  to_back = record {
    side = Initiator;
    limits = x.forward;
    statics = x.back;
    mode = mode;
    kind = kind;
    opening = opening_bytes mode (Known kind) x.via;
  }

  -- and to the front
  abbrev pub to_front : Carrying
  to_front = record {
    side = Receiver;
    limits = x.backward;
    statics = x.front;
    mode = mode;
    kind = kind;
    opening = frame_bytes_of PreambleAck [];
  }

-- the same by the events of the front, whose preamble names mode and encoding
module _ (x : Relay) (f : List Event) where
  abbrev pub back_of : Settings
  back_of = back_by x (mode_in f) (kind_in f)

  abbrev pub forward_of : Carrying
  forward_of = to_back x (mode_in f) (kind_in f)

  abbrev pub backward_of : Carrying
  backward_of = to_front x (mode_in f) (kind_in f)

-- what a front is told that was refused before it opened a session: the Fault record of its
-- offence, where there is one
abbrev pub refusal_of : PumpIn → List ℕ
refusal_of (ins.Offended offence) = closing_bytes (Some offence)
refusal_of read = []

-- what is written to the front at last, by how the reading of the back and of the front ended
abbrev pub last_back : (back : PumpIn) → (front : PumpIn) → Carried → List ℕ
last_back ins.NotOpened front s = refusal_of front
last_back back front s = last_of back s

-- the writing ended before all was written
abbrev pub IsStopped : PumpOut → Type 0
IsStopped outs.WriteFault = ⊤
IsStopped outs.Memory = ⊤
IsStopped written = ⊥

-- a stream is over that brought no Ack, or no more of it is read
abbrev pub EndsUnaccepted : PumpIn → Type 0
EndsUnaccepted (ins.Offended offence) = ⊤
EndsUnaccepted ins.PeerFault = ⊤
EndsUnaccepted ins.ReadFault = ⊤
EndsUnaccepted ins.Memory = ⊤
EndsUnaccepted read = ⊥

-- How far the opening of both sessions came, by the events that were read of the front and of the
-- back. In each of these ways but the last no document was carried, and no Ack was written whole.
module _ (f b : List Event) (bi bi' : Input) (o : RelayOutcome) where
  -- The front's preamble didn't come. Nothing was read of the back.
  pub record IsUnopened : Type 0 where
    pub no_preamble : has_begun Initiator f ≡ false
    pub unread : (b ≡ []) × (bi' ≡ bi)
    pub front_read : o.forward.read ≡ ins.NotOpened → ⊥
    pub back_read : o.backward.read ≡ ins.NotOpened
    pub forward_none : o.forward.documents ≡ 0
    pub backward_none : o.backward.documents ≡ 0

  -- The back's preamble couldn't be written. Nothing was read of the back.
  pub record IsUnsent : Type 0 where
    pub preamble : has_begun Initiator f ≡ true
    pub unread : (b ≡ []) × (bi' ≡ bi)
    pub front_read : o.forward.read ≡ ins.NotOpened
    pub back_read : o.backward.read ≡ ins.NotOpened
    pub stopped : IsStopped o.forward.written
    pub forward_none : o.forward.documents ≡ 0
    pub backward_none : o.backward.documents ≡ 0

  -- The back's Ack didn't come.
  pub record IsUnaccepted : Type 0 where
    pub preamble : has_begun Initiator f ≡ true
    pub no_ack : has_begun Receiver b ≡ false
    pub front_read : o.forward.read ≡ ins.NotOpened
    pub back_read : EndsUnaccepted o.backward.read
    pub forward_none : o.forward.documents ≡ 0
    pub backward_none : o.backward.documents ≡ 0

  -- The Ack couldn't be written to the front.
  pub record IsUnacknowledged : Type 0 where
    pub preamble : has_begun Initiator f ≡ true
    pub ack : has_begun Receiver b ≡ true
    pub front_read : o.forward.read ≡ ins.NotOpened
    pub back_read : o.backward.read ≡ ins.NotOpened
    pub stopped : IsStopped o.backward.written
    pub forward_none : o.forward.documents ≡ 0
    pub backward_none : o.backward.documents ≡ 0

  -- Both sessions were opened, and both directions read on to their ends.
  pub record IsJoined : Type 0 where
    pub preamble : has_begun Initiator f ≡ true
    pub ack : has_begun Receiver b ≡ true
    pub front_read : o.forward.read ≡ ins.NotOpened → ⊥
    pub back_read : o.backward.read ≡ ins.NotOpened → ⊥

  pub data Reaches : Type 0 where
    unopened : IsUnopened → Reaches
    unsent : IsUnsent → Reaches
    unaccepted : IsUnaccepted → Reaches
    unacknowledged : IsUnacknowledged → Reaches
    joined : IsJoined → Reaches

-- what was read and written where these are the events that were read of the front and of the back
pub record Relays (x : Relay) (f b : List Event) (bi bi' : Input) (fo fo' bo bo' : SinkView)
    (o : RelayOutcome) : Type 0 where
  pub reaches : Reaches f b bi bi' o
  pub forward : Carries (forward_of x f)
      (last_of o.forward.read (carried_by (forward_of x f) f)) f bo bo' o.forward
  pub backward : Carries (backward_of x f)
      (last_back o.backward.read o.forward.read (carried_by (backward_of x f) b)) b fo fo'
      o.backward
  pub front_ended : EndsSo o.forward.read f
  pub back_ended : EndsSo o.backward.read b

module _ (x : Relay) (fi fi' bi bi' : Input) (fo fo' bo bo' : SinkView) (o : RelayOutcome) where
  -- bytes of the front and of the back were read, and for their events so much was written
  abbrev pub FollowsBoth : Type 0
  FollowsBoth = Follows (stream (front_of x)) (λ f. Follows (stream (back_of x (said f))) (λ b.
      Relays x (said f) (said b) bi bi' fo fo' bo bo' o) bi bi' (ending_of o.backward.read))
      fi fi' (ending_of o.forward.read)

  -- What is known of a relay: that, and what the calls that failed by the outside left of the
  -- counts of all ends.
  pub record IsRelayed : Type 0 where
    pub follows : FollowsBoth
    pub front_reads : CountsFaults fi.faults fi'.faults (o.forward.read ≡ ins.ReadFault)
    pub back_reads : CountsFaults bi.faults bi'.faults (o.backward.read ≡ ins.ReadFault)
    pub front_writes : CountsFaults fo.faults fo'.faults (o.backward.written ≡ outs.WriteFault)
    pub back_writes : CountsFaults bo.faults bo'.faults (o.forward.written ≡ outs.WriteFault)
