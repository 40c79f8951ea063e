-- What is known of a relay, by how far the opening of both sessions came.
use Rattle.std.proofs.Common.{◌≡◌, ℕ, true, false, List, [], sym, refl, ap, ◌∙◌}
use Rattle.std.proofs.Common.{arith, subst}
use Rattle.io_edges.specs.{Faults.CountsFaults, Views.SinkView}
use Rattle.nbfx_values.specs.declared.{refusals.Offence.Offence}
use Rattle.nbfx_values.specs.declared.session.{Kind.Kind, Mode.Mode}
use Rattle.nbfx_encoder.specs.declared.sender.Side.{Side, TheVariants.Initiator}
use Rattle.nbfx_encoder.specs.declared.sender.Side.TheVariants.{Receiver}
use Rattle.stream_reader.specs.Stream.{stream, StreamEvent}
use Rattle.stream_loop.proofs.{Counts.counts_as, Counts.handled_some, Counts.writes_counted}
use Rattle.stream_loop.proofs.Taking.{follows_as, unbegun}
use Rattle.stream_loop.specs.declared.{following.FollowEnding.FollowEnding}
use Rattle.stream_loop.specs.declared.{outbound.Outbound.Outbound}
use Rattle.stream_loop.specs.{Edges.Input, Followed.Follows}
use Rattle.unit_streams.specs.{Going.IsPending, Judging.events_in, Judging.events_of}
use Rattle.session_report.specs.declared.reading.Event.{Event}
use Rattle.relay.specs.declared.beginning.Begun.{Begun, TheVariants.Opened}
use Rattle.relay.specs.declared.{carrier.Carrier.Carrier, listener.Listener.Listener}
use Rattle.relay.specs.declared.beginning.Begun.TheVariants.{Accepted}
use Rattle.relay.specs.declared.outcome.{Pump.Pump, PumpIn.PumpIn, PumpOut.PumpOut}
use Rattle.relay.specs.declared.outcome.{RelayOutcome.RelayOutcome}
use Rattle.relay.specs.Beginning.{Begins, BeginsSo, EndsBefore}
use Rattle.relay.specs.Carried.{Carried, carried_by, carries, Carries, Carrying, EndsSo, last_of}
use Rattle.relay.specs.{Events.has_begun, Events.kind_in, Events.mode_in, Events.said}
use Rattle.relay.specs.{Outcomes.ending_of, Outcomes.outbound_of}
use Rattle.relay.specs.Pumping.{HasPumped}
use Rattle.relay.specs.Relayed.{back_by, back_of, backward_of, EndsUnaccepted, forward_of}
use Rattle.relay.specs.Relayed.{FollowsBoth, front_of, IsStopped, joined}
use Rattle.relay.specs.Relayed.{last_back, Reaches, refusal_of, Relay, Relays, to_back, to_front}
use Rattle.relay.specs.Relayed.{unaccepted, unacknowledged, unopened, unsent}
use Rattle.stream_loop.specs.Writing.{Wrote}
use Rattle.relay.specs.Writing.{HasCarried, IsNamed}
use Rattle.relay.proofs.{Begun.begun_at_last, Begun.named_first, Closing.front_none}
use Rattle.relay.proofs.Closing.{opened_by}
use Rattle.relay.specs.declared.outcome.PumpIn.TheVariants as ins
use Rattle.relay.specs.declared.outcome.PumpOut.TheVariants as outs
use Rattle.stream_loop.specs.declared.following.FollowEnding.TheVariants as endings
use Rattle.stream_loop.specs.declared.outbound.Outbound.TheVariants as outbounds

-- the last bytes to the front are those of its direction, where the back was read on
last_same : (back front : PumpIn) (s : Carried) → (back ≡ ins.NotOpened → ⊥)
    → last_back back front s ≡ last_of back s
last_same ins.Ended front s opened = refl
last_same (ins.Offended offence) front s opened = refl
last_same ins.PeerFault front s opened = refl
last_same ins.NotOpened front s opened = absurd (opened refl)
last_same ins.ReadFault front s opened = refl
last_same ins.Memory front s opened = refl

-- only behind a stream that ended well something is written at last
last_unended : (read : PumpIn) (s : Carried) → (read ≡ ins.Ended → ⊥) → last_of read s ≡ []
last_unended ins.Ended s never = absurd (never refl)
last_unended (ins.Offended offence) s never = refl
last_unended ins.PeerFault s never = refl
last_unended ins.NotOpened s never = refl
last_unended ins.ReadFault s never = refl
last_unended ins.Memory s never = refl

-- nothing but the front's refusal is written at last to a front whose session wasn't opened
last_refused : (back front : PumpIn) (s : Carried) → back ≡ ins.NotOpened
    → last_back back front s ≡ refusal_of front
last_refused back front s is = ap (λ (b : PumpIn). last_back b front s) is

last_quiet : (back front : PumpIn) (s : Carried) → back ≡ ins.NotOpened → front ≡ ins.NotOpened
    → last_back back front s ≡ []
last_quiet back front s is also = last_refused back front s is ∙ ap refusal_of also

last_given_up : (back front : PumpIn) (s : Carried) → EndsUnaccepted back
    → last_back back front s ≡ []
last_given_up ins.Ended front s ends = absurd ends
last_given_up (ins.Offended offence) front s ends = refl
last_given_up ins.PeerFault front s ends = refl
last_given_up ins.NotOpened front s ends = absurd ends
last_given_up ins.ReadFault front s ends = refl
last_given_up ins.Memory front s ends = refl

never_ended : (read : PumpIn) → read ≡ ins.NotOpened → read ≡ ins.Ended → ⊥
never_ended read is also = cc

ends_unread : (read : PumpIn) (events : List Event) → read ≡ ins.NotOpened → EndsSo read events
ends_unread read events is = subst (λ (r : PumpIn). EndsSo r events) (sym is) tt

-- nothing was read of the back
unread_at : (x : Relay) (mode : Mode) (kind : Kind) (P : List Event → Type 0) (bi bi' : Input)
    (read : PumpIn) → IsPending (stream (back_by x mode kind)) [] → P [] → bi' ≡ bi
    → read ≡ ins.NotOpened
    → Follows (stream (back_by x mode kind)) (λ b. P (said b)) bi bi' (ending_of read)
unfolding events_of events_in
unread_at x mode kind P bi bi' read pending none still is =
    subst (λ (r : PumpIn). Follows (stream (back_by x mode kind)) (λ b. P (said b)) bi bi'
    (ending_of r)) (sym is)
    (subst (λ (i : Input). Follows (stream (back_by x mode kind)) (λ b. P (said b)) bi i
    endings.Memory) (sym still) (unbegun (stream (back_by x mode kind)) _ bi pending none))

module _ (x : Relay) (fi fi' bi bi' : Input) (fo fo' bo bo' : SinkView) (o : RelayOutcome) where
  abbrev Both_at : FollowEnding Offence → Type 0
  Both_at ending = Follows (stream (front_of x)) (λ f. Follows (stream (back_of x (said f))) (λ b.
      Relays x (said f) (said b) bi bi' fo fo' bo bo' o) bi bi' (ending_of o.backward.read))
      fi fi' ending

  abbrev Both : Type 0
  Both = FollowsBoth x fi fi' bi bi' fo fo' bo bo' o

  -- the front's events name the mode and the encoding
  module _ (mode : Mode) (kind : Kind) where
    abbrev Relays' : List StreamEvent → List StreamEvent → Type 0
    Relays' f b = Relays x (said f) (said b) bi bi' fo fo' bo bo' o

    -- the back was read in these
    back_so : (f : List StreamEvent) → (mode_in (said f) ≡ mode) × (kind_in (said f) ≡ kind)
        → Follows (stream (back_by x mode kind)) (Relays' f) bi bi' (ending_of o.backward.read)
        → Follows (stream (back_by x (mode_in (said f)) (kind_in (said f)))) (Relays' f) bi bi'
        (ending_of o.backward.read)
    back_so f same h = rw (same.0, same.1) h

    -- ---- both directions read on to their ends
    pub both_joined : HasPumped (front_of x) fi (to_back x mode kind) bo fi' bo' o.forward
        → HasPumped (back_by x mode kind) bi (to_front x mode kind) fo bi' fo' o.backward
        → (o.forward.read ≡ ins.NotOpened → ⊥) → (o.backward.read ≡ ins.NotOpened → ⊥) → Both
    both_joined forward backward front_open back_open =
        follows_as (stream (front_of x)) _ _ fi fi' (ending_of o.forward.read)
        (λ f h. let same = h.named refl in back_so f same
        (follows_as (stream (back_by x mode kind)) _ _ bi bi' (ending_of o.backward.read)
        (λ b k. record {
          reaches = joined (record {
            preamble = h.opened;
            ack = k.opened;
            front_read = front_open;
            back_read = back_open;
          });
          forward = rw (same.0, same.1) h.carries;
          backward = rw (same.0, same.1) (rw (last_same o.backward.read o.forward.read
              (carried_by (to_front x mode kind) (said b)) back_open) k.carries);
          front_ended = h.ends;
          back_ended = k.ends;
        }) backward)) forward

    -- ---- the front was read up to its preamble

    module _ (events : List Event) (begins : BeginsSo Initiator events (Opened mode kind))
        (stops : Follows (stream (front_of x)) (λ all. said all ≡ events) fi fi' endings.Memory)
        (unread : o.forward.read ≡ ins.NotOpened)
        (forward : Carries (to_back x mode kind) [] events bo bo' o.forward)
        (forward_none : o.forward.documents ≡ 0) where
      same : (mode_in events ≡ mode) × (kind_in events ≡ kind)
      same = rw begins.joined (named_first begins.before begins.event mode kind begins.unbegun
          begins.begins_so)

      preamble : has_begun Initiator events ≡ true
      preamble = ap (has_begun Initiator) begins.joined
          ∙ begun_at_last Initiator begins.before begins.event (Opened mode kind) begins.begins_so

      forward_so : Carries (to_back x mode kind)
          (last_of o.forward.read (carried_by (to_back x mode kind) events)) events bo bo' o.forward
      forward_so = subst (λ (l : List ℕ). Carries (to_back x mode kind) l events bo bo' o.forward)
          (sym (last_unended o.forward.read (carried_by (to_back x mode kind) events)
          (λ is. never_ended o.forward.read unread is))) forward

      -- and the back so, with these events
      relays_so : (b : List Event) → Reaches events b bi bi' o
          → Carries (to_front x mode kind)
          (last_back o.backward.read o.forward.read (carried_by (to_front x mode kind) b)) b fo fo'
          o.backward
          → EndsSo o.backward.read b → Relays x events b bi bi' fo fo' bo bo' o
      relays_so b reaches backward ended = record {
        reaches = reaches;
        forward = rw (same.0, same.1) forward_so;
        backward = rw (same.0, same.1) backward;
        front_ended = ends_unread o.forward.read events unread;
        back_ended = ended;
      }

      back_at : (f : List StreamEvent) → said f ≡ events
          → Follows (stream (back_by x mode kind)) (λ b. Relays x events (said b) bi bi' fo fo' bo
          bo' o) bi bi' (ending_of o.backward.read)
          → Follows (stream (back_of x (said f))) (λ b. Relays x (said f) (said b) bi bi' fo fo' bo
          bo' o) bi bi' (ending_of o.backward.read)
      back_at f is h = rw is (rw (same.0, same.1) h)

      behind : (P : List Event → Type 0)
          → Follows (stream (back_by x mode kind)) (λ b. P (said b)) bi bi'
          (ending_of o.backward.read)
          → ((b : List Event) → P b → Relays x events b bi bi' fo fo' bo bo' o) → Both
      behind P back says = subst Both_at (ap ending_of (sym unread))
          (follows_as (stream (front_of x)) _ _ fi fi' endings.Memory (λ f is.
          back_at f is (follows_as (stream (back_by x mode kind)) _ _ bi bi'
          (ending_of o.backward.read) (λ b p. says (said b) p) back)) stops)

      -- the back's preamble couldn't be written
      pub both_unsent : o.backward.read ≡ ins.NotOpened → bi' ≡ bi
          → IsPending (stream (back_by x mode kind)) [] → IsStopped o.forward.written
          → Carries (to_front x mode kind) [] [] fo fo' o.backward → o.backward.documents ≡ 0
          → Both
      both_unsent back_read still pending stopped backward none = behind (λ b. b ≡ [])
          (unread_at x mode kind (λ b. b ≡ []) bi bi' o.backward.read pending refl still back_read)
          (λ b is. subst (λ (b : List Event). Relays x events b bi bi' fo fo' bo bo' o) (sym is)
          (relays_so [] (unsent (record {
            preamble = preamble;
            unread = (refl, still);
            front_read = unread;
            back_read = back_read;
            stopped = stopped;
            forward_none = forward_none;
            backward_none = none;
          }))
          (subst (λ (l : List ℕ). Carries (to_front x mode kind) l [] fo fo' o.backward)
          (sym (last_quiet o.backward.read o.forward.read _ back_read unread)) backward)
          (ends_unread o.backward.read [] back_read)))

      -- the back's Ack didn't come
      pub both_unaccepted : EndsBefore (back_by x mode kind) bi bi' Receiver o.backward.read
          → EndsUnaccepted o.backward.read
          → ((b : List Event) → has_begun Receiver b ≡ false
          → Carries (to_front x mode kind) [] b fo fo' o.backward) → o.backward.documents ≡ 0
          → Both
      both_unaccepted back ends backward none =
          behind (λ b. (has_begun Receiver b ≡ false) × EndsSo o.backward.read b) back (λ b h.
          relays_so b (unaccepted (record {
            preamble = preamble;
            no_ack = h.0;
            front_read = unread;
            back_read = ends;
            forward_none = forward_none;
            backward_none = none;
          }))
          (subst (λ (l : List ℕ). Carries (to_front x mode kind) l b fo fo' o.backward)
          (sym (last_given_up o.backward.read o.forward.read _ ends)) (backward b h.0)) h.1)

      -- the Ack couldn't be written to the front
      pub both_unacknowledged : (said_back : List Event) → BeginsSo Receiver said_back Accepted
          → Follows (stream (back_by x mode kind)) (λ all. said all ≡ said_back) bi bi'
          endings.Memory
          → o.backward.read ≡ ins.NotOpened → IsStopped o.backward.written
          → Carries (to_front x mode kind) [] said_back fo fo' o.backward
          → o.backward.documents ≡ 0 → Both
      both_unacknowledged said_back accepts back back_read stopped backward none =
          behind (λ b. b ≡ said_back)
          (subst (λ (e : FollowEnding Offence). Follows (stream (back_by x mode kind))
          (λ all. said all ≡ said_back) bi bi' e) (ap ending_of (sym back_read)) back)
          (λ b is. subst (λ (b : List Event). Relays x events b bi bi' fo fo' bo bo' o) (sym is)
          (relays_so said_back (unacknowledged (record {
            preamble = preamble;
            ack = ap (has_begun Receiver) accepts.joined
                ∙ begun_at_last Receiver accepts.before accepts.event Accepted accepts.begins_so;
            front_read = unread;
            back_read = back_read;
            stopped = stopped;
            forward_none = forward_none;
            backward_none = none;
          }))
          (subst (λ (l : List ℕ). Carries (to_front x mode kind) l said_back fo fo' o.backward)
          (sym (last_quiet o.backward.read o.forward.read _ back_read unread)) backward)
          (ends_unread o.backward.read said_back back_read)))

  -- the front's preamble didn't come
  pub both_unopened : EndsBefore (front_of x) fi fi' Initiator o.forward.read
      → (o.forward.read ≡ ins.NotOpened → ⊥) → o.backward.read ≡ ins.NotOpened → bi' ≡ bi
      → ((mode : Mode) (kind : Kind) → IsPending (stream (back_by x mode kind)) [])
      → ((mode : Mode) (kind : Kind) (f : List Event) → has_begun Initiator f ≡ false
      → Carries (to_back x mode kind) [] f bo bo' o.forward)
      → ((mode : Mode) (kind : Kind)
      → Carries (to_front x mode kind) (refusal_of o.forward.read) [] fo fo' o.backward)
      → (o.forward.read ≡ ins.Ended → ⊥) → o.forward.documents ≡ 0 → o.backward.documents ≡ 0
      → Both
  both_unopened ends open_read back_read still pending forward backward unended none none_back =
      follows_as (stream (front_of x)) _ _ fi fi' (ending_of o.forward.read) (λ f h.
      follows_as (stream (back_of x (said f))) _ _ bi bi' (ending_of o.backward.read) (λ b is.
      subst (λ (b : List Event). Relays x (said f) b bi bi' fo fo' bo bo' o) (sym is)
      (record {
        reaches = unopened (record {
          no_preamble = h.0;
          unread = (refl, still);
          front_read = open_read;
          back_read = back_read;
          forward_none = none;
          backward_none = none_back;
        });
        forward = subst (λ (l : List ℕ). Carries (forward_of x (said f)) l (said f) bo bo'
            o.forward) (sym (last_unended o.forward.read _ unended))
            (forward (mode_in (said f)) (kind_in (said f)) (said f) h.0);
        backward = subst (λ (l : List ℕ). Carries (backward_of x (said f)) l [] fo fo' o.backward)
            (sym (last_refused o.backward.read o.forward.read _ back_read))
            (backward (mode_in (said f)) (kind_in (said f)));
        front_ended = h.1;
        back_ended = ends_unread o.backward.read [] back_read;
      }))
      (unread_at x (mode_in (said f)) (kind_in (said f)) (λ b. b ≡ []) bi bi' o.backward.read
      (pending (mode_in (said f)) (kind_in (said f))) refl still back_read)) ends

  -- what was written says what failed
  pub writes_are_counted : Both
      → CountsFaults fo.faults fo'.faults (o.backward.written ≡ outs.WriteFault)
      × CountsFaults bo.faults bo'.faults (o.forward.written ≡ outs.WriteFault)
  writes_are_counted both =
      let f = handled_some (stream (front_of x)) _ fi fi' (ending_of o.forward.read) both in
      let b = handled_some _ _ bi bi' (ending_of o.backward.read) f.1 in (
        counted_so _ _ _ fo fo' o.backward b.1.backward,
        counted_so _ _ _ bo bo' o.forward
            b.1.forward,
      )
    where
      fault_so : (written : PumpOut) → outbound_of written ≡ outbounds.WriteFault
          → written ≡ outs.WriteFault
      fault_so outs.Done is = cc
      fault_so (outs.Unfit number fault) is = cc
      fault_so outs.WriteFault is = refl
      fault_so outs.Memory is = cc

      counted_so : (y : Carrying) (last : List ℕ) (events : List Event) (k k' : SinkView) (p : Pump)
          → Carries y last events k k' p
          → CountsFaults k.faults k'.faults (p.written ≡ outs.WriteFault)
      counted_so y last events k k' p h =
          counts_as k.faults k'.faults _ _ (fault_so p.written) (λ is. ap outbound_of is)
          (writes_counted (carries y) (outbound_of p.written) last k events
          (λ s. p.documents ≡ s.documents) k' h.wrote)

-- ---- of a relay that went on

-- a receiver's direction isn't named by the front's events
named_back : (z : Carrying) (events : List Event) → z.side ≡ Receiver → IsNamed z events
named_back z events is also = cc

-- the front was acknowledged
pub acknowledged : (x : Relay) (mode : Mode) (kind : Kind) (bi bi' : Input) (fo fo' : SinkView)
    (back : Listener) (begins : Begins (back_by x mode kind) bi bi' Receiver Accepted back)
    (z : Carrying) (set : z ≡ to_front x mode kind) (c : Carrier)
    → ((events : List Event) → BeginsSo z.side events Accepted → IsNamed z events
    → HasCarried z fo events c fo')
    → HasCarried (to_front x mode kind) fo begins.events c fo'
acknowledged x mode kind bi bi' fo fo' back begins z set c carried =
    subst (λ (z : Carrying). HasCarried z fo begins.events c fo') set
    (carried begins.events
    (subst (λ (s : Side). BeginsSo s begins.events Accepted)
    (sym (ap (λ (z : Carrying). z.side) set)) begins.begins_so)
    (named_back z begins.events (ap (λ (z : Carrying). z.side) set)))

-- the back's preamble was written
pub sent_on : (x : Relay) (mode : Mode) (kind : Kind) (fi fi' : Input) (bo bo' : SinkView)
    (front : Listener)
    (begins : Begins (front_of x) fi fi' Initiator (Opened mode kind) front)
    (z : Carrying) (set : z ≡ to_back x mode kind) (c : Carrier)
    → ((events : List Event) → BeginsSo z.side events (Opened mode kind) → IsNamed z events
    → HasCarried z bo events c bo')
    → HasCarried (to_back x mode kind) bo begins.events c bo'
sent_on x mode kind fi fi' bo bo' front begins z set c carried =
    let b = begins.begins_so in
    let n = named_first b.before b.event mode kind b.unbegun b.begins_so in
    subst (λ (z : Carrying). HasCarried z bo begins.events c bo') set
    (carried begins.events
    (subst (λ (s : Side). BeginsSo s begins.events (Opened mode kind))
    (sym (ap (λ (z : Carrying). z.side) set)) b)
    (λ is. (
      rw b.joined n.0 ∙ sym (ap (λ (z : Carrying). z.mode) set),
      rw b.joined n.1 ∙ sym (ap (λ (z : Carrying). z.kind) set),
    )))

-- where a direction was given up before any document
pub none_behind : (x : Carrying) (last : List ℕ) (events : List Event) (halt : Begun)
    (first now : SinkView) (p : Pump) → BeginsSo x.side events halt
    → Carries x last events first now p → p.documents ≡ 0
none_behind x last events halt first now p begins h =
    by (outbound_of p.written) h.wrote
  where
    by : (o : Outbound) → Wrote (carries x) o last first events (λ s. p.documents ≡ s.documents) now
        → p.documents ≡ 0
    by outbounds.Done w = w.left ∙ ap (λ (s : Carried). s.documents)
        (opened_by x events halt begins)
    by outbounds.WriteFault w = w.left ∙ front_none x events halt begins w.done w.rest w.joined
    by outbounds.Memory w = w.left ∙ front_none x events halt begins w.done w.rest w.joined

-- a source that wasn't read, or whose faults were counted before
pub unread_counted : (f : ℕ) (read : PumpIn) → read ≡ ins.NotOpened
    → CountsFaults f f (read ≡ ins.ReadFault)
unread_counted f read is = record { rose = λ e. cc; same = λ never. refl; grows = omega arith }
