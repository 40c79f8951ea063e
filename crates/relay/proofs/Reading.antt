-- What was read of a side, and said of its events, when the loop ends.
use Rattle.std.proofs.Common.{◌≡◌, ℕ, Bool, true, false, List, [], ◌∷◌, ◌++◌, Some, None, Ok}
use Rattle.std.proofs.Common.{Err, Option, Result, sym, refl, ap, ◌∙◌, subst, inl, inr}
use Rattle.std.proofs.Common.{append_assoc, IfErr, IfOk, OnOk}
use Rattle.std.{specs.Option.option_map, proofs.lemmas.List.map-append}
use Rattle.io_edges.specs.Faults.{CountsFaults}
use Rattle.unit_streams.specs.{Going.IsPending, Judging.events_in, Judging.events_of}
use Rattle.nbfx_values.specs.declared.refusals.Offence.{Offence}
use Rattle.nbfx_encoder.specs.declared.sender.Side.{Side, TheVariants.Initiator}
use Rattle.nbfx_encoder.specs.declared.sender.Side.TheVariants.{Receiver}
use Rattle.nbfx_values.specs.declared.session.{Kind.Kind, Mode.Mode}
use Rattle.stream_reader.specs.Stream.{accepted, ended, ends, message, opened, peer_fault}
use Rattle.stream_reader.specs.Stream.{Settings, stream, StreamEvent}
use Rattle.stream_reader.specs.StreamReaderState.{settings_of, StandsFor}
use Rattle.stream_loop.proofs.Counts.{counts_as}
use Rattle.stream_loop.proofs.Taking.{broken, decided, follows_as, handled_whole, starved}
use Rattle.stream_loop.proofs.Taking.{unbegun}
use Rattle.stream_loop.specs.declared.resuming.ReadOn.{ReadOn}
use Rattle.stream_loop.specs.{Edges.Input, Followed.AreHandled, Followed.Follows}
use Rattle.stream_loop.specs.Resumed.{HasComeTo, ReadsOn, then_at, WasHalted}
use Rattle.stream_loop.specs.declared.following.FollowEnding.{FollowEnding}
use Rattle.session_report.specs.{declared.reading.Event.Event, Saying.event_for}
use Rattle.relay.specs.declared.{beginning.Begun.Begun, beginning.Beginning.Beginning}
use Rattle.relay.specs.declared.{listener.Listener.Listener, outcome.PumpIn.PumpIn}
use Rattle.relay.specs.Beginning.{Begins, begun_at, EndsBefore, HasBegun, HasWaited}
use Rattle.relay.specs.{Carried.EndsSo, Events.faulted_along, Events.has_begun, Events.said}
use Rattle.unit_streams.specs.declared.Memory.{Memory as Want}
use Rattle.relay.specs.Outcomes.{ending_of, inbound_by, read_by}
use Rattle.stream_loop.specs.declared.following.FollowEnding.TheVariants as endings
use Rattle.stream_loop.specs.declared.resuming.ReadOn.TheVariants as reads
use Rattle.session_report.specs.declared.reading.Event.TheVariants as heard
use Rattle.relay.specs.declared.beginning.Begun.TheVariants as begun
use Rattle.relay.specs.declared.outcome.PumpIn.TheVariants as ins

-- ---- the answer of the loop

-- the last event says how a stream ended
pub ends_by : {H : Type 0} (r : ReadOn Offence H) (faulted : Bool) (read : PumpIn)
    (events : List Event) → read_by r faulted ≡ Err read
    → faulted ≡ faulted_along false events → EndsSo read events
ends_by (reads.Judged (Some offence)) faulted read events is last =
    let e : ins.Offended offence ≡ read = cc in subst (λ (v : PumpIn). EndsSo v events) e tt
ends_by (reads.Judged None) true read events is last =
    let e : ins.PeerFault ≡ read = cc in
    subst (λ (v : PumpIn). EndsSo v events) e (sym last)
ends_by (reads.Judged None) false read events is last =
    let e : ins.Ended ≡ read = cc in
    subst (λ (v : PumpIn). EndsSo v events) e (sym last)
ends_by reads.ReadFault faulted read events is last =
    let e : ins.ReadFault ≡ read = cc in subst (λ (v : PumpIn). EndsSo v events) e tt
ends_by reads.Memory faulted read events is last =
    let e : ins.Memory ≡ read = cc in subst (λ (v : PumpIn). EndsSo v events) e tt
ends_by (reads.Halted halt) faulted read events is last = cc

-- it isn't NotOpened, and a failed read is said so
pub opened_by : {H : Type 0} (r : ReadOn Offence H) (faulted : Bool) (read : PumpIn)
    → read_by r faulted ≡ Err read → read ≡ ins.NotOpened → ⊥
opened_by (reads.Judged (Some offence)) faulted read is not = cc
opened_by (reads.Judged None) true read is not = cc
opened_by (reads.Judged None) false read is not = cc
opened_by reads.ReadFault faulted read is not = cc
opened_by reads.Memory faulted read is not = cc
opened_by (reads.Halted halt) faulted read is not = cc

pub counted_by : {H : Type 0} (f f' : ℕ) (r : ReadOn Offence H) (faulted : Bool) (read : PumpIn)
    → read_by r faulted ≡ Err read → CountsFaults f f' (r ≡ reads.ReadFault)
    → CountsFaults f f' (read ≡ ins.ReadFault)
counted_by f f' (reads.Judged (Some offence)) faulted read is h =
    counts_as f f' _ _ (λ e. cc) (λ e. cc) h
counted_by f f' (reads.Judged None) true read is h = counts_as f f' _ _ (λ e. cc) (λ e. cc) h
counted_by f f' (reads.Judged None) false read is h = counts_as f f' _ _ (λ e. cc) (λ e. cc) h
counted_by f f' reads.ReadFault faulted read is h =
    counts_as f f' _ _ (λ e. let s : ins.ReadFault ≡ read = cc in sym s) (λ e. refl) h
counted_by f f' reads.Memory faulted read is h = counts_as f f' _ _ (λ e. cc) (λ e. cc) h
counted_by f f' (reads.Halted halt) faulted read is h = cc

pub uncounted_by : {H : Type 0} (f f' : ℕ) (r : ReadOn Offence H) (faulted : Bool) (halt : H)
    → read_by r faulted ≡ Ok halt → CountsFaults f f' (r ≡ reads.ReadFault) → f' ≡ f
uncounted_by f f' (reads.Judged (Some offence)) faulted halt is h = cc
uncounted_by f f' (reads.Judged None) true halt is h = cc
uncounted_by f f' (reads.Judged None) false halt is h = cc
uncounted_by f f' reads.ReadFault faulted halt is h = cc
uncounted_by f f' reads.Memory faulted halt is h = cc
uncounted_by f f' (reads.Halted halt') faulted halt is h = h.same (λ e. cc)

-- ---- what was read then

module _ (y : Settings) (i i' : Input) (P : List Event → Type 0) where
  abbrev HandledSo : List StreamEvent → List StreamEvent → Type 0
  HandledSo paused since = P (said paused ++ said since)

  abbrev Follows' : FollowEnding Offence → Type 0
  Follows' ending = Follows (stream y) (λ all. P (said all)) i i' ending

  so_handled : (ending : FollowEnding Offence)
      → Follows (stream y) (AreHandled event_for (λ paused since. P (paused ++ since))) i i' ending
      → Follows' ending
  so_handled ending h = follows_as (stream y) _ _ i i' ending (handled_whole event_for P) h

  module _ {H : Type 0} (stands : List ℕ → Type 0)
      (Halts : H → Option StreamEvent → List StreamEvent → List StreamEvent → Type 0)
      (Waits : Type 0) (left : List ℕ) where
    abbrev Reads : ReadOn Offence H → Type 0
    Reads r = ReadsOn (stream y) i i' ends stands HandledSo Halts Waits left r

    judged_so : (judged : Option Offence) → Reads (reads.Judged judged)
        → Follows' (endings.Judged judged)
    judged_so judged w = so_handled (endings.Judged judged)
        (decided (stream y) event_for (λ paused since. P (paused ++ since)) i i' left judged w)

    pub follows_by : (r : ReadOn Offence H) (faulted : Bool) (read : PumpIn)
        → read_by r faulted ≡ Err read → Reads r → Follows' (ending_of read)
    follows_by (reads.Judged (Some offence)) faulted read is w =
        let e : ins.Offended offence ≡ read = cc in
        subst (λ (v : PumpIn). Follows' (ending_of v)) e (judged_so (Some offence) w)
    follows_by (reads.Judged None) true read is w =
        let e : ins.PeerFault ≡ read = cc in
        subst (λ (v : PumpIn). Follows' (ending_of v)) e (judged_so None w)
    follows_by (reads.Judged None) false read is w =
        let e : ins.Ended ≡ read = cc in
        subst (λ (v : PumpIn). Follows' (ending_of v)) e (judged_so None w)
    follows_by reads.ReadFault faulted read is w =
        let e : ins.ReadFault ≡ read = cc in
        subst (λ (v : PumpIn). Follows' (ending_of v)) e (so_handled endings.ReadFault
        (broken (stream y) event_for (λ paused since. P (paused ++ since)) i i' Waits w))
    follows_by reads.Memory faulted read is w =
        let e : ins.Memory ≡ read = cc in
        subst (λ (v : PumpIn). Follows' (ending_of v)) e (so_handled endings.Memory
        (starved (stream y) event_for (λ paused since. P (paused ++ since)) i i' w))
    follows_by (reads.Halted halt) faulted read is w = cc

    pub halts_by : (r : ReadOn Offence H) (faulted : Bool) (halt : H)
        → read_by r faulted ≡ Ok halt → Reads r
        → WasHalted (stream y) i i' ends stands (Halts halt) left
    halts_by (reads.Judged (Some offence)) faulted halt is w = cc
    halts_by (reads.Judged None) true halt is w = cc
    halts_by (reads.Judged None) false halt is w = cc
    halts_by reads.ReadFault faulted halt is w = cc
    halts_by reads.Memory faulted halt is w = cc
    halts_by (reads.Halted halt') faulted halt is w =
        let e : halt' ≡ halt = cc in
        subst (λ (v : H). WasHalted (stream y) i i' ends stands (Halts v) left) e w

-- ---- where it stopped

-- what begins a session doesn't end the stream
begins_on : (at : Option StreamEvent) (last : StreamEvent) (event : Event) (side : Side)
    (halt : Begun) → option_map event_for at ≡ Some event → begun_at event side ≡ Some halt
    → at ≡ Some last → ends last ≡ true → ⊥
begins_on at (opened mode kind via) event side halt said_is so is over = cc
begins_on at accepted event side halt said_is so is over = cc
begins_on at (message e) event side halt said_is so is over = cc
begins_on at (ended n) event side halt said_is so is over =
    let e = ap (option_map event_for) is in
    let k : begun_at (heard.Ended n) side ≡ None = refl in cc
begins_on at (peer_fault n text) event side halt said_is so is over =
    let e = ap (option_map event_for) is in
    let k : begun_at (heard.PeerFault n text) side ≡ None = refl in cc

one_event : (at : Option StreamEvent) (event : Event) → option_map event_for at ≡ Some event
    → (e : StreamEvent) × (at ≡ Some e) × (event_for e ≡ event)
one_event None event is = cc
one_event (Some e) event is = let k : event_for e ≡ event = cc in (e, refl, k)

module _ (y : Settings) (i i' : Input) (side : Side) (b : Beginning) (b_side : b.side ≡ side)
    (halt : Begun) (l : Listener) (grammar : stream (settings_of l.end.reader) ≡ stream y)
    (w : WasHalted (stream y) i i' ends (StandsFor l.end.reader)
    (λ at paused since. HasBegun (said paused ++ said since) (option_map event_for at) halt b)
    l.buffer) where
  abbrev earlier : List StreamEvent
  earlier = events_of (stream y) w.before

  abbrev event : Event
  event = w.halted.event

  abbrev handled : List Event
  handled = (said earlier ++ said w.since) ++ event ∷ []

  begins_here : begun_at event side ≡ Some halt
  begins_here = ap (begun_at event) (sym b_side) ∙ w.halted.begins_so

  found : (e : StreamEvent) × (w.at ≡ Some e) × (event_for e ≡ event)
  found = one_event w.at event w.halted.at_is

  all_are : said ((earlier ++ w.since) ++ found.0 ∷ []) ≡ handled
  all_are = map-append event_for (earlier ++ w.since) (found.0 ∷ [])
      ∙ ap (λ l. l ++ event_for found.0 ∷ []) (map-append event_for earlier w.since)
      ∙ ap (λ e. (said earlier ++ said w.since) ++ e ∷ []) found.2

  pub begins_by : Begins y i i' side halt l
  begins_by = record {
    events = handled;
    begins_so = record {
      before = said earlier ++ said w.since;
      event = event;
      joined = refl;
      unbegun = rw (sym b_side) w.halted.unbegun;
      begins_so = begins_here;
    };
    stops = record {
      before = w.before;
      piece = w.piece;
      pending = w.came.pending;
      short = w.came.short;
      events = (earlier ++ w.since) ++ found.0 ∷ [];
      handled = all_are;
      first = λ more. rw found.1 at (w.first more);
      stream = w.came.stream;
      took = w.came.took;
      no_empty_take = w.no_empty_take;
    };
    comes = record {
      grammar = grammar;
      read = w.read;
      come = record {
        stands_for = w.stands_for;
        on = elim w.goes_on [
          | inl on ↦ on
          | inr over ↦ absurd (begins_on w.at over.0.0 event side halt w.halted.at_is begins_here
              over.0.1 over.0.2)
        ];
        before = w.before;
        piece = w.piece;
        came = w.came;
        joined = w.joined;
        since = w.since ++ found.0 ∷ [];
        events_are = w.events_are ∙ ap (then_at (earlier ++ w.since)) found.1
            ∙ append_assoc earlier w.since (found.0 ∷ []);
        handled = ap (λ l. said earlier ++ l) (map-append event_for w.since (found.0 ∷ []))
            ∙ sym (append_assoc (said earlier) (said w.since) (event_for found.0 ∷ []))
            ∙ ap (λ e. (said earlier ++ said w.since) ++ e ∷ []) found.2;
        no_empty_take = w.no_empty_take;
      };
    };
  }

-- what was handled says what follows from it
pub comes_as : (y : Settings) (i i' : Input) (P Q : List StreamEvent → List StreamEvent → Type 0)
    (stands : List ℕ → Type 0) (read left : List ℕ)
    → ((paused since : List StreamEvent) → P paused since → Q paused since)
    → HasComeTo (stream y) i i' stands P read left → HasComeTo (stream y) i i' stands Q read left
comes_as y i i' P Q stands read left weaker h = record {
  stands_for = h.stands_for;
  on = h.on;
  before = h.before;
  piece = h.piece;
  came = h.came;
  joined = h.joined;
  since = h.since;
  events_are = h.events_are;
  handled = weaker _ _ h.handled;
  no_empty_take = h.no_empty_take;
}

-- ---- up to what begins a session

pub waited_none : (b : Beginning) (handled : List Event) → b.faulted ≡ false → handled ≡ []
    → HasWaited handled b
unfolding has_begun faulted_along
waited_none b handled fresh none = rw none (record { unbegun = refl; faulted_is = fresh })

module _ (y : Settings) (i i' : Input) (side : Side) (b : Beginning) (b_side : b.side ≡ side)
    (l : Listener) (grammar : stream (settings_of l.end.reader) ≡ stream y) (Waits : Type 0)
    (r : ReadOn Offence Begun)
    (h : ReadsOn (stream y) i i' ends (StandsFor l.end.reader)
    (λ paused since. HasWaited (said paused ++ said since) b)
    (λ halt at paused since. HasBegun (said paused ++ said since) (option_map event_for at) halt b)
    Waits l.buffer r) where
  pub begun_so : (result : Result Begun PumpIn) → result ≡ read_by r b.faulted
      → IfOk result (λ halt. Begins y i i' side halt l)
  begun_so (Ok halt) is = begins_by y i i' side b b_side halt l grammar
      (halts_by y i i' (λ events. HasWaited events b) (StandsFor l.end.reader)
      (λ halt at paused since.
      HasBegun (said paused ++ said since) (option_map event_for at) halt b)
      Waits l.buffer r b.faulted halt (sym is) h)
  begun_so (Err read) is = tt

  pub ended_so : (result : Result Begun PumpIn) → result ≡ read_by r b.faulted
      → IfErr result (λ read. EndsBefore y i i' side read)
  ended_so (Ok halt) is = tt
  ended_so (Err read) is = follows_as (stream y) _ _ i i' (ending_of read)
      (λ all waited. (
        subst (λ (s : Side). has_begun s (said all) ≡ false) b_side waited.unbegun,
        ends_by r b.faulted read (said all) (sym is) waited.faulted_is,
      ))
      (follows_by y i i' (λ events. HasWaited events b) (StandsFor l.end.reader)
      (λ halt at paused since.
      HasBegun (said paused ++ said since) (option_map event_for at) halt b)
      Waits l.buffer r b.faulted read (sym is) h)

pub open_so : {H : Type 0} (r : ReadOn Offence H) (faulted : Bool) (result : Result H PumpIn)
    → result ≡ read_by r faulted → IfErr result (λ read. read ≡ ins.NotOpened → ⊥)
open_so r faulted (Ok halt) is = tt
open_so r faulted (Err read) is = opened_by r faulted read (sym is)

pub counted_so : {H : Type 0} (f f' : ℕ) (r : ReadOn Offence H) (faulted : Bool)
    (result : Result H PumpIn) → result ≡ read_by r faulted
    → CountsFaults f f' (r ≡ reads.ReadFault)
    → IfErr result (λ read. CountsFaults f f' (read ≡ ins.ReadFault))
counted_so f f' r faulted (Ok halt) is h = tt
counted_so f f' r faulted (Err read) is h = counted_by f f' r faulted read (sym is) h

pub uncounted_so : {H : Type 0} (f f' : ℕ) (r : ReadOn Offence H) (faulted : Bool)
    (result : Result H PumpIn) → result ≡ read_by r faulted
    → CountsFaults f f' (r ≡ reads.ReadFault) → OnOk result (f' ≡ f)
uncounted_so f f' r faulted (Ok halt) is h = uncounted_by f f' r faulted halt (sym is) h
uncounted_so f f' r faulted (Err read) is h = tt

-- ---- nothing was read

pub ends_unbegun : (y : Settings) (i : Input) (side : Side) → IsPending (stream y) []
    → EndsBefore y i i side ins.Memory
unfolding has_begun events_of events_in
ends_unbegun y i side pending = unbegun (stream y) _ i pending (refl, tt)

-- the front's session begins with its preamble, and the back's with its Ack
pub never_accepted : (event : Event) → begun_at event Initiator ≡ Some begun.Accepted → ⊥
never_accepted (heard.Opened mode kind via) is = cc
never_accepted heard.Accepted is = cc
never_accepted (heard.Message received) is = cc
never_accepted (heard.Ended n) is = cc
never_accepted (heard.PeerFault n text) is = cc

pub never_opened : (event : Event) (mode : Mode) (kind : Kind)
    → begun_at event Receiver ≡ Some (begun.Opened mode kind) → ⊥
never_opened (heard.Opened m k via) mode kind is = cc
never_opened heard.Accepted mode kind is = cc
never_opened (heard.Message received) mode kind is = cc
never_opened (heard.Ended n) mode kind is = cc
never_opened (heard.PeerFault n text) mode kind is = cc

-- ---- a carrier never stops the reading

pub opened_in : (r : ReadOn Offence Want) (faulted : Bool) → inbound_by r faulted ≡ ins.NotOpened
    → ⊥
opened_in (reads.Judged (Some offence)) faulted is = cc
opened_in (reads.Judged None) true is = cc
opened_in (reads.Judged None) false is = cc
opened_in reads.ReadFault faulted is = cc
opened_in reads.Memory faulted is = cc
opened_in (reads.Halted halt) faulted is = cc

pub counted_in : (f f' : ℕ) (r : ReadOn Offence Want) (faulted : Bool) (read : PumpIn)
    → read ≡ inbound_by r faulted → CountsFaults f f' (r ≡ reads.ReadFault)
    → CountsFaults f f' (read ≡ ins.ReadFault)
counted_in f f' (reads.Judged (Some offence)) faulted read is h =
    counts_as f f' _ _ (λ e. cc) (λ e. cc) h
counted_in f f' (reads.Judged None) true read is h = counts_as f f' _ _ (λ e. cc) (λ e. cc) h
counted_in f f' (reads.Judged None) false read is h = counts_as f f' _ _ (λ e. cc) (λ e. cc) h
counted_in f f' reads.ReadFault faulted read is h = counts_as f f' _ _ (λ e. is) (λ e. refl) h
counted_in f f' reads.Memory faulted read is h = counts_as f f' _ _ (λ e. cc) (λ e. cc) h
counted_in f f' (reads.Halted halt) faulted read is h = counts_as f f' _ _ (λ e. cc) (λ e. cc) h
