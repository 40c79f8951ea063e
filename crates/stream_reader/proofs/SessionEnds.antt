-- A session is told by its events, whatever may follow, and so it closes its stream, and is one.
use Rattle.std.proofs.Common.{◌≡◌, ℕ, ◌+◌, ◌<◌, ◌≤◌, true, false, List, [], ◌∷◌, ◌++◌, length, None}
use Rattle.std.proofs.Common.{Option, sym, refl, ap, ◌∙◌, subst, append_assoc, append-nil, arith}
use Rattle.{std.proofs.Common.length-append, string_tables.specs.StaticStrings.Entry}
use Rattle.unit_streams.proofs.Along.{Passes, passes_between, passes_history, passes_none}
use Rattle.unit_streams.proofs.Along.{passes_then, passes_unit}
use Rattle.unit_streams.proofs.{Ends.over_closed, Histories.history_ends, Units.between_going}
use Rattle.unit_streams.proofs.Passing.{going_refusal, refusal_from}
use Rattle.unit_streams.specs.{Going.IsGoing, Grammar.standing, Judging.only, Judging.refusal_at}
use Rattle.unit_streams.specs.Judging.{History, history, is_over_at, led_by, offence as offence_by}
use Rattle.nbfx_values.specs.{declared.refusals.Offence.Offence, Limits.IsGood, Limits.Limits}
use Rattle.nbfx_values.specs.declared.session.{Kind.Kind, Mode.Mode}
use Rattle.nbfx_values.specs.declared.session.Mode.TheVariants.{Duplex, Simplex, Singleton}
use Rattle.nmf_records.specs.declared.script.{Direction.TheVariants.FromReceiver, Due.Due}
use Rattle.nmf_records.specs.RecordFronts.{bare, MayCome}
use Rattle.nmf_records.specs.Script.{behind_preamble, may_come}
use Rattle.stream_reader.specs.Sessions.{answer, broken_off, Carried, CarriesAll, CarriesThen}
use Rattle.stream_reader.specs.Sessions.{conversation, HasParts, IsAckThen, IsBare, IsClosed}
use Rattle.stream_reader.specs.Sessions.{IsFault, IsSession, lone_ack, MayCarry, MayFollow}
use Rattle.stream_reader.specs.Sessions.{message_events, Parts, session_events, SessionsAreTold}
use Rattle.stream_reader.specs.{Sessions.SpellsOneSession, Sessions.turned_down, Stream.StreamEvent}
use Rattle.stream_reader.specs.Stream.{accepted, after, beginning, completed, ended, frame}
use Rattle.stream_reader.specs.Stream.{initiators, is_over_in, opened, peer_fault, receivers}
use Rattle.stream_reader.specs.Stream.{record_due, refused, Settings, Side, Situation, stream}
use Rattle.stream_reader.proofs.{DueRecords.record_unit, LoneAck.ack_may_end}
use Rattle.stream_reader.proofs.FromSession.{at, CarriesTo, chunked_to, end_passes, fault_passes}
use Rattle.stream_reader.proofs.FromSession.{initiator_carries, left_by, preamble_passes, sized_to}
use Rattle.stream_reader.proofs.Grammar.{quiet_over, readable, short_enough}
use Rattle.nmf_records.specs.declared.frame.Frame.TheVariants as frames
use Rattle.nmf_records.specs.declared.script.Due.TheVariants as dues

-- the bytes of a session lead to its end, and bring its events
record Ends (x : Settings) (b : List ℕ) (events : List StreamEvent) : Type 0 where
  last : Situation
  over : is_over_in last.stage ≡ true
  passes : Passes (stream x) (beginning x) 0 b last events

module _ (x : Settings) where
  -- a last record behind a front leads to the end
  ends_with : (front last b : List ℕ) (z over : Situation) (events : List StreamEvent)
      (event : ℕ → StreamEvent) → front ++ last ≡ b → is_over_in over.stage ≡ true
      → Passes (stream x) (beginning x) 0 front z events
      → Passes (stream x) z (0 + length front) last over
      (event (0 + length front + length last) ∷ [])
      → Ends x b (events ++ event (length b) ∷ [])
  ends_with front last b z over events event bytes_are is_over first second =
      let size : 0 + length front + length last ≡ length b =
      let n = ap length bytes_are in let m = length-append front last in omega (arith, n, m) in
      record {
        last = over;
        over = is_over;
        passes =
            subst (λ (n : ℕ). Passes (stream x) (beginning x) 0 b over (events ++ event n ∷ []))
            size
            (subst (λ (c : List ℕ). Passes (stream x) (beginning x) 0 c over
            (events ++ event (0 + length front + length last) ∷ [])) bytes_are
            (passes_then (stream x) (beginning x) 0 front last z over events
            (event (0 + length front + length last) ∷ []) first second));
      }

module _ (endpoint : Option (List ℕ)) (statics : List Entry) (l : Limits) (good : IsGood l) where
  abbrev x : Settings
  x = record { side = initiators endpoint; statics = statics; limits = l }

  initiators_end : (parts : Parts) (b : List ℕ) → HasParts x (initiators endpoint) parts b
      → Ends x b (session_events parts (length b))
  initiators_end (answer carried) b h = absurd h
  initiators_end lone_ack b h = absurd h
  initiators_end (broken_off carried text) b h = absurd h
  initiators_end (turned_down text) b h = absurd h
  initiators_end (conversation mode kind via carried) b
      (preamble, rest, is_preamble, (envelopes, end, may, all, is_end, joined), bytes_are) =
      let c = initiator_carries endpoint statics l good mode kind via carried (0 + length preamble)
      envelopes may all in
      let events : List StreamEvent = message_events 0 [] carried in
      ends_with x (preamble ++ envelopes) end b _ _ (opened mode kind via ∷ events) (λ n. ended n)
      (append_assoc preamble envelopes end ∙ ap (λ r. preamble ++ r) (sym joined)
      ∙ sym bytes_are) refl
      (passes_then (stream x) (beginning x) 0 preamble envelopes _ _ (opened mode kind via ∷ [])
      events (preamble_passes endpoint statics l good mode kind via preamble is_preamble) c.passes)
      (end_passes x good mode kind via c.due (length carried)
      (0 + length (preamble ++ envelopes)) (left_by [] carried) end c.going c.end_comes is_end)

-- a receiver's
module _ (kind : Kind) (statics : List Entry) (l : Limits) (good : IsGood l) where
  abbrev reads : Mode → Settings
  reads mode = record { side = receivers mode kind; statics = statics; limits = l }

  ack_passes : (mode : Mode) (b : List ℕ) → IsBare frames.PreambleAck b
      → Passes (stream (reads mode)) (beginning (reads mode)) 0 b
      (at (record_due (behind_preamble FromReceiver mode)) mode kind [] 0 []) (accepted ∷ [])
  unfolding after completed refused
  ack_passes mode b is =
      passes_unit (stream (reads mode)) (readable (reads mode)) (beginning (reads mode)) 0 b
      (frame (bare frames.PreambleAck))
      (record_unit (reads mode) dues.Ack b 0 (bare frames.PreambleAck) refl is refl (omega arith))
      refl

  receiver_carries : (mode : Mode) (carried : List Carried) (from : ℕ) (b : List ℕ)
      → MayCarry FromReceiver mode carried → CarriesAll (reads mode) mode kind [] carried b
      → CarriesTo (reads mode) good mode kind [] carried (behind_preamble FromReceiver mode) from b
  unfolding message_events
  receiver_carries Duplex carried from b may all =
      sized_to (reads Duplex) good kind [] Duplex (λ p c h. h) carried from b all
  receiver_carries Simplex [] from b may none = record {
    due = dues.End;
    going = refl;
    end_comes = refl;
    fault_comes = λ is. refl;
    passes = rw none (passes_none (stream (reads Simplex)) _ from);
  }
  receiver_carries Simplex (one ∷ carried) from b may all = cc
  receiver_carries Singleton [] from b may none = record {
    due = dues.Reply;
    going = refl;
    end_comes = refl;
    fault_comes = λ is. refl;
    passes = rw none (passes_none (stream (reads Singleton)) _ from);
  }
  receiver_carries Singleton (one ∷ []) from b may all =
      chunked_to (reads Singleton) good kind [] dues.Reply refl one from b all
  receiver_carries Singleton (one ∷ two ∷ more) from b may all = absurd (omega (arith, may))

  module _ (mode : Mode) where
    abbrev r : Settings
    r = reads mode

    -- the Ack and documents, before a last record
    record IsAckWith (carried : List Carried) (Rest : List ℕ → Type 0) (b : List ℕ) : Type 0 where
      front : List ℕ
      last : List ℕ
      is_last : Rest last
      bytes_are : front ++ last ≡ b
      due : Due
      going : is_over_in (record_due due) ≡ false
      end_comes : MayCome (may_come FromReceiver due) frames.End
      fault_comes : MayCome (may_come FromReceiver due) frames.Fault
      passes : Passes (stream (reads mode)) (beginning (reads mode)) 0 front
          (at (record_due due) mode kind [] (length carried) (left_by [] carried))
          (accepted ∷ message_events 0 [] carried)

    ack_with : (carried : List Carried) (Rest : List ℕ → Type 0) (b : List ℕ)
        → IsAckThen (CarriesThen (reads mode) FromReceiver mode kind carried Rest) b
        → IsAckWith carried Rest b
    ack_with carried Rest b (
      ack,
      rest,
      is_ack,
      (envelopes, last, may, all, is_last, joined),
      bytes_are,
    ) =
        let c = receiver_carries mode carried (0 + length ack) envelopes may all in
        record {
          front = ack ++ envelopes;
          last = last;
          is_last = is_last;
          bytes_are = append_assoc ack envelopes last ∙ ap (λ r. ack ++ r) (sym joined) ∙ sym
              bytes_are;
          due = c.due;
          going = c.going;
          end_comes = c.end_comes;
          fault_comes = c.fault_comes refl;
          passes = passes_then (stream (reads mode)) (beginning (reads mode)) 0 ack envelopes _ _
              (accepted ∷ []) (message_events 0 [] carried) (ack_passes mode ack is_ack) c.passes;
        }

    receivers_end : (parts : Parts) (b : List ℕ) → (parts ≡ lone_ack → ⊥)
        → HasParts (reads mode) (receivers mode kind) parts b
        → Ends (reads mode) b (session_events parts (length b))
    receivers_end (conversation m k via carried) b isnt h = absurd h
    receivers_end lone_ack b isnt h = absurd (isnt refl)
    receivers_end (answer carried) b isnt h =
        let a = ack_with carried (IsBare frames.End) b h in
        ends_with (reads mode) a.front a.last b _ _ (accepted ∷ message_events 0 [] carried) (λ n. ended n)
        a.bytes_are refl a.passes
        (end_passes (reads mode) good mode kind [] a.due (length carried) (0 + length a.front)
        (left_by [] carried) a.last a.going a.end_comes a.is_last)
    receivers_end (broken_off carried text) b isnt h =
        let a = ack_with carried (IsFault (reads mode) text) b h in
        ends_with (reads mode) a.front a.last b _ _ (accepted ∷ message_events 0 [] carried)
        (λ n. peer_fault n text) a.bytes_are refl a.passes
        (fault_passes (reads mode) good mode kind [] a.due (length carried) (0 + length a.front)
        (left_by [] carried) text a.last a.going a.fault_comes a.is_last)
    receivers_end (turned_down text) b isnt h =
        ends_with (reads mode) [] b b (beginning (reads mode)) _ [] (λ n. peer_fault n text) refl refl
        (passes_none (stream (reads mode)) (beginning (reads mode)) 0)
        (fault_passes (reads mode) good mode kind [] dues.Ack 0 0 [] text b refl refl h)

-- of either side
module _ (x : Settings) (good : IsGood x.limits) where
  by_side : (side : Side) (parts : Parts) (b : List ℕ) → (parts ≡ lone_ack → ⊥)
      → HasParts (record x { side = side }) side parts b
      → Ends (record x { side = side }) b (session_events parts (length b))
  by_side (initiators endpoint) parts b isnt h =
      initiators_end endpoint x.statics x.limits good parts b h
  by_side (receivers mode kind) parts b isnt h =
      receivers_end kind x.statics x.limits good mode parts b isnt h

  short : (z : Situation) (from n : ℕ) → n < x.limits.session → (stream x).at_length z from n ≡ None
  short z from n lt = short_enough x z.stage from n lt

  -- whatever follows a session that is over
  over_told : (b rest : List ℕ) (events : List StreamEvent) → length b ≤ x.limits.session
      → Ends x b events
      → history (stream x) (b ++ rest) ≡ record { events = events; offence = None }
  unfolding is_over_at
  over_told b rest events within e =
      let between = passes_between (stream x) (readable x) x.limits.session short b rest e.last
      events
      e.passes within in
      let over : is_over_at (stream x) b ≡ true =
      ap (λ (z : Situation). is_over_in z.stage) between.situation ∙ e.over in
      passes_history (stream x) (readable x) x.limits.session short b rest e.last events e.passes
      within
      ∙ ap (led_by events) (over_closed (stream x) (readable x) (quiet_over x) rest b over
      (between_going (stream x) (readable x) b _ _ between))
      ∙ ap (λ es. record { events = es; offence = None }) (append-nil events)

  -- behind the Ack alone nothing follows
  alone_told : (kind : Kind) (b : List ℕ) → x.side ≡ receivers Simplex kind
      → IsBare frames.PreambleAck b → length b < x.limits.session
      → history (stream x) (b ++ []) ≡ record { events = accepted ∷ []; offence = None }
  alone_told kind b side is within =
      let passes : Passes (stream x) (beginning x) 0 b
      (at (record_due dues.End) Simplex kind [] 0 []) (accepted ∷ []) =
      subst (λ (s : Side). Passes (stream (record x { side = s }))
      (beginning (record x { side = s })) 0 b
      (at (record_due dues.End) Simplex kind [] 0 []) (accepted ∷ [])) (sym side)
      (ack_passes kind x.statics x.limits good Simplex b is) in
      let between = passes_between (stream x) (readable x) x.limits.session short b [] _ _ passes
      (omega arith) in
      let going : IsGoing (stream x) (standing (stream x) b) =
      between_going (stream x) (readable x) b _ _ between in
      let none : refusal_at (stream x) b ≡ None =
      refusal_from (stream x) b (standing (stream x) b) refl
      ∙ going_refusal (stream x) (standing (stream x) b) (length b) going
      ∙ short (standing (stream x) b).situation (standing (stream x) b).from (length b) within in
      passes_history (stream x) (readable x) x.limits.session short b [] _ _ passes (omega arith)
      ∙ ap (led_by (accepted ∷ [])) (history_ends (stream x) b none
      ∙ ap only (ack_may_end x b (kind, side, is.1)))

  alone : (side : Side) (b : List ℕ) → x.side ≡ side → HasParts x side lone_ack b
      → length b < x.limits.session
      → history (stream x) (b ++ []) ≡ record { events = accepted ∷ []; offence = None }
  alone (initiators endpoint) b is h within = absurd h
  alone (receivers mode kind) b is (simplex, (ack, rest, is_ack, none, bytes_are)) within =
      let all : b ≡ ack = bytes_are ∙ ap (λ r. ack ++ r) none ∙ append-nil ack in
      alone_told kind b (is ∙ ap (λ m. receivers m kind) simplex)
      (subst (IsBare frames.PreambleAck) (sym all) is_ack) within

  pub session_told : (parts : Parts) (session rest : List ℕ) → IsSession x parts session
      → MayFollow parts rest
      → history (stream x) (session ++ rest)
      ≡ record { events = session_events parts (length session); offence = None }
  session_told lone_ack session rest h follow =
      ap (λ r. history (stream x) (session ++ r)) follow ∙ alone x.side session refl h.0 h.1
  session_told (conversation mode kind via carried) session rest h follow =
      over_told session rest _ h.1
      (by_side x.side (conversation mode kind via carried) session (λ e. cc) h.0)
  session_told (answer carried) session rest h follow =
      over_told session rest _ h.1 (by_side x.side (answer carried) session (λ e. cc) h.0)
  session_told (broken_off carried text) session rest h follow =
      over_told session rest _ h.1 (by_side x.side (broken_off carried text) session (λ e. cc) h.0)
  session_told (turned_down text) session rest h follow =
      over_told session rest _ h.1 (by_side x.side (turned_down text) session (λ e. cc) h.0)

  pub closed_offence : (b : List ℕ) → IsClosed x b → offence_by (stream x) b ≡ None
  unfolding offence_by
  closed_offence b h =
      ap (offence_by (stream x)) h.joined
      ∙ ap (λ (t : History StreamEvent Offence). t.offence)
      (session_told h.parts h.session h.rest h.is_session h.may_follow)

pub sessions_are_told : SessionsAreTold
sessions_are_told x good parts session rest h follow = session_told x good parts session rest h
    follow

-- bytes are the session of one list of documents at most
pub spells_one_session : SpellsOneSession
spells_one_session x good parts others bytes one other =
    ap (λ (h : History StreamEvent Offence). h.events)
    (sym (session_told x good parts bytes [] one (nothing parts))
    ∙ session_told x good others bytes [] other (nothing others))
  where
    nothing : (parts : Parts) → MayFollow parts []
    nothing lone_ack = refl
    nothing (conversation mode kind via carried) = tt
    nothing (answer carried) = tt
    nothing (broken_off carried text) = tt
    nothing (turned_down text) = tt
