-- The parts of an initiator's session in duplex mode, by what a reader of it answers to each.
use Rattle.std.proofs.Common.{◌≡◌, ℕ, ◌+◌, ◌<◌, ◌≤◌, Bool, true, false, not, ◌&&◌, ◌⊎◌, List, []}
use Rattle.std.proofs.Common.{◌∷◌, ◌++◌, length, if◌then◌else◌, nat_le, Some, None, Option, sym}
use Rattle.std.proofs.Common.{refl, ap, ◌∙◌, subst, inl, inr, append_assoc, arith}
use Rattle.unit_streams.proofs.Along.{Passes, passes_history, passes_none, passes_then}
use Rattle.unit_streams.proofs.{Cuts.cuts_change_nothing, Units.between_first, Units.IsBetween}
use Rattle.unit_streams.proofs.Histories.{history_is_answers, led_by_none}
use Rattle.unit_streams.specs.{Going.history_by, Grammar.standing, Laws.raised, Laws.unless_decided}
use Rattle.unit_streams.specs.Judging.{answer, completes, History, history, history_from, led_by}
use Rattle.unit_streams.specs.Judging.{offence as offence_by, offends, only}
use Rattle.string_tables.specs.{SessionStrings.used_cost, StaticStrings.Entry}
use Rattle.nbfx_values.specs.declared.refusals.{Offence.Offence, Reason.TheVariants.SessionTooLong}
use Rattle.nbfx_values.specs.declared.session.{Kind.Kind, Mode.TheVariants.Duplex}
use Rattle.nbfx_values.specs.Limits.{IsGood, Limits}
use Rattle.nmf_records.specs.{declared.script.Direction.Direction, Script.may_come}
use Rattle.nmf_records.specs.declared.script.Direction.TheVariants.{FromInitiator, FromReceiver}
use Rattle.nmf_records.specs.RecordFronts.{bare, MayCome}
use Rattle.{nbfx_decoder.specs.Laws.IsWholePayload, stream_reader.specs.Sessions.message_events}
use Rattle.stream_reader.proofs.{DueRecords.record_unit, Grammar.readable, Grammar.short_enough}
use Rattle.stream_reader.proofs.Envelopes.{before_last, IsClean, last_completes, last_leads}
use Rattle.stream_reader.proofs.Envelopes.{last_reads, last_unrefused, sized_front}
use Rattle.stream_reader.proofs.FromSession.{at, clean_of, decoded, left_by, preamble_front}
use Rattle.stream_reader.proofs.FromSession.{preamble_passes, sized_envelopes}
use Rattle.stream_reader.specs.Sessions.{Carried, CarriesAll, IsBare, IsPreamble, IsSized}
use Rattle.stream_reader.specs.Stream.{after, beginning, completed, direction_of, ended, frame}
use Rattle.stream_reader.specs.Stream.{initiators, is_over_in, offence_at, open_from, opened}
use Rattle.stream_reader.specs.Stream.{payload_byte, payloads, record_due, refused, Settings}
use Rattle.stream_reader.specs.Stream.{Situation, Stage, stream, StreamEvent, too_long}
use Rattle.session_ends.proofs.Answering.{between_all, EndsIn, is_answered, IsAnswered, IsByLength}
use Rattle.session_ends.proofs.Answering.{passes_stand}
use Rattle.nmf_records.specs.declared.frame.Frame.TheVariants as frames
use Rattle.nmf_records.specs.declared.script.Due.TheVariants as dues

-- the last of some bytes
last_of : (bytes : List ℕ) → 0 < length bytes
    → (front : List ℕ) × (last : ℕ) × (bytes ≡ front ++ last ∷ [])
last_of [] some = absurd (omega arith)
last_of (b ∷ []) some = ([], b, refl)
last_of (b ∷ c ∷ bytes) some =
    let l = last_of (c ∷ bytes) (omega arith) in (b ∷ l.0, l.1, ap (λ t. b ∷ t) l.2)

-- what refuses a stream by its length alone says that it is too long
long_reason : (x : Settings) (stage : Stage) (from n : ℕ) (o : Offence)
    → too_long x stage from n ≡ Some o → o.reason ≡ SessionTooLong
unfolding too_long
long_reason x stage from n o is = by (nat_le x.limits.session n && not (is_over_in stage)) is
  where
    by : (b : Bool)
        → (if b then Some (offence_at (open_from stage from) SessionTooLong) else None) ≡ Some o
        → o.reason ≡ SessionTooLong
    by true e =
        let same : offence_at (open_from stage from) SessionTooLong ≡ o = cc in
        ap (λ (o : Offence). o.reason) (sym same)
    by false e = cc

-- all of the bytes y behind p complete an event, or the stream is too long with them, whatever
-- follows
pub record IsTooLongWith (x : Settings) (p y : List ℕ) : Type 0 where
  pub shown_by : ℕ
  pub offence : Offence
  pub answer_is : answer (stream x) p y ≡ offends shown_by offence
  pub reason : offence.reason ≡ SessionTooLong
  pub whatever_follows : (rest : List ℕ)
      → offence_by (stream x) (p ++ (y ++ rest)) ≡ Some offence

abbrev pub IsTakenWhole : Settings → List ℕ → List ℕ → Type 0
IsTakenWhole x p y = ((e : StreamEvent) × (answer (stream x) p y ≡ completes (length y) e))
    ⊎ IsTooLongWith x p y

module _ (x : Settings) (p y : List ℕ) (events : List StreamEvent)
    (brought : (rest : List ℕ) → history (stream x) (p ++ rest)
    ≡ led_by events (history_from (stream x) p rest)) where
  refused_first : (k : ℕ) (o : Offence) → answer (stream x) p y ≡ offends k o → (rest : List ℕ)
      → offence_by (stream x) (p ++ (y ++ rest)) ≡ Some o
  unfolding offence_by
  refused_first k o is rest =
      let longer : answer (stream x) p (y ++ rest) ≡ offends k o =
      cuts_change_nothing (stream x) p y rest
      ∙ ap (λ a. unless_decided a (raised (length y) (answer (stream x) (p ++ y) rest))) is in
      let told : history_from (stream x) p (y ++ rest) ≡ only (Some o) =
      history_is_answers (stream x) p (y ++ rest)
      ∙ ap (history_by (stream x) p (y ++ rest)) longer in
      ap (λ (h : History StreamEvent Offence). h.offence)
      (brought (y ++ rest) ∙ ap (led_by events) told)

  taken_whole : (e : StreamEvent) → IsAnswered (stream x) (readable x) p y e → IsTakenWhole x p y
  taken_whole e (inl completed) = inl (e, completed)
  taken_whole e (inr (k, o, is, (z, from, n, long))) = inr (record {
    shown_by = k;
    offence = o;
    answer_is = is;
    reason = long_reason x z.stage from n o long;
    whatever_follows = refused_first k o is;
  })

module _ (x : Settings) (good : IsGood x.limits) (kind : Kind) (via : List ℕ) where
  abbrev pub messages_at : ℕ → List (List ℕ) → Situation
  messages_at messages strings = at (record_due dues.Messages) Duplex kind via messages strings

  abbrev pub over_at : ℕ → List (List ℕ) → Situation
  over_at messages strings = at (record_due dues.Over) Duplex kind via messages strings

  -- an envelope completes its document with its last byte
  envelope_ends : (one : Carried) (messages from : ℕ) (strings : List (List ℕ)) (b : List ℕ)
      → used_cost strings ≤ x.limits.dictionary → 0 < length one.payload → IsSized one.payload b
      → IsWholePayload (payloads x kind) strings one.own one.items one.payload
      → (z : Situation) × (e : StreamEvent)
      × EndsIn (stream x) (readable x) (messages_at messages strings) from b z e
  envelope_ends one messages from strings b cheap some (head, is, bytes_are) whole_one =
      let z : Situation = messages_at messages strings in
      let l = last_of one.payload some in
      let front : List ℕ = l.0 in
      let last : ℕ = l.1 in
      let clean = subst (IsClean x z) l.2
      (clean_of x good Duplex kind via one dues.Messages messages strings
      (decoded x good Duplex kind via one strings cheap whole_one)) in
      let head_is = subst (λ (p : List ℕ). IsBare (frames.SizedEnvelope (length p)) head) l.2 is in
      let low = subst (λ (p : List ℕ). length p ≤ x.limits.payload) l.2 whole_one.within.payload in
      let to : ℕ = from + length (head ++ front) in (
        _,
        _,
        record {
          front = head ++ front;
          last = last ∷ [];
          joined = bytes_are ∙ ap (λ p. head ++ p) l.2 ∙ sym (append_assoc head front (last ∷ []));
          before = before_last x z from head front last refl head_is low clean;
          passes = sized_front x z from head front last refl head_is low clean;
          unit = payload_byte last;
          reads = last_reads x z from head front last refl head_is low clean to;
          unrefused = last_unrefused x z from head front last refl head_is low clean to;
          completed = last_completes x z from head front last refl head_is low clean to (to + 1);
          leads = last_leads x z from head front last refl head_is low clean to;
        },
      )

  end_comes : (direction : Direction) → MayCome (may_come direction dues.Messages) frames.End
  end_comes FromInitiator = refl
  end_comes FromReceiver = refl

  -- an End record completes the session
  end_ends : (messages from : ℕ) (strings : List (List ℕ)) (b : List ℕ) → IsBare frames.End b
      → EndsIn (stream x) (readable x) (messages_at messages strings) from b
      (over_at messages strings) (ended (from + 0 + length b))
  unfolding after completed refused
  end_ends messages from strings b is = record {
    front = [];
    last = b;
    joined = refl;
    before = messages_at messages strings;
    passes = passes_none (stream x) (messages_at messages strings) from;
    unit = frame (bare frames.End);
    reads = record_unit x dues.Messages b (from + 0) (bare frames.End) refl is
        (end_comes (direction_of x.side)) (omega arith);
    unrefused = refl;
    completed = refl;
    leads = refl;
  }

module _ (endpoint : Option (List ℕ)) (statics : List Entry) (l : Limits) (good : IsGood l)
    (kind : Kind) (via preamble : List ℕ) where
  abbrev x : Settings
  x = record { side = initiators endpoint; statics = statics; limits = l }

  short : (z : Situation) (from n : ℕ) → n < l.session → (stream x).at_length z from n ≡ None
  short z from n lt = short_enough x z.stage from n lt

  module _ (is : IsPreamble x Duplex kind via preamble) where
    -- a preamble completes the opening
    preamble_ends : EndsIn (stream x) (readable x) (beginning x) 0 preamble
        (messages_at x good kind via 0 []) (opened Duplex kind via)
    unfolding after completed refused
    preamble_ends = record {
      front = is.version ++ is.mode_record ++ is.via_record ++ is.encoding;
      last = is.end;
      joined = is.joined;
      before = at (record_due dues.PreambleEnd) Duplex kind via 0 [];
      passes = preamble_front endpoint statics l good Duplex kind via preamble is;
      unit = frame (bare frames.PreambleEnd);
      reads = record_unit x dues.PreambleEnd is.end
          (0 + length (is.version ++ is.mode_record ++ is.via_record ++ is.encoding))
          (bare frames.PreambleEnd) refl is.is_end refl (omega arith);
      unrefused = refl;
      completed = refl;
      leads = refl;
    }

    pub preamble_taken : IsTakenWhole x [] preamble
    unfolding history
    preamble_taken =
        taken_whole x [] preamble []
        (λ rest. sym (led_by_none (history_from (stream x) [] rest)))
        (opened Duplex kind via)
        (is_answered (stream x) (readable x) [] (beginning x) 0
        (between_first (stream x) (readable x)) preamble (messages_at x good kind via 0 [])
        (opened Duplex kind via) preamble_ends)

    -- behind envelopes of these documents
    module _ (envelopes : List ℕ) (carried : List Carried)
        (carries : CarriesAll x Duplex kind [] carried envelopes) where
      abbrev pub front : List ℕ
      front = preamble ++ envelopes

      abbrev strings : List (List ℕ)
      strings = left_by [] carried

      abbrev events : List StreamEvent
      events = opened Duplex kind via ∷ message_events 0 [] carried

      passes : Passes (stream x) (beginning x) 0 front
          (messages_at x good kind via (length carried) strings) events
      passes =
          passes_then (stream x) (beginning x) 0 preamble envelopes
          (messages_at x good kind via 0 [])
          (messages_at x good kind via (length carried) strings) (opened Duplex kind via ∷ [])
          (message_events 0 [] carried)
          (preamble_passes endpoint statics l good Duplex kind via preamble is)
          (sized_envelopes x good Duplex kind via (λ p c h. h) carried envelopes 0 []
          (length carried) (0 + length preamble) (omega arith) (omega arith) carries)

      pub front_stands : IsBetween (stream x) (readable x) front
          (messages_at x good kind via (length carried) strings) (length front)
      front_stands = passes_stand (stream x) (readable x) front _ events passes

      module _ (within : length front ≤ l.session) where
        brought : (rest : List ℕ) → history (stream x) (front ++ rest)
            ≡ led_by events (history_from (stream x) front rest)
        brought rest =
            passes_history (stream x) (readable x) l.session short front rest _ events passes within

        pub envelope_taken : (one : Carried) (b : List ℕ) → used_cost strings ≤ l.dictionary
            → 0 < length one.payload → IsSized one.payload b
            → IsWholePayload (payloads x kind) strings one.own one.items one.payload
            → IsTakenWhole x front b
        envelope_taken one b cheap some sized whole_one =
            let e = envelope_ends x good kind via one (length carried) (length front) strings b
            cheap
            some sized whole_one in
            taken_whole x front b events brought e.1
            (is_answered (stream x) (readable x) front _ (length front) front_stands b e.0 e.1 e.2)

        pub end_taken : (b : List ℕ) → IsBare frames.End b → IsTakenWhole x front b
        end_taken b end =
            let e = end_ends x good kind via (length carried) (length front) strings b end in
            taken_whole x front b events brought (ended (length front + 0 + length b))
            (is_answered (stream x) (readable x) front _ (length front) front_stands b _ _ e)

      -- and behind End
      pub session_stands : (b : List ℕ) → IsBare frames.End b
          → IsBetween (stream x) (readable x) (front ++ b)
          (over_at x good kind via (length carried) strings) (length front + length b)
      session_stands b end =
          between_all (stream x) (readable x) front _ (length front) front_stands b _ _
          (end_ends x good kind via (length carried) (length front) strings b end)
