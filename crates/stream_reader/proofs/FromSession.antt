-- A session is whole units, which bring its events.
use Rattle.std.proofs.Common.{◌≡◌, ℕ, ◌+◌, ◌≤◌, Bool, true, false, List, [], ◌∷◌, ◌++◌, length}
use Rattle.std.proofs.Common.{if◌then◌else◌, Some, None, Option, option_map, sym, refl, ap, ◌∙◌}
use Rattle.std.proofs.Common.{subst, inl, inr, append-nil, arith}
use Rattle.{std.specs.Option.option_or, nbfx_decoder.proofs.PayloadLaws.payloads_are_accepted}
use Rattle.unit_streams.proofs.Along.{Passes, passes_none, passes_then, passes_unit}
use Rattle.unit_streams.{proofs.Offences.no_offence, specs.Grammar.standing}
use Rattle.string_tables.specs.{SessionStrings.used_cost, StaticStrings.Entry}
use Rattle.nbfx_values.specs.declared.{content.Item.Item, session.Mode.Mode}
use Rattle.nbfx_values.specs.declared.refusals.Reason.TheVariants.{BadEncoding, EndpointNotFound}
use Rattle.nbfx_values.specs.declared.session.Kind.{Kind, TheVariants.Plain, TheVariants.Session}
use Rattle.nbfx_values.specs.declared.session.Mode.TheVariants.{Duplex, Simplex, Singleton}
use Rattle.nbfx_values.specs.Limits.{IsGood, Limits}
use Rattle.nbfx_values.specs.Session.{content_type, mode_number}
use Rattle.nmf_records.specs.declared.script.{Direction.Direction, Due.Due}
use Rattle.nmf_records.specs.declared.script.Direction.TheVariants.{FromInitiator, FromReceiver}
use Rattle.nmf_records.specs.RecordFronts.{bare, comes, MayCome, with_text}
use Rattle.nmf_records.specs.{Records.IsRecordOf, Script.behind_preamble, Script.may_come}
use Rattle.nbfx_decoder.specs.Laws.{IsDecoded, IsWholePayload}
use Rattle.stream_reader.specs.Sessions.{Carried, CarriesAll, envelope_of, IsBare, IsEnvelopeIn}
use Rattle.stream_reader.specs.Sessions.{IsFault, IsPreamble, IsSized, IsUnsized, joined, MayCarry}
use Rattle.stream_reader.specs.Sessions.{message_events, NamesKind}
use Rattle.stream_reader.specs.Stream.{after, beginning, completed, direction_of, ended, frame}
use Rattle.stream_reader.specs.Stream.{initiators, is_over_in, message, offence_at, opened}
use Rattle.stream_reader.specs.Stream.{payload_in, payloads, peer_fault, record_due, refused}
use Rattle.stream_reader.specs.Stream.{serves, Settings, Situation, Stage, stream}
use Rattle.stream_reader.proofs.{DueRecords.record_unit, Grammar.readable}
use Rattle.stream_reader.proofs.RightRecords.{known_type, type_kind, type_short}
use Rattle.stream_reader.proofs.Envelopes.{IsClean, sized_passes, unsized_passes}
use Rattle.nmf_records.specs.declared.frame.Frame.TheVariants as frames
use Rattle.nmf_records.specs.declared.script.Due.TheVariants as dues

abbrev pub at : Stage → Mode → Kind → List ℕ → ℕ → List (List ℕ) → Situation
at stage mode kind text messages strings = record {
  stage = stage;
  mode = mode;
  kind = kind;
  text = text;
  messages = messages;
  strings = strings;
}

-- the strings behind these payloads
abbrev pub left_by : List (List ℕ) → List Carried → List (List ℕ)
left_by strings [] = strings
left_by strings (one ∷ carried) = left_by (strings ++ one.own) carried

module _ (x : Settings) (good : IsGood x.limits) (mode : Mode) (kind : Kind) (text : List ℕ) where
  abbrev pub due_at : Due → ℕ → List (List ℕ) → Situation
  due_at due messages strings = at (record_due due) mode kind text messages strings

  -- a document's payload is refused nowhere
  pub decoded : (one : Carried) (strings : List (List ℕ)) → used_cost strings ≤ x.limits.dictionary
      → IsWholePayload (payloads x kind) strings one.own one.items one.payload
      → IsDecoded (payloads x kind) strings one.payload one.items one.own
  decoded one strings cheap is =
      (payloads_are_accepted (payloads x kind) strings one.payload one.items one.own
      (record {
        depth = (let deep = good.depth_least in omega (arith, deep));
        dictionary = cheap;
      })).1 (is.is_payload, is.within.admitted)

  pub clean_of : (one : Carried) (due : Due) (messages : ℕ) (strings : List (List ℕ))
      → IsDecoded (payloads x kind) strings one.payload one.items one.own
      → IsClean x (due_at due messages strings) one.payload
  clean_of one due messages strings d =
      let clean = no_offence (payload_in x (due_at due messages strings)) one.payload d.offenceless
      in
      record { along = clean.0; at_end = clean.1 }

  -- the events and the situation that a decoded payload brings
  module _ (one : Carried) (messages : ℕ) (strings : List (List ℕ)) (before next : Due) (from : ℕ)
      (b : List ℕ) (d : IsDecoded (payloads x kind) strings one.payload one.items one.own) where
    abbrev Brings : List (List ℕ) → List Item → Type 0
    Brings left items =
        Passes (stream x) (due_at before messages strings) from b (due_at next (messages + 1) left)
        (message (record {
          number = messages;
          size = length one.payload;
          items = items;
          strings = left;
        }) ∷ [])

    as_carried : Brings
        (standing (payload_in x (due_at before messages strings)) one.payload).situation.strings
        (standing (payload_in x (due_at before messages strings)) one.payload).situation.items
        → Passes (stream x) (due_at before messages strings) from b
        (due_at next (messages + 1) (strings ++ one.own))
        (message (envelope_of messages strings one) ∷ [])
    as_carried passes =
        subst (λ (items : List Item). Brings (strings ++ one.own) items) d.items_are
        (subst (λ (left : List (List ℕ)). Brings left
        (standing (payload_in x (due_at before messages strings)) one.payload).situation.items)
        d.strings_are passes)

  sized_envelope : (one : Carried) (messages : ℕ) (strings : List (List ℕ)) (from : ℕ) (b : List ℕ)
      → used_cost strings ≤ x.limits.dictionary → IsSized one.payload b
      → IsWholePayload (payloads x kind) strings one.own one.items one.payload
      → Passes (stream x) (due_at dues.Messages messages strings) from b
      (due_at dues.Messages (messages + 1) (strings ++ one.own))
      (message (envelope_of messages strings one) ∷ [])
  sized_envelope one messages strings from b cheap (head, is, bytes_are) whole_one =
      let d = decoded one strings cheap whole_one in
      as_carried one messages strings dues.Messages dues.Messages from b d
      (subst (λ (c : List ℕ). Brings one messages strings dues.Messages dues.Messages from c d
      (standing (payload_in x (due_at dues.Messages messages strings))
      one.payload).situation.strings
      (standing (payload_in x (due_at dues.Messages messages strings)) one.payload).situation.items)
      (sym bytes_are)
      (sized_passes x (due_at dues.Messages messages strings) from head one.payload refl is
      whole_one.within.payload (clean_of one dues.Messages messages strings d)))

  unsized_envelope : (one : Carried) (due : Due) (from : ℕ) (b : List ℕ)
      → MayCome (may_come (direction_of x.side) due) frames.UnsizedEnvelope → IsUnsized one.payload
      b
      → IsWholePayload (payloads x kind) [] one.own one.items one.payload
      → Passes (stream x) (due_at due 0 []) from b (due_at dues.End 1 one.own)
      (message (envelope_of 0 [] one) ∷ [])
  unsized_envelope one due from b may (head, chunks, rest, is, are, payload_is, bytes_are)
      whole_one =
      let d = decoded one [] (omega arith) whole_one in
      let z : Situation = due_at due 0 [] in
      let clean : IsClean x z (joined chunks) =
      subst (IsClean x z) payload_is (clean_of one due 0 [] d) in
      let low : length (joined chunks) ≤ x.limits.payload =
      let n = ap length payload_is in let le = whole_one.within.payload in omega (arith, n, le) in
      let passes = unsized_passes x z due from head rest chunks refl may is are low clean in
      as_carried one 0 [] due dues.End from b d
      (subst (λ (c : List ℕ). Brings one 0 [] due dues.End from c d
      (standing (payload_in x z) one.payload).situation.strings
      (standing (payload_in x z) one.payload).situation.items) (sym bytes_are)
      (subst (λ (p : List ℕ). Passes (stream x) z from (head ++ rest)
      (due_at dues.End 1 (standing (payload_in x z) p).situation.strings)
      (message (record {
        number = 0;
        size = length p;
        items = (standing (payload_in x z) p).situation.items;
        strings = (standing (payload_in x z) p).situation.strings;
      }) ∷ [])) (sym payload_is) passes))

  -- envelopes of one part
  pub sized_envelopes : ((p b : List ℕ) → IsEnvelopeIn mode p b → IsSized p b)
      → (carried : List Carried) (b : List ℕ) (number : ℕ) (strings : List (List ℕ))
      (messages from : ℕ) → used_cost strings ≤ x.limits.dictionary
      → number + length carried ≡ messages → CarriesAll x mode kind strings carried b
      → Passes (stream x) (due_at dues.Messages number strings) from b
      (due_at dues.Messages messages (left_by strings carried))
      (message_events number strings carried)
  unfolding message_events
  sized_envelopes in_part [] b number strings messages from cheap count none =
      let same : number ≡ messages = omega (arith, count) in
      rw (none, same) (passes_none (stream x) (due_at dues.Messages messages strings) from)
  sized_envelopes in_part (one ∷ carried) b number strings messages from cheap count
      (envelope, rest, is, whole_one, bytes_are, more) =
      rw bytes_are
      (passes_then (stream x) (due_at dues.Messages number strings) from envelope rest
      (due_at dues.Messages (number + 1) (strings ++ one.own)) _
      (message (envelope_of number strings one) ∷ [])
      (message_events (number + 1) (strings ++ one.own) carried)
      (sized_envelope one number strings from envelope cheap (in_part one.payload envelope is)
      whole_one)
      (sized_envelopes in_part carried rest (number + 1) (strings ++ one.own) messages
      (from + length envelope) whole_one.within.admitted.dictionary (omega (arith, count)) more))

  -- all that a session carries lead to where End, and from a receiver a Fault, may come
  pub record CarriesTo (carried : List Carried) (start : Due) (from : ℕ) (b : List ℕ) : Type 0 where
    pub due : Due
    pub going : is_over_in (record_due due) ≡ false
    pub end_comes : MayCome (may_come (direction_of x.side) due) frames.End
    pub fault_comes : direction_of x.side ≡ FromReceiver
        → MayCome (may_come (direction_of x.side) due) frames.Fault
    pub passes : Passes (stream x) (due_at start 0 []) from b
        (due_at due (length carried) (left_by [] carried)) (message_events 0 [] carried)

  -- End there, and a Fault
  pub end_passes : (due : Due) (messages from : ℕ) (strings : List (List ℕ)) (b : List ℕ)
      → is_over_in (record_due due) ≡ false → MayCome (may_come (direction_of x.side) due)
      frames.End
      → IsBare frames.End b
      → Passes (stream x) (due_at due messages strings) from b (due_at dues.Over messages strings)
      (ended (from + length b) ∷ [])
  unfolding after completed refused
  end_passes due messages from strings b going may is =
      passes_unit (stream x) (readable x) (due_at due messages strings) from b
      (frame (bare frames.End)) (record_unit x due b from (bare frames.End) going is may
      (omega arith))
      refl

  pub fault_passes : (due : Due) (messages from : ℕ) (strings : List (List ℕ)) (fault b : List ℕ)
      → is_over_in (record_due due) ≡ false
      → MayCome (may_come (direction_of x.side) due) frames.Fault → IsFault x fault b
      → Passes (stream x) (due_at due messages strings) from b
      (at (record_due dues.Over) mode kind fault messages strings)
      (peer_fault (from + length b) fault ∷ [])
  unfolding after completed refused
  fault_passes due messages from strings fault b going may is =
      passes_unit (stream x) (readable x) (due_at due messages strings) from b
      (frame (with_text frames.Fault fault))
      (record_unit x due b from (with_text frames.Fault fault) going is.0 may is.1) refl

-- what a session of a direction and a mode carries
module _ (x : Settings) (good : IsGood x.limits) (kind : Kind) (text : List ℕ) where
  pub sized_to : (mode : Mode) → ((p b : List ℕ) → IsEnvelopeIn mode p b → IsSized p b)
      → (carried : List Carried) (from : ℕ) (b : List ℕ) → CarriesAll x mode kind [] carried b
      → CarriesTo x good mode kind text carried dues.Messages from b
  sized_to mode in_part carried from b all = record {
    due = dues.Messages;
    going = refl;
    end_comes = end_at (direction_of x.side);
    fault_comes = λ is. ap (λ (d : Direction). comes (may_come d dues.Messages) frames.Fault) is;
    passes = sized_envelopes x good mode kind text in_part carried b 0 [] (length carried) from
        (omega arith) (omega arith) all;
  } where
    end_at : (direction : Direction) → MayCome (may_come direction dues.Messages) frames.End
    end_at FromInitiator = refl
    end_at FromReceiver = refl

  -- one of chunks
  pub chunked_to : (due : Due) → MayCome (may_come (direction_of x.side) due) frames.UnsizedEnvelope
      → (one : Carried) (from : ℕ) (b : List ℕ) → CarriesAll x Singleton kind [] (one ∷ []) b
      → CarriesTo x good Singleton kind text (one ∷ []) due from b
  unfolding message_events
  chunked_to due may one from b (envelope, rest, is, whole_one, bytes_are, none) = record {
    due = dues.End;
    going = refl;
    end_comes = end_at (direction_of x.side);
    fault_comes = λ is. ap (λ (d : Direction). comes (may_come d dues.End) frames.Fault) is;
    passes = subst (λ (c : List ℕ). Passes (stream x)
        (due_at x good Singleton kind text due 0 []) from c
        (due_at x good Singleton kind text dues.End 1 one.own)
        (message (envelope_of 0 [] one) ∷ []))
        (sym (bytes_are ∙ ap (λ c. envelope ++ c) none ∙ append-nil envelope))
        (unsized_envelope x good Singleton kind text one due from envelope may is whole_one);
  } where
    end_at : (direction : Direction) → MayCome (may_come direction dues.End) frames.End
    end_at FromInitiator = refl
    end_at FromReceiver = refl

-- an initiator's session
module _ (endpoint : Option (List ℕ)) (statics : List Entry) (l : Limits) (good : IsGood l) where
  abbrev x : Settings
  x = record { side = initiators endpoint; statics = statics; limits = l }

  pub initiator_carries : (mode : Mode) (kind : Kind) (text : List ℕ) (carried : List Carried)
      (from : ℕ)
      (b : List ℕ) → MayCarry FromInitiator mode carried → CarriesAll x mode kind [] carried b
      → CarriesTo x good mode kind text carried (behind_preamble FromInitiator mode) from b
  initiator_carries Duplex kind text carried from b may all =
      sized_to x good kind text Duplex (λ p c h. h) carried from b all
  initiator_carries Simplex kind text carried from b may all =
      sized_to x good kind text Simplex (λ p c h. h) carried from b all
  initiator_carries Singleton kind text [] from b may all = absurd (omega (arith, may))
  initiator_carries Singleton kind text (one ∷ []) from b may all =
      chunked_to x good kind text dues.Envelope refl one from b all
  initiator_carries Singleton kind text (one ∷ two ∷ more) from b may all =
      absurd (omega (arith, may))

  -- the records of the preamble
  version_passes : (from : ℕ) (b : List ℕ) → IsBare (frames.Version 1 0) b
      → Passes (stream x) (beginning x) from b (at (record_due dues.Mode) Duplex Session [] 0 []) []
  unfolding after completed refused
  version_passes from b is =
      passes_unit (stream x) (readable x) (beginning x) from b (frame (bare (frames.Version 1 0)))
      (record_unit x dues.Version b from (bare (frames.Version 1 0)) refl is refl (omega arith))
      refl

  mode_passes : (mode : Mode) (from : ℕ) (b : List ℕ) → IsBare (frames.Mode (mode_number mode)) b
      → Passes (stream x) (at (record_due dues.Mode) Duplex Session [] 0 []) from b
      (at (record_due dues.Via) mode Session [] 0 []) []
  unfolding after completed refused
  mode_passes Singleton from b is =
      passes_unit (stream x) (readable x) (at (record_due dues.Mode) Duplex Session [] 0 []) from b
      (frame (bare (frames.Mode 1)))
      (record_unit x dues.Mode b from (bare (frames.Mode 1)) refl is refl (omega arith)) refl
  mode_passes Duplex from b is =
      passes_unit (stream x) (readable x) (at (record_due dues.Mode) Duplex Session [] 0 []) from b
      (frame (bare (frames.Mode 2)))
      (record_unit x dues.Mode b from (bare (frames.Mode 2)) refl is refl (omega arith)) refl
  mode_passes Simplex from b is =
      passes_unit (stream x) (readable x) (at (record_due dues.Mode) Duplex Session [] 0 []) from b
      (frame (bare (frames.Mode 3)))
      (record_unit x dues.Mode b from (bare (frames.Mode 3)) refl is refl (omega arith)) refl

  via_passes : (mode : Mode) (from : ℕ) (via b : List ℕ) → IsRecordOf frames.Via via b
      → length via ≤ x.limits.via → serves x.side via ≡ true
      → Passes (stream x) (at (record_due dues.Via) mode Session [] 0 []) from b
      (at (record_due dues.Encoding) mode Session via 0 []) []
  unfolding after completed refused
  via_passes mode from via b is low served =
      passes_unit (stream x) (readable x) (at (record_due dues.Via) mode Session [] 0 []) from b
      (frame (with_text frames.Via via))
      (record_unit x dues.Via b from (with_text frames.Via via) refl is refl low)
      (ap (λ (b : Bool). option_or (option_map (offence_at from)
      (if b then None else Some EndpointNotFound)) None) served)

  encoding_passes : (mode : Mode) (from : ℕ) (via : List ℕ) (kind : Kind) (b : List ℕ)
      → NamesKind kind b
      → Passes (stream x) (at (record_due dues.Encoding) mode Session via 0 []) from b
      (at (record_due dues.PreambleEnd) mode kind via 0 []) []
  unfolding after completed refused
  encoding_passes mode from via Plain b (inl is) =
      passes_unit (stream x) (readable x) (at (record_due dues.Encoding) mode Session via 0 []) from
      b
      (frame (bare (frames.KnownEncoding 7)))
      (record_unit x dues.Encoding b from (bare (frames.KnownEncoding 7)) refl is refl
      (omega arith))
      refl
  encoding_passes mode from via Session b (inl is) =
      passes_unit (stream x) (readable x) (at (record_due dues.Encoding) mode Session via 0 []) from
      b
      (frame (bare (frames.KnownEncoding 8)))
      (record_unit x dues.Encoding b from (bare (frames.KnownEncoding 8)) refl is refl
      (omega arith))
      refl
  encoding_passes mode from via kind b (inr is) =
      subst (λ k. Passes (stream x) (at (record_due dues.Encoding) mode Session via 0 []) from b
      (at (record_due dues.PreambleEnd) mode k via 0 []) []) (type_kind kind)
      (passes_unit (stream x) (readable x) (at (record_due dues.Encoding) mode Session via 0 [])
      from b (frame (with_text frames.ExtensibleEncoding (content_type kind)))
      (record_unit x dues.Encoding b from
      (with_text frames.ExtensibleEncoding (content_type kind)) refl is refl (type_short kind))
      (ap (λ (b : Bool). option_or (option_map (offence_at from)
      (if b then None else Some BadEncoding)) None) (known_type kind)))

  preamble_end_passes : (mode : Mode) (from : ℕ) (via : List ℕ) (kind : Kind) (b : List ℕ)
      → IsBare frames.PreambleEnd b
      → Passes (stream x) (at (record_due dues.PreambleEnd) mode kind via 0 []) from b
      (at (record_due (behind_preamble FromInitiator mode)) mode kind via 0 [])
      (opened mode kind via ∷ [])
  unfolding after completed refused
  preamble_end_passes mode from via kind b is =
      passes_unit (stream x) (readable x) (at (record_due dues.PreambleEnd) mode kind via 0 []) from
      b
      (frame (bare frames.PreambleEnd))
      (record_unit x dues.PreambleEnd b from (bare frames.PreambleEnd) refl is refl (omega arith))
      refl

  -- up to its last record
  pub preamble_front : (mode : Mode) (kind : Kind) (via b : List ℕ)
      (h : IsPreamble x mode kind via b)
      → Passes (stream x) (beginning x) 0 (h.version ++ h.mode_record ++ h.via_record ++ h.encoding)
      (at (record_due dues.PreambleEnd) mode kind via 0 []) []
  preamble_front mode kind via b h =
      let c1 = h.version in
      let c2 = c1 ++ h.mode_record in
      let c3 = c2 ++ h.via_record in
      let p1 = version_passes 0 c1 h.is_version in
      let p2 = passes_then (stream x) (beginning x) 0 c1 h.mode_record _ _ [] [] p1
      (mode_passes mode (0 + length c1) h.mode_record h.is_mode) in
      let p3 = passes_then (stream x) (beginning x) 0 c2 h.via_record _ _ [] [] p2
      (via_passes mode (0 + length c2) via h.via_record h.is_via h.via_within h.served) in
      passes_then (stream x) (beginning x) 0 c3 h.encoding _ _ [] [] p3
      (encoding_passes mode (0 + length c3) via kind h.encoding h.is_encoding)

  pub preamble_passes : (mode : Mode) (kind : Kind) (via b : List ℕ) → IsPreamble x mode kind via b
      → Passes (stream x) (beginning x) 0 b
      (at (record_due (behind_preamble FromInitiator mode)) mode kind via 0 [])
      (opened mode kind via ∷ [])
  preamble_passes mode kind via b h =
      let c4 = h.version ++ h.mode_record ++ h.via_record ++ h.encoding in
      let p5 = passes_then (stream x) (beginning x) 0 c4 h.end _ _ [] (opened mode kind via ∷ [])
      (preamble_front mode kind via b h)
      (preamble_end_passes mode (0 + length c4) via kind h.end h.is_end) in
      rw h.joined p5
