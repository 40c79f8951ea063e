-- A session is the records of a script, with the payloads of documents.
use Rattle.std.proofs.Common.{◌≡◌, ℕ, suc, ◌+◌, ◌<◌, ◌≤◌, true, List, [], ◌∷◌, ◌++◌, map, length}
use Rattle.std.proofs.Common.{None, All, Option, sym, refl, ap, ◌∙◌, subst, inl, inr, append_assoc}
use Rattle.std.proofs.Common.{append-nil, arith, length-append, le-ltb}
use Rattle.std.proofs.lemmas.List.Elements.{All-cons, All-nil}
use Rattle.nbfx_values.specs.declared.{content.Item.Item, session.Mode.Mode}
use Rattle.nbfx_values.specs.declared.session.Kind.{Kind, TheVariants.Plain, TheVariants.Session}
use Rattle.nbfx_values.specs.declared.session.Mode.TheVariants.{Duplex, Simplex, Singleton}
use Rattle.nbfx_values.specs.Session.{content_type, kind_number, mode_number}
use Rattle.nmf_records.specs.declared.{frame.Frame.Frame, script.Direction.Direction}
use Rattle.nmf_records.specs.declared.script.Direction.TheVariants.{FromInitiator, FromReceiver}
use Rattle.{nmf_records.specs.Records.IsRecordOf, nbfx_decoder.specs.Laws.IsWholePayload}
use Rattle.nmf_records.specs.RecordFronts.{text_limit}
use Rattle.nmf_records.specs.Script.{AreEnvelopes, IsEncoding, IsScript}
use Rattle.nmf_records.specs.Script.{IsUnsized as IsUnsizedScript}
use Rattle.stream_reader.specs.Scripts.{BeginsWith, Context, first_context, HasScript, IsFollowedBy}
use Rattle.stream_reader.specs.Scripts.{IsModeOf, IsShort, refused_there}
use Rattle.stream_reader.specs.Sessions.{answer, AreChunks, broken_off, Carried, CarriesAll}
use Rattle.stream_reader.specs.Sessions.{CarriesThen, conversation, HasParts, IsAckThen, IsBare}
use Rattle.stream_reader.specs.Sessions.{IsEnvelopeIn, IsFault, IsSized, IsWithin, joined, lone_ack}
use Rattle.stream_reader.specs.Sessions.{MayCarry, NamesKind, Parts, turned_down}
use Rattle.stream_reader.specs.Stream.{direction_of, initiators, payloads, reason_in, receivers}
use Rattle.stream_reader.specs.Stream.{record_due, serves, Settings, Side, text_limits, too_large}
use Rattle.stream_reader.proofs.FromScript.{context_of, kind_is}
use Rattle.stream_reader.proofs.RightRecords.{known_type, type_kind, type_short}
use Rattle.nmf_records.specs.declared.frame.Frame.TheVariants as frames
use Rattle.nmf_records.specs.declared.script.Due.TheVariants as dues

-- records that are not refused
known_mode : (x : Settings) (mode : Mode)
    → reason_in x (record_due dues.Over) (frames.Mode (mode_number mode)) [] ≡ None
known_mode x Singleton = refl
known_mode x Duplex = refl
known_mode x Simplex = refl

known_content_type : (x : Settings) (kind : Kind)
    → reason_in x (record_due dues.Over) frames.ExtensibleEncoding (content_type kind) ≡ None
known_content_type x kind = rw (known_type kind) refl

known_encoding : (x : Settings) (kind : Kind)
    → reason_in x (record_due dues.Over) (frames.KnownEncoding (kind_number kind)) [] ≡ None
known_encoding x Plain = refl
known_encoding x Session = refl

-- a list of records that ends with one is none that is empty
never_nil : (script : List Frame) (frame : Frame) → script ++ frame ∷ [] ≡ [] → ⊥
never_nil [] frame e = cc
never_nil (f ∷ script) frame e = cc

module _ (x : Settings) where
  -- a record that nothing stands behind
  in_front : (context then_context : Context) (frame : Frame) (text head rest : List ℕ)
      (Rest : Context → List ℕ → Type 0) → IsRecordOf frame text head
      → refused_there x context frame text ≡ None
      → length text ≤ text_limit (text_limits x) frame
      → IsFollowedBy x context frame text [] then_context → Rest then_context rest
      → BeginsWith x context frame Rest (head ++ rest)
  in_front context then_context frame text head rest Rest is none low followed next = record {
    text = text;
    head = head;
    payload = [];
    rest = rest;
    then_context = then_context;
    joined = ap (λ c. c ++ rest) (sym (append-nil head));
    is_record = is;
    unrefused = none;
    text_within = low;
    followed = followed;
    next = next;
  }

  -- either record that names the encoding
  encoding_front : (context : Context) (kind : Kind) (bytes rest : List ℕ)
      (Rest : Context → List ℕ → Type 0) → NamesKind kind bytes → Rest (context_of kind [] []) rest
      → (f : Frame) × IsEncoding f × BeginsWith x context f Rest (bytes ++ rest)
  encoding_front context kind bytes rest Rest (inl is) next = (
    frames.KnownEncoding (kind_number kind),
    tt,
    in_front context (context_of kind [] []) (frames.KnownEncoding (kind_number kind)) [] bytes rest
        Rest is (known_encoding x kind) (omega arith)
        (refl, ap (λ k. context_of k [] []) (sym (kind_is kind))) next,
  )
  encoding_front context kind bytes rest Rest (inr is) next = (
    frames.ExtensibleEncoding,
    tt,
    in_front context (context_of kind [] []) frames.ExtensibleEncoding (content_type kind) bytes
        rest Rest is (known_content_type x kind) (type_short kind)
        (refl, ap (λ k. context_of k [] []) (sym (type_kind kind))) next,
  )

  fits : (size : ℕ) → size ≤ x.limits.payload → too_large x size ≡ None
  fits size le = rw (le-ltb x.limits.payload size le) refl

  -- records that end a script, whatever strings there are
  abbrev Ends : Kind → List Frame → List ℕ → Type 0
  Ends kind t end = (strings : List (List ℕ)) → HasScript x (context_of kind strings []) t end

  sized_ones : (mode : Mode) → ((payload bytes : List ℕ) → IsEnvelopeIn mode payload bytes
      → IsSized payload bytes)
      → (carried : List Carried) (kind : Kind) (strings : List (List ℕ)) (bytes : List ℕ)
      (t : List Frame) (end : List ℕ) → CarriesAll x mode kind strings carried bytes
      → Ends kind t end
      → (sizes : List ℕ) × HasScript x (context_of kind strings []) (map frames.SizedEnvelope sizes
      ++ t) (bytes ++ end)
  sized_ones mode takes [] kind strings bytes t end none ends = (
    [],
    subst (λ c. HasScript x (context_of kind strings []) t c)
        (ap (λ c. c ++ end) (sym none)) (ends strings),
  )
  sized_ones mode takes (one ∷ carried) kind strings bytes t end
      (envelope, rest, is, is_whole, joined_bytes, more) ends =
      let (head, bare, envelope_is) = takes one.payload envelope is in
      let w = sized_ones mode takes carried kind (strings ++ one.own) rest t end more ends in (
        length one.payload ∷ w.0,
        record {
          text = [];
          head = head;
          payload = one.payload;
          rest = rest ++ end;
          then_context = context_of kind (strings ++ one.own) [];
          joined =
              ap (λ c. c ++ end) (joined_bytes ∙ ap (λ c. c ++ rest) envelope_is)
              ∙ append_assoc (head ++ one.payload) rest end;
          is_record = bare;
          unrefused = fits (length one.payload) is_whole.within.payload;
          text_within = omega arith;
          followed = (refl, (one.own, one.items, is_whole, refl));
          next = w.1;
        },
      )

  chunk_ones : (chunks : List (List ℕ)) (kind : Kind) (strings : List (List ℕ)) (so_far : List ℕ)
      (own : List (List ℕ)) (items : List Item) (bytes : List ℕ) (t : List Frame) (end : List ℕ)
      → AreChunks chunks bytes
      → IsWholePayload (payloads x kind) strings own items (so_far ++ joined chunks)
      → HasScript x (context_of kind (strings ++ own) []) t end
      → (sizes : List ℕ) × All (λ size. 0 < size) sizes
      × HasScript x (context_of kind strings so_far)
      (map frames.Chunk sizes ++ frames.Chunk 0 ∷ t) (bytes ++ end)
  unfolding AreChunks joined
  chunk_ones [] kind strings so_far own items bytes t end is is_whole ends =
      let whole = subst (IsWholePayload (payloads x kind) strings own items) (append-nil so_far)
      is_whole in (
        [],
        All-nil (λ size. 0 < size),
        in_front (context_of kind strings so_far) (context_of kind (strings ++ own) [])
            (frames.Chunk 0) [] bytes end _ is
            (fits (length so_far + 0) (let low = whole.within.payload in omega (arith, low)))
            (omega arith) (refl, (own, items, whole, refl)) ends,
      )
  chunk_ones ([] ∷ more) kind strings so_far own items bytes t end are is_whole ends =
      absurd (let none = are.2 in omega (arith, none))
  chunk_ones ((y ∷ chunk) ∷ more) kind strings so_far own items bytes t end
      (head, rest, some, bare, joined_bytes, are) is_whole ends =
      let whole : IsWholePayload (payloads x kind) strings own items
      ((so_far ++ y ∷ chunk) ++ joined more) =
      subst (IsWholePayload (payloads x kind) strings own items)
      (sym (append_assoc so_far (y ∷ chunk) (joined more))) is_whole in
      let w = chunk_ones more kind strings (so_far ++ y ∷ chunk) own items rest t end are whole ends
      in
      let low : length so_far + suc (length chunk) ≤ x.limits.payload =
      let most = whole.within.payload in
      let all = length-append (so_far ++ y ∷ chunk) (joined more) in
      let part = length-append so_far (y ∷ chunk) in omega (arith, most, all, part) in (
        suc (length chunk) ∷ w.0,
        All-cons (λ size. 0 < size) (suc (length chunk)) w.0 (omega arith) w.1,
        record {
          text = [];
          head = head;
          payload = y ∷ chunk;
          rest = rest ++ end;
          then_context = context_of kind strings (so_far ++ y ∷ chunk);
          joined =
              ap (λ c. c ++ end) joined_bytes ∙ append_assoc (head ++ y ∷ chunk) rest end;
          is_record = bare;
          unrefused = fits (length so_far + suc (length chunk)) low;
          text_within = omega arith;
          followed = (refl, refl);
          next = w.2;
        },
      )

  one_envelope : (one : Carried) (kind : Kind) (strings : List (List ℕ)) (bytes : List ℕ)
      (t : List Frame) (end : List ℕ) → CarriesAll x Singleton kind strings (one ∷ []) bytes
      → Ends kind t end
      → (envelope : List Frame) × IsUnsizedScript envelope
      × HasScript x (context_of kind strings []) (envelope ++ t) (bytes ++ end)
  one_envelope one kind strings bytes t end (
    envelope,
    rest,
    (head, chunks, tail, bare, are, payload_is, envelope_is),
    is_whole,
    joined_bytes,
    none,
  ) ends =
      let w = chunk_ones chunks kind strings [] one.own one.items tail t end are
      (subst (IsWholePayload (payloads x kind) strings one.own one.items) payload_is is_whole)
      (ends (strings ++ one.own)) in
      let all : bytes ++ end ≡ head ++ (tail ++ end) =
      ap (λ c. c ++ end) (joined_bytes ∙ ap (λ c. envelope ++ c) none ∙ append-nil envelope ∙
      envelope_is)
      ∙ append_assoc head tail end in (
        frames.UnsizedEnvelope ∷ map frames.Chunk w.0 ++ frames.Chunk 0 ∷ [],
        (w.0, w.1, refl),
        subst (λ (fs : List Frame). HasScript x (context_of kind strings [])
            (frames.UnsizedEnvelope ∷ fs) (bytes ++ end))
            (sym (append_assoc (map frames.Chunk w.0) (frames.Chunk 0 ∷ []) t))
            (subst (λ c. HasScript x (context_of kind strings [])
            (frames.UnsizedEnvelope ∷ map frames.Chunk w.0 ++ frames.Chunk 0 ∷ t) c) (sym all)
            (in_front (context_of kind strings []) (context_of kind strings [])
            frames.UnsizedEnvelope [] head
            (tail ++ end) _ bare refl (omega arith) (refl, refl) w.2)),
      )

  -- the envelopes of a session
  abbrev Written : Direction → Mode → Kind → List Frame → List ℕ → List ℕ → Type 0
  Written direction mode kind t bytes end =
      (envelopes : List Frame) × AreEnvelopes direction mode envelopes
      × HasScript x (context_of kind [] []) (envelopes ++ t) (bytes ++ end)

  no_ones : (direction : Direction) (mode : Mode) (kind : Kind) (bytes : List ℕ) (t : List Frame)
      (end : List ℕ) → AreEnvelopes direction mode [] → bytes ≡ [] → Ends kind t end
      → Written direction mode kind t bytes end
  no_ones direction mode kind bytes t end are none ends = (
    [],
    are,
    subst (λ c. HasScript x (context_of kind [] []) t c) (ap (λ c. c ++ end) (sym none))
        (ends []),
  )

  written : (direction : Direction) (mode : Mode) (kind : Kind) (carried : List Carried)
      (bytes : List ℕ) (t : List Frame) (end : List ℕ) → MayCarry direction mode carried
      → CarriesAll x mode kind [] carried bytes → Ends kind t end
      → Written direction mode kind t bytes end
  written FromInitiator Duplex kind carried bytes t end may all ends =
      let w = sized_ones Duplex (λ payload bytes is. is) carried kind [] bytes t end all ends in
      (map frames.SizedEnvelope w.0, (w.0, refl), w.1)
  written FromReceiver Duplex kind carried bytes t end may all ends =
      let w = sized_ones Duplex (λ payload bytes is. is) carried kind [] bytes t end all ends in
      (map frames.SizedEnvelope w.0, (w.0, refl), w.1)
  written FromInitiator Simplex kind carried bytes t end may all ends =
      let w = sized_ones Simplex (λ payload bytes is. is) carried kind [] bytes t end all ends in
      (map frames.SizedEnvelope w.0, (w.0, refl), w.1)
  written FromReceiver Simplex kind carried bytes t end may all ends =
      no_ones FromReceiver Simplex kind bytes t end refl
      (subst (λ (c : List Carried). CarriesAll x Simplex kind [] c bytes) may all) ends
  written FromInitiator Singleton kind [] bytes t end may all ends = cc
  written FromInitiator Singleton kind (one ∷ []) bytes t end may all ends =
      one_envelope one kind [] bytes t end all ends
  written FromInitiator Singleton kind (one ∷ other ∷ carried) bytes t end may all ends =
      absurd (omega (arith, may))
  written FromReceiver Singleton kind [] bytes t end may all ends =
      no_ones FromReceiver Singleton kind bytes t end (inl refl) all ends
  written FromReceiver Singleton kind (one ∷ []) bytes t end may all ends =
      let w = one_envelope one kind [] bytes t end all ends in (w.0, inr w.1, w.2)
  written FromReceiver Singleton kind (one ∷ other ∷ carried) bytes t end may all ends =
      absurd (omega (arith, may))

  ends_bare : (kind : Kind) (end : List ℕ) → IsBare frames.End end → Ends kind (frames.End ∷ []) end
  ends_bare kind end is strings =
      subst (λ c. HasScript x (context_of kind strings []) (frames.End ∷ []) c) (append-nil end)
      (in_front (context_of kind strings []) (context_of kind strings []) frames.End [] end [] _ is
      refl (omega arith) (refl, refl) refl)

  ends_fault : (kind : Kind) (text end : List ℕ) → IsFault x text end
      → Ends kind (frames.Fault ∷ []) end
  ends_fault kind text end (is, low) strings =
      subst (λ c. HasScript x (context_of kind strings []) (frames.Fault ∷ []) c) (append-nil end)
      (in_front (context_of kind strings []) (context_of kind strings []) frames.Fault text end [] _
      is
      refl low (refl, refl) refl)

  -- the script of a session
  abbrev pub Scripted : Side → List ℕ → Type 0
  Scripted side bytes = (mode : Mode) × (script : List Frame) × IsModeOf side mode
      × IsScript (direction_of side) mode script × HasScript x (first_context side) script bytes
      × IsShort x script (length bytes)

  initiators_scripted : (endpoint : Option (List ℕ)) (mode : Mode) (kind : Kind) (via : List ℕ)
      (carried : List Carried) (bytes : List ℕ)
      → HasParts x (initiators endpoint) (conversation mode kind via carried) bytes
      → length bytes ≤ x.limits.session → Scripted (initiators endpoint) bytes
  initiators_scripted endpoint mode kind via carried bytes
      (preamble, rest, p, (envelopes, end, may, all, is_end, joined_rest), joined_bytes) within =
      let w = written FromInitiator mode kind carried envelopes (frames.End ∷ []) end may all
      (ends_bare kind end is_end) in
      let first : Context = first_context (initiators endpoint) in
      let so : Context = context_of kind [] [] in
      let e = encoding_front first kind p.encoding (p.end ++ (envelopes ++ end))
      (λ then_context rest. HasScript x then_context
      (frames.PreambleEnd ∷ w.0 ++ frames.End ∷ []) rest) p.is_encoding
      (in_front so so frames.PreambleEnd [] p.end _ _ p.is_end refl (omega arith) (refl, refl) w.2)
      in
      let script : List Frame = frames.Version 1 0 ∷ frames.Mode (mode_number mode) ∷ frames.Via
      ∷ e.0 ∷ frames.PreambleEnd ∷ w.0 ++ frames.End ∷ [] in
      let parts : p.version
      ++ (p.mode_record ++ (p.via_record ++ (p.encoding ++ (p.end ++ (envelopes ++ end)))))
      ≡ bytes =
      sym (joined_bytes ∙ ap (λ c. preamble ++ c) joined_rest
      ∙ ap (λ c. c ++ (envelopes ++ end)) p.joined ∙ simp append_assoc) in (
        mode,
        script,
        tt,
        record {
          major = 1;
          minor = 0;
          encoding = e.0;
          is_encoding = e.1;
          envelopes = w.0;
          sent = w.1;
          joined = refl;
        },
        subst (λ c. HasScript x (first_context (initiators endpoint)) (frames.Version 1 0
            ∷ frames.Mode (mode_number mode) ∷ frames.Via ∷ e.0
            ∷ frames.PreambleEnd ∷ w.0 ++ frames.End ∷ []) c) parts
            (in_front first first (frames.Version 1 0) [] p.version _ _ p.is_version refl
            (omega arith) (refl, refl)
            (in_front first first (frames.Mode (mode_number mode)) [] p.mode_record _ _ p.is_mode
            (known_mode x mode) (omega arith) (refl, refl)
            (in_front first first frames.Via via p.via_record _ _ p.is_via (served_so p.served)
            p.via_within (refl, refl) e.2))),
        (within, λ e. cc),
      )
    where
      served_so : serves x.side via ≡ true
          → reason_in x (record_due dues.Over) frames.Via via ≡ None
      served_so e = rw e refl

  ack_scripted : (mode : Mode) (kind : Kind) (carried : List Carried) (last : Frame)
      (Rest : List ℕ → Type 0) (bytes : List ℕ)
      → ((end : List ℕ) → Rest end → Ends kind (last ∷ []) end)
      → IsAckThen (CarriesThen x FromReceiver mode kind carried Rest) bytes
      → (envelopes : List Frame) × AreEnvelopes FromReceiver mode envelopes
      × HasScript x (first_context (receivers mode kind))
      (frames.PreambleAck ∷ envelopes ++ last ∷ []) bytes
  ack_scripted mode kind carried last Rest bytes ends
      (ack, rest, is_ack, (envelopes, end, may, all, is_rest, joined_rest), joined_bytes) =
      let w = written FromReceiver mode kind carried envelopes (last ∷ []) end may all
      (ends end is_rest) in
      let so : Context = context_of kind [] [] in (
        w.0,
        w.1,
        subst (λ c. HasScript x (first_context (receivers mode kind))
            (frames.PreambleAck ∷ w.0 ++ last ∷ []) c)
            (sym (joined_bytes ∙ ap (λ c. ack ++ c) joined_rest))
            (in_front so so frames.PreambleAck [] ack (envelopes ++ end) _ is_ack refl (omega arith)
            (refl, refl) w.2),
      )

  never_lone : (envelopes : List Frame) (last : Frame)
      → frames.PreambleAck ∷ envelopes ++ last ∷ [] ≡ frames.PreambleAck ∷ [] → ⊥
  never_lone envelopes last e =
      let rest : envelopes ++ last ∷ [] ≡ [] = cc in never_nil envelopes last rest

  none_sent : (mode : Mode) → AreEnvelopes FromReceiver mode []
  none_sent Singleton = inl refl
  none_sent Duplex = ([], refl)
  none_sent Simplex = refl

  pub to_script : (side : Side) (parts : Parts) (bytes : List ℕ) → HasParts x side parts bytes
      → IsWithin x parts (length bytes) → Scripted side bytes
  to_script (initiators endpoint) (conversation mode kind via carried) bytes has within =
      initiators_scripted endpoint mode kind via carried bytes has within
  to_script (initiators endpoint) (answer carried) bytes has within = absurd has
  to_script (initiators endpoint) lone_ack bytes has within = absurd has
  to_script (initiators endpoint) (broken_off carried text) bytes has within = absurd has
  to_script (initiators endpoint) (turned_down text) bytes has within = absurd has
  to_script (receivers mode kind) (conversation own named via carried) bytes has within = absurd has
  to_script (receivers mode kind) (answer carried) bytes has within =
      let w = ack_scripted mode kind carried frames.End (IsBare frames.End) bytes (ends_bare kind)
      has in (
        mode,
        frames.PreambleAck ∷ w.0 ++ frames.End ∷ [],
        refl,
        inl (record { envelopes = w.0; sent = w.1; joined = refl }),
        w.2,
        (within, λ e. absurd (never_lone w.0 frames.End e)),
      )
  to_script (receivers mode kind) lone_ack bytes (simplex, (ack, rest, is_ack, none, joined_bytes))
      within =
      let so : Context = context_of kind [] [] in
      let all : ack ++ [] ≡ bytes = sym (joined_bytes ∙ ap (λ c. ack ++ c) none) in (
        mode,
        frames.PreambleAck ∷ [],
        refl,
        inr (inl (simplex, refl)),
        subst (λ c. HasScript x (first_context (receivers mode kind)) (frames.PreambleAck ∷ []) c)
            all
            (in_front so so frames.PreambleAck [] ack [] _ is_ack refl (omega arith) (refl, refl)
            refl),
        (omega (arith, within), λ e. within),
      )
  to_script (receivers mode kind) (broken_off carried text) bytes has within =
      let w = ack_scripted mode kind carried frames.Fault (IsFault x text) bytes
      (λ end is. ends_fault kind text end is) has in (
        mode,
        frames.PreambleAck ∷ w.0 ++ frames.Fault ∷ [],
        refl,
        inr (inr (record {
          before = frames.PreambleAck ∷ w.0;
          in_place_of = frames.End;
          after = [];
          record_of = refl;
          answer = record { envelopes = w.0; sent = w.1; joined = refl };
          joined = refl;
        })),
        w.2,
        (within, λ e. absurd (never_lone w.0 frames.Fault e)),
      )
  to_script (receivers mode kind) (turned_down text) bytes has within = (
    mode,
    frames.Fault ∷ [],
    refl,
    inr (inr (record {
      before = [];
      in_place_of = frames.PreambleAck;
      after = frames.End ∷ [];
      record_of = refl;
      answer = record { envelopes = []; sent = none_sent mode; joined = refl };
      joined = refl;
    })),
    ends_fault kind text bytes has [],
    (within, λ e. cc),
  )
