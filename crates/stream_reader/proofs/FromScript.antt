-- The records of a script, with the payloads of documents, are a session.
use Rattle.std.proofs.Common.{◌≡◌, ℕ, zero, suc, ◌<◌, ◌≤◌, List, [], ◌∷◌, ◌++◌, map, length, All}
use Rattle.std.proofs.Common.{Option, sym, refl, ap, ◌∙◌, subst, inl, inr, append_assoc, append-nil}
use Rattle.std.proofs.{Common.arith, lemmas.List.Elements.All-head, lemmas.List.Elements.All-tail}
use Rattle.nbfx_values.specs.declared.{content.Item.Item, session.Mode.Mode}
use Rattle.nbfx_values.specs.declared.session.Kind.{Kind, TheVariants.Plain, TheVariants.Session}
use Rattle.nbfx_values.specs.declared.session.Mode.TheVariants.{Duplex, Simplex, Singleton}
use Rattle.nbfx_values.specs.Session.{kind_number, mode_number}
use Rattle.nmf_records.specs.declared.{frame.Frame.Frame, script.Direction.Direction}
use Rattle.nmf_records.specs.declared.script.Direction.TheVariants.{FromInitiator, FromReceiver}
use Rattle.nmf_records.specs.{Records.IsRecordOf, Script.IsUnsized as IsUnsizedScript}
use Rattle.nmf_records.specs.Script.{AreEnvelopes, AreSized, IsEncoding, IsInitiatorsScript}
use Rattle.nmf_records.specs.Script.{IsScript}
use Rattle.{nbfx_decoder.specs.Laws.IsWholePayload, stream_reader.proofs.ScriptParts.cut_envelopes}
use Rattle.stream_reader.specs.Scripts.{BeginsWith, Context, first_context, HasScript, IsModeOf}
use Rattle.stream_reader.specs.{Scripts.IsShort, Stream.serves, Stream.Settings, Stream.Side}
use Rattle.stream_reader.specs.Sessions.{answer, AreChunks, broken_off, Carried, CarriesAll}
use Rattle.stream_reader.specs.Sessions.{CarriesThen, conversation, HasParts, IsAckThen, IsBare}
use Rattle.stream_reader.specs.Sessions.{IsEnvelopeIn, IsFault, IsSized, IsWithin, joined, lone_ack}
use Rattle.stream_reader.specs.Sessions.{MayCarry, NamesKind, Parts, turned_down}
use Rattle.stream_reader.specs.Stream.{direction_of, initiators, kind_of, kind_of_type, payloads}
use Rattle.stream_reader.specs.Stream.{receivers}
use Rattle.stream_reader.proofs.RightRecords.{right_encoding, right_type, right_version, right_via}
use Rattle.nmf_records.specs.declared.frame.Frame.TheVariants as frames

-- what payloads are under a known encoding
pub kind_is : (kind : Kind) → kind_of (kind_number kind) ≡ kind
kind_is Plain = refl
kind_is Session = refl

-- in such a context
abbrev pub context_of : Kind → List (List ℕ) → List ℕ → Context
context_of kind strings so_far = record { kind = kind; strings = strings; so_far = so_far }

module _ (x : Settings) where
  -- a record that nothing stands behind
  alone : (context : Context) (frame : Frame) (Rest : Context → List ℕ → Type 0) (bytes : List ℕ)
      (h : BeginsWith x context frame Rest bytes) → h.payload ≡ [] → bytes ≡ h.head ++ h.rest
  alone context frame Rest bytes h none =
      h.joined ∙ ap (λ c. (h.head ++ c) ++ h.rest) none
      ∙ ap (λ c. c ++ h.rest) (append-nil h.head)

  -- an encoding's record names a kind, under which there are no strings
  kind_named : (context : Context) (encoding : Frame) → IsEncoding encoding
      → (Rest : Context → List ℕ → Type 0) (bytes : List ℕ)
      (h : BeginsWith x context encoding Rest bytes) → (kind : Kind) × NamesKind kind h.head
      × (h.payload ≡ []) × (h.then_context ≡ context_of kind [] [])
  kind_named context (frames.KnownEncoding encoding) is Rest bytes h = (
    kind_of encoding,
    inl (
      refl,
      h.is_record.1 ∙ ap (λ n. 3 ∷ n ∷ []) (right_encoding encoding _ refl h.unrefused),
    ),
    h.followed.0,
    h.followed.1,
  )
  kind_named context frames.ExtensibleEncoding is Rest bytes h = (
    kind_of_type h.text,
    inr (subst (λ t. IsRecordOf frames.ExtensibleEncoding t h.head)
        (right_type h.text _ refl h.unrefused) h.is_record),
    h.followed.0,
    h.followed.1,
  )
  kind_named context _ is Rest bytes h = absurd is

  -- envelopes before other records
  record Envelopes (direction : Direction) (mode : Mode) (context : Context) (t : List Frame)
      (bytes : List ℕ) : Type 0 where
    carried : List Carried
    envelopes : List ℕ
    rest : List ℕ
    then_context : Context
    joined_bytes : bytes ≡ envelopes ++ rest
    may : MayCarry direction mode carried
    carries_all : CarriesAll x mode context.kind context.strings carried envelopes
    next : HasScript x then_context t rest

  -- of one part
  sized_script : (direction : Direction) (mode : Mode)
      → ((payload bytes : List ℕ) → IsSized payload bytes → IsEnvelopeIn mode payload bytes)
      → ((carried : List Carried) → MayCarry direction mode carried) → (sizes : List ℕ)
      (context : Context) (t : List Frame) (bytes : List ℕ)
      → HasScript x context (map frames.SizedEnvelope sizes ++ t) bytes
      → Envelopes direction mode context t bytes
  sized_script direction mode takes may [] context t bytes h = record {
    carried = [];
    envelopes = [];
    rest = bytes;
    then_context = context;
    joined_bytes = refl;
    may = may [];
    carries_all = refl;
    next = h;
  }
  sized_script direction mode takes may (size ∷ sizes) context t bytes h =
      let (sized, (own, items, is_whole, then_is)) = h.followed in
      let w = sized_script direction mode takes may sizes h.then_context t h.rest h.next in
      let is : IsRecordOf (frames.SizedEnvelope (length h.payload)) h.text h.head =
      subst (λ n. IsRecordOf (frames.SizedEnvelope n) h.text h.head) (sym sized) h.is_record in
      let more : CarriesAll x mode context.kind (context.strings ++ own) w.carried w.envelopes =
      subst (λ (c : Context). CarriesAll x mode c.kind c.strings w.carried w.envelopes) then_is
      w.carries_all in
      let one : Carried = record { payload = h.payload; items = items; own = own } in
      record {
        carried = one ∷ w.carried;
        envelopes = (h.head ++ h.payload) ++ w.envelopes;
        rest = w.rest;
        then_context = w.then_context;
        joined_bytes =
            h.joined ∙ ap (λ c. (h.head ++ h.payload) ++ c) w.joined_bytes
            ∙ sym (append_assoc (h.head ++ h.payload) w.envelopes w.rest);
        may = may (one ∷ w.carried);
        carries_all = (
          h.head ++ h.payload,
          w.envelopes,
          takes h.payload (h.head ++ h.payload) (h.head, (refl, is.1, is.2, is.3), refl),
          is_whole,
          refl,
          more,
        );
        next = w.next;
      }

  -- of chunks
  record ChunksOf (context : Context) (t : List Frame) (bytes : List ℕ) : Type 0 where
    chunks : List (List ℕ)
    front : List ℕ
    rest : List ℕ
    then_context : Context
    own : List (List ℕ)
    items : List Item
    joined_bytes : bytes ≡ front ++ rest
    are_chunks : AreChunks chunks front
    is_whole : IsWholePayload (payloads x context.kind) context.strings own items
        (context.so_far ++ joined chunks)
    then_is : then_context ≡ record context { strings = context.strings ++ own; so_far = [] }
    next : HasScript x then_context t rest

  chunks_script : (sizes : List ℕ) (context : Context) (t : List Frame) (bytes : List ℕ)
      → All (λ size. 0 < size) sizes
      → HasScript x context (map frames.Chunk sizes ++ frames.Chunk 0 ∷ t) bytes
      → ChunksOf context t bytes
  unfolding AreChunks joined
  chunks_script [] context t bytes some h =
      let (none, (own, items, is_whole, then_is)) = h.followed in
      record {
        chunks = [];
        front = h.head;
        rest = h.rest;
        then_context = h.then_context;
        own = own;
        items = items;
        joined_bytes = alone context (frames.Chunk 0) _ bytes h none;
        are_chunks = (refl, h.is_record.1);
        is_whole =
            subst (IsWholePayload (payloads x context.kind) context.strings own items)
            (sym (append-nil context.so_far)) is_whole;
        then_is = then_is;
        next = h.next;
      }
  chunks_script (zero ∷ sizes) context t bytes some h = absurd
      (let none = All-head (λ size. 0 < size) zero sizes some in omega (arith, none))
  chunks_script (suc size ∷ sizes) context t bytes some h =
      let (sized, then_is) = h.followed in
      let w = chunks_script sizes h.then_context t h.rest
      (All-tail (λ size. 0 < size) (suc size) sizes some) h.next in
      let is : IsRecordOf (frames.Chunk (length h.payload)) h.text h.head =
      subst (λ n. IsRecordOf (frames.Chunk n) h.text h.head) (sym sized) h.is_record in
      record {
        chunks = h.payload ∷ w.chunks;
        front = (h.head ++ h.payload) ++ w.front;
        rest = w.rest;
        then_context = w.then_context;
        own = w.own;
        items = w.items;
        joined_bytes =
            h.joined ∙ ap (λ c. (h.head ++ h.payload) ++ c) w.joined_bytes
            ∙ sym (append_assoc (h.head ++ h.payload) w.front w.rest);
        are_chunks = (h.head, w.front, omega (arith, sized), (refl, is.1), refl, w.are_chunks);
        is_whole =
            subst (IsWholePayload (payloads x context.kind) context.strings w.own w.items)
            (append_assoc context.so_far h.payload (joined w.chunks))
            (subst (λ (c : Context). IsWholePayload (payloads x c.kind) c.strings w.own w.items
            (c.so_far ++ joined w.chunks)) then_is w.is_whole);
        then_is =
            w.then_is
            ∙ ap (λ (c : Context). record c { strings = c.strings ++ w.own; so_far = [] }) then_is;
        next = w.next;
      }

  unsized_script : (direction : Direction) (sizes : List ℕ) (context : Context) (t : List Frame)
      (bytes : List ℕ) → ((one : Carried) → MayCarry direction Singleton (one ∷ []))
      → All (λ size. 0 < size) sizes
      → HasScript x context (frames.UnsizedEnvelope ∷ map frames.Chunk sizes ++ frames.Chunk 0 ∷ t)
      bytes
      → Envelopes direction Singleton context t bytes
  unsized_script direction sizes context t bytes may some h =
      let then_is = h.followed.1 in
      let w = chunks_script sizes h.then_context t h.rest some h.next in
      let one : Carried = record { payload = joined w.chunks; items = w.items; own = w.own } in
      let whole : IsWholePayload (payloads x context.kind) context.strings w.own w.items
      (joined w.chunks) =
      subst (λ (c : Context). IsWholePayload (payloads x c.kind) c.strings w.own w.items
      (c.so_far ++ joined w.chunks)) then_is w.is_whole in
      record {
        carried = one ∷ [];
        envelopes = (h.head ++ w.front) ++ [];
        rest = w.rest;
        then_context = w.then_context;
        joined_bytes =
            alone context frames.UnsizedEnvelope _ bytes h h.followed.0
            ∙ ap (λ c. h.head ++ c) w.joined_bytes ∙ sym (append_assoc h.head w.front w.rest)
            ∙ ap (λ c. c ++ w.rest) (sym (append-nil (h.head ++ w.front)));
        may = may one;
        carries_all = (
          h.head ++ w.front,
          [],
          (h.head, w.chunks, w.front, (refl, h.is_record.1), w.are_chunks, refl, refl),
          whole,
          refl,
          refl,
        );
        next = w.next;
      }

  -- the envelopes of a script
  any_sized : (direction : Direction) (mode : Mode)
      → ((payload bytes : List ℕ) → IsSized payload bytes → IsEnvelopeIn mode payload bytes)
      → ((carried : List Carried) → MayCarry direction mode carried) → (envelopes : List Frame)
      (context : Context) (t : List Frame) (bytes : List ℕ) → AreSized envelopes
      → HasScript x context (envelopes ++ t) bytes → Envelopes direction mode context t bytes
  any_sized direction mode takes may envelopes context t bytes (sizes, are) h =
      sized_script direction mode takes may sizes context t bytes
      (subst (λ (fs : List Frame). HasScript x context (fs ++ t) bytes) are h)

  one_unsized : (direction : Direction)
      → ((one : Carried) → MayCarry direction Singleton (one ∷ []))
      → (envelopes : List Frame) (context : Context) (t : List Frame) (bytes : List ℕ)
      → IsUnsizedScript envelopes → HasScript x context (envelopes ++ t) bytes
      → Envelopes direction Singleton context t bytes
  one_unsized direction may envelopes context t bytes (sizes, some, are) h =
      unsized_script direction sizes context t bytes may some
      (subst (λ (fs : List Frame). HasScript x context (frames.UnsizedEnvelope ∷ fs) bytes)
      (append_assoc (map frames.Chunk sizes) (frames.Chunk 0 ∷ []) t)
      (subst (λ (fs : List Frame). HasScript x context (fs ++ t) bytes) are h))

  no_envelope : (direction : Direction) (mode : Mode) → MayCarry direction mode []
      → (envelopes : List Frame) (context : Context) (t : List Frame) (bytes : List ℕ)
      → envelopes ≡ [] → HasScript x context (envelopes ++ t) bytes
      → Envelopes direction mode context t bytes
  no_envelope direction mode may envelopes context t bytes none h = record {
    carried = [];
    envelopes = [];
    rest = bytes;
    then_context = context;
    joined_bytes = refl;
    may = may;
    carries_all = refl;
    next = subst (λ (fs : List Frame). HasScript x context (fs ++ t) bytes) none h;
  }

  envelopes_script : (direction : Direction) (mode : Mode) (envelopes : List Frame)
      (context : Context)
      (t : List Frame) (bytes : List ℕ) → AreEnvelopes direction mode envelopes
      → HasScript x context (envelopes ++ t) bytes → Envelopes direction mode context t bytes
  envelopes_script FromInitiator Singleton envelopes context t bytes are h =
      one_unsized FromInitiator (λ one. refl) envelopes context t bytes are h
  envelopes_script FromReceiver Singleton envelopes context t bytes (inl none) h =
      no_envelope FromReceiver Singleton (omega arith) envelopes context t bytes none h
  envelopes_script FromReceiver Singleton envelopes context t bytes (inr are) h =
      one_unsized FromReceiver (λ one. omega arith) envelopes context t bytes are h
  envelopes_script FromInitiator Duplex envelopes context t bytes are h =
      any_sized FromInitiator Duplex (λ payload bytes is. is) (λ carried. tt) envelopes context t
      bytes are h
  envelopes_script FromReceiver Duplex envelopes context t bytes are h =
      any_sized FromReceiver Duplex (λ payload bytes is. is) (λ carried. tt) envelopes context t
      bytes are h
  envelopes_script FromInitiator Simplex envelopes context t bytes are h =
      any_sized FromInitiator Simplex (λ payload bytes is. is) (λ carried. tt) envelopes context t
      bytes are h
  envelopes_script FromReceiver Simplex envelopes context t bytes are h =
      no_envelope FromReceiver Simplex refl envelopes context t bytes are h

  -- the last record
  end_script : (context : Context) (bytes : List ℕ) → HasScript x context (frames.End ∷ []) bytes
      → IsBare frames.End bytes
  end_script context bytes h = (
    refl,
    alone context frames.End _ bytes h h.followed.0 ∙ ap (λ c. h.head ++ c) h.next
        ∙ append-nil h.head ∙ h.is_record.1,
  )

  fault_script : (context : Context) (bytes : List ℕ) → HasScript x context (frames.Fault ∷ [])
      bytes
      → (text : List ℕ) × IsFault x text bytes
  fault_script context bytes h =
      let all : bytes ≡ h.head =
      alone context frames.Fault _ bytes h h.followed.0 ∙ ap (λ c. h.head ++ c) h.next
      ∙ append-nil h.head in
      (h.text, (subst (IsRecordOf frames.Fault h.text) (sym all) h.is_record, h.text_within))

  carries_then : (direction : Direction) (mode : Mode) (kind : Kind) (context : Context)
      (t : List Frame) (bytes : List ℕ) (Rest : List ℕ → Type 0)
      (w : Envelopes direction mode context t bytes)
      → context.kind ≡ kind → context.strings ≡ [] → Rest w.rest
      → CarriesThen x direction mode kind w.carried Rest bytes
  carries_then direction mode kind context t bytes Rest w kind_is none rest = (
    w.envelopes,
    w.rest,
    w.may,
    subst (λ (k : Kind). CarriesAll x mode k [] w.carried w.envelopes) kind_is
        (subst (λ (s : List (List ℕ)). CarriesAll x mode context.kind s w.carried w.envelopes) none
        w.carries_all),
    rest,
    w.joined_bytes,
  )

  -- the parts of a session, within its quota; those of a lone Ack are that of one
  abbrev pub Found : Side → List Frame → List ℕ → Type 0
  Found side script bytes = (parts : Parts) × HasParts x side parts bytes
      × IsWithin x parts (length bytes) × (parts ≡ lone_ack → script ≡ frames.PreambleAck ∷ [])

  initiators_found : (endpoint : Option (List ℕ)) (mode : Mode) (script : List Frame)
      (bytes : List ℕ)
      → IsInitiatorsScript mode script
      → HasScript x (first_context (initiators endpoint)) script bytes
      → length bytes ≤ x.limits.session → Found (initiators endpoint) script bytes
  initiators_found endpoint mode script bytes r has within =
      by_records r.major r.minor r.encoding r.is_encoding r.envelopes r.sent
      (subst (λ (s : List Frame). HasScript x (first_context (initiators endpoint)) s bytes)
      r.joined has)
    where
      by_records : (major minor : ℕ) (encoding : Frame) → IsEncoding encoding
          → (envelopes : List Frame) → AreEnvelopes FromInitiator mode envelopes
          → HasScript x (first_context (initiators endpoint))
          (frames.Version major minor ∷ frames.Mode (mode_number mode) ∷ frames.Via
          ∷ encoding ∷ frames.PreambleEnd ∷ envelopes ++ frames.End ∷ []) bytes
          → Found (initiators endpoint) script bytes
      by_records major minor encoding is_encoding envelopes are h =
          let named = h.next in
          let via = named.next in
          let known = via.next in
          let end = known.next in
          let m = envelopes_script FromInitiator mode envelopes end.then_context (frames.End ∷ [])
          end.rest are end.next in
          let version_is = right_version major minor _ refl h.unrefused in
          let named_kind = kind_named _ encoding is_encoding _ _ known in
          let kind : Kind = named_kind.0 in
          let told : end.then_context ≡ context_of kind [] [] = end.followed.1 ∙ named_kind.3 in
          let preamble : List ℕ = h.head ++ named.head ++ via.head ++ known.head ++ end.head in
          let parts : bytes ≡ preamble ++ end.rest =
          alone _ _ _ bytes h h.followed.0
          ∙ ap (λ c. h.head ++ c) (alone _ _ _ h.rest named named.followed.0
          ∙ ap (λ c. named.head ++ c) (alone _ _ _ named.rest via via.followed.0
          ∙ ap (λ c. via.head ++ c) (alone _ _ _ via.rest known named_kind.2
          ∙ ap (λ c. known.head ++ c) (alone _ _ _ known.rest end end.followed.0))))
          ∙ simp append_assoc in (
            conversation mode kind via.text m.carried,
            (
              preamble,
              end.rest,
              record {
                version = h.head;
                mode_record = named.head;
                via_record = via.head;
                encoding = known.head;
                end = end.head;
                joined = refl;
                is_version = (
                  refl,
                  h.is_record.1
                      ∙ ap (λ n. 0 ∷ n ∷ minor ∷ []) version_is.0
                      ∙ ap (λ n. 0 ∷ 1 ∷ n ∷ []) version_is.1,
                );
                is_mode = (refl, named.is_record.1);
                is_via = via.is_record;
                via_within = via.text_within;
                served = right_via (serves x.side via.text) via.unrefused;
                is_encoding = named_kind.1;
                is_end = (refl, end.is_record.1);
              },
              carries_then FromInitiator mode kind end.then_context (frames.End ∷ []) end.rest
                  (IsBare frames.End) m (ap (λ (c : Context). c.kind) told)
                  (ap (λ (c : Context). c.strings) told) (end_script m.then_context m.rest m.next),
              parts,
            ),
            within,
            (λ e. cc),
          )

  -- a receiver's stream behind its Ack
  ack_then : (mode : Mode) (kind : Kind) (envelopes : List Frame) (last : Frame) (bytes : List ℕ)
      (Rest : List ℕ → Type 0)
      → ((context : Context) (rest : List ℕ) → HasScript x context (last ∷ []) rest → Rest rest)
      → AreEnvelopes FromReceiver mode envelopes
      → HasScript x (first_context (receivers mode kind))
      (frames.PreambleAck ∷ envelopes ++ last ∷ []) bytes
      → (carried : List Carried)
      × IsAckThen (CarriesThen x FromReceiver mode kind carried Rest) bytes
  ack_then mode kind envelopes last bytes Rest ends are h =
      let same = h.followed.1 in
      let m = envelopes_script FromReceiver mode envelopes h.then_context (last ∷ []) h.rest are
      h.next in (
        m.carried,
        (
          h.head,
          h.rest,
          (refl, h.is_record.1),
          carries_then FromReceiver mode kind h.then_context (last ∷ []) h.rest Rest m
              (ap (λ (c : Context). c.kind) same) (ap (λ (c : Context). c.strings) same)
              (ends m.then_context m.rest m.next),
          alone _ frames.PreambleAck _ bytes h h.followed.0,
        ),
      )

  receivers_found : (mode : Mode) (kind : Kind) (script : List Frame) (bytes : List ℕ)
      → IsScript FromReceiver mode script
      → HasScript x (first_context (receivers mode kind)) script bytes
      → IsShort x script (length bytes) → Found (receivers mode kind) script bytes
  receivers_found mode kind script bytes (inl r) has short =
      let w = ack_then mode kind r.envelopes frames.End bytes (IsBare frames.End) end_script r.sent
      (subst (λ (s : List Frame). HasScript x (first_context (receivers mode kind)) s bytes)
      r.joined has)
      in (answer w.0, w.1, short.0, λ e. cc)
  receivers_found mode kind script bytes (inr (inl (simplex, same))) has short =
      let h : BeginsWith x (first_context (receivers mode kind)) frames.PreambleAck
      (λ then_context rest. rest ≡ []) bytes =
      subst (λ (s : List Frame). HasScript x (first_context (receivers mode kind)) s bytes) same has
      in (
        lone_ack,
        (
          simplex,
          (
            h.head,
            h.rest,
            (refl, h.is_record.1),
            h.next,
            alone _ frames.PreambleAck _ bytes h h.followed.0,
          ),
        ),
        short.1 same,
        (λ e. same),
      )
  receivers_found mode kind script bytes (inr (inr r)) has short =
      by_before r.before r.answer.joined
      (subst (λ (s : List Frame). HasScript x (first_context (receivers mode kind)) s bytes)
      r.joined has)
    where
      by_before : (before : List Frame)
          → before ++ r.in_place_of ∷ r.after
          ≡ frames.PreambleAck ∷ r.answer.envelopes ++ frames.End ∷ []
          → HasScript x (first_context (receivers mode kind)) (before ++ frames.Fault ∷ []) bytes
          → Found (receivers mode kind) script bytes
      by_before [] same h =
          let w = fault_script (first_context (receivers mode kind)) bytes h in
          (turned_down w.0, w.1, short.0, λ e. cc)
      by_before (first ∷ more) same h =
          let is : first ≡ frames.PreambleAck = cc in
          let rest : more ++ r.in_place_of ∷ r.after ≡ r.answer.envelopes ++ frames.End ∷ [] = cc in
          let are = cut_envelopes mode r.answer.envelopes more r.after r.in_place_of r.record_of
          r.answer.sent rest in
          let w = ack_then mode kind more frames.Fault bytes
          (λ last. (text : List ℕ) × IsFault x text last) fault_script are
          (subst (λ (f : Frame). HasScript x (first_context (receivers mode kind))
          (f ∷ more ++ frames.Fault ∷ []) bytes) is h) in
          let (
            ack,
            last,
            is_ack,
            (envelopes, tail, may, all, (text, fault), joined_tail),
            joined_ack,
          )
          = w.1 in (
            broken_off w.0 text,
            (ack, last, is_ack, (envelopes, tail, may, all, fault, joined_tail), joined_ack),
            short.0,
            (λ e. cc),
          )

  pub from_script : (side : Side) (mode : Mode) (script : List Frame) (bytes : List ℕ)
      → IsModeOf side mode → IsScript (direction_of side) mode script
      → HasScript x (first_context side) script bytes → IsShort x script (length bytes)
      → Found side script bytes
  from_script (initiators endpoint) mode script bytes of_side is has short =
      initiators_found endpoint mode script bytes is has short.0
  from_script (receivers own kind) mode script bytes of_side is has short =
      receivers_found own kind script bytes
      (subst (λ (m : Mode). IsScript FromReceiver m script) of_side is) has short
