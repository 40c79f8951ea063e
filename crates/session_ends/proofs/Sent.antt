-- What is written of documents that fit is read as these documents.
use Rattle.std.proofs.Common.{◌≡◌, ℕ, ◌+◌, ◌^◌, ◌<◌, ◌≤◌, List, [], ◌∷◌, ◌++◌, map, length, Ok}
use Rattle.std.proofs.Common.{Option, sym, refl, ap, ◌∙◌, subst, append_assoc, append-nil, arith}
use Rattle.{unit_streams.proofs.Standing.standing_nothing, nbfx_records.specs.Payloads.IsWithin}
use Rattle.string_tables.specs.{SessionStrings.used_cost, StringTable.StringTable}
use Rattle.{string_tables.specs.StaticStrings.IsStaticMap, nbfx_decoder.proofs.Readable.readable}
use Rattle.multibyte_ints.{proofs.ShortestLaws.shortest_spells, specs.Integer.shortest}
use Rattle.nbfx_values.specs.declared.{content.Item.Item, session.Kind.Kind, session.Mode.Mode}
use Rattle.nbfx_values.specs.declared.session.Mode.TheVariants.{Duplex, Simplex, Singleton}
use Rattle.nbfx_values.specs.{Documents.IsDocument, Limits.IsGood, Limits.Limits}
use Rattle.nmf_records.specs.declared.script.Direction.TheVariants.{FromInitiator}
use Rattle.nbfx_encoder.proofs.LawFacts.{Parted, parted, writes_what_fits}
use Rattle.nbfx_encoder.proofs.Payloads.{chosen_is_payload}
use Rattle.nbfx_encoder.specs.Envelopes.{envelope, envelope_then, envelopes_from, UnfitAt}
use Rattle.nbfx_encoder.specs.{Placing.Placed, ReadBack.AdmitsAsMuch, ReadBack.IsRead}
use Rattle.nbfx_encoder.specs.Spelling.{encoded, Fits, Unfit}
use Rattle.nbfx_decoder.specs.{Laws.IsDecoded, Laws.IsWholePayload, Payload.payload}
use Rattle.stream_reader.proofs.FromSession.{decoded}
use Rattle.stream_reader.specs.Sessions.{AreChunks, Carried, CarriesAll, conversation, HasParts}
use Rattle.stream_reader.specs.Sessions.{IsEnvelopeIn, IsPreamble, IsSession, joined, MayCarry}
use Rattle.stream_reader.specs.Stream.{initiators, payloads, Settings, Side}
use Rattle.session_ends.specs.Sent.{AreDocuments, AreSent, CarryDocuments, first_table, MayBeSent}
use Rattle.session_ends.specs.Sent.{SentAreCarried, SentAreSessions, session_bytes, strings_after}

-- the envelope of a payload is one
envelope_is : (mode : Mode) (bytes : List ℕ) → 0 < length bytes → length bytes < 2 ^ 31
    → IsEnvelopeIn mode bytes (envelope mode bytes)
unfolding AreChunks joined
envelope_is Singleton bytes some small = (
  5 ∷ [],
  bytes ∷ [],
  shortest (length bytes) ++ (bytes ++ shortest 0),
  (refl, refl),
  (
    shortest (length bytes),
    shortest 0,
    some,
    (refl, (shortest_spells (length bytes) small).0),
    sym (append_assoc (shortest (length bytes)) bytes (shortest 0)),
    (refl, (shortest_spells 0 (omega arith)).0),
  ),
  sym (append-nil bytes),
  refl,
)
envelope_is Duplex bytes some small = (
  6 ∷ shortest (length bytes),
  (refl, shortest (length bytes), (shortest_spells (length bytes) small).0, refl),
  ap (λ b. 6 ∷ shortest (length bytes) ++ b) (append-nil bytes),
)
envelope_is Simplex bytes some small = (
  6 ∷ shortest (length bytes),
  (refl, shortest (length bytes), (shortest_spells (length bytes) small).0, refl),
  ap (λ b. 6 ∷ shortest (length bytes) ++ b) (append-nil bytes),
)

module _ (x : Settings) (good : IsGood x.limits) (writer : Limits) (writer_good : IsGood writer)
    (admits : AdmitsAsMuch x.limits writer) (static_map : IsStaticMap x.statics) (mode : Mode)
    (kind : Kind) where
  abbrev table : List (List ℕ) → StringTable
  table strings = record { statics = x.statics; strings = strings }

  -- a document's payload has bytes
  some_bytes : (strings own : List (List ℕ)) (items : List Item) (bytes : List ℕ)
      → IsDocument items → IsDecoded (payloads x kind) strings bytes items own → 0 < length bytes
  some_bytes strings own items [] document d =
      let first = standing_nothing (payload (payloads x kind) strings)
      (readable (payloads x kind) strings) in
      let none : items ≡ [] = sym d.items_are ∙ ap (λ s. s.situation.items) first in
      absurd (let walked = document.walked in cc)
  some_bytes strings own items (b ∷ bytes) document d = omega arith

  -- one document, by its payload
  pub record IsCarried (strings : List (List ℕ)) (items : List Item) (payload : Placed (List ℕ))
      : Type 0 where
    pub own : List (List ℕ)
    pub is_whole : IsWholePayload (payloads x kind) strings own items payload.0
    pub behind : payload.1 ≡ table (strings ++ own)
    pub cheap : used_cost (strings ++ own) ≤ writer.dictionary
    pub is_envelope : IsEnvelopeIn mode payload.0 (envelope mode payload.0)
    pub some : 0 < length payload.0

  pub one_carried : (strings : List (List ℕ)) (items : List Item) (payload : Placed (List ℕ))
      → used_cost strings ≤ writer.dictionary → IsDocument items
      → encoded writer kind (table strings) items ≡ Ok payload → IsCarried strings items payload
  one_carried strings items payload cheap document is =
      let w = (writes_what_fits writer kind (table strings) items payload).0 is in
      let read = subst (λ (p : Placed (List ℕ)). IsRead x.limits kind (table strings) items p.0 p.1)
      w.1 (chosen_is_payload writer x.limits kind (table strings) items writer_good admits
      static_map cheap document w.0) in
      let same : AdmitsAsMuch writer writer = record {
        payload = omega arith;
        depth = omega arith;
        dictionary = omega arith;
        content = omega arith;
      } in
      let kept = subst (λ (p : Placed (List ℕ)). IsRead writer kind (table strings) items p.0 p.1)
      w.1 (chosen_is_payload writer writer kind (table strings) items writer_good same
      static_map cheap document w.0) in
      let behind : payload.1.strings ≡ strings ++ read.own =
      ap (λ (t : StringTable). t.strings) read.behind_is in
      let whole_one : IsWholePayload (payloads x kind) strings read.own items payload.0 = record {
        is_payload = read.is_payload;
        within = subst (IsWithin x.limits items payload.0) behind read.within;
      } in
      let low = admits.dictionary in
      let d = decoded x good mode kind []
      (record { payload = payload.0; items = items; own = read.own })
      strings (omega (arith, cheap, low)) whole_one in
      let some = some_bytes strings read.own items payload.0 document d in
      let most = good.payload_most in
      let within = whole_one.within.payload in
      record {
        own = read.own;
        is_whole = whole_one;
        behind = read.behind_is;
        cheap = subst (λ (s : List (List ℕ)). used_cost s ≤ writer.dictionary) behind
            kept.within.admitted.dictionary;
        is_envelope = envelope_is mode payload.0 some (omega (arith, most, within));
        some = some;
      }

  -- all of them
  abbrev Carries : List (List ℕ) → List (List Item) → Placed (List ℕ) → Type 0
  Carries strings documents sent =
      CarryDocuments x mode kind strings documents sent.0 sent.1.strings
      × (sent.1.statics ≡ x.statics) × (used_cost sent.1.strings ≤ writer.dictionary)

  pub all_carried : (documents : List (List Item)) (strings : List (List ℕ)) (number : ℕ)
      (sent : Placed (List ℕ)) → used_cost strings ≤ writer.dictionary → AreDocuments documents
      → envelopes_from writer kind mode (table strings) number documents ≡ Ok sent
      → Carries strings documents sent
  all_carried [] strings number sent cheap are is =
      let same : ([], table strings) ≡ sent = cc is in
      subst (Carries strings []) same (
        record { carried = []; documents_are = refl; behind_is = refl; carries = refl },
        refl,
        cheap,
      )
  all_carried (document ∷ documents) strings number sent cheap (one, are) is =
      let p = parted mode number (encoded writer kind (table strings) document)
      (λ t. envelopes_from writer kind mode t (number + 1) documents) sent.0 sent.1 is in
      let c = one_carried strings document p.payload cheap one p.first_is in
      let rest = all_carried documents (strings ++ c.own) (number + 1) (p.others, sent.1) c.cheap
      are
      (ap (λ (t : StringTable). envelopes_from writer kind mode t (number + 1) documents)
      (sym c.behind) ∙ p.rest_is) in (
        record {
          carried = record { payload = p.payload.0; items = document; own = c.own }
              ∷ rest.0.carried;
          documents_are = ap (λ ds. document ∷ ds) rest.0.documents_are;
          behind_is = rest.0.behind_is;
          carries = (
            envelope mode p.payload.0,
            p.others,
            c.is_envelope,
            c.is_whole,
            p.joined,
            rest.0.carries,
          );
        },
        rest.1,
        rest.2,
      )

pub sent_are_carried : SentAreCarried
sent_are_carried x writer mode kind documents sent good admits h =
    (all_carried x good writer h.good admits h.static_map mode kind documents [] 0 sent
    (omega arith)
    h.documents_are h.all_fit).0

-- as many are carried as are sent
may_carry : (mode : Mode) (documents : List (List Item)) (carried : List Carried)
    → map (λ (one : Carried). one.items) carried ≡ documents → MayBeSent mode documents
    → MayCarry FromInitiator mode carried
may_carry Singleton documents (one ∷ []) same may = refl
may_carry Singleton documents [] same may =
    absurd (let n : 0 ≡ length documents = ap length same in omega (arith, n, may))
may_carry Singleton documents (one ∷ two ∷ more) same may =
    absurd (let n : length (map (λ (one : Carried). one.items) (one ∷ two ∷ more))
    ≡ length documents
    = ap length same in omega (arith, n, may))
may_carry Duplex documents carried same may = tt
may_carry Simplex documents carried same may = tt

pub sent_are_sessions : SentAreSessions
sent_are_sessions x endpoint writer mode kind via preamble documents sent good admits side is may h
    within =
    let c = sent_are_carried x writer mode kind documents sent good admits h in
    let parts : HasParts x (initiators endpoint) (conversation mode kind via c.carried)
    (session_bytes preamble sent.0) = (
      preamble,
      sent.0 ++ 7 ∷ [],
      is,
      (
        sent.0,
        7 ∷ [],
        may_carry mode documents c.carried c.documents_are may,
        c.carries,
        (refl, refl),
        refl,
      ),
      refl,
    ) in (
      c.carried,
      c.documents_are,
      (
        subst (λ (s : Side). HasParts x s (conversation mode kind via c.carried)
            (session_bytes preamble sent.0)) (sym side) parts,
        within,
      ),
    )
