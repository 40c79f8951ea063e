-- The session of a seed's documents, as far as it has come, and the whole of it.
use Rattle.std.proofs.Common.{◌≡◌, ℕ, zero, suc, ◌+◌, ◌≤◌, false, List, [], ◌∷◌, ◌++◌, map, length}
use Rattle.std.proofs.Common.{None, Ok, codes, IsUtf8, sym, refl, ap, ◌∙◌, subst, append_assoc}
use Rattle.std.proofs.{Common.append-nil, Common.arith, lemmas.List.length-map}
use Rattle.{std.specs.Char.encode_utf8, nbfx_decoder.specs.Laws.IsWholePayload}
use Rattle.unit_streams.{proofs.Units.IsBetween, specs.Grammar.standing, specs.Judging.is_over_at}
use Rattle.string_tables.specs.{SessionStrings.used_cost, StringTable.StringTable}
use Rattle.string_tables.specs.StaticStrings.{Entry, IsStaticMap}
use Rattle.nbfx_values.specs.{declared.content.Item.Item, Documents.IsDocument}
use Rattle.nbfx_values.specs.declared.session.Encoding.TheVariants.{Known}
use Rattle.nbfx_values.specs.declared.session.{Kind.TheVariants.Session, Mode.TheVariants.Duplex}
use Rattle.nbfx_values.specs.Limits.{IsGood, Limits}
use Rattle.nbfx_encoder.proofs.LawFacts.{sends_one_more, writes_what_fits}
use Rattle.nbfx_encoder.specs.Envelopes.{behind_bytes, envelope, envelope_then, envelopes_from}
use Rattle.nbfx_encoder.specs.{Placing.Placed, ReadBack.AdmitsAsMuch, Spelling.encoded}
use Rattle.stream_reader.proofs.{FromSession.left_by, Grammar.readable}
use Rattle.stream_reader.specs.Sessions.{Carried, conversation, IsPreamble, IsSession}
use Rattle.stream_reader.specs.Stream.{any_initiators, is_over_in, payloads, Settings, Situation}
use Rattle.stream_reader.specs.Stream.{stream, strings_in}
use Rattle.initiator_machine.proofs.Openings.{openings_are_preambles}
use Rattle.session_ends.proofs.Sent.{all_carried, one_carried, sent_are_sessions}
use Rattle.session_ends.proofs.Steps.{end_taken, envelope_taken, front_stands, IsTakenWhole}
use Rattle.session_ends.proofs.Steps.{messages_at, over_at, preamble_taken, session_stands}
use Rattle.session_ends.specs.Sent.{AreDocuments, CarryDocuments, first_table, session_bytes}
use Rattle.{session_ends.specs.Sent.strings_after, session_generator.proofs.Fitting.document_fits}
use Rattle.session_generator.specs.Documents.{document, documents_from, drawn, stepped}
use Rattle.session_generator.specs.Generated.{opening, via}

left_is : (strings : List (List ℕ)) (carried : List Carried)
    → left_by strings carried ≡ strings_after strings carried
left_is strings [] = refl
left_is strings (one ∷ carried) = left_is (strings ++ one.own) carried

-- as much as itself
same_limits : (l : Limits) → AdmitsAsMuch l l
same_limits l = record {
  payload = omega arith;
  depth = omega arith;
  dictionary = omega arith;
  content = omega arith;
}

-- one document more
pub documents_join : (done : List (List Item)) (d : List Item) → AreDocuments done → IsDocument d
    → AreDocuments (done ++ d ∷ [])
documents_join [] d are is = (is, tt)
documents_join (one ∷ done) d are is = (are.0, documents_join done d are.1 is)

module _ (statics : List Entry) (l : Limits) (good : IsGood l) (is_map : IsStaticMap statics) where
  abbrev x : Settings
  x = any_initiators statics l

  abbrev sent_of : List (List Item) → Placed (List ℕ) → Type 0
  sent_of done sent = envelopes_from l Session Duplex (first_table statics) 0 done ≡ Ok sent

  via_utf8 : IsUtf8 via
  unfolding encode_utf8
  via_utf8 = (codes "net.tcp://h/e", (refl, refl))

  opening_is : IsPreamble x Duplex Session via opening
  opening_is =
      openings_are_preambles x good Duplex (Known Session) via via_utf8
      (let low = good.via_least in omega (arith, low))
      refl

  pub opening_taken : IsTakenWhole x [] opening
  opening_taken = preamble_taken None statics l good Session via opening opening_is

  -- one document more is one envelope more
  pub one_more : (done : List (List Item)) (sent : Placed (List ℕ)) (d : List Item)
      (payload : Placed (List ℕ)) → sent_of done sent → encoded l Session sent.1 d ≡ Ok payload
      → sent_of (done ++ d ∷ []) (sent.0 ++ envelope Duplex payload.0, payload.1)
  one_more done sent d payload is fits =
      sends_one_more l Session Duplex (first_table statics) sent.1 0 done d sent.0 is
      ∙ ap (λ one. behind_bytes sent.0 (envelope_then Duplex (0 + length done) one
      (λ last. Ok ([], last)))) fits
      ∙ ap (λ b. Ok (sent.0 ++ b, payload.1)) (append-nil (envelope Duplex payload.0))

  module _ (done : List (List Item)) (sent : Placed (List ℕ)) (are : AreDocuments done)
      (is : sent_of done sent) where
    abbrev front : List ℕ
    front = opening ++ sent.0

    all_of : CarryDocuments x Duplex Session [] done sent.0 sent.1.strings
        × (sent.1.statics ≡ statics) × (used_cost sent.1.strings ≤ l.dictionary)
    all_of =
        all_carried x good l good (same_limits l) is_map Duplex Session done [] 0 sent (omega arith)
        are is

    abbrev carried : List Carried
    carried = all_of.0.carried

    strings_are : left_by [] carried ≡ sent.1.strings
    strings_are = left_is [] carried ∙ all_of.0.behind_is

    count_is : length carried ≡ length done
    count_is = sym (length-map carried (λ (one : Carried). one.items))
        ∙ ap length all_of.0.documents_are

    stands : IsBetween (stream x) (readable x) front
        (messages_at x good Session via (length carried) (left_by [] carried)) (length front)
    stands = front_stands None statics l good Session via opening opening_is sent.0 carried
        all_of.0.carries

    pub going : is_over_at (stream x) front ≡ false
    unfolding is_over_at
    going = ap (λ (z : Situation). is_over_in z.stage) stands.situation

    module _ (within : length front ≤ l.session) where
      pub next_taken : (d : List Item) (payload : Placed (List ℕ)) → IsDocument d
          → encoded l Session sent.1 d ≡ Ok payload
          → IsTakenWhole x front (envelope Duplex payload.0)
      next_taken d payload is_one fits =
          let table : sent.1 ≡ record { statics = statics; strings = sent.1.strings } =
          ap (λ s. record sent.1 { statics = s }) all_of.1 in
          let c = one_carried x good l good (same_limits l) is_map Duplex Session sent.1.strings d
          payload all_of.2 is_one
          (ap (λ (t : StringTable). encoded l Session t d) (sym table) ∙ fits) in
          let one : Carried = record { payload = payload.0; items = d; own = c.own } in
          envelope_taken None statics l good Session via opening opening_is sent.0 carried
          all_of.0.carries within one (envelope Duplex payload.0)
          (subst (λ s. used_cost s ≤ l.dictionary) (sym strings_are) all_of.2)
          c.some c.is_envelope
          (subst (λ s. IsWholePayload (payloads x Session) s c.own d payload.0) (sym strings_are)
          c.is_whole)

      pub last_taken : IsTakenWhole x front (7 ∷ [])
      last_taken =
          end_taken None statics l good Session via opening opening_is sent.0 carried
          all_of.0.carries within (7 ∷ []) (refl, refl)

    -- behind the End record
    whole : IsBetween (stream x) (readable x) (front ++ 7 ∷ [])
        (over_at x good Session via (length carried) (left_by [] carried)) (length front + 1)
    whole =
        session_stands None statics l good Session via opening opening_is sent.0 carried
        all_of.0.carries (7 ∷ []) (refl, refl)

    pub whole_is : front ++ 7 ∷ [] ≡ session_bytes opening sent.0
    whole_is = append_assoc opening sent.0 (7 ∷ [])

    pub strings_whole : strings_in (standing (stream x) (front ++ 7 ∷ [])).situation
        ≡ sent.1.strings
    strings_whole = ap strings_in whole.situation ∙ strings_are

    pub messages_whole : (standing (stream x) (front ++ 7 ∷ [])).situation.messages ≡ length done
    messages_whole = ap (λ (z : Situation). z.messages) whole.situation ∙ count_is

    pub session_is : length (session_bytes opening sent.0) ≤ l.session
        → (carried : List Carried) × (map (λ (one : Carried). one.items) carried ≡ done)
        × IsSession x (conversation Duplex Session via carried) (session_bytes opening sent.0)
    session_is within =
        sent_are_sessions x None l Duplex Session via opening done sent good (same_limits l) refl
        opening_is tt
        (record { good = good; static_map = is_map; documents_are = are; all_fit = is }) within

  -- all that are to come fit too
  pub record AllFit (done more : List (List Item)) (sent : Placed (List ℕ)) : Type 0 where
    pub all : Placed (List ℕ)
    pub tail : List ℕ
    pub is : sent_of (done ++ more) all
    pub joined : all.0 ≡ sent.0 ++ tail

  pub more_fit : (count y number : ℕ) (done : List (List Item)) (sent : Placed (List ℕ))
      → sent_of done sent → AllFit done (documents_from y number count) sent
  unfolding documents_from
  more_fit zero y number done sent is = record {
    all = sent;
    tail = [];
    is = ap (envelopes_from l Session Duplex (first_table statics) 0) (append-nil done) ∙ is;
    joined = sym (append-nil sent.0);
  }
  more_fit (suc count) y number done sent is =
      let d : List Item = document number (drawn (stepped y)) in
      let fits = document_fits l good sent.1 number (drawn (stepped y)) in
      let written = (writes_what_fits l Session sent.1 d fits.payload).1 (fits, refl) in
      let next = one_more done sent d fits.payload is written in
      let rest = more_fit count (stepped y) (number + 1) (done ++ d ∷ [])
      (sent.0 ++ envelope Duplex fits.payload.0, fits.payload.1) next in
      record {
        all = rest.all;
        tail = envelope Duplex fits.payload.0 ++ rest.tail;
        is = ap (envelopes_from l Session Duplex (first_table statics) 0)
            (sym (append_assoc done (d ∷ []) (documents_from (stepped y) (number + 1) count)))
            ∙ rest.is;
        joined = rest.joined ∙ append_assoc sent.0 (envelope Duplex fits.payload.0) rest.tail;
      }
