-- A session is carried on document by document, to its end.
use Rattle.std.proofs.Common.{◌≡◌, ℕ, ◌^◌, ◌<◌, ◌≤◌, false, List, [], ◌∷◌, ◌++◌, length, Ok, Err}
use Rattle.std.proofs.Common.{sym, refl, ap, ◌∙◌, subst, append_assoc, append-nil}
use Rattle.unit_streams.specs.{Grammar.standing, Judging.is_over_at}
use Rattle.string_tables.specs.StaticStrings.{Entry, IsStaticMap}
use Rattle.string_tables.specs.StringTable.{StringTable}
use Rattle.nbfx_values.specs.{declared.content.Item.Item, Limits.IsGood, Limits.Limits}
use Rattle.nbfx_values.specs.declared.session.Kind.{Kind, TheVariants.Session as WithStrings}
use Rattle.nbfx_values.specs.declared.session.Mode.{Mode, TheVariants.Duplex}
use Rattle.nbfx_encoder.proofs.LawFacts.{writes_what_fits}
use Rattle.nbfx_encoder.specs.{declared.sender.SendState.TheVariants.Closed, Placing.Placed}
use Rattle.nbfx_encoder.specs.{Envelopes.envelope, Spelling.encoded}
use Rattle.nbfx_encoder.specs.Sending.{behind_message, KeepsSettings, kind_in, limits_in, mode_in}
use Rattle.nbfx_encoder.specs.Sending.{names_in, Sends, state_in}
use Rattle.stream_reader.proofs.SessionEnds.{closed_offence}
use Rattle.stream_reader.specs.{Judging.offence, Sessions.conversation}
use Rattle.stream_reader.specs.Stream.{any_initiators, Settings, stream, strings_in}
use Rattle.receiver_machine.specs.declared.receiver.Receiver.{Receiver}
use Rattle.receiver_machine.specs.ReceiverState.{settings_of, StandsFor}
use Rattle.session_ends.{proofs.Steps.IsTakenWhole, specs.Sent.session_bytes}
use Rattle.session_generator.specs.declared.ends.{Ends.Ends, GenFault.GenFault}
use Rattle.session_generator.specs.declared.ends.GenFault.TheVariants.{Memory, SessionTooLong}
use Rattle.session_generator.specs.declared.session.Session.{Session}
use Rattle.session_generator.specs.Documents.{document, documents_from}
use Rattle.session_generator.specs.Ends.{AreLevel, HaveSession, IsWhyNone}
use Rattle.session_generator.specs.Generated.{in_session, opening, via}
use Rattle.session_generator.specs.UnderWay.{CanSend, IsUnderWay, Stops}
use Rattle.session_generator.proofs.{Answered.HasReadSo, DocumentFacts.is_document}
use Rattle.session_generator.proofs.{Fitting.document_fits, Whole.strings_whole, Whole.whole_is}
use Rattle.session_generator.proofs.Whole.{documents_join, going, last_taken, messages_whole}
use Rattle.session_generator.proofs.Whole.{more_fit, next_taken, one_more, session_is}

module _ (statics : List Entry) (l : Limits) (good : IsGood l) (is_map : IsStaticMap statics) where
  abbrev x : Settings
  x = any_initiators statics l

  module _ (done : List (List Item)) (s : Session) (u : IsUnderWay l statics done s) where
    abbrev pub front : List ℕ
    front = opening ++ u.sent.0

    -- what a sender answers that is set so
    answers_so : (d : List Item) → encoded (limits_in s.sender) (kind_in s.sender)
        (names_in s.sender) d ≡ encoded l WithStrings u.sent.1 d
    answers_so d =
        ap (λ (m : Limits). encoded m (kind_in s.sender) (names_in s.sender) d) u.limits_are
        ∙ ap (λ (k : Kind). encoded l k (names_in s.sender) d) u.kind_is
        ∙ ap (λ (t : StringTable). encoded l WithStrings t d) u.names

    pub can_send : (number d : ℕ) → number < 2 ^ 32 → d < 2 ^ 32
        → CanSend s (document number d)
    can_send number d few low =
        let fits = document_fits l good u.sent.1 number d in record {
          is_document = is_document number d few low;
          ready = u.state_is;
          payload = fits.payload;
          fits = answers_so (document number d)
              ∙ (writes_what_fits l WithStrings u.sent.1 (document number d) fits.payload).1
              (fits, refl);
        }

    pub short : ((p : List ℕ) → StandsFor s.receiver p
        → length p ≤ (settings_of s.receiver).limits.session)
        → length front ≤ l.session
    short taken =
        subst (λ (y : Settings). length front ≤ y.limits.session) u.settings_are
        (taken front u.read)

    pub still_going : is_over_at (stream x) front ≡ false
    still_going = going statics l good is_map done u.sent u.are_documents u.all_fit

    module _ (within : length front ≤ l.session) where
      -- one document more, as the sender has written it
      module _ (d : List Item) (can : CanSend s d) (room : List ℕ) (behind : StringTable)
          (sends : Sends (encoded (limits_in s.sender) (kind_in s.sender) (names_in s.sender) d)
          (mode_in s.sender) [] room behind) where
        fits_so : encoded l WithStrings u.sent.1 d ≡ Ok sends.payload
        fits_so = sym (answers_so d) ∙ sends.answer_is

        bytes_are : room ≡ envelope Duplex sends.payload.0
        bytes_are = sends.written ∙ ap (λ (m : Mode). envelope m sends.payload.0) u.mode_is

        next : Placed (List ℕ)
        next = (u.sent.0 ++ envelope Duplex sends.payload.0, sends.payload.1)

        pub is_taken : IsTakenWhole x front room
        is_taken =
            subst (IsTakenWhole x front) (sym bytes_are)
            (next_taken statics l good is_map done u.sent u.are_documents u.all_fit within d
            sends.payload can.is_document fits_so)

        joined : front ++ room ≡ opening ++ (u.sent.0 ++ envelope Duplex sends.payload.0)
        joined = append_assoc opening u.sent.0 room
            ∙ ap (λ b. opening ++ (u.sent.0 ++ b)) bytes_are

        pub sent_on : (t : Session) → names_in t.sender ≡ behind → KeepsSettings s.sender t.sender
            → state_in t.sender ≡ behind_message (mode_in s.sender)
            → settings_of t.receiver ≡ settings_of s.receiver
            → StandsFor t.receiver (front ++ room) → IsUnderWay l statics (done ++ d ∷ []) t
        sent_on t names kept state settings stands = record {
          sent = (u.sent.0 ++ envelope Duplex sends.payload.0, sends.payload.1);
          all_fit = one_more statics l good is_map done u.sent d sends.payload u.all_fit fits_so;
          are_documents = documents_join done d u.are_documents can.is_document;
          names = names ∙ sends.table;
          limits_are = kept.limits ∙ u.limits_are;
          kind_is = kept.kind ∙ u.kind_is;
          mode_is = kept.mode ∙ u.mode_is;
          side_is = kept.side ∙ u.side_is;
          state_is = state ∙ ap behind_message u.mode_is;
          settings_are = settings ∙ u.settings_are;
          read = subst (StandsFor t.receiver) joined stands;
        }

        pub stopped : (r : Receiver) (fault : GenFault) → HasReadSo x front room r (Err fault)
            → Stops l statics (done ++ d ∷ []) fault
        stopped r (SessionTooLong o) (reason, follows) = record {
          sent = (u.sent.0 ++ envelope Duplex sends.payload.0, sends.payload.1);
          all_fit = one_more statics l good is_map done u.sent d sends.payload u.all_fit fits_so;
          refused = (
            reason,
            λ rest.
                ap (λ b. offence x (b ++ rest)) (sym joined)
                ∙ ap (offence x) (append_assoc front room rest) ∙ follows rest,
          );
        }
        stopped r Memory h = tt

      -- the End record
      pub end_is_taken : IsTakenWhole x front (7 ∷ [])
      end_is_taken = last_taken statics l good is_map done u.sent u.are_documents u.all_fit within

      pub ended : (ends : Ends) → state_in ends.sender ≡ Closed
          → names_in ends.sender ≡ names_in s.sender → KeepsSettings s.sender ends.sender
          → settings_of ends.receiver ≡ settings_of s.receiver
          → StandsFor ends.receiver (front ++ 7 ∷ [])
          → ends.documents
          ≡ (standing (stream (settings_of ends.receiver)) (front ++ 7 ∷ [])).situation.messages
          → ends.bytes ≡ length (front ++ 7 ∷ [])
          → length (front ++ 7 ∷ []) ≤ (settings_of ends.receiver).limits.session
          → HaveSession l statics done ends
      ended ends closed names kept settings stands documents bytes low =
          let same : settings_of ends.receiver ≡ x = settings ∙ u.settings_are in
          let whole = whole_is statics l good is_map done u.sent u.are_documents u.all_fit in
          let few : length (session_bytes opening u.sent.0) ≤ l.session =
          subst (λ b. length b ≤ l.session) whole
          (subst (λ (y : Settings). length (front ++ 7 ∷ []) ≤ y.limits.session) same low) in
          let session = session_is statics l good is_map done u.sent u.are_documents u.all_fit few
          in
          record {
            session = (session_bytes opening u.sent.0, u.sent.1);
            session_is = ap in_session u.all_fit;
            carried = session.0;
            documents_are = session.1;
            is_session = session.2;
            unrefused = closed_offence x good (session_bytes opening u.sent.0) (record {
              parts = conversation Duplex WithStrings via session.0;
              session = session_bytes opening u.sent.0;
              rest = [];
              joined = sym (append-nil (session_bytes opening u.sent.0));
              is_session = session.2;
              may_follow = tt;
            });
            sends_within = kept.limits ∙ u.limits_are;
            sends_strings = kept.kind ∙ u.kind_is;
            sends_mode = kept.mode ∙ u.mode_is;
            sends_side = kept.side ∙ u.side_is;
            closed = closed;
            sent = names ∙ u.names;
            settings = same;
            read = subst (StandsFor ends.receiver) whole stands;
            same_strings =
                ap (λ b. strings_in (standing (stream x) b).situation) (sym whole)
                ∙ strings_whole statics l good is_map done u.sent u.are_documents u.all_fit;
            documents_read =
                documents
                ∙ ap (λ (y : Settings). (standing (stream y) (front ++ 7 ∷ [])).situation.messages)
                same
                ∙ messages_whole statics l good is_map done u.sent u.are_documents u.all_fit;
            bytes_read = bytes ∙ ap length whole;
          }

      pub end_stopped : (r : Receiver) (fault : GenFault)
          → HasReadSo x front (7 ∷ []) r (Err fault) → IsWhyNone l statics done fault
      end_stopped r (SessionTooLong o) (reason, follows) =
          let whole = whole_is statics l good is_map done u.sent u.are_documents u.all_fit in
          record {
            session = (session_bytes opening u.sent.0, u.sent.1);
            session_is = ap in_session u.all_fit;
            offence_is = ap (offence x) (sym whole) ∙ follows [];
            reason_is = reason;
          }
      end_stopped r Memory h = tt

  -- whatever documents were to come
  pub why_none : (done : List (List Item)) (y number count : ℕ) (fault : GenFault)
      → Stops l statics done fault
      → IsWhyNone l statics (done ++ documents_from y number count) fault
  why_none done y number count (SessionTooLong o) h =
      let all = more_fit statics l good is_map count y number done h.sent h.all_fit in
      let bytes : session_bytes opening all.all.0
      ≡ (opening ++ h.sent.0) ++ (all.tail ++ 7 ∷ []) =
      ap (session_bytes opening) all.joined
      ∙ ap (λ b. opening ++ b) (append_assoc h.sent.0 all.tail (7 ∷ []))
      ∙ sym (append_assoc opening h.sent.0 (all.tail ++ 7 ∷ [])) in
      record {
        session = (session_bytes opening all.all.0, all.all.1);
        session_is = ap in_session all.is;
        offence_is = ap (offence x) bytes ∙ h.refused.1 (all.tail ++ 7 ∷ []);
        reason_is = h.refused.0;
      }
  why_none done y number count Memory h = tt

-- both ends have the same strings
pub are_level : (limits : Limits) (statics : List Entry) (documents : List (List Item))
    (ends : Ends)
    → HaveSession limits statics documents ends → AreLevel ends
are_level limits statics documents ends h = record {
  bytes = h.session.0;
  read = h.read;
  same_strings =
      ap (λ (y : Settings). strings_in (standing (stream y) h.session.0).situation) h.settings
      ∙ h.same_strings ∙ ap (λ (t : StringTable). t.strings) (sym h.sent);
}
