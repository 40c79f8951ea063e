-- What is written of documents is a session of them, and when it is written (specs/Laws, Building).
use Rattle.std.proofs.Common.{◌≡◌, ℕ, ◌≤◌, true, ◌⊎◌, List, [], ◌∷◌, ◌++◌, map, length, Some, None}
use Rattle.std.proofs.Common.{IsUtf8, Option, flat_map, sym, refl, ap, ◌∙◌, subst, inl, inr}
use Rattle.std.proofs.Common.{append_assoc, append-nil}
use Rattle.{io_edges.specs.Faults.Rose, unit_streams.specs.Tellers.report as report_by}
use Rattle.string_tables.specs.StaticStrings.{Entry, IsStaticMap}
use Rattle.nbfx_values.specs.declared.{content.Item.Item, session.Mode.Mode}
use Rattle.nbfx_values.specs.declared.session.Mode.TheVariants.{Duplex, Simplex, Singleton}
use Rattle.nbfx_values.specs.Limits.{IsGood, Limits}
use Rattle.stream_reader.specs.Sessions.{Carried, conversation, IsPreamble, IsSession}
use Rattle.stream_reader.specs.{Sessions.session_events, Stream.Settings}
use Rattle.stream_loop.specs.{declared.reporting.ReportEnding.ReportEnding, Edges.Input}
use Rattle.initiator_machine.proofs.Openings.{openings_are_preambles}
use Rattle.{session_report.proofs.Sessions.reports_sessions, command_words.specs.Tasks.Opening}
use Rattle.session_report.specs.Report.{report, told_of}
use Rattle.line_notation.specs.{LineReaderState.documents_of, Lines.AreLinesOf, Lines.cut}
use Rattle.document_lines.proofs.Written.{no_memory, written}
use Rattle.document_lines.specs.declared.InputFault.{InputFault, TheVariants.Unfit}
use Rattle.document_lines.specs.Input.{envelopes_and_end, is_singleton, lines_of_documents}
use Rattle.document_lines.specs.{Input.Settings as LineSettings, Laws.Explains, Laws.IsWritten}
use Rattle.session_ends.proofs.Sent.{sent_are_sessions}
use Rattle.session_ends.specs.Sent.{AreDocuments, AreSent, MayBeSent, session_bytes}
use Rattle.dump_replay.specs.Building.{Builds, kind_of, preamble_of, settings_for_building}
use Rattle.dump_replay.specs.Building.{status_of_building}
use Rattle.dump_replay.specs.Laws.{BuildsAreComplete, BuiltAreSessions, input_offence, IsBuiltOf}
use Rattle.dump_replay.specs.Laws.{IsBuiltWell, IsSessionOf, ReadsAsMuch, session_of}
use Rattle.dump_replay.specs.Laws.{status_of_input, UnfitHasACause}
use Rattle.io_edges.specs.Views.{SinkView}
use Rattle.stream_loop.specs.declared.reporting.ReportEnding.TheVariants as endings
use Rattle.nbfx_encoder.specs.declared.faults.EncodeFault.TheVariants as encode

-- ---- sessions

-- what lines bring are documents
are_documents : (documents : List (List Item)) (lines : List (List ℕ))
    → AreLinesOf documents lines → AreDocuments documents
are_documents [] lines are = tt
are_documents (document ∷ documents) lines h = (h.5, are_documents documents h.2 h.7)

-- as many as the mode takes
may_be_sent : (mode : Mode) (documents : List (List Item))
    → (is_singleton mode ≡ true → length documents ≡ 1) → MayBeSent mode documents
may_be_sent Duplex documents one = tt
may_be_sent Simplex documents one = tt
may_be_sent Singleton documents one = one refl

module _ (opening : Opening) (statics : List Entry) (limits : Limits) (x : Settings)
    (bytes : List ℕ) (good : IsGood limits) (static_map : IsStaticMap statics)
    (utf8 : IsUtf8 opening.via) (reads : ReadsAsMuch opening statics limits x bytes)
    (none : input_offence opening statics limits bytes ≡ None)
  where
    abbrev lines_settings : LineSettings
    lines_settings = settings_for_building opening statics limits

    w : IsWritten lines_settings bytes
    w = written lines_settings bytes

    abbrev documents : List (List Item)
    documents = documents_of w.lines

    why : Explains lines_settings bytes w.lines w.more w.envelopes.1 None
    why = subst (Explains lines_settings bytes w.lines w.more w.envelopes.1) none w.why

    preamble : IsPreamble x opening.mode (kind_of opening) opening.via (preamble_of opening)
    preamble = openings_are_preambles x reads.good opening.mode opening.encoding opening.via utf8
        reads.via reads.served

    sent : AreSent x.statics limits opening.mode (kind_of opening) documents w.envelopes
    sent = subst (λ (s : List Entry). AreSent s limits opening.mode (kind_of opening) documents
        w.envelopes) (sym reads.statics_are) (record {
          good = good;
          static_map = static_map;
          documents_are = are_documents documents w.lines why.2;
          all_fit = w.all_fit;
        })

    session_is : session_of opening statics limits bytes
        ≡ session_bytes (preamble_of opening) w.envelopes.0
    session_is =
        ap (λ l. preamble_of opening ++ l)
        (w.written ∙ ap (λ o. w.envelopes.0 ++ envelopes_and_end.ends tt o) none)

    session : (carried : List Carried)
        × (map (λ (one : Carried). one.items) carried ≡ documents)
        × IsSession x (conversation opening.mode (kind_of opening) opening.via carried)
        (session_bytes (preamble_of opening) w.envelopes.0)
    session = sent_are_sessions x reads.endpoint limits opening.mode (kind_of opening) opening.via
        (preamble_of opening) documents w.envelopes reads.good reads.admits reads.side preamble
        (may_be_sent opening.mode documents why.3) sent
        (subst (λ (l : List ℕ). length l ≤ x.limits.session) session_is reads.session)

    session_of_documents : IsSessionOf opening statics limits x documents
        (session_bytes (preamble_of opening) w.envelopes.0)
    session_of_documents =
        let all = session_bytes (preamble_of opening) w.envelopes.0 in
        let parts = conversation opening.mode (kind_of opening) opening.via session.0 in record {
          carried = session.0;
          documents_are = session.1;
          is_session = session.2;
          reported = λ d.
              ap (λ l. report d x l) (sym (append-nil all))
              ∙ reports_sessions d x reads.good parts all [] session.2 tt
              ∙ append-nil (flat_map (told_of d) (session_events parts (length all)));
        }

    built_of : IsBuiltOf opening statics limits x bytes
    built_of = record {
      lines = w.lines;
      documents = documents;
      lines_are = cut_is;
      documents_are = why.2;
      is_session = subst (λ (l : List ℕ). IsSessionOf opening statics limits x documents l)
          (sym session_is) session_of_documents;
    } where
      all_lines : (cut bytes).0 ≡ w.lines
      all_lines = w.lines_are ∙ ap (λ (l : List (List ℕ)). w.lines ++ l) why.0
          ∙ append-nil w.lines

      cut_is : cut bytes ≡ (w.lines, [])
      cut_is = ap (λ (l : List (List ℕ)). (l, (cut bytes).1)) all_lines
          ∙ ap (λ (l : List ℕ). (w.lines, l)) why.1

pub built_are_sessions : BuiltAreSessions
built_are_sessions opening statics limits x bytes good static_map utf8 reads none =
    built_of opening statics limits x bytes good static_map utf8 reads none

-- ---- completeness

module _ (opening : Opening) (statics : List Entry) (limits : Limits) (i i' : Input)
    (o o' : SinkView) (bytes : List ℕ) (left : i.left ≡ Some bytes)
    (read_well : Rose i.faults i'.faults → ⊥) (written_well : Rose o.faults o'.faults → ⊥)
  where
    abbrev Well : ℕ → Type 0
    Well status = IsBuiltWell opening statics limits bytes o o' status ⊎ (status ≡ 5)

    judged_status : (judged : Option InputFault)
        → status_of_building (endings.Judged judged) ≡ status_of_input judged
    judged_status None = refl
    judged_status (Some fault) = refl

    abbrev envelopes : List ℕ
    envelopes = report_by (lines_of_documents (settings_for_building opening statics limits))
        envelopes_and_end bytes

    rejoined : (w : List ℕ) → w ++ (o.held ++ preamble_of opening) ++ envelopes
        ≡ w ++ o.held ++ session_of opening statics limits bytes
    rejoined w =
        append_assoc w (o.held ++ preamble_of opening) envelopes
        ∙ ap (λ l. w ++ l) (append_assoc o.held (preamble_of opening) envelopes)
        ∙ sym (append_assoc w o.held (session_of opening statics limits bytes))

    judged_well : (judged : Option InputFault)
        → Builds opening statics limits i i' o o' (endings.Judged judged)
        → IsBuiltWell opening statics limits bytes o o'
        (status_of_building (endings.Judged judged))
    judged_well judged b = record {
      status_is = judged_status judged ∙ ap status_of_input (sym (b.judges bytes left).0);
      written = λ w before. let r = b.reports bytes w left before in
          r.1 ∙ ap Some (r.2 ∙ rejoined w);
    }

    ends_well : (e : ReportEnding InputFault) → Builds opening statics limits i i' o o' e
        → Well (status_of_building e)
    ends_well (endings.Judged judged) b = inl (judged_well judged b)
    ends_well endings.ReadFault b = absurd (read_well (b.reads_counted.rose refl))
    ends_well endings.WriteFault b = absurd (written_well (b.writes_counted.rose refl))
    ends_well endings.Memory b = inr refl

pub builds_are_complete : BuildsAreComplete
builds_are_complete opening statics limits i i' o o' ending b bytes left read_well written_well =
    ends_well opening statics limits i i' o o' bytes left read_well written_well ending b

-- ---- want of memory

pub unfit_has_a_cause : UnfitHasACause
unfit_has_a_cause opening statics limits i i' o o' number b =
    let judged : Option InputFault = Some (Unfit number encode.Memory) in
    let d = b.decides judged refl in
    no_memory (settings_for_building opening statics limits) d.bytes number d.judged_so.0
