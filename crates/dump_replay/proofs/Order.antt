-- A run ends with 0 exactly where all is in order (specs/Order).
use Rattle.std.proofs.Common.{◌≡◌, ℕ, ◌<◌, Bool, true, false, List, [], ◌∷◌, ◌++◌, map, length}
use Rattle.std.proofs.Common.{if◌then◌else◌, nat_le, ◌==◌, Some, None, Ok, Err, Option, Result, sym}
use Rattle.std.proofs.Common.{refl, ap, ◌∙◌, subst, append-nil, arith, eqb-true, leb-false}
use Rattle.io_edges.specs.Files.{bad, file_in, missing, Reading, ShelfFile, whole}
use Rattle.{io_edges.specs.Store.Store, unit_streams.specs.Units.IsAccepted}
use Rattle.unit_streams.proofs.Accepted.{accepted_or_offended, leads_length}
use Rattle.unit_streams.specs.Judging.{events, History, offence as offence_by}
use Rattle.{string_tables.specs.StaticStrings.Entry, session_ends.specs.Sent.MayBeSent}
use Rattle.nbfx_values.specs.declared.{content.Item.Item, refusals.Offence.Offence}
use Rattle.nbfx_values.specs.declared.session.{Kind.Kind, Mode.Mode}
use Rattle.nbfx_values.specs.declared.session.Mode.TheVariants.{Duplex, Simplex, Singleton}
use Rattle.nbfx_values.specs.{Limits.IsGood, Limits.Limits, Session.encoding_kind}
use Rattle.command_words.specs.Requests.{AreGood, TwoLimits}
use Rattle.nbfx_encoder.specs.{Envelopes.UnfitAt, Placing.Placed}
use Rattle.stream_reader.proofs.{Closed.closed_or_refused, SessionEnds.sessions_are_told}
use Rattle.stream_reader.specs.{Judging.offence, Sessions.turned_down}
use Rattle.stream_reader.specs.Sessions.{answer, broken_off, conversation, HasParts, IsClosed}
use Rattle.stream_reader.specs.Sessions.{lone_ack, message_events, Parts, session_events}
use Rattle.stream_reader.specs.Stream.{any_initiators, ended, receivers, Settings, StreamEvent}
use Rattle.session_report.proofs.Sessions.{closed_outcome, unoffended}
use Rattle.session_report.specs.declared.{reading.Event.Event, reporter.Outcome.TheVariants.Ended}
use Rattle.session_report.specs.{Report.outcome, Saying.event_for}
use Rattle.line_notation.specs.{LineReaderState.documents_of, Lines.cut}
use Rattle.document_lines.proofs.{Lines.readable, Written.written}
use Rattle.document_lines.specs.{declared.InputFault.InputFault, Files.read_of}
use Rattle.document_lines.specs.declared.InputFault.TheVariants.{Line, TooLong, Unfit}
use Rattle.document_lines.specs.Documents.{documents_within}
use Rattle.document_lines.specs.Input.{lines_of_documents, Settings as LineSettings}
use Rattle.document_lines.specs.Laws.{Explains, FittingIsAccepted, IsWritten, MayBeBuilt}
use Rattle.command_words.specs.declared.task.Detail.{Detail, TheVariants.Whole}
use Rattle.command_words.specs.Tasks.{build, call, generate, Opening, pool, relay, replay, report}
use Rattle.command_words.specs.Tasks.{serve, Task}
use Rattle.session_generator.specs.{Documents.documents, Generated.session_of}
use Rattle.session_generator.specs.Summary.{IsWithinQuota}
use Rattle.duplex_server.specs.Responding.{reading_actions}
use Rattle.two_lanes.specs.declared.jobs.Lane.{Lane}
use Rattle.client.specs.Called.{Ack, Awaited, Read}
use Rattle.client.specs.Called.{ack_after, ack_along, answers_to, handled_of}
use Rattle.client.specs.Sent.{envelopes, Sending}
use Rattle.dump_replay.specs.{Building.settings_for_building, Calling.IsSecond, Running.status_of}
use Rattle.dump_replay.specs.Complete.{in_order, sending_with, settings_to_answer, status_of_call}
use Rattle.dump_replay.specs.Complete.{status_of_made, status_of_report, status_of_stream}
use Rattle.dump_replay.specs.Complete.{status_of_task, unless_unfit, with_count, with_named}
use Rattle.dump_replay.specs.Complete.{with_documents, with_file, with_lines, with_second}
use Rattle.dump_replay.specs.Laws.{input_offence, status_of_input}
use Rattle.dump_replay.specs.Order.{HasNamed, IsCallInOrder, IsTaskInOrder, ZeroInOrder}
use Rattle.dump_replay.specs.Reporting.{ends_by_fault, IsEnded}
use Rattle.dump_replay.specs.Statics.{limits_for, reading_statics, settings_for}
use Rattle.command_words.specs.declared.task.Origin.{Origin, TheVariants.Initiator, TheVariants.Receiver}
use Rattle.dump_replay.proofs.Statuses.{no_offence, status_closing, zero_parts}
use Rattle.std.specs.FinMap as finite
use Rattle.session_report.specs.declared.reading.Event.TheVariants as said

-- ---- files and lists

module _ {X K : Type 0} (next : X → ℕ) where
  zero_file : (file : ShelfFile X K) → with_file file next ≡ 0
      → (says : X) × (file ≡ whole says) × (next says ≡ 0)
  zero_file (whole says) is = (says, refl, is)
  zero_file (bad row kind) is = cc
  zero_file missing is = cc

  file_zero : (file : ShelfFile X K) (says : X) → file ≡ whole says → next says ≡ 0
      → with_file file next ≡ 0
  file_zero file says is zero_next = ap (λ f. with_file f next) is ∙ zero_next

module _ {X K : Type 0} (reading : Reading X K) (store : Store) (next : ℕ) where
  zero_named : (named : Option (List ℕ)) → with_named reading store named next ≡ 0
      → HasNamed store reading named × (next ≡ 0)
  zero_named None is = (tt, is)
  zero_named (Some name) is =
      let h = zero_file (λ (says : X). next) (file_in reading store name) is in
      ((h.0, h.1), h.2)

  named_zero : (named : Option (List ℕ)) → HasNamed store reading named → next ≡ 0
      → with_named reading store named next ≡ 0
  named_zero None has is = is
  named_zero (Some name) has is =
      file_zero (λ (says : X). next) (file_in reading store name) has.0 has.1 is

module _ (next : List (List Item) → ℕ) where
  zero_documents : (read : Option (Result (List (List Item)) InputFault))
      → with_documents read next ≡ 0
      → (docs : List (List Item)) × (read ≡ Some (Ok docs)) × (next docs ≡ 0)
  zero_documents (Some (Ok docs)) is = (docs, refl, is)
  zero_documents (Some (Err fault)) is = cc
  zero_documents None is = cc

  zero_lines : (read : Result (List (List Item)) InputFault) → with_lines read next ≡ 0
      → (docs : List (List Item)) × (read ≡ Ok docs) × (next docs ≡ 0)
  zero_lines (Ok docs) is = (docs, refl, is)
  zero_lines (Err (Line n kind)) is = cc
  zero_lines (Err (Unfit number why)) is = cc
  zero_lines (Err TooLong) is = cc

  module _ (store : Store) where
    zero_second : (named : Option (List ℕ)) → with_second store named next ≡ 0
        → (docs : List (List Item)) × IsSecond (Some store) named docs × (next docs ≡ 0)
    zero_second None is = ([], refl, is)
    zero_second (Some name) is = zero_documents (read_of (finite.get store name)) is

    second_zero : (named : Option (List ℕ)) (docs : List (List Item))
        → IsSecond (Some store) named docs → next docs ≡ 0 → with_second store named next ≡ 0
    second_zero None docs are is = sym (ap next are) ∙ is
    second_zero (Some name) docs are is = ap (λ read. with_documents read next) are ∙ is

-- ---- streams

module _ (d : Detail) (x : Settings) (good : IsGood x.limits) (bytes : List ℕ) where
  zero_report : status_of_report d x bytes ≡ 0 → IsEnded x bytes
  zero_report is = by (offence x bytes) refl is where
    by : (judged : Option Offence) → offence x bytes ≡ judged
        → status_of judged (outcome d x bytes) ≡ 0 → IsEnded x bytes
    by None none is =
        let c = unoffended d x good bytes (outcome d x bytes) (none, refl) in
        (c.0, zero_parts c.0.parts (subst (λ v. status_of None v ≡ 0) c.1 is))
    by (Some o) some is = absurd (no_offence o (outcome d x bytes) 0 is (λ e. cc) (λ e. cc))

  report_zero : IsEnded x bytes → status_of_report d x bytes ≡ 0
  report_zero h =
      ap (λ v. status_of v (outcome d x bytes)) ((closed_or_refused x good bytes).1 h.0)
      ∙ ap (status_of None) (closed_outcome d x good bytes h.0)
      ∙ status_closing h.0.parts
      ∙ ap (λ b. if b then 9 else 0) h.1

module _ (x : Settings) (good : IsGood x.limits) (bytes : List ℕ) where
  unrefused : status_of_stream x bytes ≡ 0 → offence x bytes ≡ None
  unrefused is = by (offence x bytes) refl is where
    by : (judged : Option Offence) → offence x bytes ≡ judged → status_of judged Ended ≡ 0
        → offence x bytes ≡ None
    by None none is = none
    by (Some o) some is = absurd (no_offence o Ended 0 is (λ e. cc) (λ e. cc))

  zero_stream : status_of_stream x bytes ≡ 0 → IsClosed x bytes
  zero_stream is = (closed_or_refused x good bytes).0 (unrefused is)

  stream_zero : IsClosed x bytes → status_of_stream x bytes ≡ 0
  stream_zero closed = ap (λ v. status_of v Ended) ((closed_or_refused x good bytes).1 closed)

-- ---- lines that are written

module _ (x : LineSettings) (bytes : List ℕ) (none : offence_by (lines_of_documents x) bytes ≡ None)
  where
    accepted_so : IsAccepted (lines_of_documents x) bytes
    accepted_so = (accepted_or_offended (lines_of_documents x) (readable x) bytes).0 none

    shorter : (most n : ℕ)
        → ◌≡◌ {A = Option InputFault} (if nat_le most n then Some TooLong else None) None → n < most
    shorter most n none = by (nat_le most n) refl none where
      by : (b : Bool) → nat_le most n ≡ b
          → ◌≡◌ {A = Option InputFault} (if b then Some TooLong else None) None → n < most
      by true is e = cc
      by false is e = leb-false most n is

    short : length bytes < x.limits.session
    short =
        let h = accepted_so in
        let all = leads_length (lines_of_documents x) (readable x) h.units
        (lines_of_documents x).start 0 bytes h.situation h.rest h.lead in
        shorter x.limits.session (length bytes)
        (h.rest_short (length bytes) (omega (arith, all)) (omega arith))

    w : IsWritten x bytes
    w = written x bytes

    why : Explains x bytes w.lines w.more w.envelopes.1 None
    why = subst (Explains x bytes w.lines w.more w.envelopes.1) none w.why

    may_be_built : MayBeBuilt x bytes
    may_be_built = record {
      lines = w.lines;
      documents = documents_of w.lines;
      sent = w.envelopes;
      lines_are = ap (λ (l : List (List ℕ)). (l, (cut bytes).1)) all_lines
          ∙ ap (λ (l : List ℕ). (w.lines, l)) why.1;
      documents_are = why.2;
      all_fit = w.all_fit;
      count = why.3;
      short = short;
    } where
      all_lines : (cut bytes).0 ≡ w.lines
      all_lines = w.lines_are ∙ ap (λ (l : List (List ℕ)). w.lines ++ l) why.0
          ∙ append-nil w.lines

zero_input : (refusal : Option InputFault) → status_of_input refusal ≡ 0 → refusal ≡ None
zero_input None is = refl
zero_input (Some (Line n kind)) is = cc
zero_input (Some (Unfit number why)) is = cc
zero_input (Some TooLong) is = cc

-- ---- a session that is made

module _ (limits : Limits) (statics : List Entry) (good : IsGood limits)
    (made : List (List Item)) where
  zero_made : status_of_made (any_initiators statics limits) (session_of limits statics made) ≡ 0
      → IsWithinQuota limits statics made
  zero_made is = by (session_of limits statics made) refl is where
    by : (session : Result (Placed (List ℕ)) UnfitAt) → session_of limits statics made ≡ session
        → status_of_made (any_initiators statics limits) session ≡ 0
        → IsWithinQuota limits statics made
    by (Ok session) made_so is = record {
      session = session;
      session_is = made_so;
      unrefused = unrefused (any_initiators statics limits) good session.0 is;
    }
    by (Err unfit) made_so is = cc

  made_zero : IsWithinQuota limits statics made
      → status_of_made (any_initiators statics limits) (session_of limits statics made) ≡ 0
  made_zero h = ap (status_of_made (any_initiators statics limits)) h.session_is
      ∙ ap (λ v. status_of v Ended) h.unrefused

-- ---- a call

-- an Ack that was read stays so
read_after : (event : Event) → ack_after Read event ≡ Read
read_after said.Accepted = refl
read_after _ = refl

stays_read : (heard : List Event) → ack_along Read heard ≡ Read
unfolding ack_along
stays_read [] = refl
stays_read (event ∷ heard) = ap (λ ack. ack_along ack heard) (read_after event)
    ∙ stays_read heard

module _ (x : Settings) (mode : Mode) (kind : Kind) where
  -- a receiver's session that ends without a Fault begins with its Ack
  begins_by_ack : (parts : Parts) (bytes : List ℕ) → HasParts x (receivers mode kind) parts bytes
      → ends_by_fault parts ≡ false
      → ack_along Awaited (map event_for (session_events parts (length bytes))) ≡ Read
  unfolding ack_along
  begins_by_ack (conversation mode kind via carried) bytes has well = absurd has
  begins_by_ack (answer carried) bytes has well =
      stays_read (map event_for (message_events 0 [] carried ++ ended (length bytes) ∷ []))
  begins_by_ack lone_ack bytes has well = refl
  begins_by_ack (broken_off carried text) bytes has well = cc
  begins_by_ack (turned_down text) bytes has well = cc

module _ (x : Sending) (good : IsGood x.back) (peer : List ℕ) where
  abbrev g : Settings
  g = answers_to x

  ended_is_heard : IsEnded g peer → ack_along Awaited (handled_of x peer) ≡ Read
  unfolding events
  ended_is_heard h =
      let c = h.0 in
      ap (λ (all : List ℕ). ack_along Awaited (handled_of x all)) c.joined
      ∙ ap (λ (v : History StreamEvent Offence). ack_along Awaited (map event_for v.events))
      (sessions_are_told g good c.parts c.session c.rest c.is_session c.may_follow)
      ∙ begins_by_ack g x.mode (encoding_kind x.encoding) c.parts c.session c.is_session.0 h.1

  abbrev judged : ℕ
  judged = status_of_report Whole g peer

  zero_sent : (ack : Ack) → ack_along Awaited (handled_of x peer) ≡ ack
      → (sent : Result (Placed (List ℕ)) UnfitAt) → unless_unfit ack sent judged ≡ 0
      → ((all : Placed (List ℕ)) × (sent ≡ Ok all)) × IsEnded g peer
  zero_sent Awaited ack_is sent is =
      let read = ended_is_heard (zero_report Whole g good peer is) in cc
  zero_sent Read ack_is (Ok all) is = ((all, refl), zero_report Whole g good peer is)
  zero_sent Read ack_is (Err unfit) is = cc

  sent_zero : (ack : Ack) (sent : Result (Placed (List ℕ)) UnfitAt) (all : Placed (List ℕ))
      → sent ≡ Ok all → judged ≡ 0 → unless_unfit ack sent judged ≡ 0
  sent_zero Awaited sent all fit is = is
  sent_zero Read sent all fit is = ap (λ v. unless_unfit Read v judged) fit ∙ is

zero_count : (mode : Mode) (sent : List (List Item)) (next : ℕ) → with_count mode sent next ≡ 0
    → MayBeSent mode sent × (next ≡ 0)
zero_count Duplex sent next is = (tt, is)
zero_count Simplex sent next is = (tt, is)
zero_count Singleton sent next is = by (length sent == 1) refl is where
  by : (one : Bool) → (length sent == 1) ≡ one → (if one then next else 6) ≡ 0
      → (length sent ≡ 1) × (next ≡ 0)
  by true one is = (eqb-true (length sent) 1 one, is)
  by false one is = cc

count_zero : (mode : Mode) (sent : List (List Item)) (next : ℕ) → MayBeSent mode sent
    → next ≡ 0 → with_count mode sent next ≡ 0
count_zero Duplex sent next may is = is
count_zero Simplex sent next may is = is
count_zero Singleton sent next may is = ap (λ (n : ℕ). if n == 1 then next else 6) may ∙ is

good_of : (origin : Origin) (limits : TwoLimits) → AreGood limits
    → IsGood (limits_for origin limits)
good_of Initiator limits good = good.forward
good_of (Receiver mode kind) limits good = good.back

module _ (store : Store) (input peer : List ℕ) (order : List Lane) (statics : List Entry)
    (limits : TwoLimits)
    (good : AreGood limits) where
  module _ (opening : Opening) (named : Option (List ℕ)) where
    abbrev sends : (first second : List (List Item)) → Sending
    sends first second = sending_with opening statics limits first second order

    abbrev after : (second first : List (List Item)) → ℕ
    after second first = status_of_call (sends first second) peer

    abbrev lines : List (List Item) → ℕ
    lines second = with_lines (documents_within limits.forward.session input) (after second)

    zero_call : with_second store named lines ≡ 0
        → IsCallInOrder store input peer order opening named statics limits
    zero_call is =
        let two = zero_second lines store named is in
        let one = zero_lines (after two.0) (documents_within limits.forward.session input) two.2 in
        let x = sends one.0 two.0 in
        let count = zero_count opening.mode (in_order one.0 two.0 order) _ one.2 in
        let fits = zero_sent x good.back peer (ack_along Awaited (handled_of x peer)) refl
        (envelopes x (in_order one.0 two.0 order)) count.1 in record {
          first = one.0;
          second = two.0;
          first_is = one.1;
          second_is = two.1;
          admitted = count.0;
          sent = fits.0.0;
          all_fit = fits.0.1;
          ended = fits.1;
        }

    call_zero : IsCallInOrder store input peer order opening named statics limits
        → with_second store named lines ≡ 0
    call_zero h =
        let x = sends h.first h.second in
        second_zero lines store named h.second h.second_is
        (ap (λ read. with_lines read (after h.second)) h.first_is
        ∙ count_zero opening.mode (in_order h.first h.second order) _ h.admitted
        (sent_zero x good.back peer (ack_along Awaited (handled_of x peer))
        (envelopes x (in_order h.first h.second order)) h.sent h.all_fit
        (report_zero Whole (answers_to x) good.back peer h.ended)))

  zero_task : (task : Task) → status_of_task store input peer order task statics limits ≡ 0
      → IsTaskInOrder store input peer order task statics limits
  zero_task (report detail origin) is =
      zero_report detail (settings_for origin statics limits) (good_of origin limits good) input is
  zero_task (build opening) is =
      may_be_built (settings_for_building opening statics limits.forward) input
      (zero_input (input_offence opening statics limits.forward input) is)
  zero_task (replay serving) is =
      let h = zero_named reading_actions store _ serving.actions is in
      (h.0, zero_stream (settings_to_answer serving statics limits.forward) good.forward input h.1)
  zero_task (serve listen connections serving) is =
      let h = zero_named reading_actions store 0 serving.actions is in h.0
  zero_task (relay relaying) is =
      let h = zero_named reading_statics store 0 relaying.back_statics is in h.0
  zero_task (pool listen connections sessions serving) is =
      let h = zero_named reading_actions store 0 serving.actions is in h.0
  zero_task (call connect opening second) is = zero_call opening second is
  zero_task (generate seed count) is =
      zero_made limits.forward statics good.forward (documents seed count) is

  task_zero : FittingIsAccepted → (task : Task)
      → IsTaskInOrder store input peer order task statics limits
      → status_of_task store input peer order task statics limits ≡ 0
  task_zero fitting (report detail origin) h =
      report_zero detail (settings_for origin statics limits) (good_of origin limits good) input h
  task_zero fitting (build opening) h =
      ap status_of_input (fitting (settings_for_building opening statics limits.forward) input h)
  task_zero fitting (replay serving) h = named_zero reading_actions store _ serving.actions h.0
      (stream_zero (settings_to_answer serving statics limits.forward) good.forward input h.1)
  task_zero fitting (serve listen connections serving) h =
      named_zero reading_actions store 0 serving.actions h refl
  task_zero fitting (relay relaying) h =
      named_zero reading_statics store 0 relaying.back_statics h refl
  task_zero fitting (pool listen connections sessions serving) h =
      named_zero reading_actions store 0 serving.actions h refl
  task_zero fitting (call connect opening second) h = call_zero opening second h
  task_zero fitting (generate seed count) h =
      made_zero limits.forward statics good.forward (documents seed count) h

pub zero_in_order : FittingIsAccepted → ZeroInOrder
zero_in_order fitting store input peer order asked good = (
  (λ is.
      let h = zero_file
      (λ statics. status_of_task store input peer order asked.task statics asked.limits)
      (file_in reading_statics store asked.statics) is in
      (h.0, h.1, zero_task store input peer order h.0 asked.limits good asked.task h.2)),
  (λ h. file_zero (λ statics. status_of_task store input peer order asked.task statics asked.limits)
      (file_in reading_statics store asked.statics) h.0 h.1
      (task_zero store input peer order h.0 asked.limits good fitting asked.task h.2)),
)
