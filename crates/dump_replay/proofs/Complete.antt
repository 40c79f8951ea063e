-- The status of a run in which nothing of the outside fails (specs/Complete).
use Rattle.std.proofs.Common.{◌≡◌, ℕ, ◌⊎◌, List, [], take, if◌then◌else◌, Some, None, Ok, Err, Option}
use Rattle.std.proofs.Common.{Result, sym, refl, ap, ◌∙◌, subst, inl, inr}
use Rattle.io_edges.specs.{Faults.Rose, Files.Has, Files.whole, Store.Store}
use Rattle.{string_tables.specs.StaticStrings.Entry, nbfx_values.specs.Limits.Limits}
use Rattle.command_words.specs.Requests.{TwoLimits}
use Rattle.nbfx_values.specs.declared.{content.Item.Item, refusals.Offence.Offence}
use Rattle.nbfx_values.specs.declared.refusals.Reason.{Reason, TheVariants.SessionTooLong}
use Rattle.stream_reader.specs.{Judging.offence, Stream.any_initiators, Stream.Settings}
use Rattle.stream_loop.specs.{declared.outbound.Outbound.Outbound, Edges.Input}
use Rattle.session_report.specs.declared.reporter.Outcome.TheVariants.{Ended}
use Rattle.document_lines.specs.{Documents.documents_within, Files.Answers}
use Rattle.command_words.proofs.RequestFacts.{request-one}
use Rattle.command_words.specs.Requests.{AskedOfSessions, IsRequest, of_sessions, rehearsal}
use Rattle.command_words.specs.Tasks.{Relaying, Serving, Task}
use Rattle.command_words.specs.Tasks.{build, call, generate, Opening, pool, relay, replay, report}
use Rattle.command_words.specs.Tasks.{serve}
use Rattle.session_generator.specs.{declared.summary.Summary.Summary, Documents.documents}
use Rattle.session_generator.specs.Generated.{session_of}
use Rattle.session_generator.specs.Summary.{status_of as status_of_summary, Writes}
use Rattle.duplex_server.specs.declared.{outcome.Inbound.Inbound, stopping.ServeFault.ServeFault}
use Rattle.duplex_server.specs.{declared.responding.Responder.Responder, Serving.Judges}
use Rattle.duplex_server.specs.Responding.{reading_actions}
use Rattle.two_lanes.specs.{declared.jobs.Lane.Lane, Merges.merge}
use Rattle.client.specs.{declared.called.Called.Called, Places.CallsPlace, Sent.Sending}
use Rattle.client.specs.{Statuses.status_of as status_of_called, Tags.sent_line}
use Rattle.dump_replay.specs.Answering.{action_kind_name, answering_by, IsAskedFor, status_of_replay}
use Rattle.dump_replay.specs.{Building.status_of_building, Outside.Outside}
use Rattle.dump_replay.specs.Calling.{CalledPlace, ending_of_list, IsSecond, status_of_documents}
use Rattle.dump_replay.specs.{Calling.sending_on, Calling.TookNone, Serving.status_of_stop}
use Rattle.dump_replay.specs.Complete.{GoesWell, HasOneOrder, in_order, IsComplete, IsDetermined}
use Rattle.dump_replay.specs.Complete.{sending_with, settings_to_answer}
use Rattle.dump_replay.specs.Complete.{status_of_call, status_of_made, status_of_stream}
use Rattle.dump_replay.specs.Complete.{status_of_task, with_actions, with_back, with_lines}
use Rattle.dump_replay.specs.{Complete.with_second, Relaying.IsBack}
use Rattle.dump_replay.specs.Laws.{input_offence, status_of_input}
use Rattle.dump_replay.specs.Running.{is_session_too_long, offence_status, status_of, WhereAsked}
use Rattle.dump_replay.specs.Statics.{reading_statics, table_kind_name}
use Rattle.dump_replay.specs.Working.{Does, HasNoActions, Runs, Works}
use Rattle.dump_replay.proofs.{BuildLaws.builds_are_complete, CompleteCalls.call_placed}
use Rattle.dump_replay.proofs.CompleteFiles.{actions_read, as_other, back_read, by_status}
use Rattle.dump_replay.proofs.CompleteFiles.{file_read, IsOr}
use Rattle.dump_replay.proofs.CompleteFiles.{lines_unread, second_read, second_unread, unread}
use Rattle.relay.specs.declared.stopping.RelayFault.{RelayFault}
use Rattle.dump_replay.specs.Relaying.{joining_by, sides_seen, status_of_relay}
use Rattle.dump_replay.specs.Outside.{ends_seen}
use Rattle.dump_replay.proofs.{PoolEnds.pool_rose, PoolEnds.pool_wire_counted}
use Rattle.dump_replay.proofs.RelayEnds.{lines_counted, wire_counted}
use Rattle.dump_replay.proofs.Orders.{all_in_order, alone}
use Rattle.io_edges.specs.Views.{SinkView}
use Rattle.dump_replay.proofs.Played.{played_ends}
use Rattle.stream_loop.specs.declared.outbound.Outbound.TheVariants as outbounds
use Rattle.duplex_server.specs.declared.outcome.Inbound.TheVariants as inbounds
use Rattle.session_generator.specs.declared.summary.Summary.TheVariants as summaries
use Rattle.duplex_server.specs.declared.stopping.ServeFault.TheVariants as stops
use Rattle.relay.specs.declared.stopping.RelayFault.TheVariants as relays

-- ---- streams

module _ (responder : Responder) (serving : Serving) (statics : List Entry) (limits : TwoLimits)
    (bytes : List ℕ) where
  abbrev answered : Settings
  answered = settings_to_answer serving statics limits.forward

  replayed : (inbound : Inbound) (outbound : Outbound)
      → Judges (answering_by responder statics limits) serving.endpoint bytes inbound
      → (inbound ≡ inbounds.ReadFault → ⊥) → (outbound ≡ outbounds.WriteFault → ⊥)
      → IsOr (status_of_stream answered bytes) (status_of_replay inbound outbound)
  replayed inbounds.Ended outbounds.Done judges read written =
      inl (sym (ap (λ v. status_of v Ended) judges))
  replayed (inbounds.Offended o) outbounds.Done judges read written =
      inl (sym (ap (λ v. status_of v Ended) judges))
  replayed inbounds.ReadFault outbounds.Done judges read written = absurd (read refl)
  replayed inbounds.Memory outbounds.Done judges read written = inr refl
  replayed inbound outbounds.WriteFault judges read written = absurd (written refl)
  replayed inbound outbounds.Memory judges read written = inr refl

stopped : (stop : Result (Unit {0}) ServeFault) → (stop ≡ Err stops.Wire → ⊥)
    → (stop ≡ Err stops.Output → ⊥) → IsOr 0 (status_of_stop stop)
stopped (Ok _) wire output = inl refl
stopped (Err stops.Wire) wire output = absurd (wire refl)
stopped (Err stops.Output) wire output = absurd (output refl)
stopped (Err stops.Memory) wire output = inr refl

relay_stopped : (stop : Result (Unit {0}) RelayFault) → (stop ≡ Err relays.Wire → ⊥)
    → (stop ≡ Err relays.Output → ⊥) → IsOr 0 (status_of_relay stop)
relay_stopped (Ok _) wire output = inl refl
relay_stopped (Err relays.Wire) wire output = absurd (wire refl)
relay_stopped (Err relays.Output) wire output = absurd (output refl)
relay_stopped (Err relays.Memory) wire output = inr refl

-- a session that is made is too long by its last reason alone
long_status : (o : Offence) → o.reason ≡ SessionTooLong → 10 ≡ offence_status o
long_status o is = sym (ap (λ (r : Reason). if is_session_too_long r then 10 else 1) is)

summed_up : (limits : Limits) (statics : List Entry) (made : List (List Item)) (o o' : SinkView)
    (summary : Summary) → Writes limits statics made o o' summary
    → (summary ≡ summaries.WriteFault → ⊥)
    → IsOr (status_of_made (any_initiators statics limits) (session_of limits statics made))
    (status_of_summary summary)
summed_up limits statics made o o' summaries.Written w written =
    let x = any_initiators statics limits in
    inl (sym (ap (status_of_made x) w.0.session_is ∙ ap (λ v. status_of v Ended) w.0.unrefused))
summed_up limits statics made o o' (summaries.TooLong offence) w written =
    let x = any_initiators statics limits in
    inl (long_status offence w.0.reason_is ∙ sym (ap (status_of_made x) w.0.session_is
    ∙ ap (λ v. status_of v Ended) w.0.offence_is))
summed_up limits statics made o o' summaries.WriteFault w written = absurd (written refl)
summed_up limits statics made o o' summaries.Memory w written = inr refl

-- ---- all tasks

module _ (Says : List ℕ → Type 0) (Untouched : Type 0) {R K : Type 0} (reader : R → Input)
    (writer : K → SinkView) (old new : Outside R K) (status : ℕ) (store : Store)
    (input peer : List ℕ) where
  -- a file of actions isn't read
  no_actions : (serving : Serving) (next : ℕ) → old.shelf.files ≡ Some store
      → (Rose old.shelf.faults new.shelf.faults → ⊥)
      → HasNoActions Says Untouched serving old.shelf new.shelf status
      → IsOr (with_actions store serving.actions next) status
  no_actions serving next files fetched h =
      as_other (with_actions store (Some h.0) next) (with_actions store serving.actions next) status
      (ap (λ named. with_actions store named next) (sym h.1))
      (unread reading_actions store h.0 (λ texts. next) Says Untouched action_kind_name old.shelf
      new.shelf status files fetched h.2)

  module _ (statics : List Entry) (limits : TwoLimits) where
    abbrev Left : Task → Type 0
    Left task = Works Says Untouched reader writer task statics limits old new status

    abbrev Well : Task → Type 0
    Well task = GoesWell reader old new task store input peer

    abbrev EndsBy : List Lane → Task → Type 0
    EndsBy order task = IsOr (status_of_task store input peer order task statics limits) status

    abbrev Ends : Task → Type 0
    Ends task = (order : List Lane) × (HasOneOrder task → order ≡ []) × EndsBy order task

    replay_ends : (serving : Serving) → Well (replay serving) → Left (replay serving)
        → EndsBy [] (replay serving)
    replay_ends serving well (inl h) =
        let next = status_of_stream (settings_to_answer serving statics limits.forward) input in
        actions_read store next serving.actions h.responder status
        (subst (λ (f : Option Store). IsAskedFor f serving.actions h.responder) well.files
        h.asked_for)
        (by_status next status (status_of_replay h.inbound h.outbound) h.status_is
        (replayed h.responder serving statics limits input h.inbound h.outbound
        (h.replays.judged input well.given)
        (λ fault. well.read (h.replays.reads_counted.rose fault))
        (λ fault. well.written (h.replays.writes_counted.rose fault))))
    replay_ends serving well (inr h) = no_actions serving
        (status_of_stream (settings_to_answer serving statics limits.forward) input) well.files
        well.fetched h

    serve_ends : (listen : List ℕ) (connections : ℕ) (serving : Serving)
        → Well (serve listen connections serving) → Left (serve listen connections serving)
        → EndsBy [] (serve listen connections serving)
    serve_ends listen connections serving well (inl h) =
        actions_read store 0 serving.actions h.responder status
        (subst (λ (f : Option Store). IsAskedFor f serving.actions h.responder) well.files
        h.asked_for)
        (by_status 0 status (status_of_stop h.stop) h.status_is
        (stopped h.stop (λ fault. well.connected (h.serves.wire_counted.rose fault))
        (λ fault. well.written (h.serves.output_counted.rose fault))))
    serve_ends listen connections serving well (inr h) =
        no_actions serving 0 well.files well.fetched h

    relay_ends : (relaying : Relaying) → Well (relay relaying) → Left (relay relaying)
        → EndsBy [] (relay relaying)
    relay_ends relaying well (inl h) =
        let x = joining_by relaying statics h.back limits in
        let seen = sides_seen reader writer in
        let wired = wire_counted x seen relaying.connections old.wire new.wire old.output new.output
        (new.output ≡ old.output) h.joined.stop h.joined.relays in
        let lined = lines_counted x seen relaying.connections old.wire new.wire old.output
        new.output h.joined.stop h.joined.relays in
        back_read store 0 relaying.back_statics statics h.back status
        (subst (λ (f : Option Store). IsBack f relaying.back_statics statics h.back) well.files
        h.back_is)
        (by_status 0 status (status_of_relay h.joined.stop) h.joined.status_is
        (relay_stopped h.joined.stop (λ fault. well.connected (wired.rose fault))
        (λ fault. well.written (lined.rose fault))))
    relay_ends relaying well (inr h) =
        as_other (with_back store (Some h.0) 0) (with_back store relaying.back_statics 0) status
        (sym (ap (λ named. with_back store named 0) h.1))
        (unread reading_statics store h.0 (λ says. 0) Says Untouched table_kind_name old.shelf
        new.shelf status well.files well.fetched h.2)

    pool_ends : (listen : List ℕ) (connections sessions : ℕ) (serving : Serving)
        → Well (pool listen connections sessions serving)
        → Left (pool listen connections sessions serving)
        → EndsBy [] (pool listen connections sessions serving)
    pool_ends listen connections sessions serving well (inl h) =
        let x = answering_by h.responder statics limits in
        let wired = pool_wire_counted x serving.endpoint sessions (ends_seen reader writer)
        connections old.wire new.wire old.output new.output h.stop h.pools in
        let rose = pool_rose x serving.endpoint sessions (ends_seen reader writer)
        connections old.wire new.wire old.output new.output h.stop h.pools in
        actions_read store 0 serving.actions h.responder status
        (subst (λ (f : Option Store). IsAskedFor f serving.actions h.responder) well.files
        h.asked_for)
        (by_status 0 status (status_of_stop h.stop) h.status_is
        (stopped h.stop (λ fault. well.connected (wired.rose fault))
        (λ fault. well.written (rose fault))))
    pool_ends listen connections sessions serving well (inr h) =
        no_actions serving 0 well.files well.fetched h

    module _ (connect : List ℕ) (opening : Opening) (named : Option (List ℕ))
        (well : Well (call connect opening named)) (second : List (List Item)) where
      abbrev sends : List Lane → List (List Item) → Sending
      sends order first = sending_with opening statics limits first second order

      abbrev after : List Lane → List (List Item) → ℕ
      after order first = status_of_call (sends order first) peer

      abbrev lines : List Lane → ℕ
      lines order = with_lines (documents_within limits.forward.session input) (after order)

      abbrev CallsWith : Called → List Lane → List (List Item) → Type 0
      CallsWith called order documents = CallsPlace reader writer
          (sending_on opening statics limits documents) opening.via
          (λ sent. sent_line (take sent order)) old.wire new.wire old.output new.output called

      abbrev Placed' : Type 0
      Placed' = CalledPlace Says limits old.input new.input old.output new.output status reader
          writer opening statics second old.wire new.wire

      placed_ends : (h : Placed') (order : List Lane)
          → merge h.first second h.order ≡ in_order h.first second order → IsOr (lines order) status
      placed_ends h order same =
          as_other (after order h.first) (lines order) status
          (sym (ap (λ r. with_lines r (after order)) (h.taken.says input well.given)))
          (by_status (after order h.first) status (status_of_called h.called) h.status_is
          (call_placed reader writer (sends order h.first) opening.via
          (λ sent. sent_line (take sent h.order)) old.wire new.wire old.output new.output peer
          well.written well.connected well.called h.called
          (subst (CallsWith h.called h.order) same h.calls)))

      none_ends : {Same : Type 0} → TookNone Says limits old.input new.input old.output new.output
          status Same → IsOr (lines []) status
      none_ends h = by_status (lines []) status (status_of_building (ending_of_list h.fault))
          h.status_is (lines_unread (documents_within limits.forward.session input) (after [])
          h.fault (h.taken.says input well.given)
          (λ fault. well.read (h.taken.counted.rose (ap Err fault))))

    -- a second list was read, or none
    module _ (connect : List ℕ) (opening : Opening) where
      abbrev Call : Option (List ℕ) → Task
      Call named = call connect opening named

      read_ends : (named : Option (List ℕ)) (well : Well (Call named)) (second : List (List Item))
          (order : List Lane) → IsSecond (Some store) named second
          → IsOr (lines connect opening named well second order) status
          → EndsBy order (Call named)
      read_ends named well second order is ends = second_read store
          (λ second. lines connect opening named well second order) named second status is ends

      place_ends : (named : Option (List ℕ)) (well : Well (Call named)) (second : List (List Item))
          → IsSecond (Some store) named second → Placed' connect opening named well second
          → Ends (Call named)
      place_ends None well second is h = (
        [],
        λ one. refl,
        read_ends None well second [] is (placed_ends connect opening None well second h []
            (alone h.first second h.order is h.all)),
      )
      place_ends (Some name) well second is h = (
        h.order,
        λ one. absurd one,
        read_ends (Some name) well second h.order is (placed_ends connect opening (Some name) well
            second h h.order (all_in_order h.first second h.order h.all)),
      )

      call_ends : (named : Option (List ℕ)) → Well (Call named) → Left (Call named)
          → Ends (Call named)
      call_ends named well (inl h) =
          let is = subst (λ (f : Option Store). IsSecond f named h.second) well.files h.read in
          elim h.does [
            | inl placed ↦ place_ends named well h.second is placed
            | inr none ↦ (
              [],
              (λ one. refl),
              read_ends named well h.second [] is
                  (none_ends connect opening named well h.second none),
            )
          ]
      call_ends named well (inr h) =
          let next : List (List Item) → ℕ =
          λ second. lines connect opening named well second [] in (
            [],
            λ one. refl,
            as_other (with_second store (Some h.0) next) (with_second store named next) status
                (ap (λ v. with_second store v next) (sym h.1))
                (by_status (with_second store (Some h.0) next) status
                (status_of_documents h.2.fault) h.2.status_is
                (second_unread store next h.0 h.2.fault
                (subst (λ (f : Option Store). Answers f h.0 (Err h.2.fault)) well.files
                h.2.answers) (λ failed. well.fetched (h.2.rose failed)))),
          )

    other_ends : (task : Task) → EndsBy [] task → Ends task
    other_ends task ends = ([], λ one. refl, ends)

    task_ends : (task : Task) → Well task → Left task → Ends task
    task_ends (report detail origin) well h = other_ends (report detail origin)
        (elim (h.0.complete input well.given) [
          | inl is ↦ inl is
          | inr (inl three) ↦ absurd (well.read (h.0.reads_counted.rose three))
          | inr (inr (inl four)) ↦ absurd (well.written (h.0.writes_counted.rose four))
          | inr (inr (inr five)) ↦ inr five
        ])
    task_ends (build opening) well h = other_ends (build opening)
        (by_status (status_of_input (input_offence opening statics limits.forward input)) status
        (status_of_building h.ending) h.status_is
        (elim (builds_are_complete opening statics limits.forward old.input new.input old.output
        new.output h.ending h.builds input well.given well.read well.written) [
          | inl built ↦ inl built.status_is
          | inr five ↦ inr five
        ]))
    task_ends (replay serving) well h =
        other_ends (replay serving) (replay_ends serving well h)
    task_ends (serve listen connections serving) well h =
        other_ends (serve listen connections serving) (serve_ends listen connections serving well h)
    task_ends (call connect opening named) well h = call_ends connect opening named well h
    task_ends (relay relaying) well h =
        other_ends (relay relaying) (relay_ends relaying well h)
    task_ends (pool listen connections sessions serving) well h =
        other_ends (pool listen connections sessions serving)
        (pool_ends listen connections sessions serving well h)
    task_ends (generate seed count) well h = other_ends (generate seed count)
        (by_status _ status (status_of_summary h.0.summary) h.0.status_is
        (summed_up limits.forward statics (documents seed count) old.output new.output h.0.summary
        h.0.summarizes.writes (λ fault. well.written (h.0.summarizes.counted.rose fault))))

  -- ---- and of any words

  module _ (Unfetched Offline : Type 0) (words : List (List ℕ)) where
    abbrev After : AskedOfSessions → Type 0
    After asked = Does Says Untouched reader writer Offline asked old new status

    abbrev Determined : AskedOfSessions → Type 0
    Determined asked = IsDetermined store input peer asked status

    does_end : (asked : AskedOfSessions) → GoesWell reader old new asked.task store input peer
        → After asked
        → Determined asked
    does_end asked well (inl h) = record {
      order = [];
      one_order = λ one. refl;
      status_is = unread reading_statics store asked.statics (λ statics. status_of_task store input
          peer [] asked.task statics asked.limits) Says Untouched table_kind_name old.shelf
          new.shelf status well.files well.fetched h;
    }
    does_end asked well (inr h) =
        let ends = task_ends h.entries asked.limits asked.task well h.holds.0 in record {
          order = ends.0;
          one_order = ends.1;
          status_is = file_read reading_statics store asked.statics (λ statics. status_of_task store
              input peer ends.0 asked.task statics asked.limits) h.entries status
              (subst (λ (f : Option Store). Has reading_statics f asked.statics (whole h.entries))
              well.files h.has) ends.2;
        }

    asked_ends : (asked : AskedOfSessions) → IsRequest words (of_sessions asked)
        → GoesWell reader old new asked.task store input peer
        → Runs Says Untouched reader writer Unfetched Offline words old new status
        → Determined asked
    asked_ends asked is well (inl (inl two, says, same, no_empty_take)) =
        absurd (two.1 (of_sessions asked) is)
    asked_ends asked is well (inl (inr five, says, same, no_empty_take)) =
        record { order = []; one_order = λ one. refl; status_is = inr five }
    asked_ends asked is well (inr (inl (other, is_other, does))) =
        let one = request-one words (of_sessions other) (of_sessions asked) is_other is in
        let same : other ≡ asked = cc in
        does_end asked well (subst After same does)
    asked_ends asked is well (inr (inr (other, is_other, does, no_empty_take, offline))) =
        let one = request-one words (rehearsal other) (of_sessions asked) is_other is in cc

-- a run that leaves this is complete
module _ (Says : List ℕ → Type 0) (Untouched : Type 0) {R K : Type 0} (reader : R → Input)
    (writer : K → SinkView) (Unfetched Offline : Type 0) (words : List (List ℕ))
    (old new : Outside R K) (status : ℕ) where
  unasked_ends : WhereAsked words (λ asked. ⊥)
      → Runs Says Untouched reader writer Unfetched Offline words old new status
      → (status ≡ 2) ⊎ (status ≡ 5)
  unasked_ends none (inl (inl two, says, same, no_empty_take)) = inl two.0
  unasked_ends none (inl (inr five, says, same, no_empty_take)) = inr five
  unasked_ends none (inr (inl (asked, is, does))) = absurd (none (of_sessions asked) is)
  unasked_ends none (inr (inr (asked, is, does, no_empty_take, offline))) =
      absurd (none (rehearsal asked) is)

  pub completes : Runs Says Untouched reader writer Unfetched Offline words old new status
      → IsComplete reader words old new status
  completes runs = record {
    refused = λ none. unasked_ends none runs;
    determined = λ asked store input peer is well.
        asked_ends Says Untouched reader writer old new status store input peer Unfetched Offline
        words asked is well runs;
    played = λ asked input is well.
        played_ends Says Untouched reader writer old new status Unfetched Offline words asked input
        is well runs;
  }
