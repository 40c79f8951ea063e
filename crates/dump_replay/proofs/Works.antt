-- What any task leaves, by what it does.
use Rattle.std.proofs.Common.{◌≡◌, ℕ, ◌≤◌, ◌⊎◌, List, Some, None, Ok, Err, Option, Result, sym, refl, ap, ◌∙◌}
use Rattle.std.proofs.{Common.subst, Common.inl, Common.inr, Common.arith, lemmas.Bool.cases_Bool}
use Rattle.io_edges.specs.{declared.fault.FileFault.FileFault, Wires.Network}
use Rattle.io_edges.specs.Faults.{CountsFaults, one_more, Rose}
use Rattle.{string_tables.specs.StaticStrings.Entry, nbfx_values.specs.Limits.Limits}
use Rattle.command_words.specs.Requests.{TwoLimits}
use Rattle.nbfx_values.specs.declared.{content.Item.Item, refusals.Offence.Offence}
use Rattle.stream_reader.specs.Stream.{Settings}
use Rattle.stream_loop.specs.declared.{outbound.Outbound.Outbound}
use Rattle.stream_loop.specs.declared.{reporting.ReportEnding.ReportEnding}
use Rattle.stream_loop.specs.Edges.{Input}
use Rattle.document_lines.specs.declared.InputFault.{InputFault}
use Rattle.document_lines.specs.declared.InputFault.TheVariants.{Line, TooLong, Unfit}
use Rattle.command_words.specs.{declared.task.Detail.Detail, Tasks.Opening, Tasks.Relaying}
use Rattle.command_words.specs.Tasks.{Serving}
use Rattle.session_generator.specs.declared.summary.Summary.{Summary}
use Rattle.session_generator.specs.Summary.{status_of, Summarizes}
use Rattle.duplex_server.specs.declared.{outcome.Inbound.Inbound, stopping.ServeFault.ServeFault}
use Rattle.duplex_server.specs.{ServerStream.Answering, Replaying.Replays}
use Rattle.dump_replay.specs.{Answering.status_of_replay, Working.Leaves}
use Rattle.dump_replay.specs.Building.{Builds, status_of_building}
use Rattle.dump_replay.specs.Outside.{Outside, seen, SeenShelf}
use Rattle.dump_replay.specs.Reporting.{IsReportStatus, Reports}
use Rattle.dump_replay.specs.Running.{is_session_too_long, IsJudged, offence_status, status_of_file}
use Rattle.relay.specs.declared.stopping.RelayFault.{RelayFault}
use Rattle.dump_replay.specs.{Answering.answering_by, Outside.ends_seen, Pooling.PooledAll}
use Rattle.dump_replay.specs.Relaying.{joining_by, RelayedAll, sides_seen, status_of_relay}
use Rattle.dump_replay.proofs.{PoolEnds.pool_grows, PoolEnds.pool_rose, RelayEnds.lines_counted}
use Rattle.dump_replay.specs.Serving.{AnsweredAll, status_of_stop}
use Rattle.dump_replay.proofs.Causes.{Cause, judged, leaves_by, refused, starved, unfit, unread}
use Rattle.dump_replay.proofs.Causes.{unwired, unwritten, wires_by}
use Rattle.io_edges.specs.Views.{SinkView}
use Rattle.io_edges.specs.declared.fault.FileFault.TheVariants as faults
use Rattle.stream_loop.specs.declared.reporting.ReportEnding.TheVariants as endings
use Rattle.stream_loop.specs.declared.outbound.Outbound.TheVariants as outbounds
use Rattle.duplex_server.specs.declared.outcome.Inbound.TheVariants as inbounds
use Rattle.session_generator.specs.declared.summary.Summary.TheVariants as summaries
use Rattle.duplex_server.specs.declared.stopping.ServeFault.TheVariants as stops
use Rattle.relay.specs.declared.stopping.RelayFault.TheVariants as relays

-- ---- what causes a status

-- of a stream that is reported
report_cause : (n : ℕ) → IsReportStatus n → Cause (n ≡ 3) (n ≡ 4) ⊥ n
report_cause n (inl h) = judged h
report_cause n (inr (inl three)) = unread three three
report_cause n (inr (inr (inl four))) = unwritten four four
report_cause n (inr (inr (inr five))) = starved five

-- of a file that isn't read
file_cause : {K : Type 0} (fault : FileFault K)
    → Cause (fault ≡ faults.Failed) ⊥ ⊥ (status_of_file fault)
file_cause faults.Missing = refused refl
file_cause (faults.Bad row kind) = refused refl
file_cause faults.Failed = unread refl refl
file_cause faults.Memory = starved refl

-- of a session that is written
build_cause : (e : ReportEnding InputFault)
    → Cause (e ≡ endings.ReadFault) (e ≡ endings.WriteFault) ⊥ (status_of_building e)
build_cause (endings.Judged None) = judged (inl refl)
build_cause (endings.Judged (Some (Line n kind))) = refused refl
build_cause (endings.Judged (Some (Unfit number why))) = unfit refl
build_cause (endings.Judged (Some TooLong)) = judged (inr (inr (inr refl)))
build_cause endings.ReadFault = unread refl refl
build_cause endings.WriteFault = unwritten refl refl
build_cause endings.Memory = starved refl

-- of a stream that is answered
offence_judged : (o : Offence) → IsJudged (offence_status o)
offence_judged o = elim (cases_Bool (is_session_too_long o.reason)) [
  | inl long ↦ inr (inr (inr (rw long refl)))
  | inr other ↦ inr (inl (rw other refl))
]

replay_cause : (inbound : Inbound) (outbound : Outbound)
    → Cause (inbound ≡ inbounds.ReadFault) (outbound ≡ outbounds.WriteFault) ⊥
    (status_of_replay inbound outbound)
replay_cause inbounds.Ended outbounds.Done = judged (inl refl)
replay_cause (inbounds.Offended r) outbounds.Done = judged (offence_judged r)
replay_cause inbounds.ReadFault outbounds.Done = unread refl refl
replay_cause inbounds.Memory outbounds.Done = starved refl
replay_cause inbounds.Ended outbounds.WriteFault = unwritten refl refl
replay_cause (inbounds.Offended r) outbounds.WriteFault = unwritten refl refl
replay_cause inbounds.ReadFault outbounds.WriteFault = unwritten refl refl
replay_cause inbounds.Memory outbounds.WriteFault = starved refl
replay_cause inbound outbounds.Memory = starved refl

-- of connections that are answered
stop_cause : (stop : Result (Unit {0}) ServeFault)
    → Cause ⊥ (stop ≡ Err stops.Output) (stop ≡ Err stops.Wire) (status_of_stop stop)
stop_cause (Ok v) = judged (inl refl)
stop_cause (Err stops.Wire) = unwired refl refl
stop_cause (Err stops.Output) = unwritten refl refl
stop_cause (Err stops.Memory) = starved refl

-- of sessions that are joined
relay_cause : (stop : Result (Unit {0}) RelayFault)
    → Cause ⊥ (stop ≡ Err relays.Output) (stop ≡ Err relays.Wire) (status_of_relay stop)
relay_cause (Ok v) = judged (inl refl)
relay_cause (Err relays.Wire) = unwired refl refl
relay_cause (Err relays.Output) = unwritten refl refl
relay_cause (Err relays.Memory) = starved refl

-- a wire's count, by the status
pub stop_counts : (count count' : ℕ) (stop : Result (Unit {0}) ServeFault) (n : ℕ)
    → n ≡ status_of_stop stop → CountsFaults count count' (stop ≡ Err stops.Wire)
    → CountsFaults count count' (n ≡ 8)
stop_counts count count' stop n is c = record {
  rose = λ eight. c.rose (wires_by (status_of_stop stop) (stop_cause stop) (sym is ∙ eight));
  same = λ not. c.same (λ e. not (is ∙ ap status_of_stop e));
  grows = c.grows;
}

pub relay_counts : (count count' : ℕ) (stop : Result (Unit {0}) RelayFault) (n : ℕ)
    → n ≡ status_of_relay stop → CountsFaults count count' (stop ≡ Err relays.Wire)
    → CountsFaults count count' (n ≡ 8)
relay_counts count count' stop n is c = record {
  rose = λ eight. c.rose (wires_by (status_of_relay stop) (relay_cause stop) (sym is ∙ eight));
  same = λ not. c.same (λ e. not (is ∙ ap status_of_relay e));
  grows = c.grows;
}

-- of a session that is made
summary_cause : (summary : Summary) → Cause ⊥ (summary ≡ summaries.WriteFault) ⊥ (status_of summary)
summary_cause summaries.Written = judged (inl refl)
summary_cause (summaries.TooLong r) = judged (inr (inr (inr refl)))
summary_cause summaries.WriteFault = unwritten refl refl
summary_cause summaries.Memory = starved refl

-- ---- what is left

-- an input that was asked at its end once at most, and not before a failed read
one_empty_take : (asks asks' : ℕ) (failed : Type 0)
    → (asks' ≡ asks) ⊎ ((asks' ≡ one_more asks) × (failed → ⊥))
    → (asks' ≡ asks) ⊎ (asks' ≡ one_more asks)
one_empty_take asks asks' failed (inl none) = inl none
one_empty_take asks asks' failed (inr one) = inr one.0

-- a file that isn't read leaves input and output
pub file_leaves : {X : Type 0} (fault : FileFault X) (s s' : SeenShelf) (i : Input) (o : SinkView)
    {R K : Type 0} (w w' : Network R K) (n : ℕ) → n ≡ status_of_file fault
    → (fault ≡ faults.Failed → Rose s.faults s'.faults)
    → Leaves (seen s i o w) (seen s' i o w') n
file_leaves fault s s' i o w w' n is rose =
    subst (Leaves (seen s i o w) (seen s' i o w')) (sym is)
    (leaves_by (seen s i o w) (seen s' i o w') (status_of_file fault) (file_cause fault)
    (λ failed. inr (rose failed)) (λ none. absurd none) (inl refl) (omega arith) (omega arith))

module _ (s s' : SeenShelf) (i i' : Input) (o o' : SinkView) {R K : Type 0} (w w' : Network R K)
  where
    abbrev old : Outside R K
    old = seen s i o w

    abbrev new : Outside R K
    new = seen s' i' o' w'

    pub report_leaves : (d : Detail) (x : Settings) (n : ℕ) → Reports d x i i' o o' n
        → Leaves old new n
    report_leaves d x n r =
        leaves_by old new n (report_cause n r.is_status) (λ three. inl (r.reads_counted.rose three))
        r.writes_counted.rose
        (one_empty_take i.empty_takes i'.empty_takes (n ≡ 3) r.one_empty_take) r.reads_counted.grows
        r.writes_counted.grows

    module _ (opening : Opening) (statics : List Entry) (limits : Limits)
        (e : ReportEnding InputFault)
        (h : Builds opening statics limits i i' o o' e) where
      pub build_leaves : (n : ℕ) → n ≡ status_of_building e → Leaves old new n
      build_leaves n is = subst (Leaves old new) (sym is)
          (leaves_by old new (status_of_building e) (build_cause e)
          (λ failed. inl (h.reads_counted.rose failed)) h.writes_counted.rose
          (one_empty_take i.empty_takes i'.empty_takes (e ≡ endings.ReadFault) h.one_empty_take)
          h.reads_counted.grows h.writes_counted.grows)

    module _ (x : Answering) (endpoint : Option (List ℕ)) (outbound : Outbound) where
      replay_once : (inbound : Inbound) → Replays x endpoint i i' o o' inbound outbound
          → (i'.empty_takes ≡ i.empty_takes) ⊎ (i'.empty_takes ≡ one_more i.empty_takes)
      replay_once inbounds.Ended h = elim h.follows.settled [
        | inl one ↦ inr one.1
        | inr none ↦ inl none.1
      ]
      replay_once (inbounds.Offended r) h = elim h.follows.settled [
        | inl one ↦ inr one.1
        | inr none ↦ inl none.1
      ]
      replay_once inbounds.ReadFault h = inl h.follows.no_empty_take
      replay_once inbounds.Memory h = inl h.follows.no_empty_take

      pub replay_leaves : (n : ℕ) (inbound : Inbound) → n ≡ status_of_replay inbound outbound
          → Replays x endpoint i i' o o' inbound outbound → Leaves old new n
      replay_leaves n inbound is h = subst (Leaves old new) (sym is)
          (leaves_by old new (status_of_replay inbound outbound) (replay_cause inbound outbound)
          (λ failed. inl (h.reads_counted.rose failed)) h.writes_counted.rose
          (replay_once inbound h) h.reads_counted.grows h.writes_counted.grows)

    -- what doesn't read the input
    unread_leaves : (same : i' ≡ i) {writes wires : Type 0} (n status : ℕ)
        → Cause ⊥ writes wires status → n ≡ status → (writes → Rose o.faults o'.faults)
        → o.faults ≤ o'.faults → Leaves old new n
    unread_leaves same n status cause is rose grows =
        let read = ap (λ (v : Input). v.faults) same in
        subst (Leaves old new) (sym is) (leaves_by old new status cause (λ none. absurd none)
        rose (inl (ap (λ (v : Input). v.empty_takes) same)) (omega (arith, read)) grows)

    module _ (Says : List ℕ → Type 0) (reader : R → Input) (writer : K → SinkView)
        (statics : List Entry) (limits : TwoLimits) (n : ℕ) where
      pub serve_leaves : (connections : ℕ) (serving : Serving)
          → AnsweredAll Says reader writer connections serving statics limits old new n
          → Leaves old new n
      serve_leaves connections serving h = unread_leaves h.unread n (status_of_stop h.stop)
          (stop_cause h.stop) h.status_is h.serves.output_counted.rose h.serves.output_counted.grows

      pub relay_leaves : (relaying : Relaying)
          → RelayedAll Says reader writer relaying statics limits old new n → Leaves old new n
      relay_leaves relaying h =
          let counted = lines_counted (joining_by relaying statics h.back limits)
          (sides_seen reader writer) relaying.connections w w' o o' h.joined.stop h.joined.relays in
          unread_leaves h.unread n (status_of_relay h.joined.stop) (relay_cause h.joined.stop)
          h.joined.status_is
          counted.rose counted.grows

      pub pool_leaves : (connections sessions : ℕ) (serving : Serving)
          → PooledAll Says reader writer connections sessions serving statics limits old new n
          → Leaves old new n
      pool_leaves connections sessions serving h =
          let x = answering_by h.responder statics limits in
          unread_leaves h.unread n
          (status_of_stop h.stop) (stop_cause h.stop) h.status_is
          (pool_rose x serving.endpoint sessions (ends_seen reader writer) connections w w' o o'
          h.stop h.pools)
          (pool_grows x serving.endpoint sessions (ends_seen reader writer) connections w w' o o'
          h.stop h.pools)

    module _ (limits : Limits) (statics : List Entry) (made : List (List Item)) (summary : Summary)
        (h : Summarizes limits statics made o o' summary) (same : i' ≡ i) where
      pub generate_leaves : (n : ℕ) → n ≡ status_of summary → Leaves old new n
      generate_leaves n is =
          unread_leaves same n (status_of summary) (summary_cause summary) is h.counted.rose
          h.counted.grows
