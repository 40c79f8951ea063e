-- What a call leaves, by what became of it, and files of documents that aren't read.
use Rattle.std.proofs.Common.{◌≡◌, ℕ, ◌≤◌, Bool, true, false, ◌||◌, ◌⊎◌, List, if◌then◌else◌, sym}
use Rattle.std.proofs.Common.{refl, ap, subst, inl, inr, arith}
use Rattle.io_edges.specs.{Faults.Rose, Wires.Network}
use Rattle.nbfx_values.specs.declared.refusals.Reason.{Reason, TheVariants.SessionTooLong}
use Rattle.stream_loop.specs.{declared.outbound.Outbound.Outbound, Edges.Input}
use Rattle.document_lines.specs.declared.{fetching.DocumentsFault.DocumentsFault}
use Rattle.document_lines.specs.declared.{reading.ListFault.ListFault}
use Rattle.duplex_server.proofs.Meeting.{rose_by_reads, rose_by_writes}
use Rattle.client.specs.declared.called.Called.{Called, TheVariants.WrongCount}
use Rattle.client.specs.declared.called.Called.TheVariants.{Closed, Starved, Unconnected}
use Rattle.client.specs.declared.outcome.{CallOutcome.CallOutcome, ClientIn.ClientIn}
use Rattle.client.specs.{declared.outcome.ClientOut.ClientOut, Sent.Sending}
use Rattle.client.specs.Places.{CallsOne, CallsPlace}
use Rattle.client.specs.Statuses.{fails, fails_in, fails_out, fails_report, inbound_status}
use Rattle.client.specs.Statuses.{is_unfit, reason_status, status_of, wants_memory}
use Rattle.dump_replay.specs.{Building.status_of_building, Running.CountsWire, Running.IsJudged}
use Rattle.dump_replay.specs.Calling.{ending_of_list, status_of_documents}
use Rattle.dump_replay.proofs.Causes.{Cause, judged, refused, starved, unfit, unread, unwired}
use Rattle.dump_replay.proofs.Causes.{unwritten, wires_by}
use Rattle.io_edges.specs.Views.{SinkView}
use Rattle.stream_loop.specs.declared.outbound.Outbound.TheVariants as outbounds
use Rattle.document_lines.specs.declared.InputFault.TheVariants as faults
use Rattle.document_lines.specs.declared.fetching.DocumentsFault.TheVariants as files
use Rattle.document_lines.specs.declared.reading.ListFault.TheVariants as lists
use Rattle.client.specs.declared.outcome.ClientIn.TheVariants as heard
use Rattle.client.specs.declared.outcome.ClientOut.TheVariants as out

-- ---- the status of a call

reason_is : (r : Reason) → (reason_status r ≡ 10) ⊎ (reason_status r ≡ 1)
reason_is SessionTooLong = inl refl
reason_is _ = inr refl

inbound_judged : (v : ClientIn) → IsJudged (inbound_status v)
inbound_judged heard.Ended = inl refl
inbound_judged (heard.Offended o) = elim (reason_is o.reason) [
  | inl ten ↦ inr (inr (inr ten))
  | inr one ↦ inr (inl one)
]
inbound_judged heard.PeerFault = inr (inr (inl refl))
inbound_judged heard.ReadFault = inl refl
inbound_judged heard.Memory = inl refl

-- by whether memory ran out, an end failed, a document doesn't fit, and the output failed
first_cause : (wants fails unfits reports : Bool) (n : ℕ) → IsJudged n
    → Cause ⊥ (reports ≡ true) (fails ≡ true)
    (if wants then 5 else if fails then 8 else if unfits then 7 else if reports then 4 else n)
first_cause true fails unfits reports n is = starved refl
first_cause false true unfits reports n is = unwired refl refl
first_cause false false true reports n is = unfit refl
first_cause false false false true n is = unwritten refl refl
first_cause false false false false n is = judged is

-- the output failed, or the wire or an end of the connection
abbrev FailsReport : Called → Type 0
FailsReport (Closed o) = fails_report o.report ≡ true
FailsReport called = ⊥

abbrev FailsWire : Called → Type 0
FailsWire Unconnected = Unit {0}
FailsWire (Closed o) = fails o ≡ true
FailsWire called = ⊥

pub called_cause : (called : Called)
    → Cause ⊥ (FailsReport called) (FailsWire called) (status_of called)
called_cause WrongCount = refused refl
called_cause Starved = starved refl
called_cause Unconnected = unwired refl tt
called_cause (Closed o) = first_cause (wants_memory o) (fails o) (is_unfit o.outbound)
    (fails_report o.report) (inbound_status o.inbound) (inbound_judged o.inbound)

-- ---- what failed

report_failed : (r : Outbound) → fails_report r ≡ true → r ≡ outbounds.WriteFault
report_failed outbounds.Done e = cc
report_failed outbounds.WriteFault e = refl
report_failed outbounds.Memory e = cc

in_failed : (v : ClientIn) → fails_in v ≡ true → v ≡ heard.ReadFault
in_failed heard.Ended e = cc
in_failed (heard.Offended o) e = cc
in_failed heard.PeerFault e = cc
in_failed heard.ReadFault e = refl
in_failed heard.Memory e = cc

out_failed : (v : ClientOut) → fails_out v ≡ true → v ≡ out.WriteFault
out_failed out.Done e = cc
out_failed (out.Unfit number fault) e = cc
out_failed out.WriteFault e = refl
out_failed out.Memory e = cc

either : (a b : Bool) → (a || b) ≡ true → (a ≡ true) ⊎ (b ≡ true)
either true b e = inl refl
either false b e = inr e

module _ {R K : Type 0} (input_of : R → Input) (output_of : K → SinkView) (x : Sending)
    (via : List ℕ) (line : ℕ → List ℕ) (n n' : Network R K) (o o' : SinkView) where
  -- an end of the connection failed, which its ended ends count
  pub one_rose : (outcome : CallOutcome)
      → CallsOne input_of output_of x via line n n' o o' outcome → fails outcome ≡ true
      → Rose n.end_faults n'.end_faults
  one_rose outcome h failed =
      let reads : ℕ = (input_of h.left.0).faults in
      let writes : ℕ = (output_of h.left.1).faults in
      subst (λ (count : ℕ). Rose n.end_faults count) (sym h.end_faults)
      (elim (either (fails_in outcome.inbound) (fails_out outcome.outbound) failed) [
        | inl read ↦ rose_by_reads n.end_faults reads writes
            (subst (λ (count : ℕ). Rose count reads) h.begins.unread
            (h.calls.exchanged.reads_counted.rose (in_failed outcome.inbound read)))
        | inr wrote ↦ rose_by_writes n.end_faults reads writes
            (subst (λ (count : ℕ). Rose count writes) h.begins.unwritten
            (h.calls.exchanged.writes_counted.rose (out_failed outcome.outbound wrote)))
      ])

  abbrev Left : Called → Type 0
  Left called = CallsPlace input_of output_of x via line n n' o o' called

  same_faults : n' ≡ n → n'.faults ≡ n.faults
  same_faults same = ap (λ (w : Network R K). w.faults) same

  pub report_rose : (called : Called) → Left called → FailsReport called → Rose o.faults o'.faults
  report_rose WrongCount h failed = absurd failed
  report_rose Starved h failed = absurd failed
  report_rose Unconnected h failed = absurd failed
  report_rose (Closed outcome) h failed =
      h.calls.reports_counted.rose (report_failed outcome.report failed)

  pub called_writes : (called : Called) → Left called → o.faults ≤ o'.faults
  called_writes WrongCount h =
      let e = ap (λ (v : SinkView). v.faults) h.2 in omega (arith, e)
  called_writes Starved h = let e = ap (λ (v : SinkView). v.faults) h.1 in omega (arith, e)
  called_writes Unconnected h =
      let e = ap (λ (v : SinkView). v.faults) h.unwritten in omega (arith, e)
  called_writes (Closed outcome) h = h.calls.reports_counted.grows

  wire_rose : (called : Called) → Left called → FailsWire called
      → Rose n.faults n'.faults ⊎ Rose n.end_faults n'.end_faults
  wire_rose WrongCount h failed = absurd failed
  wire_rose Starved h failed = absurd failed
  wire_rose Unconnected h failed = inl (h.counted.rose tt)
  wire_rose (Closed outcome) h failed = inr (one_rose outcome h failed)

  called_same : (called : Called) → Left called → (status_of called ≡ 8 → ⊥)
      → n'.faults ≡ n.faults
  called_same WrongCount h not = same_faults h.1
  called_same Starved h not = same_faults h.0
  called_same Unconnected h not = absurd (not refl)
  called_same (Closed outcome) h not = h.faults

  called_grows : (called : Called) → Left called → n.faults ≤ n'.faults
  called_grows WrongCount h = let e = same_faults h.1 in omega (arith, e)
  called_grows Starved h = let e = same_faults h.0 in omega (arith, e)
  called_grows Unconnected h = h.counted.grows
  called_grows (Closed outcome) h = let e = h.faults in omega (arith, e)

  pub called_wire : (called : Called) (status : ℕ) → status ≡ status_of called → Left called
      → CountsWire n.faults n'.faults n.end_faults n'.end_faults status
  called_wire called status is h = subst (λ (status : ℕ). CountsWire n.faults n'.faults
      n.end_faults n'.end_faults status) (sym is) (record {
        rose = λ eight.
            wire_rose called h (wires_by (status_of called) (called_cause called) eight);
        same = called_same called h;
        grows = called_grows called h;
      })

  pub called_out : (called : Called) → Left called → n'.out ≡ n.out
  called_out WrongCount h = ap (λ (w : Network R K). w.out) h.1
  called_out Starved h = ap (λ (w : Network R K). w.out) h.0
  called_out Unconnected h = h.out
  called_out (Closed outcome) h = h.out

-- ---- lists that aren't read

pub list_cause : (fault : ListFault)
    → Cause (fault ≡ lists.ReadFault) ⊥ ⊥ (status_of_building (ending_of_list fault))
list_cause (lists.Refused (faults.Line n kind)) = refused refl
list_cause (lists.Refused (faults.Unfit number why)) = unfit refl
list_cause (lists.Refused faults.TooLong) = judged (inr (inr (inr refl)))
list_cause lists.ReadFault = unread refl refl
list_cause lists.Memory = starved refl

pub second_cause : (fault : DocumentsFault)
    → Cause (fault ≡ files.Failed) ⊥ ⊥ (status_of_documents fault)
second_cause files.Missing = refused refl
second_cause (files.Refused v) = refused refl
second_cause files.Failed = unread refl refl
second_cause files.Memory = starved refl
