-- What a status says of how the reporting of a stream ended.
use Rattle.std.proofs.Common.{◌≡◌, ℕ, true, false, ◌⊎◌, List, ◌++◌, length, Some, None, Option, sym}
use Rattle.std.proofs.Common.{refl, ap, ◌∙◌, subst, inl, inr, append_assoc, arith, take_all}
use Rattle.{std.proofs.lemmas.Bool.cases_Bool, stream_reader.proofs.Closed.closed_or_refused}
use Rattle.io_edges.specs.{Faults.one_more, Flow.GrowsByPrefix}
use Rattle.nbfx_values.specs.{declared.refusals.Offence.Offence, Limits.IsGood}
use Rattle.stream_reader.specs.{Judging.offence, Stream.Settings, Stream.stream}
use Rattle.stream_reader.specs.Sessions.{answer, broken_off, conversation, IsClosed, lone_ack}
use Rattle.stream_reader.specs.Sessions.{Parts, turned_down}
use Rattle.{stream_loop.proofs.Writing.counted_with, dump_replay.specs.Statuses.status_at}
use Rattle.stream_loop.specs.{declared.reporting.ReportEnding.ReportEnding, Edges.Input}
use Rattle.stream_loop.specs.Reported.{OneEmptyTake, EndsAs, Judges, Reports as WritesReport}
use Rattle.session_report.proofs.Sessions.{closed_outcome, outcome_of, unoffended}
use Rattle.session_report.specs.declared.reporter.Outcome.{Outcome}
use Rattle.session_report.specs.declared.reporter.Outcome.TheVariants.{Ended, Faulted, Open}
use Rattle.session_report.specs.Report.{lines_of, outcome, report}
use Rattle.command_words.specs.declared.task.Detail.{Detail}
use Rattle.dump_replay.specs.Reporting.{closing_status, ends_by_fault, IsEnded, IsFaulted}
use Rattle.dump_replay.specs.Reporting.{IsOffended, IsReportStatus, Reports}
use Rattle.dump_replay.specs.Running.{is_session_too_long, IsJudged, status_of}
use Rattle.io_edges.specs.Views.{SinkView}
use Rattle.stream_loop.specs.declared.reporting.ReportEnding.TheVariants as endings

-- how a session has ended gives the status
pub status_closing : (parts : Parts) → status_of None (outcome_of parts) ≡ closing_status parts
status_closing (conversation mode kind via carried) = refl
status_closing (answer carried) = refl
status_closing lone_ack = refl
status_closing (broken_off carried text) = refl
status_closing (turned_down text) = refl

pub zero_parts : (parts : Parts) → status_of None (outcome_of parts) ≡ 0
    → ends_by_fault parts ≡ false
zero_parts (conversation mode kind via carried) e = refl
zero_parts (answer carried) e = refl
zero_parts lone_ack e = refl
zero_parts (broken_off carried text) e = cc
zero_parts (turned_down text) e = cc

nine_parts : (parts : Parts) → status_of None (outcome_of parts) ≡ 9
    → ends_by_fault parts ≡ true
nine_parts (conversation mode kind via carried) e = cc
nine_parts (answer carried) e = cc
nine_parts lone_ack e = cc
nine_parts (broken_off carried text) e = refl
nine_parts (turned_down text) e = refl

-- an offence has one of two statuses
offence_status_is : (o : Offence) (end : Outcome) (n : ℕ) → status_of (Some o) end ≡ n
    → ((is_session_too_long o.reason ≡ true) × (10 ≡ n))
    ⊎ ((is_session_too_long o.reason ≡ false) × (1 ≡ n))
offence_status_is o end n e =
    elim (cases_Bool (is_session_too_long o.reason)) [
      | inl t ↦ inl (t, rw t at e)
      | inr f ↦ inr (f, rw f at e)
    ]

pub no_offence : (o : Offence) (end : Outcome) (n : ℕ) → status_of (Some o) end ≡ n
    → (10 ≡ n → ⊥) → (1 ≡ n → ⊥) → ⊥
no_offence o end n e ten one =
    elim (offence_status_is o end n e) [
      | inl t ↦ ten t.1
      | inr f ↦ one f.1
    ]

-- a session that ended otherwise has one of two
closing_one : (end : Outcome) (n : ℕ) → status_of None end ≡ n → (0 ≡ n → ⊥) → (9 ≡ n → ⊥) → ⊥
closing_one Open n e zero nine = zero e
closing_one Ended n e zero nine = zero e
closing_one Faulted n e zero nine = nine e

-- a judgement has no other status
other_status : (judged : Option Offence) (end : Outcome) (n : ℕ) → status_of judged end ≡ n
    → (0 ≡ n → ⊥) → (9 ≡ n → ⊥) → (10 ≡ n → ⊥) → (1 ≡ n → ⊥) → ⊥
other_status None end n e zero nine ten one = closing_one end n e zero nine
other_status (Some o) end n e zero nine ten one = no_offence o end n e ten one

-- the status of a take that failed, and of a put
pub status_three : (e : ReportEnding Offence) (end : Outcome) → status_at e end ≡ 3
    → e ≡ endings.ReadFault
status_three (endings.Judged j) end s =
    absurd (other_status j end 3 s (λ e. cc) (λ e. cc) (λ e. cc) (λ e. cc))
status_three endings.ReadFault end s = refl
status_three endings.WriteFault end s = cc
status_three endings.Memory end s = cc

status_four : (e : ReportEnding Offence) (end : Outcome) → status_at e end ≡ 4 → e
    ≡ endings.WriteFault
status_four (endings.Judged j) end s =
    absurd (other_status j end 4 s (λ e. cc) (λ e. cc) (λ e. cc) (λ e. cc))
status_four endings.ReadFault end s = cc
status_four endings.WriteFault end s = refl
status_four endings.Memory end s = cc

offence_judged : (o : Offence) (end : Outcome) → IsJudged (status_of (Some o) end)
offence_judged o end =
    elim (offence_status_is o end (status_of (Some o) end) refl) [
      | inl t ↦ inr (inr (inr (sym t.1)))
      | inr f ↦ inr (inl (sym f.1))
    ]

closing_judged : (end : Outcome) → IsJudged (status_of None end)
closing_judged Open = inl refl
closing_judged Ended = inl refl
closing_judged Faulted = inr (inr (inl refl))

status_is : (e : ReportEnding Offence) (end : Outcome) → IsReportStatus (status_at e end)
status_is (endings.Judged None) end = inl (closing_judged end)
status_is (endings.Judged (Some o)) end = inl (offence_judged o end)
status_is endings.ReadFault end = inr (inl refl)
status_is endings.WriteFault end = inr (inr (inl refl))
status_is endings.Memory end = inr (inr (inr refl))

not_judged : (n : ℕ) → (n ≡ 0 → ⊥) → (n ≡ 1 → ⊥) → (n ≡ 9 → ⊥) → (n ≡ 10 → ⊥) → IsJudged n → ⊥
not_judged n zero one nine ten (inl h) = zero h
not_judged n zero one nine ten (inr (inl h)) = one h
not_judged n zero one nine ten (inr (inr (inl h))) = nine h
not_judged n zero one nine ten (inr (inr (inr h))) = ten h

judged_is : (e : ReportEnding Offence) (end : Outcome) → IsJudged (status_at e end)
    → (j : Option Offence) × (e ≡ endings.Judged j)
judged_is (endings.Judged j) end h = (j, refl)
judged_is endings.ReadFault end h =
    absurd (not_judged 3 (λ e. cc) (λ e. cc) (λ e. cc) (λ e. cc) h)
judged_is endings.WriteFault end h =
    absurd (not_judged 4 (λ e. cc) (λ e. cc) (λ e. cc) (λ e. cc) h)
judged_is endings.Memory end h =
    absurd (not_judged 5 (λ e. cc) (λ e. cc) (λ e. cc) (λ e. cc) h)

module _ (d : Detail) (x : Settings) (good : IsGood x.limits) (i i' : Input) (o o' : SinkView) where
  module _ (end : Outcome) (bytes : List ℕ) where
    abbrev JudgesIt : ReportEnding Offence → Type 0
    JudgesIt e = Judges (stream x) (lines_of d) i i' o o' bytes end e

    zero_is : (e : ReportEnding Offence) → status_at e end ≡ 0 → JudgesIt e → IsEnded x bytes
    zero_is (endings.Judged None) s h =
        let c = unoffended d x good bytes end h in
        (c.0, zero_parts c.0.parts (subst (λ v. status_of None v ≡ 0) c.1 s))
    zero_is (endings.Judged (Some r)) s h = absurd (no_offence r end 0 s (λ e. cc) (λ e. cc))
    zero_is endings.ReadFault s h = cc
    zero_is endings.WriteFault s h = cc
    zero_is endings.Memory s h = cc

    nine_is : (e : ReportEnding Offence) → status_at e end ≡ 9 → JudgesIt e → IsFaulted x bytes
    nine_is (endings.Judged None) s h =
        let c = unoffended d x good bytes end h in
        (c.0, nine_parts c.0.parts (subst (λ v. status_of None v ≡ 9) c.1 s))
    nine_is (endings.Judged (Some r)) s h = absurd (no_offence r end 9 s (λ e. cc) (λ e. cc))
    nine_is endings.ReadFault s h = cc
    nine_is endings.WriteFault s h = cc
    nine_is endings.Memory s h = cc

    one_is : (e : ReportEnding Offence) → status_at e end ≡ 1 → JudgesIt e
        → IsOffended x bytes false
    one_is (endings.Judged None) s h = absurd (closing_one end 1 s (λ e. cc) (λ e. cc))
    one_is (endings.Judged (Some r)) s h =
        elim (offence_status_is r end 1 s) [
          | inl t ↦ let ten = t.1 in absurd (omega (arith, ten))
          | inr f ↦ (r, h.0, f.0)
        ]
    one_is endings.ReadFault s h = cc
    one_is endings.WriteFault s h = cc
    one_is endings.Memory s h = cc

    ten_is : (e : ReportEnding Offence) → status_at e end ≡ 10 → JudgesIt e
        → IsOffended x bytes true
    ten_is (endings.Judged None) s h = absurd (closing_one end 10 s (λ e. cc) (λ e. cc))
    ten_is (endings.Judged (Some r)) s h =
        elim (offence_status_is r end 10 s) [
          | inl t ↦ (r, h.0, t.0)
          | inr f ↦ let one = f.1 in absurd (omega (arith, one))
        ]
    ten_is endings.ReadFault s h = cc
    ten_is endings.WriteFault s h = cc
    ten_is endings.Memory s h = cc

    complete_is : (e : ReportEnding Offence) → JudgesIt e
        → (status_at e end ≡ status_of (offence x bytes) (outcome d x bytes))
        ⊎ (status_at e end ≡ 3) ⊎ (status_at e end ≡ 4) ⊎ (status_at e end ≡ 5)
    complete_is (endings.Judged j) h =
        inl (ap (λ v. status_of v end) (sym h.0) ∙ ap (status_of (offence x bytes)) h.1)
    complete_is endings.ReadFault h = inr (inl refl)
    complete_is endings.WriteFault h = inr (inr (inl refl))
    complete_is endings.Memory h = inr (inr (inr refl))

    closed_is : (c : IsClosed x bytes) (e : ReportEnding Offence) → JudgesIt e
        → (e ≡ endings.ReadFault → ⊥) → (e ≡ endings.WriteFault → ⊥)
        → (status_at e end ≡ closing_status c.parts) ⊎ (status_at e end ≡ 5)
    closed_is c (endings.Judged j) h read written =
        inl (ap (λ v. status_of v end) (sym h.0 ∙ (closed_or_refused x good bytes).1 c)
        ∙ ap (status_of None) (h.1 ∙ closed_outcome d x good bytes c) ∙ status_closing c.parts)
    closed_is c endings.ReadFault h read written = absurd (read refl)
    closed_is c endings.WriteFault h read written = absurd (written refl)
    closed_is c endings.Memory h read written = inr refl

    module _ (w w' : List ℕ) where
      abbrev WritesIt : ReportEnding Offence → Type 0
      WritesIt e = WritesReport (stream x) (lines_of d) i i' o o' bytes w w' e

      reported_is : (e : ReportEnding Offence) → IsJudged (status_at e end) → WritesIt e
          → w' ≡ w ++ o.held ++ report d x bytes
      reported_is e s h = let j = judged_is e end s in subst WritesIt j.1 h

      cut_is : (e : ReportEnding Offence) → WritesIt e
          → GrowsByPrefix w w' (o.held ++ report d x bytes)
      cut_is (endings.Judged j) h =
          let all = o.held ++ report d x bytes in record {
            kept = length all;
            grown = h ∙ append_assoc w o.held (report d x bytes)
                ∙ ap (λ l. w ++ l) (sym (take_all (length all) all (omega arith)));
          }
      cut_is endings.ReadFault h = h
      cut_is endings.WriteFault h = h
      cut_is endings.Memory h = h

  module _ (end : Outcome) (e : ReportEnding Offence)
      (h : EndsAs (stream x) (lines_of d) i i' o o' end e) where
    asked_is : OneEmptyTake (stream x) (lines_of d) i i' o o' e
        → (i'.empty_takes ≡ i.empty_takes)
        ⊎ ((i'.empty_takes ≡ one_more i.empty_takes) × (status_at e end ≡ 3 → ⊥))
    asked_is (inl none) = inl none
    asked_is (inr one) = inr (one.0, λ s. one.1 (status_three e end s))

    pub reports_by : Reports d x i i' o o' (status_at e end)
    reports_by = record {
      is_status = status_is e end;
      ended = λ s bytes left. zero_is end bytes e s (h.judges bytes left);
      faulted = λ s bytes left. nine_is end bytes e s (h.judges bytes left);
      offended = λ s bytes left. one_is end bytes e s (h.judges bytes left);
      too_long = λ s bytes left. ten_is end bytes e s (h.judges bytes left);
      complete = λ bytes left. complete_is end bytes e (h.judges bytes left);
      closed = λ bytes left c read written.
          closed_is end bytes c e (h.judges bytes left) (λ s. read (h.reads_counted.rose s))
          (λ s. written (h.writes_counted.rose s));
      reported = λ s bytes w left before.
          let k = h.reports bytes w left before in
          k.1 ∙ ap Some (reported_is end bytes w k.0 e s k.2);
      decided = λ s.
          let j = judged_is e end s in
          (j.0, end, ap (λ v. status_at v end) (sym j.1), h.decides j.0 j.1);
      broken = λ s. h.breaks (status_three e end s);
      cut = λ bytes w left before.
          let k = h.reports bytes w left before in (k.0, k.1, cut_is end bytes w k.0 e k.2);
      reaches = h.reaches;
      one_empty_take = asked_is h.one_empty_take;
      reads_counted = counted_with _ _ _ _ _ refl h.reads_counted (status_three e end)
          (λ is. ap (λ v. status_at v end) is);
      writes_counted = counted_with _ _ _ _ _ refl h.writes_counted (status_four e end)
          (λ is. ap (λ v. status_at v end) is);
    }
