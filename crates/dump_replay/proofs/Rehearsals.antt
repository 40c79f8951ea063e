-- The playing of a history: its beginning, what its endings say, and what it leaves.
use Rattle.std.proofs.Common.{◌≡◌, ℕ, ◌⊎◌, List, ◌++◌, Some, None, Option, sym, refl, ap}
use Rattle.std.proofs.Common.{◌∙◌, false, map, append-nil, subst, inl, inr, arith, lit<}
use Rattle.rehearsal.specs.Forms.{event_of}
use Rattle.io_edges.specs.{Faults.one_more, Faults.Rose, Wires.Network}
use Rattle.{unit_streams.specs.Judging.offence}
use Rattle.stream_loop.specs.{declared.reporting.ReportEnding.ReportEnding, Answers.EndsWithin, Edges.Input}
use Rattle.{io_edges.specs.Views.SinkView}
use Rattle.reliable_sequence.specs.Rehearsal.{counts_of}
use Rattle.rehearsal.specs.declared.fault.HistoryFault.{HistoryFault, TheVariants.Line}
use Rattle.rehearsal.specs.declared.fault.HistoryFault.TheVariants.{TooLong}
use Rattle.rehearsal.specs.declared.TheConstants.{MOST_BYTES}
use Rattle.rehearsal.specs.History.{delivered_lines, Explains, history, history_rules, IsInForm}
use Rattle.rehearsal.specs.History.{IsPlayed, last_line, no_counts, run_over, Settings, told}
use Rattle.line_streams.proofs.LineFacts.{begins, bounded, closes}
use Rattle.rehearsal.proofs.Playing.{accepted_is_in_form, is_played}
use Rattle.command_words.specs.Tasks.{Rehearsal}
use Rattle.dump_replay.specs.{Outside.seen, Outside.SeenShelf, Working.Leaves}
use Rattle.dump_replay.specs.Rehearsing.{history_offence, Rehearses}
use Rattle.dump_replay.specs.Rehearsing.{settings_for_history, status_of_history}
use Rattle.dump_replay.specs.Rehearsing.{status_of_rehearsal, ZeroInForm, ZeroIsPlayedWhole}
use Rattle.dump_replay.proofs.{Beginnings.not_begun, CompleteFiles.IsOr}
use Rattle.dump_replay.proofs.Causes.{Cause, judged, leaves_by, refused, starved, unread, unwritten}
use Rattle.stream_loop.specs.declared.reporting.ReportEnding.TheVariants as endings

-- ---- the loop may read histories

pub history_ends_within : (x : Settings) → EndsWithin (history x) (λ played. false) MOST_BYTES
history_ends_within x = record {
  closes = closes (history_rules x);
  first = begins (history_rules x) (lit< tt);
  within = λ p pending. let few = bounded (history_rules x) p pending in omega (arith, few);
}

-- there was no memory to begin with
pub unplayed : (asked : Rehearsal) (i : Input) (o : SinkView)
    → Rehearses asked i i o o endings.Memory
unplayed asked i o =
    let x : Settings = settings_for_history asked in (
      no_counts,
      not_begun (history x) told i o o.held (λ played. false) MOST_BYTES (history_ends_within x)
          no_counts,
    )

-- ---- what it leaves

rehearsal_cause : (e : ReportEnding HistoryFault)
    → Cause (e ≡ endings.ReadFault) (e ≡ endings.WriteFault) ⊥ (status_of_rehearsal e)
rehearsal_cause (endings.Judged None) = judged (inl refl)
rehearsal_cause (endings.Judged (Some (Line n kind))) = refused refl
rehearsal_cause (endings.Judged (Some TooLong)) = judged (inr (inr (inr refl)))
rehearsal_cause endings.ReadFault = unread refl refl
rehearsal_cause endings.WriteFault = unwritten refl refl
rehearsal_cause endings.Memory = starved refl

-- an input that was asked at its end once at most
one_empty_take : (asks asks' : ℕ) (failed : Type 0)
    → (asks' ≡ asks) ⊎ ((asks' ≡ one_more asks) × (failed → ⊥))
    → (asks' ≡ asks) ⊎ (asks' ≡ one_more asks)
one_empty_take asks asks' failed (inl none) = inl none
one_empty_take asks asks' failed (inr one) = inr one.0

module _ (asked : Rehearsal) (i i' : Input) (o o' : SinkView) (e : ReportEnding HistoryFault)
    (h : Rehearses asked i i' o o' e) where
  pub rehearsal_leaves : (s s' : SeenShelf) {R K : Type 0} (w w' : Network R K)
      → Leaves (seen s i o w) (seen s' i' o' w') (status_of_rehearsal e)
  rehearsal_leaves s s' w w' =
      leaves_by (seen s i o w) (seen s' i' o' w') (status_of_rehearsal e) (rehearsal_cause e)
      (λ failed. inl (h.1.reads_counted.rose failed)) h.1.writes_counted.rose
      (one_empty_take i.empty_takes i'.empty_takes (e ≡ endings.ReadFault) h.1.one_empty_take)
      h.1.reads_counted.grows h.1.writes_counted.grows

  -- with this status
  pub rehearsal_left : (n : ℕ) → n ≡ status_of_rehearsal e → (s : SeenShelf) {R K : Type 0}
      (w : Network R K) → Leaves (seen s i o w) (seen s i' o' w) n
  rehearsal_left n is s w =
      subst (λ (m : ℕ). Leaves (seen s i o w) (seen s i' o' w) m) (sym is)
      (rehearsal_leaves s s w w)

-- it doesn't say that the wire failed
pub not_eight : (e : ReportEnding HistoryFault) → status_of_rehearsal e ≡ 8 → ⊥
not_eight (endings.Judged None) is = cc
not_eight (endings.Judged (Some (Line n kind))) is = cc
not_eight (endings.Judged (Some TooLong)) is = cc
not_eight endings.ReadFault is = cc
not_eight endings.WriteFault is = cc
not_eight endings.Memory is = cc

pub three_unread : (e : ReportEnding HistoryFault) → status_of_rehearsal e ≡ 3
    → e ≡ endings.ReadFault
three_unread (endings.Judged None) is = cc
three_unread (endings.Judged (Some (Line n kind))) is = cc
three_unread (endings.Judged (Some TooLong)) is = cc
three_unread endings.ReadFault is = refl
three_unread endings.WriteFault is = cc
three_unread endings.Memory is = cc

-- ---- where nothing of the outside fails

pub history_ends : (asked : Rehearsal) (i i' : Input) (o o' : SinkView)
    (e : ReportEnding HistoryFault)
    → Rehearses asked i i' o o' e → (bytes : List ℕ) → i.left ≡ Some bytes
    → (Rose i.faults i'.faults → ⊥) → (Rose o.faults o'.faults → ⊥)
    → IsOr (status_of_history (history_offence asked bytes)) (status_of_rehearsal e)
history_ends asked i i' o o' (endings.Judged j) h bytes left read written =
    inl (ap status_of_history (sym (h.1.judges bytes left).0))
history_ends asked i i' o o' endings.ReadFault h bytes left read written =
    absurd (read (h.1.reads_counted.rose refl))
history_ends asked i i' o o' endings.WriteFault h bytes left read written =
    absurd (written (h.1.writes_counted.rose refl))
history_ends asked i i' o o' endings.Memory h bytes left read written = inr refl

-- ---- status 0

-- only input that isn't refused ends with 0
zero_none : (judged : Option HistoryFault) → status_of_history judged ≡ 0 → judged ≡ None
zero_none None is = refl
zero_none (Some (Line n kind)) is = cc
zero_none (Some TooLong) is = cc

pub zero_in_form : ZeroInForm
zero_in_form asked bytes =
    let same = accepted_is_in_form (settings_for_history asked) bytes in (
      λ zero. same.0 (zero_none (history_offence asked bytes) zero),
      λ form. ap status_of_history (same.1 form),
    )

pub zero_is_played_whole : ZeroIsPlayedWhole
zero_is_played_whole asked i i' o o' (endings.Judged (Some (Line n kind))) h zero bytes left = cc
zero_is_played_whole asked i i' o o' (endings.Judged (Some TooLong)) h zero bytes left = cc
zero_is_played_whole asked i i' o o' endings.ReadFault h zero bytes left = cc
zero_is_played_whole asked i i' o o' endings.WriteFault h zero bytes left = cc
zero_is_played_whole asked i i' o o' endings.Memory h zero bytes left = cc
zero_is_played_whole asked i i' o o' (endings.Judged None) h zero bytes left =
    let x : Settings = settings_for_history asked in
    let none : offence (history x) bytes ≡ None = (h.1.judges bytes left).0 in
    let p : IsPlayed x bytes = is_played x bytes in
    let form : IsInForm bytes = (accepted_is_in_form x bytes).0 none in
    let why : Explains x bytes p.lines p.more None
    = subst (Explains x bytes p.lines p.more) none p.why in
    record {
      events = p.events;
      events_are = ap (λ lines. map event_of lines)
          (p.lines_are ∙ ap (λ more. p.lines ++ more) why.0 ∙ append-nil p.lines) ∙ p.events_are;
      whole = form.whole;
      written = λ w before.
          let k = h.1.reports bytes w left before in
          k.1 ∙ ap Some (k.2 ∙ ap (λ l. w ++ o.held ++ l) (p.written
          ∙ ap (λ v. delivered_lines (run_over x p.events).delivered
          ++ last_line (counts_of (run_over x p.events).kept) v) none));
      in_order = p.in_order;
    }
