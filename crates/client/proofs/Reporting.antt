-- What is written of a call's report, and of the line behind it.
use Rattle.std.proofs.Common.{◌≡◌, ℕ, ◌+◌, List, [], ◌++◌, map, length, take, OnOk, Some, Ok}
use Rattle.std.proofs.Common.{Err, Result, sym, refl, ap, ◌∙◌, subst, append_assoc}
use Rattle.std.proofs.{Common.append-nil, Math.Seq.take-append-add, Math.Seq.take-nil}
use Rattle.{std.specs.Prelude.⊤, stream_reader.specs.Stream.StreamEvent}
use Rattle.io_edges.{proofs.Putting.Puts-then, specs.Flow.GrowsByPrefix, specs.Flow.Told}
use Rattle.io_edges.specs.{declared.SinkFault.SinkFault, Faults.CountsFaults}
use Rattle.stream_loop.{proofs.Amounts.wrote_grew, specs.declared.outbound.Outbound.Outbound}
use Rattle.stream_loop.proofs.Grown.{all_written, AllWritten, cut_written, Grew, grew_more}
use Rattle.stream_loop.proofs.Writing.{counted_with, grown_within, known_told}
use Rattle.stream_loop.specs.Writing.{outbound_by, Wrote}
use Rattle.session_report.specs.{declared.reading.Event.Event, Saying.event_for, Saying.said_by}
use Rattle.command_words.specs.declared.task.Detail.TheVariants.{Whole}
use Rattle.client.specs.declared.outcome.ClientIn.{ClientIn, TheVariants.ReadFault}
use Rattle.client.specs.declared.outcome.ClientIn.TheVariants.{Ended, Memory, Offended, PeerFault}
use Rattle.client.specs.Called.{closing_of, ending_of, reached_along, ReportsOf}
use Rattle.client.specs.Peers.{line_after, report_of, WritesDump, WritesReport}
use Rattle.client.specs.Sending.{Finishes}
use Rattle.io_edges.specs.Views.{SinkView}
use Rattle.io_edges.specs.Puts.{Puts}
use Rattle.io_edges.specs.declared.SinkFault.TheVariants as sinks
use Rattle.stream_loop.specs.declared.outbound.Outbound.TheVariants as outbounds

-- first bytes of what comes behind bytes that are written
grown_behind : (w w1 w' before line : List ℕ) → w1 ≡ w ++ before → GrowsByPrefix w1 w' line
    → GrowsByPrefix w w' (before ++ line)
grown_behind w w1 w' before line is grown = record {
  kept = length before + grown.kept;
  grown = grown.grown ∙ ap (λ l. l ++ take grown.kept line) is
      ∙ append_assoc w before (take grown.kept line)
      ∙ ap (λ l. w ++ l) (sym (take-append-add before line grown.kept));
}

module _ (first mid last : SinkView) (line : List ℕ) where
  abbrev All : List ℕ → Type 0
  All = AllWritten first last

  abbrev Part : List ℕ → Type 0
  Part = Grew first last

  module _ (inbound : ClientIn) (events : List StreamEvent) where
    abbrev closing : List ℕ
    closing = closing_of (ending_of inbound) (reached_along (map event_for events))

    abbrev behind : List ℕ
    behind = line_after inbound line

    abbrev Reports : Outbound → Type 0
    Reports report = Told first.written last.written
        (WritesReport line first.held events inbound report)

    whole : All (report_of events inbound ++ behind) → Reports outbounds.Done
    whole all = known_told (WritesReport line first.held events inbound outbounds.Done)
        first.written last.written all

    failed : Part (report_of events inbound ++ behind) → Reports outbounds.WriteFault
    failed part = known_told (WritesReport line first.held events inbound outbounds.WriteFault)
        first.written last.written part

    starved : Part (report_of events inbound ++ behind) → Reports outbounds.Memory
    starved part = known_told (WritesReport line first.held events inbound outbounds.Memory)
        first.written last.written part

    -- behind a report that is all written
    by_answer : Puts first mid (report_of events inbound) (Ok tt)
        → (answer : Result ⊤ SinkFault) → Puts mid last behind answer
        → OnOk answer (last.held ≡ []) → Reports (outbound_by answer)
    by_answer puts (Ok done) more emptied =
        whole (all_written first last
        (report_of events inbound ++ behind) (Puts-then _ puts more) emptied)
    by_answer puts (Err sinks.Failed) more emptied =
        failed (cut_written sinks.Failed first last
        (report_of events inbound ++ behind) (Puts-then _ puts more))
    by_answer puts (Err sinks.Memory) more emptied =
        starved (cut_written sinks.Memory first last
        (report_of events inbound ++ behind) (Puts-then _ puts more))

    -- behind one whose writing has ended
    part_of : (report : Outbound) → mid ≡ last → Wrote (said_by Whole)
        report closing first (map event_for events) (λ s. ⊤) mid
        → Part (report_of events inbound ++ behind)
    part_of report same wrote =
        subst (λ (o : SinkView). Grew first o
        (report_of events inbound ++ behind)) same
        (grew_more first mid (report_of events inbound) behind
        (wrote_grew (said_by Whole) report closing first
        (map event_for events) (λ s. ⊤) mid wrote))

    pub reports : (report report' : Outbound) → Wrote (said_by Whole)
        report closing first (map event_for events) (λ s. ⊤) mid
        → Finishes behind report report' mid last → Reports report'
    reports outbounds.Done report' wrote f =
        let g = f.goes refl in
        subst Reports (sym g.2) (by_answer wrote.puts g.0 g.1 g.3)
    reports outbounds.WriteFault report' wrote f =
        let other : outbounds.WriteFault ≡ outbounds.Done → ⊥ = λ e. cc in
        subst Reports (sym (f.stays other))
        (failed (part_of outbounds.WriteFault (sym (f.untouched other)) wrote))
    reports outbounds.Memory report' wrote f =
        let other : outbounds.Memory ≡ outbounds.Done → ⊥ = λ e. cc in
        subst Reports (sym (f.stays other))
        (starved (part_of outbounds.Memory (sym (f.untouched other)) wrote))

  -- ---- where all bytes are known

  module _ (dump w w1 : List ℕ) (mid_is : mid.written ≡ Some w1) where
    abbrev Dumps : ClientIn → Outbound → Type 0
    Dumps inbound report = (w' : List ℕ) × (last.written ≡ Some w')
        × WritesDump dump line first.held inbound report w w'

    -- what is behind the report
    module _ (behind : List ℕ) (emptied : mid.held ≡ []) where
      abbrev Behind : Result ⊤ SinkFault → List ℕ → Type 0
      Behind (Ok done) w' = w' ≡ w1 ++ behind
      Behind (Err fault) w' = GrowsByPrefix w1 w' behind

      more_written : (answer : Result ⊤ SinkFault)
          → Puts mid last behind answer
          → OnOk answer (last.held ≡ [])
          → (w' : List ℕ) × (last.written ≡ Some w') × Behind answer w'
      more_written (Ok done) puts none =
          let k = all_written mid last behind puts none w1 mid_is in (
            k.0,
            k.1,
            k.2 ∙ ap (λ h. (w1 ++ h) ++ behind) emptied
                ∙ ap (λ l. l ++ behind) (append-nil w1),
          )
      more_written (Err fault) puts none =
          let k = cut_written fault mid last behind puts w1 mid_is in
          (k.0, k.1, subst (λ h. GrowsByPrefix w1 k.0 (h ++ behind)) emptied k.2)

      -- where nothing is behind it, nothing more is written
      nothing_more : behind ≡ [] → (answer : Result ⊤ SinkFault) (w' : List ℕ)
          → Behind answer w' → w' ≡ w1
      nothing_more none (Ok done) w' b = b ∙ ap (λ l. w1 ++ l) none ∙ append-nil w1
      nothing_more none (Err fault) w' b =
          b.grown ∙ ap (λ l. w1 ++ take b.kept l) none ∙ ap (λ l. w1 ++ l) (take-nil b.kept)
          ∙ append-nil w1

    module _ (report report' : Outbound) (emptied : report ≡ outbounds.Done → mid.held ≡ []) where
      -- what is told at last
      at_last : (behind : List ℕ)
          → Finishes behind report report' mid last
          → (w' : List ℕ) × (last.written ≡ Some w') × (behind ≡ [] → w' ≡ w1)
      at_last behind f = by report refl where
        stopped : (report ≡ outbounds.Done → ⊥)
            → (w' : List ℕ) × (last.written ≡ Some w') × (behind ≡ [] → w' ≡ w1)
        stopped other = (
          w1,
          ap (λ (k : SinkView). k.written) (f.untouched other)
              ∙ mid_is,
          λ none. refl,
        )

        by : (r : Outbound) → report ≡ r
            → (w' : List ℕ) × (last.written ≡ Some w') × (behind ≡ [] → w' ≡ w1)
        by outbounds.Done is =
            let g = f.goes is in
            let m = more_written behind (emptied is) g.0 g.1 g.3 in
            (m.0, m.1, λ none. nothing_more behind (emptied is) none g.0 m.0 m.2)
        by outbounds.WriteFault is = stopped (λ e. let both = sym is ∙ e in cc)
        by outbounds.Memory is = stopped (λ e. let both = sym is ∙ e in cc)

      -- behind the report of a stream that was read to its end
      module _ (inbound : ClientIn)
          (wholly : (w' : List ℕ) → w' ≡ w ++ first.held ++ (dump ++ line)
          → WritesDump dump line first.held inbound outbounds.Done w w')
          (failed : (w' : List ℕ) → GrowsByPrefix w w' (first.held ++ (dump ++ line))
          → WritesDump dump line first.held inbound outbounds.WriteFault w w')
          (starved : (w' : List ℕ) → GrowsByPrefix w w' (first.held ++ (dump ++ line))
          → WritesDump dump line first.held inbound outbounds.Memory w w')
        where
          grouped : (w' : List ℕ) → GrowsByPrefix w w' ((first.held ++ dump) ++ line)
              → GrowsByPrefix w w' (first.held ++ (dump ++ line))
          grouped w' g = subst (GrowsByPrefix w w') (append_assoc first.held dump line) g

          with_answer : (all : w1 ≡ w ++ first.held ++ dump) → (none : mid.held ≡ [])
              → (answer : Result ⊤ SinkFault) (w' : List ℕ) → Behind line none answer w'
              → WritesDump dump line first.held inbound (outbound_by answer) w w'
          with_answer all none (Ok done) w' b =
              wholly w' (b ∙ ap (λ l. l ++ line) all ∙ append_assoc (w ++ first.held) dump line)
          with_answer all none (Err sinks.Failed) w' b =
              failed w' (grouped w' (grown_behind w w1 w' (first.held ++ dump) line
              (all ∙ append_assoc w first.held dump) b))
          with_answer all none (Err sinks.Memory) w' b =
              starved w' (grouped w' (grown_behind w w1 w' (first.held ++ dump) line
              (all ∙ append_assoc w first.held dump) b))

          judged_dumps : (report ≡ outbounds.Done → w1 ≡ w ++ first.held ++ dump)
              → ((report ≡ outbounds.Done → ⊥) → GrowsByPrefix w w1 (first.held ++ dump))
              → Finishes line report report' mid last
              → Dumps inbound report'
          judged_dumps all part f = by report refl where
            stopped : (r : Outbound) → report ≡ r → (r ≡ outbounds.Done → ⊥)
                → WritesDump dump line first.held inbound r w w1 → Dumps inbound report'
            stopped r is other dumps =
                let not_done : report ≡ outbounds.Done → ⊥ = λ e. other (sym is ∙ e) in (
                  w1,
                  ap (λ (k : SinkView). k.written) (f.untouched not_done) ∙ mid_is,
                  subst (λ (o : Outbound). WritesDump dump line first.held inbound o w w1)
                      (sym (f.stays not_done ∙ is)) dumps,
                )

            more : (report ≡ outbounds.Done → ⊥) → GrowsByPrefix w w1 (first.held ++ (dump ++ line))
            more other = grouped w1 (grown_within w w1 (first.held ++ dump) line (part other))

            by : (r : Outbound) → report ≡ r → Dumps inbound report'
            by outbounds.Done is =
                let g = f.goes is in
                let m = more_written line (emptied is) g.0 g.1 g.3 in (
                  m.0,
                  m.1,
                  subst (λ (o : Outbound). WritesDump dump line first.held inbound o w m.0)
                      (sym g.2) (with_answer (all is) (emptied is) g.0 m.0 m.2),
                )
            by outbounds.WriteFault is =
                let other : outbounds.WriteFault ≡ outbounds.Done → ⊥ = λ e. cc in
                stopped outbounds.WriteFault is other (failed w1 (more (λ e. other (sym is ∙ e))))
            by outbounds.Memory is =
                let other : outbounds.Memory ≡ outbounds.Done → ⊥ = λ e. cc in
                stopped outbounds.Memory is other (starved w1 (more (λ e. other (sym is ∙ e))))

      -- what a call reports of them
      module _ (inbound : ClientIn) (of : ReportsOf dump first.held w w1 inbound report) where
        judged_all : (ReportsOf dump first.held w w1 inbound outbounds.Done
            → w1 ≡ w ++ first.held ++ dump) → report ≡ outbounds.Done → w1 ≡ w ++ first.held ++ dump
        judged_all to is =
            to (subst (λ (o : Outbound). ReportsOf dump first.held w w1 inbound o) is of)

        judged_part : (ReportsOf dump first.held w w1 inbound outbounds.WriteFault
            → GrowsByPrefix w w1 (first.held ++ dump))
            → (ReportsOf dump first.held w w1 inbound outbounds.Memory
            → GrowsByPrefix w w1 (first.held ++ dump))
            → (report ≡ outbounds.Done → ⊥) → GrowsByPrefix w w1 (first.held ++ dump)
        judged_part one two other = by report refl where
          by : (r : Outbound) → report ≡ r → GrowsByPrefix w w1 (first.held ++ dump)
          by outbounds.Done is = absurd (other is)
          by outbounds.WriteFault is =
              one (subst (λ (o : Outbound). ReportsOf dump first.held w w1 inbound o) is of)
          by outbounds.Memory is =
              two (subst (λ (o : Outbound). ReportsOf dump first.held w w1 inbound o) is of)

      pub dumps : (inbound : ClientIn) → ReportsOf dump first.held w w1 inbound report
          → Finishes (line_after inbound line) report report' mid last
          → Dumps inbound report'
      dumps Ended of f =
          judged_dumps Ended (λ w' e. e) (λ w' g. g) (λ w' g. g)
          (judged_all Ended of (λ e. e)) (judged_part Ended of (λ g. g) (λ g. g)) f
      dumps PeerFault of f =
          judged_dumps PeerFault (λ w' e. e) (λ w' g. g) (λ w' g. g)
          (judged_all PeerFault of (λ e. e)) (judged_part PeerFault of (λ g. g) (λ g. g)) f
      dumps (Offended o) of f =
          judged_dumps (Offended o) (λ w' e. e) (λ w' g. g) (λ w' g. g)
          (judged_all (Offended o) of (λ e. e)) (judged_part (Offended o) of (λ g. g) (λ g. g)) f
      dumps ReadFault of f = let k = at_last line f in (k.0, k.1, tt)
      dumps Memory of f =
          let k = at_last [] f in
          (k.0, k.1, subst (λ v. GrowsByPrefix w v (first.held ++ dump)) (sym (k.2 refl)) of)

-- ---- counts, and what is held

failed_by : (answer : Result ⊤ SinkFault) → outbound_by answer ≡ outbounds.WriteFault
    → answer ≡ Err sinks.Failed
failed_by (Ok done) is = cc
failed_by (Err sinks.Failed) is = refl
failed_by (Err sinks.Memory) is = cc

failed_back : (answer : Result ⊤ SinkFault) → answer ≡ Err sinks.Failed
    → outbound_by answer ≡ outbounds.WriteFault
failed_back answer is = ap outbound_by is

module _ (first mid last : SinkView) where
  -- a report and a line behind it
  pub reports_counted : (behind : List ℕ) (report report' : Outbound)
      → CountsFaults first.faults mid.faults (report ≡ outbounds.WriteFault)
      → Finishes behind report report' mid last
      → CountsFaults first.faults last.faults (report' ≡ outbounds.WriteFault)
  reports_counted behind report report' counted f = by report refl where
    stopped : (report ≡ outbounds.Done → ⊥)
        → CountsFaults first.faults last.faults (report' ≡ outbounds.WriteFault)
    stopped other =
        subst (λ (o : SinkView). CountsFaults first.faults o.faults (report'
        ≡ outbounds.WriteFault))
        (sym (f.untouched other))
        (subst (λ (r : Outbound). CountsFaults first.faults mid.faults
        (r ≡ outbounds.WriteFault)) (sym (f.stays other)) counted)

    by : (r : Outbound) → report ≡ r
        → CountsFaults first.faults last.faults (report' ≡ outbounds.WriteFault)
    by outbounds.Done is =
        let g = f.goes is in
        counted_with _ _ _ _ _ (counted.same (λ e. let both = sym is ∙ e in cc)) g.1.counted
        (λ e. failed_by g.0 (sym g.2 ∙ e)) (λ e. g.2 ∙ failed_back g.0 e)
    by outbounds.WriteFault is = stopped (λ e. let both = sym is ∙ e in cc)
    by outbounds.Memory is = stopped (λ e. let both = sym is ∙ e in cc)

  -- a report that is all written
  pub emptied_by : (closing : List ℕ) (report : Outbound) (events : List Event)
      → Wrote (said_by Whole) report closing first events (λ s. ⊤) mid
      → report ≡ outbounds.Done → mid.held ≡ []
  emptied_by closing outbounds.Done events wrote is = wrote.emptied
  emptied_by closing outbounds.WriteFault events wrote is = cc
  emptied_by closing outbounds.Memory events wrote is = cc
