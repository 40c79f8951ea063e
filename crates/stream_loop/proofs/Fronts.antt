-- What holds of reports that end in any way, for any grammar and whatever is written.
use Rattle.std.proofs.Common.{ℕ, List, ◌++◌, length, sym, ap, ◌∙◌, append_assoc, arith, take_all}
use Rattle.io_edges.specs.Flow.{GrowsByPrefix}
use Rattle.unit_streams.specs.{Grammar.Grammar, Tellers.report, Tellers.Teller}
use Rattle.stream_loop.specs.{declared.reporting.ReportEnding.ReportEnding, Reported.Reports}
use Rattle.stream_loop.specs.{Edges.Input, Laws.FrontsAreWritten, Laws.JudgedByBytes}
use Rattle.io_edges.specs.Views.{SinkView}
use Rattle.stream_loop.specs.declared.reporting.ReportEnding.TheVariants as endings

module _ {Z U E R S : Type 0} (g : Grammar Z U E R) (t : Teller S E R) where
  -- all of a report is a front of it
  front_of : (i i' : Input) (o o' : SinkView) (bytes w w' : List ℕ) (ending : ReportEnding R)
      → Reports g t i i' o o' bytes w w' ending → GrowsByPrefix w w' (o.held ++ report g t bytes)
  front_of i i' o o' bytes w w' (endings.Judged judged) h = record {
    kept = length (o.held ++ report g t bytes);
    grown = h ∙ append_assoc w o.held (report g t bytes)
        ∙ ap (λ l. w ++ l) (sym (take_all (length (o.held ++ report g t bytes))
        (o.held ++ report g t bytes) (omega arith)));
  }
  front_of i i' o o' bytes w w' endings.ReadFault h = h
  front_of i i' o o' bytes w w' endings.WriteFault h = h
  front_of i i' o o' bytes w w' endings.Memory h = h

  pub fronts_are_written : FrontsAreWritten g t
  fronts_are_written bytes w state ending r written =
      let k = r.ends.reports bytes w r.bytes_are written in
      (k.0, k.1, front_of r.input r.input' r.output r.output' bytes w k.0 ending k.2)

  pub judged_by_bytes : JudgedByBytes g t
  judged_by_bytes bytes state other a b r s =
      let one = r.ends.judges bytes r.bytes_are in
      let two = s.ends.judges bytes s.bytes_are in
      (sym one.0 ∙ two.0, one.1 ∙ sym two.1)
