use Rattle.std.proofs.Common.{◌≡◌, ℕ, List, length, ap, ◌∙◌}
use Rattle.{unit_streams.specs.Grammar.standing, string_tables.specs.SessionStrings.used_cost}
use Rattle.nbfx_values.specs.QuotasOf.{limits_of}
use Rattle.stream_reader.specs.Stream.{stream, strings_in}
use Rattle.session_generator.{specs.Documents.documents, proofs.Measuring.measured_line}
use Rattle.session_generator.proofs.summary.measure.Goals as goal

pub returns : goal.returns
returns c =
    let h = c.in_ok-ends.ensures.ends in
    let ends = c.in_ok-ends.ends in
    let strings : c.table-table.result.now.strings ≡ h.session.1.strings =
    c.table-table.ensures.stands h.session.0 h.read
    ∙ ap (λ s. strings_in (standing (stream s) h.session.0).situation) h.settings
    ∙ h.same_strings in (
      record { session = h.session; session_is = h.session_is; unrefused = h.unrefused },
      measured_line (limits_of c.args.quotas.now) c.args.statics.now
          (documents c.args.seed c.args.count) h.session h.session_is ends.documents ends.bytes
          c.len.result c.used.result h.documents_read h.bytes_read
          (c.len.ensures.count ∙ ap length strings) (c.used.ensures.cost ∙ ap used_cost strings),
    )
