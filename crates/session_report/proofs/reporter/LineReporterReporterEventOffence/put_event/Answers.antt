use Rattle.{std.proofs.lemmas.Result.err_from_is_err_and, io_edges.proofs.Putting.Puts-then}
use Rattle.session_report.proofs.Saying.{said_cut}
use Rattle.session_report.proofs.reporter.LineReporterReporterEventOffence.put_event.Goals as goal

pub returns-in_err-put_line-clause-puts : goal.returns-in_err-put_line-clause-puts
returns-in_err-put_line-clause-puts g c =
    let r = err_from_is_err_and c.from_residual.result c.from_residual.ensures.1 in
    rw (r.1, r.2) (said_cut c.args.self.now.detail c.args.event.now c.in_err-put_line.ensures)

pub returns-in-Whole-clause-puts : goal.returns-in-Whole-clause-puts
returns-in-Whole-clause-puts g c =
    rw c.in-Whole.is (Puts-then _ c.in_ok-put_line.ensures c.put_document.ensures)
