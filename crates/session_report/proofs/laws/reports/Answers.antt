use Rattle.session_report.proofs.Sessions.{reports_events}
use Rattle.session_report.proofs.laws.reports.Goals as goal

pub returns : goal.returns
returns c = λ d x bytes. reports_events d x bytes
