use Rattle.session_report.proofs.Sessions.{reports_sessions}
use Rattle.session_report.proofs.laws.session_reports.Goals as goal

pub returns : goal.returns
returns c =
    λ d x good parts session rest is follow. reports_sessions d x good parts session rest is
    follow
