use Rattle.std.proofs.lemmas.Result.{err_from_is_err_and}
use Rattle.rehearsal.specs.PlayerState.{set_to}
use Rattle.rehearsal.proofs.Happening.{line-played, line-refused}
use Rattle.rehearsal.proofs.reader.HistoryLinesLineEnd.line.Goals as goal

pub returns-clause-answers : goal.returns-clause-answers
returns-clause-answers c = λ z plays.
    line-played (set_to c.args.self.now) z c.args.line.now c.play.new.self
    c.in_ok-played.played (c.in_ok-played.ensures.answers z plays)

pub returns-in_err-played-clause-answers : goal.returns-in_err-played-clause-answers
returns-in_err-played-clause-answers c = λ z plays.
    let r = err_from_is_err_and c.from_residual.result c.from_residual.ensures.1 in
    rw (r.1, r.2) (line-refused (set_to c.args.self.now) z c.args.line.now c.play.new.self
    c.in_err-played.field-0.0 (c.in_err-played.ensures.answers z plays))
