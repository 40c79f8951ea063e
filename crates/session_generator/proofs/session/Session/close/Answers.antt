use Rattle.std.proofs.{Common.refl, lemmas.Result.err_from_is_err_and}
use Rattle.session_generator.proofs.Sending.{end_stopped_says, ended_says}
use Rattle.session_generator.proofs.session.Session.close.Goals as goal

pub unreachable-requires : goal.unreachable-requires
unreachable-requires c = c.requires c.in-Err.ensures.refused

pub unreachable-unreachable : goal.unreachable-unreachable
unreachable-unreachable c = c.unreachable.result

pub slice_bounds-read-end : goal.slice_bounds-read-end
slice_bounds-read-end c = refl

pub returns-in_err-read-clause-ended : goal.returns-in_err-read-clause-ended
returns-in_err-read-clause-ended c =
    let p = err_from_is_err_and c.from_residual.result c.from_residual.ensures.1 in rw p.1 tt

pub returns-in_err-read-clause-stopped : goal.returns-in_err-read-clause-stopped
returns-in_err-read-clause-stopped c =
    let p = err_from_is_err_and c.from_residual.result c.from_residual.ensures.1 in
    rw (p.1, p.2)
    (end_stopped_says c.args.self c.in-Ok.end c.in-Ok.ensures.byte c.read.new.receiver
    c.taken-taken.ensures.within c.in_err-read.field-0.0 c.in_err-read.ensures.answered)

pub returns-clause-ended : goal.returns-clause-ended
returns-clause-ended c =
    ended_says c.args.self c.in-Ok.end c.in-Ok.ensures.byte c.read.new.receiver
    c.taken-taken.ensures.within c.in_ok-read.ensures.answered
    (record {
      sender = c.end.new.self;
      receiver = c.read.new.receiver;
      documents = c.messages.result;
      bytes = c.taken.result;
    })
    refl c.in-Ok.ensures.closed c.end.ensures.names c.end.ensures.kept c.read.ensures.settings
    c.messages.ensures.stands c.taken.ensures.stands c.taken.ensures.within
