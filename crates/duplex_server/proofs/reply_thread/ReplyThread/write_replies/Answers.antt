use Rattle.std.proofs.Common.{false, refl}
use Rattle.duplex_server.proofs.Done.{done_none}
use Rattle.duplex_server.proofs.reply_thread.ReplyThread.write_replies.Goals as goal

pub work_on-pass-requires-clause-begins : goal.work_on-pass-requires-clause-begins
work_on-pass-requires-clause-begins g c =
    done_none g.K.Sink.view g.K.Sink.ended
    record { writer = c.new.result; sink = c.args.sink; begun = false; spent = c.args.spent }
    c.new.ensures.fresh
    c.new.ensures.unopened refl
