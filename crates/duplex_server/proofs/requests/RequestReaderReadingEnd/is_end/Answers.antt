use Rattle.std.proofs.Common.{sym, ap, ◌∙◌}
use Rattle.receiver_machine.specs.ReceiverState.{settings_of}
use Rattle.duplex_server.proofs.NoAcks.{end_told, ends_by}
use Rattle.duplex_server.proofs.requests.RequestReaderReadingEnd.is_end.Goals as goal

pub returns-in-Ended : goal.returns-in-Ended
returns-in-Ended c = λ p event there says.
    sym (ap ends_by c.in-Ended.is)
    ∙ end_told (settings_of c.args.self.now.receiver) c.args.self.now.initiators p event there
    c.args.event.now says

pub returns-in-Opened : goal.returns-in-Opened
returns-in-Opened c = λ p event there says.
    sym (ap ends_by c.in-Opened.is)
    ∙ end_told (settings_of c.args.self.now.receiver) c.args.self.now.initiators p event there
    c.args.event.now says

pub returns-in-Received : goal.returns-in-Received
returns-in-Received c = λ p event there says.
    sym (ap ends_by c.in-Received.is)
    ∙ end_told (settings_of c.args.self.now.receiver) c.args.self.now.initiators p event there
    c.args.event.now says
