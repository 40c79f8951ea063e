use Rattle.session_report.proofs.Saying.{says_accepted, says_ended, says_fault, says_message}
use Rattle.session_report.proofs.Saying.{says_opened}
use Rattle.session_report.proofs.reading.StreamEnd.event.Goals as goal

pub returns-in_ok-via-in-Opened : goal.returns-in_ok-via-in-Opened
returns-in_ok-via-in-Opened c =
    says_opened c.args.self.now.reader c.args.step c.in-Opened.mode c.in-Opened.kind
    c.in_ok-via-in-Opened.via c.in-Opened.is c.in_ok-via-in-Opened.ensures

pub returns-in-Accepted : goal.returns-in-Accepted
returns-in-Accepted c = says_accepted c.args.self.now.reader c.args.step c.in-Accepted.is

pub returns-in-Ended : goal.returns-in-Ended
returns-in-Ended c =
    says_ended c.args.self.now.reader c.args.step c.in-Ended.bytes c.in-Ended.is

pub returns-in_ok-text-in-PeerFault : goal.returns-in_ok-text-in-PeerFault
returns-in_ok-text-in-PeerFault c =
    says_fault c.args.self.now.reader c.args.step c.in-PeerFault.bytes
    c.in_ok-text-in-PeerFault.text c.in-PeerFault.is c.in_ok-text-in-PeerFault.ensures

pub returns-in-Message : goal.returns-in-Message
returns-in-Message c =
    let m = c.in-Message in
    let e = c.envelope.ensures in
    says_message c.args.self.now.reader c.args.step m.number m.size m.strings m.used m.doc
    c.envelope.result m.is c.args.self.now.good e.number e.size e.strings e.used e.doc e.content
