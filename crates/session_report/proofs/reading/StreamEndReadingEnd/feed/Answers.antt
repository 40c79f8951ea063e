use Rattle.session_report.proofs.Saying.{answer_said}
use Rattle.session_report.proofs.reading.StreamEndReadingEnd.feed.Goals as goal

pub returns-in-Ok-event-clause-answers : goal.returns-in-Ok-event-clause-answers
returns-in-Ok-event-clause-answers c = λ p stands on.
    let e = c.in-Ok.ensures in
    answer_said c.args.self.now.reader c.feed.new.self e.settings p c.args.piece.now c.in-Ok.n
    c.in-Ok.step c.in-Ok-event.event (e.stands p stands) c.in-Ok-event.ensures
    (e.answers p stands on)
