use Rattle.std.proofs.Common.{false, [], refl}
use Rattle.nbfx_values.specs.QuotasOf.{limits_of}
use Rattle.stream_loop.proofs.Parts.{given_stopped}
use Rattle.stream_loop.specs.Parts.{part}
use Rattle.duplex_server.{specs.Jobs.part_for, proofs.Replies.stands_idle}
use Rattle.duplex_server.proofs.reply_writer.ReplyWriter.work.Goals as goal

pub returns-then-not-is_going-clause-stands : goal.returns-then-not-is_going-clause-stands
returns-then-not-is_going-clause-stands g c = λ first parts s h.
    let m = c.args.self.now in
    let stopped = c.if-not-is_going.ensures.stopped refl in
    record {
      given = given_stopped first
          parts m.parts.whole m.parts.gathered.items m.parts.ends.items (g.K.Sink.view
          c.args.sink.now)
          m.parts.outbound (part_for m.statics.now (limits_of m.quotas) s c.args.job) stopped
          h.given;
      is_at = λ going. absurd (stopped going);
      little = h.little;
    }

pub returns-in-Ack-clause-stands : goal.returns-in-Ack-clause-stands
returns-in-Ack-clause-stands g c = λ first parts s h.
    rw c.in-Ack.is (c.open.ensures.stands first parts s h)

pub returns-in-Answer-clause-stands : goal.returns-in-Answer-clause-stands
returns-in-Answer-clause-stands g c = λ first parts s h.
    rw c.in-Answer.is (c.answer.ensures.stands first parts s h)

pub returns-in-TooLarge-clause-stands : goal.returns-in-TooLarge-clause-stands
returns-in-TooLarge-clause-stands g c = λ first parts s h.
    rw c.in-TooLarge.is (c.answer-in-TooLarge.ensures.stands first parts s h)

-- nothing is due
pub returns-in-Last-clause-stands : goal.returns-in-Last-clause-stands
returns-in-Last-clause-stands g c = λ first parts s h.
    rw c.in-Last.is (stands_idle
    first parts s c.args.self.now (g.K.Sink.view c.args.sink.now) (part [] false)
    (c.if-not-is_going.ensures.going refl) refl refl h)

pub returns-in-Back-clause-stands : goal.returns-in-Back-clause-stands
returns-in-Back-clause-stands g c = λ first parts s h.
    rw c.in-Back.is (stands_idle
    first parts s c.args.self.now (g.K.Sink.view c.args.sink.now) (part [] false)
    (c.if-not-is_going.ensures.going refl) refl refl h)
