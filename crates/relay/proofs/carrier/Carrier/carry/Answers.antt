use Rattle.std.proofs.Common.{sym, refl, ◌∙◌}
use Rattle.nbfx_encoder.specs.{Sending.kind_in, Sending.limits_in, Sending.names_in}
use Rattle.nbfx_encoder.specs.{Spelling.encoded}
use Rattle.relay.proofs.Putting.{carrying_same, late, none_is, none_or, put_envelope, put_nothing}
use Rattle.relay.proofs.Putting.{put_same, put_stopped, put_unable, refuses_same, unstopped}
use Rattle.relay.proofs.carrier.Carrier.carry.Goals.{then-not-is_going-via-then-not-is_going}
use Rattle.relay.proofs.carrier.Carrier.carry.Goals.{then-not-is_going-via-else-not-is_going+then-is_some}
use Rattle.relay.proofs.carrier.Carrier.carry.Goals as goal

-- nothing more is written
pub returns-then-not-is_going-clause-carried : goal.returns-then-not-is_going-clause-carried
returns-then-not-is_going-clause-carried g c = λ x first events received same set h.
    elim c.then-not-is_going.branch [
      | then-not-is_going-via-then-not-is_going w ↦ put_stopped x first events received
          c.args.self.now (g.K.Sink.view c.args.sink.now) h (w.if-not-is_going.ensures.stopped refl)
      | then-not-is_going-via-else-not-is_going+then-is_some w ↦ put_unable x first events
          c.args.self.now (g.K.Sink.view c.args.sink.now) h received
          (none_or c.args.self.now.unfit (sym w.is_some.ensures ∙ w.if-is_some.true))
    ]

-- an envelope more
pub returns-in-Ok-clause-carried : goal.returns-in-Ok-clause-carried
returns-in-Ok-clause-carried g c = λ x first events received same set h.
    let m = c.args.self.now in
    let e = c.in-Ok.ensures in
    let p = c.end_part.ensures in
    put_envelope x first events received m (g.K.Sink.view c.args.sink.now) h
    (c.if-not-is_going.ensures.going refl)
    (none_is m.unfit (sym c.is_some.ensures ∙ c.if-is_some.false)) set e.ready _
    c.message.new.self (g.K.Sink.view c.end_part.new.sink) c.message.new.out.items
    (rw same e.written) e.state refl refl
    (λ parts next given bytes counts. p.given first parts next (record {
      earlier = m.parts.gathered.items;
      length_is = sym (c.len-before.ensures ∙ m.parts.gathered.ok.0);
      taken = given;
      bytes = bytes;
      counts = counts;
    })) p.little

pub returns-in-Ok-clause-set : goal.returns-in-Ok-clause-set
returns-in-Ok-clause-set g c = carrying_same c.args.self.now.sender c.message.new.self
    c.args.self.now.opening.items c.message.ensures.kept

pub returns-in-Ok-clause-stopped : goal.returns-in-Ok-clause-stopped
returns-in-Ok-clause-stopped g c = λ stopped. absurd (unstopped c.args.self.now
    (c.if-not-is_going.ensures.going refl)
    (none_is c.args.self.now.unfit (sym c.is_some.ensures ∙ c.if-is_some.false)) stopped)

-- the document doesn't fit, or there was no memory for its envelope
pub returns-in-Err-Refused-clause-carried : goal.returns-in-Err-Refused-clause-carried
returns-in-Err-Refused-clause-carried g c = λ x first events received same set h.
    let m = c.args.self.now in
    let k = g.K.Sink.view c.args.sink.now in
    let e = c.in-Err-Refused.ensures in
    let kept = c.message.ensures.kept in
    let r = refuses_same m.sender c.message.new.self c.args.doc.now c.in-Err-Refused.fault kept
    e.unchanged.1 e.unchanged.2 (rw c.in-Err-Refused.field-0-is at e.refused) in
    c.refuse.ensures.carried x first events received
    (set ∙ sym (carrying_same m.sender c.message.new.self m.opening.items kept)) r.0
    (rw (c.in-Err-Refused.fault-is, same) r.1)
    (put_same x first events m k h _ k (λ parts given. rw e.unchanged.0 given)
    (rw e.unchanged.0 h.little) (λ going. going) e.unchanged.2 e.unchanged.1 refl)

pub returns-in-Err-Refused-clause-set : goal.returns-in-Err-Refused-clause-set
returns-in-Err-Refused-clause-set g c = c.refuse.ensures.set
    ∙ carrying_same c.args.self.now.sender c.message.new.self c.args.self.now.opening.items
    c.message.ensures.kept

pub returns-in-Err-Refused-clause-stopped : goal.returns-in-Err-Refused-clause-stopped
returns-in-Err-Refused-clause-stopped g c = λ stopped. absurd (unstopped c.args.self.now
    (c.if-not-is_going.ensures.going refl)
    (none_is c.args.self.now.unfit (sym c.is_some.ensures ∙ c.if-is_some.false)) stopped)

-- the mode admits no envelope
pub returns-in-Err-WrongMoment-clause-carried : goal.returns-in-Err-WrongMoment-clause-carried
returns-in-Err-WrongMoment-clause-carried g c = λ x first events received same set h.
    let m = c.args.self.now in
    let k = g.K.Sink.view c.args.sink.now in
    let e = c.in-Err-WrongMoment.ensures in
    let going = c.if-not-is_going.ensures.going refl in
    put_nothing x first events received m k h _ k (λ parts given. rw e.unchanged.0 given)
    (rw e.unchanged.0 h.little) (λ on. on) e.unchanged.2 e.unchanged.1 refl
    (λ ready fits. late (encoded (limits_in m.sender) (kind_in m.sender) (names_in m.sender)
    c.args.doc.now) _ _ (rw c.in-Err-WrongMoment.field-0-is at e.refused)
    ((h.is_at going).moment_is ∙ ready))

pub returns-in-Err-WrongMoment-clause-set : goal.returns-in-Err-WrongMoment-clause-set
returns-in-Err-WrongMoment-clause-set g c =
    carrying_same c.args.self.now.sender c.message.new.self c.args.self.now.opening.items
    c.message.ensures.kept

pub returns-in-Err-WrongMoment-clause-stopped : goal.returns-in-Err-WrongMoment-clause-stopped
returns-in-Err-WrongMoment-clause-stopped g c = λ stopped. absurd (unstopped c.args.self.now
    (c.if-not-is_going.ensures.going refl)
    (none_is c.args.self.now.unfit (sym c.is_some.ensures ∙ c.if-is_some.false)) stopped)
