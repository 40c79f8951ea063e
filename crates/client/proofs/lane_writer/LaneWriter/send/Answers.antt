use Rattle.std.proofs.Common.{[], ◌∷◌, ◌++◌, sym, refl, ap, ◌∙◌}
use Rattle.client.proofs.LaneWriting.{none_is, none_or, refuses_same, set_as}
use Rattle.client.proofs.LaneWriting.{writing_on, writing_one, writing_still}
use Rattle.client.proofs.lane_writer.LaneWriter.send.Goals.{then-not-is_going-via-then-not-is_going}
use Rattle.client.proofs.lane_writer.LaneWriter.send.Goals.{then-not-is_going-via-else-not-is_going+then-is_some}
use Rattle.client.proofs.lane_writer.LaneWriter.send.Goals as goal

pub returns-then-not-is_going-clause-writing : goal.returns-then-not-is_going-clause-writing
returns-then-not-is_going-clause-writing g c = λ first all h.
    writing_still first c.args.self.now (g.K.Sink.view c.args.sink.now) all
    ((c.args.lane, c.args.doc.now) ∷ [])
    (λ going fits. elim c.then-not-is_going.branch [
      | then-not-is_going-via-then-not-is_going w ↦ w.if-not-is_going.ensures.stopped refl going
      | then-not-is_going-via-else-not-is_going+then-is_some w ↦
          none_or c.args.self.now.unfit (sym w.is_some.ensures ∙ w.if-is_some.true) fits
    ]) h

pub returns-then-is_err-clause-writing : goal.returns-then-is_err-clause-writing
returns-then-is_err-clause-writing g c = λ first all h.
    let k = g.K.Sink.view c.args.sink.now in
    c.run_out.ensures.writing first all ((c.args.lane, c.args.doc.now) ∷ [])
    (writing_on first c.args.self.now _ k k all refl (λ set. set) refl refl refl
    c.reserve.ensures.items (λ stopped. refl) (λ parts given. given) h)

pub returns-in-Ok-clause-writing : goal.returns-in-Ok-clause-writing
returns-in-Ok-clause-writing g c = λ first all h.
    let m = c.args.self.now in
    let e = c.in-Ok.ensures in
    writing_one first m _ (g.K.Sink.view c.args.sink.now) (g.K.Sink.view c.end_part.new.sink) _ all
    c.args.lane c.args.doc.now (c.if-not-is_going.ensures.going refl)
    (none_is m.unfit (sym c.is_some.ensures ∙ c.if-is_some.false)) refl refl
    (c.push_reserved.ensures.items ∙ ap (λ l. l ++ c.args.lane ∷ []) c.reserve.ensures.items)
    refl refl refl e.written e.state c.message.ensures.kept
    (λ parts next more. c.end_part.ensures.given first parts next
    (rw (c.len-before.ensures ∙ m.parts.gathered.ok.0) more)) h

pub returns-in-Err-Refused-clause-writing : goal.returns-in-Err-Refused-clause-writing
returns-in-Err-Refused-clause-writing g c = λ first all h.
    let m = c.args.self.now in
    let k = g.K.Sink.view c.args.sink.now in
    let e = c.in-Err-Refused.ensures in
    let kept = c.message.ensures.kept in
    let refuses = refuses_same m.sender c.message.new.self c.args.doc.now c.in-Err-Refused.fault
    kept e.unchanged.1 (rw c.in-Err-Refused.field-0-is at e.refused) in
    c.refuse.ensures.writing first all c.args.lane c.args.doc.now
    (rw (← c.in-Err-Refused.fault-is) at refuses)
    (writing_on first m _ k k all refl (set_as m.settings m.sender c.message.new.self kept)
    e.unchanged.1 e.unchanged.2 refl c.reserve.ensures.items (λ stopped. refl)
    (λ parts given. rw e.unchanged.0 given) h)
