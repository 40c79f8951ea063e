use Rattle.std.proofs.Common.{[], ◌∷◌, sym, refl, ap, ◌∙◌, inl, inr, not}
use Rattle.client.specs.declared.lane_writer.LaneWriter.{LaneWriter}
use Rattle.client.proofs.{LaneDone.ended_so, LaneWriting.none_is, LaneWriting.none_or}
use Rattle.client.proofs.lane_writer.LaneWriter.finish.Goals.{then-is_none+then-is_going, else-is_none}
use Rattle.client.proofs.lane_writer.LaneWriter.finish.Goals.{else-is_none-via-then-is_none+else-is_going}
use Rattle.client.proofs.lane_writer.LaneWriter.finish.Goals.{else-is_none-via-else-is_none}
use Rattle.client.proofs.lane_writer.LaneWriter.finish.Goals as goal

pub returns-clause-sent : goal.returns-clause-sent
returns-clause-sent g c = λ first all h.
    let m = c.args.self.now in
    let s = c.if-is_none.self in
    let k = g.K.Sink.view c.args.sink.now in
    let last = g.K.Sink.view c.if-is_none.sink in
    rw c.end.ensures.kept (elim c.if-is_none.branch [
      | then-is_none+then-is_going w ↦ ended_so first all m s _ k last (7 ∷ []) c.len.result
          c.min-whole.result h (ap (λ (v : LaneWriter). v.unfit) w.self-is)
          (ap (λ (v : LaneWriter). v.tags.items) w.self-is) refl refl (c.len.ensures ∙ s.tags.ok.0)
          c.len.type_inv c.min-whole.ensures c.truncate.ensures.items
          (inl (
            w.if-is_going.ensures.going refl,
            none_is m.unfit (c.is_none.ensures ∙ ap not w.if-is_none.true),
            refl,
          ))
          (λ parts given. rw (w.self-is, w.sink-is) (w.close.ensures.closed first parts given))
      | else-is_none w ↦ ended_so first all m s _ k last [] c.len.result
          c.min-whole.result h (ap (λ (v : LaneWriter). v.unfit) w.self-is)
          (ap (λ (v : LaneWriter). v.tags.items) w.self-is) refl refl (c.len.ensures ∙ s.tags.ok.0)
          c.len.type_inv c.min-whole.ensures c.truncate.ensures.items
          (inr (
            (λ done fits. elim w.else-is_none.branch [
              | else-is_none-via-then-is_none+else-is_going w' ↦
                  let never = w'.if-is_going.ensures.stopped refl in
                  never (sym (w.close-else-is_none.ensures.stopped never).0
                  ∙ sym (ap (λ (v : LaneWriter). v.parts.outbound) w.self-is) ∙ done)
              | else-is_none-via-else-is_none w' ↦
                  none_or m.unfit (c.is_none.ensures ∙ ap not w'.if-is_none.false) fits
            ]),
            refl,
          ))
          (λ parts given. rw (w.self-is, w.sink-is)
          (w.close-else-is_none.ensures.closed first parts given))
    ])
