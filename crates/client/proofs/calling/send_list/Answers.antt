use Rattle.std.proofs.Common.{List, sym, ap, ◌∙◌, subst, take, take_all}
use Rattle.std.specs.Vec.{vec_len}
use Rattle.nbfx_values.specs.declared.content.Item.{Item}
use Rattle.client.specs.declared.settings.CallSettings.{CallSettings}
use Rattle.client.specs.LaneWriting.{HasEnded, IsWriting, of_list, Tagged}
use Rattle.client.proofs.LaneDone.{list-more, one_taken, sends_list}
use Rattle.client.proofs.LaneWriting.{unwritten}
use Rattle.client.proofs.calling.send_list.Goals as goal

pub loop-doc-init : goal.loop-doc-init
loop-doc-init g c = record {
  settings = c.new-writer.ensures.settings;
  writing = unwritten (g.K.Sink.view c.args.sink.now) c.new-writer.result
      c.new-writer.ensures.unwritten;
}

pub loop-doc-preserved : goal.loop-doc-preserved
loop-doc-preserved g c =
    let l = c.loop-doc in
    let docs : List (List Item) = c.args.docs.now in
    let d = c.doc-item in
    let same = c.as_slice-doc-items.ensures in
    let below = rw same at c.loop-doc-test.true in
    let is = rw same at d.is in record {
      settings = c.send.ensures.set.settings ∙ l.invariant.settings;
      writing = subst (λ (t : Tagged). IsWriting (g.K.Sink.view c.args.sink.now) t c.send.new.self
          (g.K.Sink.view c.send.new.sink))
          (sym (list-more (take l.doc-index docs) d.result)
          ∙ ap of_list (one_taken docs l.doc-index d.result below is))
          (c.send.ensures.writing (g.K.Sink.view c.args.sink.now) (of_list (take l.doc-index docs))
          l.invariant.writing);
    }

pub returns-clause-sends : goal.returns-clause-sends
returns-clause-sends g c = λ start before puts flushed.
    let l = c.loop-doc in
    let docs : List (List Item) = c.args.docs.now in
    let k = g.K.Sink.view c.args.sink.now in
    let w = c.finish.new.self in
    let o = c.into_outcome-tags.ensures in
    let all = subst (λ (t : List (List Item)). IsWriting k (of_list t) l.writer
    (g.K.Sink.view l.sink)) (take_all l.doc-index docs
    (rw c.as_slice-doc-items.ensures at c.loop-doc-test.false)) l.invariant.writing in
    let ended = subst (λ (s : CallSettings). HasEnded s k (of_list docs) w
    (g.K.Sink.view c.finish.new.sink)) l.invariant.settings
    (c.finish.ensures.sent k (of_list docs) all) in
    rw (o.outbound, c.len.ensures ∙ ap vec_len o.tags ∙ w.tags.ok.0)
    (sends_list c.args.settings docs k (g.K.Sink.view c.finish.new.sink) w c.requires ended start
    before puts flushed)
