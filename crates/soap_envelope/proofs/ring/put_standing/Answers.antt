use Rattle.std.proofs.Common.{length, sym, ap, ◌∙◌}
use Rattle.soap_envelope.specs.{Layers.needs_of}
use Rattle.soap_envelope.proofs.Turning.{turned-on}
use Rattle.soap_envelope.proofs.ring.put_standing.Goals as goal

pub loop-i-preserved : goal.loop-i-preserved
loop-i-preserved c =
    let items = c.from_vec-ring.result.items in
    let all = c.len-count.ensures
    ∙ ap length (sym (c.from_vec-ring.ensures.items ∙ c.into_vec.ensures)) in
    turned-on (needs_of c.args.needs.now) items c.loop-i.i c.loop-i.inner c.loop-i.ring.items
    c.loop-i.invariant c.len-count.result all c.loop-i-test.true c.in-Some.item
    c.pop_front.new.self.items c.put_item.new.ring.items c.in_ok-inner.inner
    c.in-Some.ensures.items c.in_ok-inner.ensures.behind c.in_ok-inner.ensures.put
