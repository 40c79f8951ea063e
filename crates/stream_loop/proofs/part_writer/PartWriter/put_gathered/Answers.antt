use Rattle.stream_loop.proofs.Parts.{puts_gathered}
use Rattle.stream_loop.proofs.part_writer.PartWriter.put_gathered.Goals as goal

pub returns-clause-given : goal.returns-clause-given
returns-clause-given g c = λ first parts h.
    let m = c.args.self.now in
    rw (c.clear.ensures.items, c.clear-2.ensures.items)
    (puts_gathered first parts m.whole
    m.gathered.items m.ends.items (g.K.Sink.view c.args.sink.now) (rw c.requires.going at h)
    c.put_parts-put.result.0 c.put_parts-put.result.1 c.ends_within-self.result
    (g.K.Sink.view c.put_parts-put.new.sink) (rw c.deref.ensures.value at c.put_parts-put.ensures.puts)
    (rw c.deref-2.ensures.value at c.ends_within-self.ensures))
