use Rattle.std.proofs.Common.{ℕ, ◌+◌, [], ◌∷◌, ◌++◌, sym, refl, ap, ◌∙◌, subst}
use Rattle.std.proofs.Common.{arith}
use Rattle.std.proofs.Common.{length-append}
use Rattle.io_edges.specs.Wires.{Network, network_at}
use Rattle.duplex_server.specs.Served.{Ends, ends_at}
use Rattle.session_pool.specs.Serving.{AreServing}
use Rattle.session_pool.proofs.Pooled.{hands_more, hands_none, serving_more, serving_none}
use Rattle.session_pool.proofs.pooling.accept_each.Given.{Over}
use Rattle.session_pool.proofs.pooling.accept_each.Goals as goal

module _ (g : Over) where
  abbrev seen_at : g.row.W.Denot → Network g.row.W-Reader.Denot g.row.W-Writer.Denot
  seen_at wire = network_at g.W.Wire.waiting g.W.Wire.closed g.W.Wire.out g.W.Wire.faults
      g.W.Wire.end_faults wire

  abbrev ends : g.row.W-Reader.Denot × g.row.W-Writer.Denot → Ends
  ends both = ends_at g.W.Reader.Source.left g.W.Reader.Source.taken g.W.Reader.Source.faults
      g.W.Reader.Source.empty_takes g.W.Writer.Sink.view both

pub loop-number-init : goal.loop-number-init
loop-number-init g c =
    let r = g.W.Reader.Source in (
      [],
      hands_none (ends g) (seen_at g c.args.wire.now),
      subst (AreServing g.V.Service.served r.left r.taken r.faults r.empty_takes
          g.W.Writer.Sink.view c.args.server.now c.args.most []) (sym c.requires.none.0)
          (serving_none g.V.Service.served r.left r.taken r.faults r.empty_takes
          g.W.Writer.Sink.view c.args.server.now c.args.most),
      refl,
      c.requires.none.1,
      c.requires.room,
      refl,
    )

pub loop-number-preserved : goal.loop-number-preserved
loop-number-preserved g c =
    let r = g.W.Reader.Source in
    let i = c.loop-number.invariant in
    let a = c.in-Ok.ensures in
    let found = c.in-Some.is in
    let one = c.in-Some.ends in
    let reads = rw found at a.reader in
    let writes = rw found at a.writer in
    let size = length-append i.0 (one ∷ []) in
    let length_is = i.3 in
    let room = i.5 in
    let capacity = c.push_reserved.ensures.capacity in (
      i.0 ++ one ∷ [],
      hands_more (ends g) i.0 one (seen_at g c.args.wire.now) (seen_at g c.loop-number.wire)
          (seen_at g c.accept.new.self) i.1 (rw found at a.handed) (record {
            unread = reads.0;
            nothing_taken = reads.1;
            unwritten = writes.0;
            nothing_written = writes.1;
            nothing_held = writes.2;
          }) (rw found at a.out) a.ended.0 a.ended.1,
      subst (AreServing g.V.Service.served r.left r.taken r.faults r.empty_takes
          g.W.Writer.Sink.view c.args.server.now c.args.most (i.0 ++ one ∷ []))
          (sym c.push_reserved.ensures.items)
          (serving_more g.V.Service.served r.left r.taken r.faults r.empty_takes
          g.W.Writer.Sink.view c.args.server.now c.args.most i.0 c.loop-number.turnings.items one
          c.start_turns.result i.2 c.start_turns.ensures),
      omega (arith, size, length_is),
      c.push_reserved.ensures.len ∙ ap (λ (n : ℕ). n + 1) i.4,
      omega (arith, room, capacity),
      a.counted.same (λ e. cc) ∙ i.6,
    )
