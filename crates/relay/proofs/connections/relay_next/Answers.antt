use Rattle.std.proofs.Common.{refl}
use Rattle.std.specs.Prelude.{⊤}
use Rattle.stream_loop.proofs.Counts.{counts_as}
use Rattle.io_edges.specs.Wires.{Network, network_at}
use Rattle.relay.specs.{Opening.relay_by, Relayed.Relay}
use Rattle.relay.proofs.Ends.{connect_failed, handed_over, none_handed, relays_one, taken_back}
use Rattle.relay.proofs.connections.relay_next.Given.{Over}
use Rattle.relay.proofs.connections.relay_next.Goals as goal

module _ (g : Over) where
  abbrev seen : g.row.W.Denot → Network g.row.W-Reader.Denot g.row.W-Writer.Denot
  seen wire = network_at g.W.Wire.waiting g.W.Wire.closed g.W.Wire.out g.W.Wire.faults
      g.W.Wire.end_faults wire

pub returns-in_default-connect : goal.returns-in_default-connect
returns-in_default-connect g c =
    let x : Relay = relay_by c.args.settings in
    let r = g.W.Reader.Source in
    let w = g.W.Writer.Sink in
    let a = c.in_ok-front.ensures in
    let found = c.in-Some.is in
    let front = c.in-Some.front in
    let e = c.in_default-connect.ensures in
    let k = c.close.ensures in
    let n = seen g c.args.wire.now in
    let accepted = seen g c.accept.new.self in
    let failed = seen g c.connect.new.self in
    let n' = seen g c.close.new.self in
    connect_failed x r.left r.taken r.faults r.empty_takes w.view n accepted failed n' front
    (handed_over x r.left r.taken r.faults r.empty_takes w.view n accepted front front
    (rw found at a.handed) (rw found at a.reader) (rw found at a.writer) a.ended
    (a.counted.same (λ e. cc)))
    (none_handed x r.left r.taken r.faults r.empty_takes w.view accepted failed e.failed e.ended
    e.failed_out (counts_as accepted.faults failed.faults _ ⊤ (λ is. tt) (λ u. refl) e.counted))
    (taken_back x r.left r.taken r.faults r.empty_takes w.view failed n' front front k.closed
    k.waiting k.counted k.faults)
    (rw found at a.out) k.out

pub returns : goal.returns
returns g c =
    let x : Relay = relay_by c.args.settings in
    let r = g.W.Reader.Source in
    let w = g.W.Writer.Sink in
    let a = c.in_ok-front.ensures in
    let found = c.in-Some.is in
    let front = c.in-Some.front in
    let b = c.in-Ok.ensures in
    let back = c.in-Ok.back in
    let run = c.relay-outcome in
    let front' : g.row.W-Reader.Denot × g.row.W-Writer.Denot =
    (run.new.front_in, run.new.front_out) in
    let back' : g.row.W-Reader.Denot × g.row.W-Writer.Denot =
    (run.new.back_in, run.new.back_out) in
    let k = c.close-2.ensures in
    let l = c.close-3.ensures in
    let n = seen g c.args.wire.now in
    let accepted = seen g c.accept.new.self in
    let connected = seen g c.connect.new.self in
    let front_closed = seen g c.close-2.new.self in
    let n' = seen g c.close-3.new.self in
    relays_one x r.left r.taken r.faults r.empty_takes w.view n accepted connected front_closed n'
    front front' back back' run.result
    (handed_over x r.left r.taken r.faults r.empty_takes w.view n accepted front front'
    (rw found at a.handed) (rw found at a.reader) (rw found at a.writer) a.ended
    (a.counted.same (λ e. cc)))
    (handed_over x r.left r.taken r.faults r.empty_takes w.view accepted connected back back'
    b.handed b.reader b.writer b.ended (b.counted.same (λ e. cc)))
    run.ensures.relayed
    (taken_back x r.left r.taken r.faults r.empty_takes w.view connected front_closed front front'
    k.closed k.waiting k.counted k.faults)
    (taken_back x r.left r.taken r.faults r.empty_takes w.view front_closed n' back back' l.closed
    l.waiting l.counted l.faults)
    (rw found at a.out) b.out k.out l.out
