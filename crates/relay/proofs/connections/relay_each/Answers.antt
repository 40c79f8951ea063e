use Rattle.std.proofs.Common.{◌≡◌, Ok, Err, sym, refl, ◌∙◌, subst}
use Rattle.{std.proofs.lemmas.Result.err_from_is_err_and}
use Rattle.io_edges.specs.Wires.{Network, network_at}
use Rattle.io_edges.specs.{Puts.Puts, Views.SinkView}
use Rattle.relay.specs.declared.outcome.RelayOutcome.{RelayOutcome}
use Rattle.relay.specs.{Connections.Ends, Connections.ends_at, Lines.relay_line}
use Rattle.relay.specs.{Opening.relay_by, Relayed.Relay}
use Rattle.relay.proofs.Connecting.{along_more, along_none, failed_by, line_failed, lines_left}
use Rattle.relay.proofs.Connecting.{relayed_few, wire_failed}
use Rattle.relay.proofs.connections.relay_each.Given.{Over}
use Rattle.relay.proofs.connections.relay_each.Goals as goal

module _ (g : Over) where
  abbrev out : g.row.O.Denot → SinkView
  out output = g.O.Sink.view output

  abbrev seen : g.row.W.Denot → Network g.row.W-Reader.Denot g.row.W-Writer.Denot
  seen wire = network_at g.W.Wire.waiting g.W.Wire.closed g.W.Wire.out g.W.Wire.faults
      g.W.Wire.end_faults wire

  abbrev ends : g.row.W-Reader.Denot × g.row.W-Writer.Denot → Ends
  ends both = ends_at g.W.Reader.Source.left g.W.Reader.Source.taken g.W.Reader.Source.faults
      g.W.Reader.Source.empty_takes g.W.Writer.Sink.view both

pub loop-number-init : goal.loop-number-init
loop-number-init g c = (
  along_none (relay_by c.args.settings) (ends g) (seen g c.args.wire.now)
      (out g c.args.output.now) refl,
  refl,
)

pub relay_next-requires-clause-left : goal.relay_next-requires-clause-left
relay_next-requires-clause-left g c = λ lives outlives some.
    let i = c.loop-number.invariant.0 in
    lines_left i.connections c.loop-number.number (out g c.loop-number.output).held i.counted
    i.emptied some

pub loop-number-preserved : goal.loop-number-preserved
loop-number-preserved g c =
    let x : Relay = relay_by c.args.settings in
    let l = c.loop-number in
    let next = rw c.in-Some.is at c.in_ok-outcome.ensures in
    let p = c.in_ok-put_line in (
      along_more x (ends g) c.args.connections (seen g c.args.wire.now) (seen g l.wire)
          (out g c.args.output.now) (out g l.output) (l.output ≡ c.args.output.now) l.number
          l.invariant.0 (seen g c.relay_next.new.wire) next.0 next.2 (out g c.put_line.new.output)
          p.ensures.emptied (c.put_line.new.output ≡ c.args.output.now)
          (subst (λ (o : RelayOutcome). Puts (out g l.output) (out g c.put_line.new.output)
          (relay_line l.number o) (Ok tt)) (sym next.1) p.ensures.puts),
      next.2.out ∙ l.invariant.1,
    )

pub returns-in_err-put_line : goal.returns-in_err-put_line
returns-in_err-put_line g c = record {
  relayed =
      let x : Relay = relay_by c.args.settings in
      let l = c.loop-number in
      let next = rw c.in-Some.is at c.in_ok-outcome.ensures in
      let p = c.in_err-put_line in
      let f = c.from_residual-in_err-put_line in
      let r = err_from_is_err_and f.result f.ensures.1 in
      let n = seen g c.args.wire.now in
      let n' = seen g c.relay_next.new.wire in
      let first = out g c.args.output.now in
      let new = out g c.put_line.new.output in
      rw (r.1, r.2) (failed_by x (ends g) c.args.connections n n' first new
      (c.put_line.new.output ≡ c.args.output.now) p.field-0.0
      (line_failed x (ends g) c.args.connections n (seen g l.wire) first (out g l.output)
      (l.output ≡ c.args.output.now) l.number l.invariant.0 n' next.0 next.2 new
      p.ensures.emptied c.loop-number-test.true p.field-0.0
      (subst (λ (o : RelayOutcome). Puts (out g l.output) new (relay_line l.number o)
      (Err p.field-0.0)) (sym next.1) p.ensures.puts) (c.put_line.new.output ≡ c.args.output.now)));
}

pub returns-in_err-outcome : goal.returns-in_err-outcome
returns-in_err-outcome g c = record {
  relayed =
      let x : Relay = relay_by c.args.settings in
      let l = c.loop-number in
      let f = c.from_residual in
      let r = err_from_is_err_and f.result f.ensures.1 in
      rw (r.1, r.2) (wire_failed x (ends g) c.args.connections (seen g c.args.wire.now)
      (seen g l.wire) (out g c.args.output.now) (out g l.output) (l.output ≡ c.args.output.now)
      l.number l.invariant.0 (seen g c.relay_next.new.wire) c.loop-number-test.true
      c.in_err-outcome.ensures);
}

pub returns-in_default : goal.returns-in_default
returns-in_default g c = record {
  relayed =
      let x : Relay = relay_by c.args.settings in
      let l = c.loop-number in
      let none = rw c.in_default.is at c.in_ok-outcome.ensures in
      relayed_few x (ends g) c.args.connections (seen g c.args.wire.now) (seen g l.wire)
      (out g c.args.output.now) (out g l.output) (l.output ≡ c.args.output.now) l.number
      l.invariant.0 (seen g c.relay_next.new.wire) c.loop-number-test.true none.0 none.1;
}
