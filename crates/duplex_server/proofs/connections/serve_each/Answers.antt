use Rattle.std.proofs.Common.{◌≡◌, Ok, Err, sym, refl, ◌∙◌, subst}
use Rattle.{std.proofs.lemmas.Result.err_from_is_err_and}
use Rattle.io_edges.specs.Wires.{Network, network_at}
use Rattle.stream_reader.specs.Sides.{endpoint_of}
use Rattle.duplex_server.specs.{declared.outcome.Outcome.Outcome, ServerStream.answering}
use Rattle.duplex_server.specs.{Lines.connection_line, Served.Ends, Served.ends_at}
use Rattle.duplex_server.proofs.Stops.{along_more, along_none, lines_left, output_failed}
use Rattle.duplex_server.proofs.Stops.{output_may_run_out}
use Rattle.duplex_server.proofs.connections.serve_each.Given.{Over}
use Rattle.io_edges.specs.Views.{SinkView}
use Rattle.io_edges.specs.Puts.{Puts}
use Rattle.duplex_server.proofs.connections.serve_each.Goals as goal

module _ (g : Over) where
  abbrev out : g.row.O.Denot → SinkView
  out output = g.O.Sink.view output

  abbrev seen : g.row.W.Denot → Network g.row.W-Reader.Denot g.row.W-Writer.Denot
  seen wire = network_at g.W.Wire.waiting g.W.Wire.closed g.W.Wire.out g.W.Wire.faults
      g.W.Wire.end_faults wire

  abbrev ends : g.row.W-Reader.Denot × g.row.W-Writer.Denot → Ends
  ends both = ends_at g.W.Reader.Source.left g.W.Reader.Source.taken g.W.Reader.Source.faults
      g.W.Reader.Source.empty_takes g.W.Writer.Sink.view both

pub loop-number-init : goal.loop-number-init
loop-number-init g c =
    let s = c.args.server.now in (
      along_none (answering (g.V.Service.served s.service.now) s.statics.now
          s.quotas.now) (endpoint_of s.endpoint.now) (ends g) (seen g c.args.wire.now)
          (out g c.args.output.now) refl,
      refl,
    )

pub serve_next-requires-clause-left : goal.serve_next-requires-clause-left
serve_next-requires-clause-left g c = λ lives outlives some.
    let i = c.loop-number.invariant.0 in
    lines_left i.connections c.loop-number.number (g.O.Sink.view c.args.output.now).held
    (g.O.Sink.view c.loop-number.output).held i.counted i.lines.held_is some

pub returns-in_err-put_line-clause-served : goal.returns-in_err-put_line-clause-served
returns-in_err-put_line-clause-served g c =
    let s = c.args.server.now in
    let l = c.loop-number in
    let next = rw c.in-Some.is at c.in_ok-outcome.ensures in
    let p = c.in_err-put_line in
    let f = c.from_residual-in_err-put_line in
    let r = err_from_is_err_and f.result f.ensures.1 in
    rw (r.1, r.2) (output_failed (answering (g.V.Service.served s.service.now) s.statics.now
    s.quotas.now) (endpoint_of s.endpoint.now) (ends g) c.args.connections
    (seen g c.args.wire.now) (seen g l.wire) (out g c.args.output.now) (out g l.output)
    (l.output ≡ c.args.output.now) l.number l.invariant.0 (seen g c.serve_next.new.wire) next.0
    next.2 (out g c.put_line.new.output) p.ensures.emptied c.loop-number-test.true p.field-0.0
    (subst (λ (o : Outcome). Puts (out g l.output) (out g c.put_line.new.output)
    (connection_line l.number o) (Err p.field-0.0)) (sym next.1) p.ensures.puts) _)

pub returns-in_err-put_line-clause-memory : goal.returns-in_err-put_line-clause-memory
returns-in_err-put_line-clause-memory g c =
    let l = c.loop-number in
    let p = c.in_err-put_line in
    let f = c.from_residual-in_err-put_line in
    let r = err_from_is_err_and f.result f.ensures.1 in
    rw (r.1, r.2) (output_may_run_out (out g c.args.output.now) (out g l.output)
    (out g c.put_line.new.output) _ p.field-0.0 l.invariant.1 p.ensures.puts)

pub loop-number-preserved : goal.loop-number-preserved
loop-number-preserved g c =
    let s = c.args.server.now in
    let l = c.loop-number in
    let next = rw c.in-Some.is at c.in_ok-outcome.ensures in
    let p = c.in_ok-put_line in (
      along_more (answering (g.V.Service.served s.service.now) s.statics.now
          s.quotas.now) (endpoint_of s.endpoint.now) (ends g) c.args.connections
          (seen g c.args.wire.now) (seen g l.wire) (out g c.args.output.now) (out g l.output)
          (l.output ≡ c.args.output.now) l.number l.invariant.0 (seen g c.serve_next.new.wire)
          next.0 next.2 (out g c.put_line.new.output) p.ensures.emptied
          (c.put_line.new.output ≡ c.args.output.now)
          (subst (λ (o : Outcome). Puts (out g l.output) (out g c.put_line.new.output)
          (connection_line l.number o) (Ok tt)) (sym next.1) p.ensures.puts),
      p.ensures.puts.same_memory ∙ l.invariant.1,
    )
