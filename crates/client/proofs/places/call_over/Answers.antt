use Rattle.std.proofs.Common.{◌≡◌, [], ◌∷◌, ◌++◌, IfSome, sym, ap, ◌∙◌, subst, take, arith, rules}
use Rattle.io_edges.specs.{Flow.Told, Views.SinkView, Wires.added_up}
use Rattle.stream_loop.specs.Edges.{Input, input_at}
use Rattle.two_lanes.specs.Merges.{merge, tags_of}
use Rattle.two_lanes.proofs.Naming.{some_order}
use Rattle.client.specs.{Sent.sending_by, Tags.sent_line}
use Rattle.client.proofs.{Meeting.pair_more, Merged.may_merged, places.call_over.Given.Over}
use Rattle.client.proofs.places.call_over.Goals as goal

module _ (g : Over) where
  abbrev input_of : g.row.W-Reader.Denot → Input
  input_of source = input_at g.W.Reader.Source.left g.W.Reader.Source.taken
      g.W.Reader.Source.faults g.W.Reader.Source.empty_takes source

  abbrev ends_to : g.row.W-Writer.Denot → SinkView
  ends_to sink = g.W.Writer.Sink.view sink

  abbrev output_of : g.row.O.Denot → SinkView
  output_of sink = g.O.Sink.view sink

pub returns-in_default : goal.returns-in_default
returns-in_default g c =
    let some = some_order c.args.call.a.now c.args.call.b.now in record {
      order = tags_of some.0;
      all = some.1.all_tagged;
      calls = search rules;
    }

pub returns : goal.returns
returns g c =
    let e = c.in-Ok.ensures in
    let w = c.call_gathered-reader in
    let k = c.close.ensures in
    let m = w.ensures in
    let a = c.args.call in record {
      order = m.order;
      all = m.all;
      calls = record {
        admitted = may_merged a.a.now a.b.now m.order m.all a.settings.mode c.requires.admitted;
        ends = (c.in-Ok.reader, c.in-Ok.writer);
        left = (w.result.1, w.result.2);
        handed = subst (λ after. Told (g.W.Wire.waiting c.args.wire.now) after
            (λ before after. before ≡ (c.in-Ok.reader, c.in-Ok.writer) ∷ after)) (sym k.waiting)
            e.handed;
        begins = record {
          unread = e.reader.0;
          nothing_taken = e.reader.1;
          unwritten = e.writer.0;
          nothing_written = e.writer.1;
          nothing_held = e.writer.2;
        };
        calls = m.calls;
        closed = pair_more (sending_by a.settings (merge a.a.now a.b.now m.order)) a.via.now
            (sent_line (take w.result.0.sent m.order)) (input_of g c.in-Ok.reader)
            (input_of g w.result.1) (ends_to g c.in-Ok.writer) (ends_to g w.result.2)
            (output_of g c.args.output) (output_of g w.result.3) w.result.0 m.calls
            (g.W.Wire.closed c.args.wire.now) (g.W.Wire.closed c.close.new.self) e.reader.1
            e.writer.1
            (subst (λ before. Told before (g.W.Wire.closed c.close.new.self) (λ c' c''.
            IfSome (g.W.Reader.Source.taken w.result.1) (λ t.
            IfSome (g.W.Writer.Sink.view w.result.2).written (λ v. c'' ≡ c' ++ (t, v) ∷ []))))
            e.ended.0 k.closed);
        end_faults = k.counted ∙ ap (λ n. added_up n (g.W.Reader.Source.faults w.result.1)
            (g.W.Writer.Sink.view w.result.2).faults) e.ended.1;
        out = omega (arith, e.out, k.out);
        faults = k.faults ∙ e.counted.same (λ is. cc);
      };
    }
