use Rattle.std.proofs.Common.{◌≡◌, List, [], ◌++◌, sym, refl, ap, subst}
use Rattle.nbfx_values.specs.QuotasOf.{limits_of}
use Rattle.stream_reader.specs.{Sides.side_of, StreamReaderState.StandsFor}
use Rattle.stream_reader.specs.Stream.{ends, Settings, stream, StreamEvent}
use Rattle.stream_loop.proofs.{LoopSteps.first_pending, Reading.comes_first}
use Rattle.stream_loop.specs.Resumed.{HasComeTo}
use Rattle.{session_report.proofs.Streams.ends_within, relay.specs.Events.said}
use Rattle.relay.proofs.listener.Listener.new.Goals as goal

pub returns : goal.returns
returns c = record {
  comes = λ i.
      let y : Settings = record {
        side = side_of c.args.side;
        statics = c.args.statics.now;
        limits = limits_of c.args.quotas;
      } in
      let e = c.in_ok-end.ensures in
      let Handled : List StreamEvent → List StreamEvent → Type 0 =
      λ paused since. said paused ++ said since ≡ [] in record {
        grammar = ap stream e.settings;
        read = [];
        come = subst (λ (l : List _). HasComeTo (stream y) i i (StandsFor c.in_ok-end.end.reader)
            Handled [] l) (sym c.in_ok-buffer.ensures)
            (comes_first (stream y) i (StandsFor c.in_ok-end.end.reader) Handled
            (first_pending (stream y) ends y.limits.session (ends_within y c.args.quotas.good))
            e.stands refl);
      };
}
