use Rattle.std.proofs.Common.{◌≡◌, ◌++◌, sym, ◌∙◌, subst}
use Rattle.session_report.proofs.Streams.{ends_within}
use Rattle.stream_loop.specs.Edges.{Input, input_at}
use Rattle.stream_reader.specs.StreamReaderState.{settings_of, StandsFor}
use Rattle.relay.specs.Events.{said}
use Rattle.relay.specs.declared.outcome.PumpIn.{PumpIn}
use Rattle.relay.specs.Carried.{carried_by, Carries, last_of}
use Rattle.relay.proofs.{Pumped.pumped_so, Reading.comes_as, Reading.counted_in}
use Rattle.relay.proofs.Reading.{opened_in}
use Rattle.relay.proofs.pumping.pump.{Given.Over}
use Rattle.relay.proofs.pumping.pump.Goals as goal

module _ (g : Over) where
  abbrev input_of : g.row.S.Denot → Input
  input_of source = input_at g.S.Source.left g.S.Source.taken g.S.Source.faults
      g.S.Source.empty_takes source

pub read_on-read-requires-clause-ends : goal.read_on-read-requires-clause-ends
read_on-read-requires-clause-ends g c =
    ends_within (settings_of c.args.listener.now.end.reader) c.args.listener.now.end.good

pub read_on-read-requires-clause-going : goal.read_on-read-requires-clause-going
read_on-read-requires-clause-going g c =
    let r = c.requires in
    let h = r.5 in (
      r.1,
      r.3,
      h.comes.read,
      rw h.comes.grammar (comes_as r.0 r.1 (input_of g c.args.source.now)
          (λ paused since. said paused ++ said since ≡ r.4) _ _ h.comes.read
          c.args.listener.now.buffer (λ paused since is. rw (is, h.set) h.carried) h.comes.come),
    )

pub returns : goal.returns
returns g c =
    let n = c.read_on-read.new in
    let e = c.read_on-read.ensures in
    let f = c.finish.ensures in
    let is = f.read ∙ c.inbound_by-read.ensures in record {
      pumped = λ y i x first events h.
          let reads = rw h.comes.grammar at e.reads in
          pumped_so y i (input_of g n.input) x (g.K.Sink.view first) n.handler
          (g.K.Sink.view n.output) (e.settings ∙ h.set) (StandsFor n.end.reader) _ n.buffer
          c.read_on-read.result
          (reads i first h.comes.read (comes_as y i (input_of g c.args.source.now)
          (λ paused since. said paused ++ said since ≡ events) _ _ h.comes.read
          c.args.listener.now.buffer (λ paused since is. rw (is, h.set) h.carried) h.comes.come))
          c.finish.result (g.K.Sink.view c.finish.new.sink) is
          (λ x first events carried. subst (λ (r : PumpIn). Carries x
          (last_of r (carried_by x events)) events first (g.K.Sink.view c.finish.new.sink)
          c.finish.result) (sym f.read) (f.carries x first events carried));
      opened = λ not. opened_in c.read_on-read.result n.handler.faulted (sym is ∙ not);
      counted = counted_in _ _ c.read_on-read.result n.handler.faulted c.finish.result.read is
          e.counted;
      is_ended = f.ended;
    }
