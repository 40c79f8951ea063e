use Rattle.std.proofs.Common.{◌≡◌, [], ◌++◌, refl, ◌∙◌}
use Rattle.session_report.{proofs.Streams.ends_within}
use Rattle.stream_loop.specs.Edges.{Input, input_at}
use Rattle.stream_reader.specs.StreamReaderState.{settings_of}
use Rattle.relay.specs.Events.{said}
use Rattle.relay.proofs.Reading.{begun_so, comes_as, counted_so, ended_so, open_so, uncounted_so}
use Rattle.relay.proofs.Reading.{waited_none}
use Rattle.relay.proofs.listener.Listener.begin.{Given.Over}
use Rattle.relay.proofs.listener.Listener.begin.Goals as goal

module _ (g : Over) where
  abbrev input_of : g.row.S.Denot → Input
  input_of source = input_at g.S.Source.left g.S.Source.taken g.S.Source.faults
      g.S.Source.empty_takes source

pub read_on-read-requires-clause-ends : goal.read_on-read-requires-clause-ends
read_on-read-requires-clause-ends g c =
    ends_within (settings_of c.args.self.now.end.reader) c.args.self.now.end.good

pub read_on-read-requires-clause-going : goal.read_on-read-requires-clause-going
read_on-read-requires-clause-going g c =
    let r = c.requires in (
      r.1,
      tt,
      r.2.read,
      rw r.2.grammar (comes_as r.0 r.1 (input_of g c.args.source.now)
          (λ paused since. said paused ++ said since ≡ []) _ _ r.2.read c.args.self.now.buffer
          (λ paused since none. waited_none _ (said paused ++ said since) refl none) r.2.come),
    )

pub returns-clause-begun : goal.returns-clause-begun
returns-clause-begun g c = λ y i come.
    let n = c.read_on-read.new in
    let e = c.read_on-read.ensures in
    let reads = rw come.grammar at e.reads in
    begun_so y i (input_of g n.input) c.args.side n.handler e.settings _ (e.grammar ∙ come.grammar)
    _ c.read_on-read.result (reads i tt come.read (comes_as y i (input_of g c.args.source.now)
    (λ paused since. said paused ++ said since ≡ []) _ _ come.read c.args.self.now.buffer
    (λ paused since none. waited_none _ (said paused ++ said since) refl none) come.come))
    c.read_by.result c.read_by.ensures

pub returns-clause-ended : goal.returns-clause-ended
returns-clause-ended g c = λ y i come.
    let n = c.read_on-read.new in
    let e = c.read_on-read.ensures in
    let reads = rw come.grammar at e.reads in
    ended_so y i (input_of g n.input) c.args.side n.handler e.settings
    (record { buffer = n.buffer; end = n.end }) (e.grammar ∙ come.grammar)
    _ c.read_on-read.result (reads i tt come.read (comes_as y i (input_of g c.args.source.now)
    (λ paused since. said paused ++ said since ≡ []) _ _ come.read c.args.self.now.buffer
    (λ paused since none. waited_none _ (said paused ++ said since) refl none) come.come))
    c.read_by.result c.read_by.ensures

pub returns-clause-opened : goal.returns-clause-opened
returns-clause-opened g c = open_so c.read_on-read.result c.read_on-read.new.handler.faulted
    c.read_by.result c.read_by.ensures

pub returns-clause-counted : goal.returns-clause-counted
returns-clause-counted g c = counted_so _ _ c.read_on-read.result
    c.read_on-read.new.handler.faulted c.read_by.result c.read_by.ensures
    c.read_on-read.ensures.counted

pub returns-clause-uncounted : goal.returns-clause-uncounted
returns-clause-uncounted g c = uncounted_so _ _ c.read_on-read.result
    c.read_on-read.new.handler.faulted c.read_by.result c.read_by.ensures
    c.read_on-read.ensures.counted
