use Rattle.std.proofs.Common.{List, [], ◌++◌, map, sym, ap, ◌∙◌, subst}
use Rattle.stream_reader.specs.Stream.{ends, Settings, stream, StreamEvent}
use Rattle.stream_reader.specs.StreamReaderState.{StandsFor}
use Rattle.stream_loop.proofs.{LoopSteps.first_pending, Reading.comes_first}
use Rattle.stream_loop.specs.Resumed.{HasComeTo}
use Rattle.session_report.{proofs.Streams.ends_within, specs.Saying.event_for}
use Rattle.client.specs.Answering.{HasReported, reads_by}
use Rattle.client.proofs.Answered.{told_first}
use Rattle.client.proofs.answers.AnswerReader.new.Goals as goal

pub returns-clause-comes : goal.returns-clause-comes
returns-clause-comes c = λ i first.
    let s = c.args.settings in
    let y : Settings = reads_by s in
    let e = c.in_ok-end.ensures in
    let n = c.new-3.ensures in
    let h = c.new-3.result in
    let Handled : List StreamEvent → List StreamEvent → Type 0 = λ paused since.
    HasReported first (map event_for paused ++ map event_for since) h first in record {
      grammar = rw c.kind.ensures at (ap stream e.settings);
      come = subst (λ (l : List _). HasComeTo (stream y) i i (StandsFor c.in_ok-end.end.reader)
          Handled [] l) (sym c.in_ok-buffer.ensures)
          (comes_first (stream y) i (StandsFor c.in_ok-end.end.reader) Handled
          (first_pending (stream y) ends y.limits.session (ends_within y s.quotas.back.good))
          e.stands (told_first first h.stage h.reached h.report
          (λ is. c.requires (sym n.stage ∙ is))
          n.reached n.report));
    }
