use Rattle.std.proofs.Common.{List, sym, refl, ◌∙◌, subst}
use Rattle.session_report.{proofs.Streams.ends_within, specs.declared.reading.Event.Event}
use Rattle.stream_reader.specs.StreamReaderState.{settings_of}
use Rattle.stream_loop.specs.Edges.{Input, input_at}
use Rattle.io_edges.specs.Views.{SinkView}
use Rattle.client.specs.declared.answers.Stage.{Stage}
use Rattle.client.specs.declared.answers.AnswerHandler.{AnswerHandler}
use Rattle.client.specs.Answering.{HasTold, IsFollowed}
use Rattle.client.proofs.Answered.{come_to_ack, ended_so, halted_so}
use Rattle.client.proofs.answers.AnswerReader.read.{Given.Over}
use Rattle.client.proofs.answers.AnswerReader.read.Goals as goal

module _ (g : Over) where
  abbrev input_of : g.row.S.Denot → Input
  input_of source = input_at g.S.Source.left g.S.Source.taken g.S.Source.faults
      g.S.Source.empty_takes source

abbrev told_by : SinkView → AnswerHandler → SinkView → List Event → Type 0
told_by first h now events = HasTold first events h.stage h.reached h.report now

pub read_on-read-requires-clause-ends : goal.read_on-read-requires-clause-ends
read_on-read-requires-clause-ends g c =
    ends_within (settings_of c.args.self.end.reader) c.args.self.end.good

pub read_on-read-requires-clause-going : goal.read_on-read-requires-clause-going
read_on-read-requires-clause-going g c =
    let r = c.requires in
    (r.1, r.2, r.3, rw r.4.grammar r.4.come)

-- to the end
pub returns-in-Some-clause-followed : goal.returns-in-Some-clause-followed
returns-in-Some-clause-followed g c = λ y i first p come.
    let n = c.read_on-read.new in
    let e = c.read_on-read.ensures in
    let now = g.O.Sink.view n.output in
    let reads = rw come.grammar at e.reads in
    subst (λ (s : Stage). IsFollowed y i (g.O.Sink.view first) s
    (record { buffer = n.buffer; end = n.end; handler = n.handler }) (input_of g n.input) now
    c.in-Some.ending) e.settings
    (ended_so y i (input_of g n.input) (told_by (g.O.Sink.view first) n.handler now) _ _ _ _
    c.read_on-read.result c.in-Some.ending (sym c.ending_of.ensures ∙ c.in-Some.is)
    (reads i first p come.come))

-- to the Ack
pub returns-in-None-clause-acked : goal.returns-in-None-clause-acked
returns-in-None-clause-acked g c = λ y i first p come.
    let n = c.read_on-read.new in
    let e = c.read_on-read.ensures in
    let now = g.O.Sink.view n.output in
    let reads = rw come.grammar at e.reads in
    let h = halted_so y i (input_of g n.input) (told_by (g.O.Sink.view first) n.handler now) _ _ _ _
    c.read_on-read.result (sym c.ending_of.ensures ∙ c.in-None.is)
    (reads i first p come.come) in
    let k = come_to_ack y i (input_of g n.input) (g.O.Sink.view first) _ n.handler _ now _ refl refl
    refl h.1 in (
      k.0,
      record { grammar = e.grammar ∙ come.grammar; come = k.1 },
    )

pub returns-in-None-clause-stage : goal.returns-in-None-clause-stage
returns-in-None-clause-stage g c =
    let n = c.read_on-read.new in
    let e = c.read_on-read.ensures in
    let r = c.requires in
    let now = g.O.Sink.view n.output in
    let reads = rw r.4.grammar at e.reads in
    let h = halted_so r.0 r.1 (input_of g n.input) (told_by (g.O.Sink.view r.2) n.handler now) _ _ _
    _ c.read_on-read.result (sym c.ending_of.ensures ∙ c.in-None.is)
    (reads r.1 r.2 r.3 r.4.come) in
    (sym e.settings ∙ h.1.halted.awaited, refl)
