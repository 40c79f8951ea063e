use Rattle.std.proofs.Common.{sym, arith}
use Rattle.stream_reader.proofs.RunFacts.{left_ended, left_here, left_later, left_none}
use Rattle.stream_reader.proofs.runs.place_in.Goals as goal

pub returns-then-left-size : goal.returns-then-left-size
returns-then-left-size c = λ contents is few.
    let h = c.loop-left.invariant.left contents is few in
    sym (left_here c.args.run.now c.loop-left.at c.loop-left.left contents c.args.content h
    (omega (arith, c.if-at-run.true)) (omega (arith, c.loop-left-test.true))
    (omega (arith, c.if-left-size.true, c.from-size.ensures)))

pub loop-left-preserved : goal.loop-left-preserved
loop-left-preserved c = record {
  left = λ contents is few.
      let h = c.loop-left.invariant.left contents is few in
      rw c.from-size.ensures
      (left_later c.args.run.now c.loop-left.at c.loop-left.left contents c.args.content h
      (omega (arith, c.if-at-run.true)) (omega (arith, c.if-left-size.false, c.from-size.ensures)));
}

pub returns-else-at-run : goal.returns-else-at-run
returns-else-at-run c = λ contents is few.
    let h = c.loop-left.invariant.left contents is few in
    sym (left_none c.args.run.now c.loop-left.at c.loop-left.left contents c.args.content h
    (left_ended c.args.run.now c.loop-left.at c.loop-left.left contents c.args.content h
    (omega (arith, c.if-at-run.false))))

pub returns-after-loop-left : goal.returns-after-loop-left
returns-after-loop-left c = λ contents is few.
    let h = c.loop-left.invariant.left contents is few in
    sym (left_none c.args.run.now c.loop-left.at c.loop-left.left contents c.args.content h
    (omega (arith, c.loop-left-test.false)))
