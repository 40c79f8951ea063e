use Rattle.std.proofs.Common.{◌+◌, ◌++◌, take, Ok, sym, ap, ◌∙◌, arith}
use Rattle.nbfx_records.specs.declared.reader.NodeStep.TheVariants.{Done, More}
use Rattle.nbfx_records.specs.{Answers.FeedAnswers, Answers.IsLeft, RecordAtFront.node_at}
use Rattle.nbfx_records.proofs.ReaderFacts.{fed_refused, fed_whole, kept_on, part_within}
use Rattle.nbfx_records.proofs.reader.NodeReader.take_on.Goals as goal

pub returns-in_err-more-clause-answers : goal.returns-in_err-more-clause-answers
returns-in_err-more-clause-answers c =
    let so_far = c.loop-used.invariant in
    fed_refused c.args.self.now.begun c.args.piece.now c.loop-used.self.begun
    c.wanted-part.result.now c.loop-used.used _ so_far.within so_far.kept c.wanted-part.ensures
    c.args.place _ c.from_residual.result c.from_residual.ensures.1 c.in_err-more.ensures.answers

pub loop-used-preserved : goal.loop-used-preserved
loop-used-preserved c =
    let so_far = c.loop-used.invariant in
    let fed : FeedAnswers c.args.place c.loop-used.self.begun c.wanted-part.result.now
    (Ok (c.in_ok-more.more, More)) = rw c.in-More.is at c.in_ok-more.ensures.answers in
    let left : IsLeft c.loop-used.self.begun c.wanted-part.result.now c.read_on.new.self.begun
    (Ok (c.in_ok-more.more, More)) = rw c.in-More.is at c.in_ok-more.ensures.left in
    let within =
    part_within c.args.self.now.begun c.args.piece.now c.loop-used.self.begun
    c.wanted-part.result.now c.loop-used.used _ so_far.within so_far.kept c.wanted-part.ensures in
    let kept =
    kept_on c.args.self.now.begun c.args.piece.now c.loop-used.self.begun
    c.wanted-part.result.now c.loop-used.used _ so_far.within so_far.kept c.wanted-part.ensures in
    record {
      within = omega (arith, fed.0, within);
      kept =
          left ∙ kept
          ∙ ap
          (λ n. c.args.self.now.begun ++ take (c.loop-used.used + n) c.args.piece.now)
          (sym fed.0);
      going = ap (node_at c.args.place) left ∙ fed.1;
      failure = c.read_on.ensures.failure ∙ so_far.failure;
    }

pub returns-in-Done-clause-answers : goal.returns-in-Done-clause-answers
returns-in-Done-clause-answers c =
    let so_far = c.loop-used.invariant in
    let fed : FeedAnswers c.args.place c.loop-used.self.begun c.wanted-part.result.now
    (Ok (c.in_ok-more.more, Done c.in-Done.node)) = rw c.in-Done.is at c.in_ok-more.ensures.answers
    in
    fed_whole c.args.self.now.begun c.args.piece.now c.loop-used.self.begun
    c.wanted-part.result.now c.loop-used.used _ so_far.within so_far.kept c.wanted-part.ensures
    c.args.place c.in_ok-more.more c.in-Done.node fed
