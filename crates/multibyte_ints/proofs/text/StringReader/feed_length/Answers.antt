use Rattle.std.proofs.Common.{refl}
use Rattle.multibyte_ints.proofs.TextSteps.{in_length, one_more, wrong_rests}
use Rattle.multibyte_ints.proofs.text.StringReader.feed_length.Goals as goal

pub returns-in-Bad-clause-reached : goal.returns-in-Bad-clause-reached
returns-in-Bad-clause-reached c p s =
    let before = c.loop-i.invariant.reached p (in_length _ p _ c.in-Length.is s) in
    let more = one_more p c.args.piece.now c.loop-i.i _ c.loop-i-test.true refl in
    rw more (wrong_rests _ _ _ before.begun (c.in-Bad.ensures.answers _ before.int))
