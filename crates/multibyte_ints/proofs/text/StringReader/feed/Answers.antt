use Rattle.std.proofs.Common.{◌≡◌, ℕ, ◌+◌, ◌-◌, ◌≤◌, List, length, take, drop, sym, ◌∙◌, arith}
use Rattle.std.proofs.{Common.length-drop, lemmas.List.take_rest}
use Rattle.multibyte_ints.specs.TextReader.{limit_of, StringStandsFor}
use Rattle.multibyte_ints.proofs.TextSteps.{all_when_more, answers_after, stands_after}
use Rattle.multibyte_ints.proofs.TextSteps.{waits_for_more}
use Rattle.multibyte_ints.proofs.text.StringReader.feed.Goals as goal

rest_len : (piece : List ℕ) (i : ℕ) → i ≤ length piece → i
    + length (take (length piece - i) (drop i piece)) ≡ length piece
rest_len piece i within = rw (take_rest piece i, length-drop i piece) (omega arith)

pub returns-clause-answers : goal.returns-clause-answers
unfolding StringStandsFor limit_of
returns-clause-answers c p s =
    let first = c.feed_length-length.ensures in
    let second = c.feed_text-text.ensures in
    let all = rest_len c.args.piece.now c.feed_length-length.result first.within in
    answers_after _ _ p c.args.piece.now _ _ _ _
    (take_rest c.args.piece.now c.feed_length-length.result)
    (second.limit ∙ first.limit) (omega (arith, second.within))
    (second.reached _ (first.reached p s.0))
    (waits_for_more _ _ _ _ _ _ all first.all second.all second.length) c.step.ensures

pub returns-clause-stands : goal.returns-clause-stands
unfolding StringStandsFor
returns-clause-stands c p s =
    let first = c.feed_length-length.ensures in
    let second = c.feed_text-text.ensures in
    let all = rest_len c.args.piece.now c.feed_length-length.result first.within in
    stands_after _ p c.args.piece.now _ _ _ (take_rest c.args.piece.now c.feed_length-length.result)
    (second.reached _ (first.reached p s.0)) (waits_for_more _ _ _ _ _ _ all first.all second.all
    second.length)

pub returns-clause-all : goal.returns-clause-all
returns-clause-all c e =
    let first = c.feed_length-length.ensures in
    let second = c.feed_text-text.ensures in
    let all = rest_len c.args.piece.now c.feed_length-length.result first.within in
    all_when_more c.feed_text-text.new.self.part _ _ c.feed_text-text.new.self.settled
    (waits_for_more _ _ _ _ _ _ all first.all second.all second.length) (sym c.step.ensures ∙ e)
