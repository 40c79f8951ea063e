use Rattle.std.proofs.Common.{◌≡◌, ◌<◌, arith, ap, sym, ◌∙◌, drop, length, length-drop}
use Rattle.std.proofs.lemmas.List.{drop-drop}
use Rattle.reliable_sequence.specs.Slots.{leading_free, Slots}
use Rattle.reliable_sequence.proofs.slots.Slots.pop_free.Goals as goal
use Rattle.reliable_sequence.proofs.SlotFacts.{leading_free_more, leading_free_none}

pub returns-then-has_body-clause-count : goal.returns-then-has_body-clause-count
returns-then-has_body-clause-count c =
    let none = leading_free_none c.loop-count.self (sym c.has_body.ensures ∙ c.if-has_body.true) in
    let free = c.loop-count.invariant.free in
    omega arith

pub returns-then-has_body-clause-rest : goal.returns-then-has_body-clause-rest
returns-then-has_body-clause-rest c =
    let none = leading_free_none c.loop-count.self (sym c.has_body.ensures ∙ c.if-has_body.true) in
    let free = c.loop-count.invariant.free in
    let count : c.loop-count.count ≡ leading_free c.args.self.now = omega arith in
    c.loop-count.invariant.left ∙ ap (λ n. drop n c.args.self.now) count

pub loop-count-preserved : goal.loop-count-preserved
loop-count-preserved c =
    let old = c.args.self.now in
    let slots = c.loop-count.self in
    let left = c.loop-count.invariant.left in
    let all = c.loop-count.invariant.all in
    let long = ap length left ∙ length-drop c.loop-count.count old in
    let some : 0 < length slots = omega arith in
    let more = leading_free_more slots some (sym c.has_body.ensures ∙ c.if-has_body.false) in
    let rest = c.pop_first.ensures.rest in
    let last = ap leading_free rest in
    let free = c.loop-count.invariant.free in
    record {
      all = all;
      left = rest ∙ ap (λ (s : Slots). drop 1 s) left ∙ drop-drop 1 c.loop-count.count old;
      free = omega arith;
    }
