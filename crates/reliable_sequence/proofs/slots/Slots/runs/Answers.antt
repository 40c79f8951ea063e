use Rattle.std.proofs.Common.{◌≡◌, ◌+◌, ◌++◌, ℕ, Option, drop, arith, ap, sym, ◌∙◌}
use Rattle.reliable_sequence.specs.Ranges.{begun_with, runs}
use Rattle.reliable_sequence.proofs.slots.Slots.runs.Goals as goal
use Rattle.reliable_sequence.proofs.RangeFacts.{runs_more}

pub loop-at-preserved : goal.loop-at-preserved
loop-at-preserved c =
    let at = c.loop-at.at in
    let has_body = c.has_body-has_body.result in
    let before = c.args.before + at in
    let next = c.args.before + (at + 1) in
    let later : next ≡ before + 1 = omega arith in
    let rest = drop (at + 1) c.args.self.now in
    let begun = c.begun_with-begun.ensures
    ∙ ap (λ n. begun_with c.loop-at.begun n has_body) (sym later) in
    let more = runs_more c.args.self.now at before next c.loop-at.begun has_body
    c.loop-at.ranges c.end_range.new.ranges (omega arith) c.has_body-has_body.ensures later
    c.in_ok-end_range.ensures in
    ap (λ (b : Option ℕ). c.end_range.new.ranges ++ runs b next rest) begun ∙ more
    ∙ c.loop-at.invariant
