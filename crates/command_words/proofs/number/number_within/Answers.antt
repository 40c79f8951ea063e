use Rattle.std.proofs.Common.{◌≡◌, ◌<◌, ◌^◌, arith, subst}
use Rattle.command_words.specs.Values.{IsNumber, text_behind}
use Rattle.command_words.proofs.NumberFacts.{IsNumber-unique}
use Rattle.command_words.proofs.number.number_within.Goals as goal
use Rattle.command_words.proofs.number.number_within.Goals.{then-n-least-via-then-n-least}
use Rattle.command_words.proofs.number.number_within.Goals.{then-n-least-via-else-n-least+then-n-most}

pub returns-then-n-least-clause-none : goal.returns-then-n-least-clause-none
returns-then-n-least-clause-none c n low high is =
    let value = text_behind c.args.value in
    let read = c.in_ok-n.n in
    let written = subst (λ usual. IsNumber value usual read) c.from.ensures
    c.in_ok-n.ensures.written in
    let read_small : read < 2 ^ 64 = omega arith in
    let small : n < 2 ^ 64 = omega arith in
    let same : read ≡ n = IsNumber-unique value c.args.usual read n read_small small written is in
    elim c.then-n-least.branch [
      | then-n-least-via-then-n-least w ↦ omega (arith, w.if-n-least.true)
      | then-n-least-via-else-n-least+then-n-most w ↦ omega (arith, w.if-n-most.true)
    ]
