use Rattle.std.proofs.Common.{◌∙◌, ap, sym, true≢false}
use Rattle.command_words.specs.WordAnswers.{begins_plain}
use Rattle.command_words.proofs.NumberFacts.{decimal-plain, parsed-none, parsed-written}
use Rattle.command_words.proofs.number.number_in.Goals as goal

pub returns-then-not-begins_plain-clause-none : goal.returns-then-not-begins_plain-clause-none
returns-then-not-begins_plain-clause-none c n small is =
    let plain = ap begins_plain (c.as_bytes.ensures.value ∙ is) ∙ decimal-plain n small in
    true≢false (sym plain ∙ (sym c.begins_plain.ensures ∙ c.if-not-begins_plain.true))

pub returns-clause-written : goal.returns-clause-written
returns-clause-written c =
    let plain = ap begins_plain (sym c.as_bytes.ensures.value) ∙
    (sym c.begins_plain.ensures ∙ c.if-not-begins_plain.false) in
    rw c.ok.ensures.value (parsed-written c.args.text.now c.parse.result plain
    c.parse.ensures.value.0)

pub returns-clause-none : goal.returns-clause-none
returns-clause-none c = rw c.ok.ensures.value
    (parsed-none c.args.text.now c.parse.result c.parse.ensures.value.0)
