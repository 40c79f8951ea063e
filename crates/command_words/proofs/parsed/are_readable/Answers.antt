use Rattle.std.proofs.Common.{◌∙◌, inl, inr, string_bytes, subst, sym, true≢false}
use Rattle.command_words.specs.WordAnswers.{IsLoneHyphens, IsReadable}
use Rattle.command_words.proofs.ParsedFacts.{readable-more}
use Rattle.command_words.proofs.parsed.are_readable.Goals as goal

pub returns-then-is_lone-clause-lone : goal.returns-then-is_lone-clause-lone
returns-then-is_lone-clause-lone c =
    let lone : IsLoneHyphens (string_bytes c.word-item.result) = subst IsLoneHyphens
    c.as_str.ensures.value (c.is_lone.ensures.0 c.if-is_lone.true) in
    (c.loop-word.word-index, c.word-item.result, c.loop-word-test.true, sym c.word-item.is, lone)

pub loop-word-preserved : goal.loop-word-preserved
loop-word-preserved c =
    let none : IsLoneHyphens c.as_str.result.now → ⊥ = λ lone. true≢false
    (sym (c.is_lone.ensures.1 lone) ∙ c.if-is_lone.false) in
    let readable : IsReadable c.as_str.result.now = record
    { not_one = λ one. none (inl one); not_two = λ two. none (inr two); utf8 = c.as_str.utf8 } in
    readable-more c.args.words.now c.loop-word.word-index c.word-item.result c.loop-word.invariant
    c.loop-word-test.true c.word-item.is
    (subst IsReadable c.as_str.ensures.value readable)
