use Rattle.std.proofs.Common.{IsUtf8, sym, ap, ◌∙◌, subst}
use Rattle.multibyte_ints.{specs.TextPart.step_of, proofs.TextLaws.string_from_whole}
use Rattle.multibyte_ints.specs.TextReader.{limit_of, StringStandsFor, text_of}
use Rattle.multibyte_ints.proofs.TextSteps.{done_part, no_text_in, read_as_text, text_in}
use Rattle.multibyte_ints.proofs.text.StringReader.text.Goals as goal

pub returns-in-Done : goal.returns-in-Done
unfolding StringStandsFor limit_of
returns-in-Done c p s =
    let whole = text_in c.args.self.now p _ s.0 (done_part _ (sym c.in-Done.ensures)) in
    let utf8 = (string_from_whole _ p _ _ whole).2.utf8 in
    let bytes = c.deref.ensures.value in
    ap (λ t. t.now) c.unwrap_or.ensures
    ∙ read_as_text c.from_utf8.result _ c.deref.result.now _ c.from_utf8.ensures.cases
    (subst IsUtf8 (sym bytes) utf8)
    ∙ bytes ∙ sym (ap text_of whole)

pub returns-in_default : goal.returns-in_default
unfolding StringStandsFor limit_of
returns-in_default c p s = sym
    (no_text_in c.args.self.now p _ s.0 s.1
    (λ e. c.in_default.not-Done (c.step.ensures ∙ ap step_of e)))
