use Rattle.std.proofs.Common.{Some, Ok, sym, ap, ◌∙◌}
use Rattle.line_notation.proofs.{PlainFacts.plain-utf8, TextsFacts.judged-good}
use Rattle.line_notation.proofs.texts.shown_text.Goals as goal

pub from_utf8_unchecked-text-requires : goal.from_utf8_unchecked-text-requires
from_utf8_unchecked-text-requires c = plain-utf8 c.args.bytes.now c.requires

pub returns : goal.returns
returns c =
    let same = c.in_ok-of.ensures.same ∙ c.from_utf8_unchecked-text.ensures in
    ap Some (judged-good c.args.bytes.now (plain-utf8 c.args.bytes.now c.requires))
    ∙ ap (λ text. Some (Ok text)) (sym same)
