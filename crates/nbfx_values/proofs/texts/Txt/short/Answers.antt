use Rattle.std.proofs.{Common.ap, Common.◌∙◌, lemmas.Str.is_utf8-from_IsUtf8}
use Rattle.std.specs.Str.{is_utf8}
use Rattle.nbfx_values.proofs.texts.Txt.short.Goals as goal

pub returns-in-Ok-clause-utf8 : goal.returns-in-Ok-clause-utf8
returns-in-Ok-clause-utf8 c = ap is_utf8 c.in-Ok.ensures.ok ∙ is_utf8-from_IsUtf8 c.args.text.now
    c.utf8.text
