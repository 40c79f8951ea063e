use Rattle.std.proofs.{Common.ap, Common.◌∙◌, lemmas.Str.is_utf8-from_IsUtf8}
use Rattle.std.specs.Str.{is_utf8}
use Rattle.nbfx_values.proofs.texts.Txt.of.Goals as goal

pub returns-clause-utf8 : goal.returns-clause-utf8
returns-clause-utf8 c = ap is_utf8 c.in_ok-long.ensures ∙ is_utf8-from_IsUtf8 c.args.text.now
    c.utf8.text
