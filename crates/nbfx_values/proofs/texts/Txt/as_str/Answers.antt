use Rattle.std.proofs.{Common.sym, Common.ap, Common.◌∙◌, lemmas.Str.is_utf8-from_IsUtf8}
use Rattle.std.specs.Str.{is_utf8}
use Rattle.nbfx_values.proofs.texts.Txt.as_str.Goals as goal

pub returns-clause-utf8 : goal.returns-clause-utf8
returns-clause-utf8 c =
    ap is_utf8 (sym (c.as_str.ensures ∙ c.self.view_is))
    ∙ is_utf8-from_IsUtf8 c.as_str.result.now c.as_str.utf8
