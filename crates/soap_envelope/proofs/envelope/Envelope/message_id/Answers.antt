use Rattle.std.proofs.{Common.◌≡◌, Common.sym, Common.subst, lemmas.Result.IfOk-weaker}
use Rattle.soap_envelope.specs.{Making.AreTexts, View.texts_at}
use Rattle.soap_envelope.proofs.Contents.{texts_at-valid}
use Rattle.soap_envelope.proofs.envelope.Envelope.message_id.Goals as goal

pub returns-clause-texts : goal.returns-clause-texts
returns-clause-texts c =
    let items = c.self.inside.items.now in
    let message = c.self.inside.message in
    let valid = texts_at-valid items message c.self.invariant.document.valid in
    IfOk-weaker c.texts_at.result (λ texts. texts ≡ texts_at items message) AreTexts
    (λ texts same. subst AreTexts (sym same) valid) c.texts_at.ensures
