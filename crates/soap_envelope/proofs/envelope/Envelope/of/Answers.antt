use Rattle.std.proofs.Common.{◌≡◌, IfOk, Result, sym, ap, ◌∙◌, subst}
use Rattle.soap_envelope.specs.{declared.refusals.SoapFault.SoapFault, Seen.BodyStands}
use Rattle.soap_envelope.{specs.View.View, specs.View.view, proofs.Contents.view-stands}
use Rattle.soap_envelope.proofs.envelope.Envelope.of.Goals as goal

pub returns-in-Ok-clause-body : goal.returns-in-Ok-clause-body
returns-in-Ok-clause-body c =
    let doc = c.args.doc.now in
    let same : c.as_slice.result.now ≡ doc = c.as_slice.ensures ∙ c.items.ensures.same in
    let seen : c.in-Ok.seen ≡ view doc = c.in-Ok.ensures ∙ ap view same in
    subst (λ (r : Result View SoapFault). IfOk r (BodyStands doc)) (sym seen) (view-stands doc)
