-- What a fault relates to stands at its place in the fault.
use Rattle.soap_envelope.specs.declared.versions.Addressing.{Addressing}
use Rattle.std.proofs.Common.{◌≡◌, List, [], ◌∷◌, ◌++◌, length, take, refl, ap, ◌∙◌, append_assoc}
use Rattle.std.proofs.Math.Seq.{take-append_seam}
use Rattle.nbfx_values.specs.declared.content.Item.{Item, TheVariants.Close}
use Rattle.soap_envelope.specs.declared.report.FaultReport.{FaultReport}
use Rattle.soap_envelope.specs.Faults.{fault_items, related_texts, rest_items}
use Rattle.soap_envelope.proofs.OnLiterals.{envelopes_on_literals}

pub related_are : (version : Addressing) (report : FaultReport) (relates : List Item)
    → related_texts (length relates) (fault_items version report relates) ≡ relates
unfolding envelopes_on_literals
related_are version report [] = refl
related_are version report (text ∷ more) =
    ap (take (length (text ∷ more))) (append_assoc (text ∷ more) (Close ∷ []) (rest_items report))
    ∙ take-append_seam (text ∷ more) (Close ∷ rest_items report)
