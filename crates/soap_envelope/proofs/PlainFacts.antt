-- An envelope with blocks of any standard is a document.
use Rattle.std.proofs.Common.{List, Some, false, refl, true, ◌++◌}
use Rattle.nbfx_values.proofs.Walks.{position_of-document}
use Rattle.nbfx_values.specs.declared.position.Position.TheVariants.{After, Within}
use Rattle.nbfx_values.specs.{Documents.IsDocument, declared.content.Item.Item}
use Rattle.soap_envelope.proofs.OnLiterals.{envelopes_on_literals}
use Rattle.soap_envelope.proofs.Places.{content-leads, deeper-leads, leads-on, opening-leads}
use Rattle.soap_envelope.specs.Making.{IsContent, ending, middle}
use Rattle.soap_envelope.specs.{Plain.plain_items, declared.versions.Addressing.Addressing}

pub plain-document : (version : Addressing) (blocks body : List Item) → IsContent blocks
    → IsContent body
    → IsDocument (plain_items version blocks body)
unfolding envelopes_on_literals
plain-document version blocks body leads content =
    let inside = content-leads body 1 (deeper-leads body 0 0 false false content) in
    let closed = leads-on (Some (Within 1 true)) (Some (Within 1 inside.0)) (Some After) body ending
    inside.1 refl in
    let header = content-leads blocks 1 (deeper-leads blocks 0 0 false false leads) in
    position_of-document (plain_items version blocks body)
    (opening-leads version (blocks ++ (middle ++ (body ++ ending)))
    (leads-on (Some (Within 1 true)) (Some (Within 1 header.0)) (Some After) blocks
    (middle ++ (body ++ ending)) header.1 closed))
