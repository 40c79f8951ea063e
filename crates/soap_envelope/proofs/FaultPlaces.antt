-- Where the items of faults lead in a document.
use Rattle.std.proofs.Common.{◌≡◌, ℕ, true, false, List, [], ◌∷◌, ◌++◌, Some, codes, flat_map, refl}
use Rattle.std.proofs.{Common.◌∙◌, lemmas.Bool.and_parts}
use Rattle.{std.specs.List.list_all, std.specs.Str.is_utf8, nbfx_values.proofs.Positions.stepped}
use Rattle.nbfx_values.specs.declared.content.Item.TheVariants.{Attr, Close, Xmlns}
use Rattle.nbfx_values.specs.declared.position.Position.TheVariants.{Within}
use Rattle.nbfx_values.specs.declared.scalars.Scalar.TheVariants.{Text as TextOf}
use Rattle.nbfx_values.specs.{declared.scalars.Value.TheVariants.One, Positions.position_from}
use Rattle.soap_envelope.specs.declared.report.Code.{Code, TheVariants.VersionMismatch}
use Rattle.soap_envelope.specs.declared.report.Code.TheVariants.{MustUnderstand, Receiver, Sender}
use Rattle.soap_envelope.specs.declared.report.{FaultReport.FaultReport, Sub.Sub}
use Rattle.soap_envelope.specs.Faults.{code_items, fault_body, is_nameable, not_understood_block}
use Rattle.soap_envelope.specs.{Faults.reason_items, Making.words, Qualified.Name}
use Rattle.soap_envelope.proofs.{OnLiterals.envelopes_on_literals, Places.leads-on}
use Rattle.soap_envelope.specs.declared.report.Sub.TheVariants as sub

-- a block that names what wasn't understood
name-leads : (name : Name) → is_nameable name ≡ true
    → position_from (Some (Within 1 false)) (not_understood_block name) ≡ Some (Within 1 false)
unfolding envelopes_on_literals
name-leads name h =
    let q = and_parts (is_utf8 name.uri) (is_utf8 (codes "n:" ++ name.local)) h in
    let qname = Attr [] (codes "qname") (One (TextOf (codes "n:" ++ name.local))) in
    stepped (Within 2 true) (Xmlns (codes "n") name.uri) (qname ∷ Close ∷ []) q.0
    ∙ stepped (Within 2 true) qname (Close ∷ []) q.1

pub names-lead : (names : List Name) → list_all is_nameable names ≡ true
    → position_from (Some (Within 1 false)) (flat_map not_understood_block names)
    ≡ Some (Within 1 false)
names-lead [] h = refl
names-lead (name ∷ more) h =
    let q = and_parts (is_nameable name) (list_all is_nameable more) h in
    leads-on (Some (Within 1 false)) (Some (Within 1 false)) (Some (Within 1 false))
    (not_understood_block name) (flat_map not_understood_block more) (name-leads name q.0)
    (names-lead more q.1)

-- the code, with its subcodes
code-leads : (code : Code) (s : Sub) (reason : List ℕ) (names : List Name)
    → position_from (Some (Within 1 true))
    (code_items (record { code = code; sub = s; reason = reason; names = names }))
    ≡ Some (Within 1 false)
unfolding envelopes_on_literals
code-leads VersionMismatch sub.None reason names = refl
code-leads MustUnderstand sub.None reason names = refl
code-leads Sender sub.None reason names = refl
code-leads Receiver sub.None reason names = refl
code-leads code s reason names = refl

reason-leads : (reason : List ℕ) → is_utf8 reason ≡ true
    → position_from (Some (Within 1 false)) (reason_items reason) ≡ Some (Within 1 false)
unfolding envelopes_on_literals
reason-leads reason h = stepped (Within 3 true) (words reason) (Close ∷ Close ∷ []) h

-- the content of a fault's Body
pub fault-content : (report : FaultReport) → is_utf8 report.reason ≡ true
    → position_from (Some (Within 0 false)) (fault_body report) ≡ Some (Within 0 false)
unfolding envelopes_on_literals
fault-content report h =
    leads-on (Some (Within 1 true)) (Some (Within 1 false)) (Some (Within 0 false))
    (code_items report) (reason_items report.reason ++ Close ∷ [])
    (code-leads report.code report.sub report.reason report.names)
    (leads-on (Some (Within 1 false)) (Some (Within 1 false)) (Some (Within 0 false))
    (reason_items report.reason) (Close ∷ []) (reason-leads report.reason h) refl)
