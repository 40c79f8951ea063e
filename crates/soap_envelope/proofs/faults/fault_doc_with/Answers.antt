use Rattle.std.proofs.Common.{flat_map, sym, subst}
use Rattle.{nbfx_values.specs.Documents.IsDocument, soap_envelope.proofs.Places.envelope-document}
use Rattle.soap_envelope.specs.Faults.{fault_body, not_understood_block}
use Rattle.soap_envelope.proofs.FaultPlaces.{fault-content, names-lead}
use Rattle.soap_envelope.proofs.faults.fault_doc_with.Goals as goal

pub document-requires : goal.document-requires
document-requires c =
    let action = c.in_ok-action.action in
    let relates = c.args.relates in
    let report = c.args.report.now in
    let blocks = flat_map not_understood_block report.names in
    subst IsDocument (sym c.in_ok-items.ensures.made)
    (envelope-document c.args.version action relates blocks (fault_body report)
    c.in_ok-action.ensures.utf8
    c.requires
    (names-lead report.names c.in_ok-items.ensures.names)
    (fault-content report c.as_str-reason.ensures.utf8))
