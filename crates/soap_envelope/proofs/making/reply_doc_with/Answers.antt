use Rattle.std.proofs.Common.{[], sym, refl, subst}
use Rattle.{nbfx_values.specs.Documents.IsDocument, soap_envelope.proofs.Places.envelope-document}
use Rattle.soap_envelope.proofs.making.reply_doc_with.Goals as goal

pub document-requires : goal.document-requires
document-requires c =
    let action = c.in_ok-action.action in
    let relates = c.args.relates.now in
    let body = c.args.body in
    let made = rw c.as_slice.ensures at c.in_ok-items.ensures in
    subst IsDocument (sym made)
    (envelope-document c.args.version action relates [] body c.in_ok-action.ensures.utf8
    c.requires.texts refl
    c.requires.content)
