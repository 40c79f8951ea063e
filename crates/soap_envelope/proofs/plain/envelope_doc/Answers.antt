use Rattle.std.proofs.Common.{sym, subst}
use Rattle.{nbfx_values.specs.Documents.IsDocument, soap_envelope.proofs.PlainFacts.plain-document}
use Rattle.soap_envelope.proofs.plain.envelope_doc.Goals as goal

pub document-requires : goal.document-requires
document-requires c =
    let made = rw c.new-items.ensures at c.in_ok-put_plain.ensures in
    subst IsDocument (sym made)
    (plain-document c.args.version c.args.blocks c.args.body c.requires.blocks c.requires.content)
