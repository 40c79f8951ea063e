use Rattle.std.proofs.lemmas.Str.{is_utf8-from_IsUtf8}
use Rattle.std.proofs.Common.{sym, subst}
use Rattle.soap_envelope.specs.Making.{IsContent}
use Rattle.reliable_sequence.proofs.MadeFacts.{acknowledgement-content}
use Rattle.reliable_sequence.proofs.making.acknowledgement_block.Goals as goal

pub returns-clause-content : goal.returns-clause-content
returns-clause-content c =
    let made = rw c.new-block.ensures at c.in_ok-put_acknowledgement.ensures in
    subst IsContent (sym made)
    (acknowledgement-content c.args.identifier.now c.args.ranges.now
    (is_utf8-from_IsUtf8 c.args.identifier.now c.utf8.identifier) c.requires)
