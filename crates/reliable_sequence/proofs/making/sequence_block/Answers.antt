use Rattle.std.proofs.lemmas.Str.{is_utf8-from_IsUtf8}
use Rattle.std.proofs.Common.{sym, subst}
use Rattle.soap_envelope.specs.Making.{IsContent}
use Rattle.reliable_sequence.proofs.MadeFacts.{sequence-content}
use Rattle.reliable_sequence.proofs.making.sequence_block.Goals as goal

pub returns-clause-content : goal.returns-clause-content
returns-clause-content c =
    let made = rw c.new-block.ensures at c.in_ok-put_sequence.ensures in
    subst IsContent (sym made)
    (sequence-content c.args.identifier.now c.args.number c.args.last
    (is_utf8-from_IsUtf8 c.args.identifier.now c.utf8.identifier)
    c.ranges.number.fits)
