use Rattle.std.proofs.Common.{◌∙◌, ap, map}
use Rattle.soap_envelope.proofs.PutFacts.{one_shown, shown-insert}
use Rattle.soap_envelope.proofs.body.put.Goals as goal

pub returns : goal.returns
returns c =
    let one = c.args.one.now in
    ap (map one_shown) c.in_ok-insert.ensures.entries
    ∙ shown-insert c.args.sorted.now.entries one.prefix one.uri
