use Rattle.{std.proofs.Common.sym, std.proofs.Common.◌∙◌, soap_envelope.proofs.Contents.body-starts}
use Rattle.soap_envelope.proofs.envelope.view_of.Goals as goal

pub viewed-requires-clause-body : goal.viewed-requires-clause-body
viewed-requires-clause-body c = record {
  document = c.requires;
  starts = body-starts c.args.items.now c.in-Ok.parts (sym c.in_ok-parts.ensures ∙ c.in-Ok.is);
}
