use Rattle.{std.proofs.Common.◌+◌, nbfx_values.specs.Items.is_valid_item}
use Rattle.soap_envelope.proofs.Lists.{list_all-drop}
use Rattle.soap_envelope.proofs.attributes.soap_attribute_of.Goals as goal

pub soap_attribute-requires-clause-valid : goal.soap_attribute-requires-clause-valid
soap_attribute-requires-clause-valid c =
    rw c.behind-behind.ensures (list_all-drop is_valid_item (c.args.at + 1) c.args.items.now
    c.requires.valid)
