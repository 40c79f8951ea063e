use Rattle.{std.proofs.Common.◌+◌, nbfx_values.specs.Items.is_valid_item}
use Rattle.soap_envelope.proofs.Lists.{list_all-drop}
use Rattle.reliable_sequence.proofs.reading.range_at.Goals as goal

pub range_behind-requires : goal.range_behind-requires
range_behind-requires c =
    rw (c.behind.ensures, c.as_slice.ensures, c.items.ensures.same)
    (list_all-drop is_valid_item (c.args.at + 1) c.args.doc.now c.items.ensures.document.valid)
