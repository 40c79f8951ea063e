use Rattle.nbfx_records.proofs.CharactersFacts.{characters_are}
use Rattle.nbfx_records.proofs.building.chars_node.Goals as goal

pub returns : goal.returns
returns c = record {
  made = characters_are c.args.kind c.requires c.args.bytes.now
      c.in_ok-text.field-0 c.args.ends c.in_ok-text.ensures.made;
}
