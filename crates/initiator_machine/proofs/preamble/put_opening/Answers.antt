use Rattle.std.proofs.Common.{refl, inl}
use Rattle.initiator_machine.proofs.preamble.put_opening.Goals as goal

pub put_text_frame-requires : goal.put_text_frame-requires
put_text_frame-requires c = inl (inl refl, c.requires)
