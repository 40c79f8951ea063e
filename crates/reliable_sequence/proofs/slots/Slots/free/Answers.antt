use Rattle.std.proofs.Common.{◌≡◌, ap, arith, length, None, set, sym, ◌∙◌}
use Rattle.reliable_sequence.specs.Slots.{freed, Slots}
use Rattle.reliable_sequence.proofs.slots.Slots.free.Goals as goal
use Rattle.reliable_sequence.proofs.SlotFacts.{freed_more, freed_none, length-freed}

pub loop-at-init : goal.loop-at-init
loop-at-init c = sym (freed_none _ _ _ (omega arith))

pub write-requires : goal.write-requires
write-requires c =
    let long = length-freed c.args.self.now c.args.from c.loop-at.at in
    let same = ap length c.loop-at.invariant in
    let within = c.requires.within in
    omega arith

pub loop-at-preserved : goal.loop-at-preserved
loop-at-preserved c =
    let within = c.requires.within in
    let more = freed_more c.args.self.now c.args.from c.loop-at.at (omega arith) (omega arith) in
    c.write.ensures ∙ ap (λ (s : Slots). set s c.loop-at.at None) c.loop-at.invariant ∙ sym more

pub returns : goal.returns
returns c =
    let end : c.loop-at.at ≡ c.args.end = omega arith in
    c.loop-at.invariant ∙ ap (freed c.args.self.now c.args.from) end
