use Rattle.std.proofs.Common.{sym, ap, ◌∙◌}
use Rattle.reliable_sequence.specs.Slots.{body_at, Slots}
use Rattle.reliable_sequence.proofs.slots.Slots.body_at.Goals as goal
use Rattle.reliable_sequence.proofs.SlotFacts.{body_at_past, body_at_read}

pub returns-in-Some : goal.returns-in-Some
returns-in-Some c =
    let item = c.in-Some.ensures.item.3 in
    let read = body_at_read _ _ c.in-Some.slot.now item.0 (item.1 c.in-Some.slot.now) in
    c.as_ref.ensures.value ∙ sym (ap (λ (s : Slots). body_at s c.args.at) (sym c.self.view_is)
    ∙ read)

pub returns-in-None : goal.returns-in-None
returns-in-None c =
    let past = body_at_past _ _ c.in-None.ensures.item.3 in
    sym (ap (λ (s : Slots). body_at s c.args.at) (sym c.self.view_is) ∙ past)
