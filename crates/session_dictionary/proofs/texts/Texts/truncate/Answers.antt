use Rattle.std.proofs.Common.{◌≡◌, ◌≤◌, ℕ, List, length, ap, arith}
use Rattle.session_dictionary.specs.Pieces.{pieces}
use Rattle.session_dictionary.proofs.PieceFacts.{are-cut, length-pieces, pieces-cut}
use Rattle.session_dictionary.proofs.texts.Texts.truncate.Goals as goal

-- no more texts are left than there are places where one ends
few : (texts : List (List ℕ)) (ends bytes : List ℕ) (count : ℕ) → pieces 0 ends bytes ≡ texts
    → count ≤ length texts → count ≤ length ends
few texts ends bytes count are h = omega (arith, h, ap length are, length-pieces 0 ends bytes)

pub start_at-end-requires : goal.start_at-end-requires
start_at-end-requires c =
    let t = c.self.inside in
    let there = few _ t.ends.items t.bytes.items c.args.count c.self.view_is c.requires in
    omega (arith, there, ap length c.deref.ensures.value)

pub invariant_of-self : goal.invariant_of-self
invariant_of-self c =
    let t = c.self.inside in
    let there = few _ t.ends.items t.bytes.items c.args.count c.self.view_is c.requires in
    rw (c.truncate.ensures.items, c.truncate-2.ensures.items, c.start_at-end.ensures)
    (rw c.deref.ensures.value
    (are-cut t.bytes.items 0 t.ends.items c.args.count c.self.invariant there))

pub returns : goal.returns
returns c =
    let t = c.self.inside in
    let there = few _ t.ends.items t.bytes.items c.args.count c.self.view_is c.requires in
    rw (← c.self.view_is, c.truncate.ensures.items, c.truncate-2.ensures.items)
    (rw (c.start_at-end.ensures, c.deref.ensures.value)
    (pieces-cut t.bytes.items 0 t.ends.items c.args.count c.self.invariant there))
