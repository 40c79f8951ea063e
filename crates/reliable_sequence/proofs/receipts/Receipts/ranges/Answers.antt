use Rattle.std.proofs.Common.{slice_get, sym, ap, ◌∙◌}
use Rattle.reliable_sequence.specs.Receipts.{Receipts}
use Rattle.reliable_sequence.proofs.receipts.Receipts.ranges.Goals as goal
use Rattle.reliable_sequence.proofs.ReceiptLists.{found, none}

pub returns-in-Some : goal.returns-in-Some
returns-in-Some c =
    let r = c.self.inside in
    c.get-in-Some.ensures
    ∙ found r.lists r.places c.args.at c.in-Some.place.now c.self.invariant.0
    (sym c.in-Some.ensures)
    ∙ ap (λ (v : Receipts). slice_get v.sent c.args.at) c.self.view_is

pub returns-in-None : goal.returns-in-None
returns-in-None c =
    let r = c.self.inside in
    sym (none r.lists r.places c.args.at (sym c.in-None.ensures))
    ∙ ap (λ (v : Receipts). slice_get v.sent c.args.at) c.self.view_is
