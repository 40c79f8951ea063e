-- On the way through the items.
use Rattle.{std.proofs.Common.◌-◌, std.proofs.Common.length, nbfx_encoder.proofs.InItems.AlongItems}
use Rattle.nbfx_encoder.proofs.speller.Speller.put_items.Given as goal

abbrev pub invariant-loop-at : goal.invariant-loop-at
invariant-loop-at l = AlongItems l.fn.self l.self l.items l.at

abbrev pub decreases-loop-at : goal.decreases-loop-at
decreases-loop-at l = length l.items - l.at
