use Rattle.std.proofs.Common.{drop, flat_map}
use Rattle.line_notation.{specs.Lines.item_text, proofs.PutsFacts.HavePut}
use Rattle.line_notation.proofs.printing.put_items.Given as goal

abbrev pub invariant-loop-item : goal.invariant-loop-item
invariant-loop-item g l =
    HavePut (flat_map item_text) l.items (drop l.item-index l.items)
    (g.K.Sink.view l.fn.sink) (g.K.Sink.view l.sink)
