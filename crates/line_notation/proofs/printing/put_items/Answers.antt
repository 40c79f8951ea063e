use Rattle.std.proofs.lemmas.Result.{err_from_is_err_and}
use Rattle.line_notation.{specs.Lines.item_text, proofs.PrintFacts.text-items}
use Rattle.line_notation.proofs.PutsFacts.{flat_map-joins, HavePut-item, HavePut-item_cut}
use Rattle.line_notation.proofs.PutsFacts.{HavePut-list, HavePut-none}
use Rattle.line_notation.proofs.printing.put_items.Goals as goal

pub returns-in_err-put_item : goal.returns-in_err-put_item
returns-in_err-put_item g c =
    let p = err_from_is_err_and c.from_residual.result c.from_residual.ensures.1 in
    rw (p.1, p.2, text-items c.args.items.now)
    (HavePut-item_cut item_text c.loop-item.item-index c.item-item.result c.loop-item-test.true
    c.item-item.is
    c.loop-item.invariant c.in_err-put_item.ensures)

pub loop-item-preserved : goal.loop-item-preserved
loop-item-preserved g c =
    HavePut-item item_text c.loop-item.item-index c.item-item.result c.loop-item-test.true
    c.item-item.is
    c.loop-item.invariant c.in_ok-put_item.ensures

pub returns : goal.returns
returns g c =
    rw (text-items c.args.items.now)
    (HavePut-list item_text c.loop-item.item-index c.loop-item-test.false c.loop-item.invariant)

pub loop-item-init : goal.loop-item-init
loop-item-init g c = HavePut-none _ _ (flat_map-joins item_text)
