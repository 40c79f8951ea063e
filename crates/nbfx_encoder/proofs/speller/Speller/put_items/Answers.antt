use Rattle.std.proofs.Common.{◌^◌, ◌<◌, List, IsTrue, sym, subst}
use Rattle.{std.specs.List.list_all, nbfx_encoder.specs.Inside.PutFirst}
use Rattle.nbfx_values.specs.{declared.content.Item.Item, Items.is_valid_item, Measures.content_of}
use Rattle.nbfx_encoder.proofs.InItems.{items_more, left_few, left_valid, rest_of}
use Rattle.nbfx_encoder.proofs.speller.Speller.put_items.Goals as goal

pub put_record-requires-clause-valid : goal.put_record-requires-clause-valid
put_record-requires-clause-valid c =
    subst (λ (l : List Item). IsTrue (list_all is_valid_item l))
    (sym (rest_of c.args.items.now c.loop-at.at))
    (left_valid c.args.items.now c.loop-at.at c.requires.valid)

pub put_record-requires-clause-few : goal.put_record-requires-clause-few
put_record-requires-clause-few c =
    subst (λ (l : List Item). content_of l < 2 ^ 31) (sym (rest_of c.args.items.now c.loop-at.at))
    (left_few c.args.items.now c.loop-at.at c.requires.few)

pub loop-at-preserved : goal.loop-at-preserved
loop-at-preserved c =
    items_more c.args.self.now c.loop-at.self c.put_record.new.self c.args.items.now c.loop-at.at
    c.in_ok-at.field-0 c.loop-at.invariant
    (subst (λ (l : List Item). PutFirst l c.in_ok-at.field-0 c.loop-at.self c.put_record.new.self)
    (rest_of c.args.items.now c.loop-at.at) c.in_ok-at.ensures.put) c.put_record.ensures.kept
