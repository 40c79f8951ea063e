use Rattle.std.proofs.lemmas.{List.Folds.flat_map-map, Result.err_from_is_err_and}
use Rattle.line_notation.specs.Lines.{attribute_form, form_text}
use Rattle.line_notation.proofs.PutsFacts.{flat_map-joins, HavePut-item, HavePut-item_cut}
use Rattle.line_notation.proofs.PutsFacts.{HavePut-list, HavePut-none}
use Rattle.line_notation.proofs.printing.put_array_attributes.Goals as goal

pub returns-in_err-put_array_attribute : goal.returns-in_err-put_array_attribute
returns-in_err-put_array_attribute g c =
    let p = err_from_is_err_and c.from_residual.result c.from_residual.ensures.1 in
    rw (p.1, p.2, flat_map-map form_text attribute_form c.args.all.now)
    (HavePut-item_cut (λ one. form_text (attribute_form one)) c.loop-one.one-index c.one-item.result
    c.loop-one-test.true c.one-item.is
    c.loop-one.invariant c.in_err-put_array_attribute.ensures)

pub loop-one-preserved : goal.loop-one-preserved
loop-one-preserved g c =
    HavePut-item (λ one. form_text (attribute_form one)) c.loop-one.one-index c.one-item.result
    c.loop-one-test.true c.one-item.is
    c.loop-one.invariant c.in_ok-put_array_attribute.ensures

pub returns : goal.returns
returns g c =
    rw (flat_map-map form_text attribute_form c.args.all.now)
    (HavePut-list (λ one. form_text (attribute_form one)) c.loop-one.one-index c.loop-one-test.false
    c.loop-one.invariant)

pub loop-one-init : goal.loop-one-init
loop-one-init g c = HavePut-none _ _ (flat_map-joins (λ one. form_text (attribute_form one)))
