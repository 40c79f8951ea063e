use Rattle.std.proofs.Common.{◌≡◌, true, false, List, ◌++◌, sym, ap, ◌∙◌, subst}
use Rattle.nbfx_values.specs.{declared.content.Item.Item, Documents.IsDocument}
use Rattle.session_generator.{specs.Documents.document, proofs.DocumentFacts.is_document}
use Rattle.session_generator.proofs.documents.document.Goals as goal

pub unreachable-requires : goal.unreachable-requires
unreachable-requires c =
    let made : document c.args.number c.args.drawn ≡ c.put_items.new.items =
    sym (c.in_ok-put_items.ensures
    ∙ ap (λ (l : List Item). l ++ document c.args.number c.args.drawn) c.clear.ensures) in
    let bad : false ≡ true = c.in-Err.ensures.ok.1 (subst IsDocument made
    (is_document c.args.number c.args.drawn c.ranges.number.fits c.ranges.drawn.fits)) in
    cc
