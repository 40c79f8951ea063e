use Rattle.std.proofs.Common.{◌≡◌, ◌+◌, [], ◌∷◌, ◌++◌, take, sym, ◌∙◌, subst}
use Rattle.nbfx_values.{specs.Measured.AreMeasuresOf, proofs.Positions.take-push}
use Rattle.nbfx_values.proofs.Positions.{open-position, open-take, position_of-push, stops-at}
use Rattle.nbfx_values.proofs.document.measures_of.Goals as goal

pub returns-in_default-clause-refused : goal.returns-in_default-clause-refused
returns-in_default-clause-refused c =
    stops-at c.args.items.now c.loop-at.at c.index-items-at.result c.loop-at.position
    c.loop-at-test.true c.index-items-at.is
    c.loop-at.invariant.position (sym c.after.ensures ∙ c.in_default.is)

pub loop-at-preserved : goal.loop-at-preserved
loop-at-preserved c =
    let items = c.args.items.now in
    let before = take c.loop-at.at items in
    let inv = c.loop-at.invariant in
    let more : before ++ c.index-items-at.result ∷ [] ≡ take (c.loop-at.at + 1) items =
    take-push items c.loop-at.at c.index-items-at.result c.loop-at-test.true c.index-items-at.is in
    let position = position_of-push before c.index-items-at.result c.loop-at.position inv.position ∙
    sym c.after.ensures ∙ c.in-Some.is in
    let measures = c.with-measures.ensures before
    (open-position before c.loop-at.position inv.position ∙ sym c.open_count.ensures) inv.measures
    in
    record {
      position = rw more at position;
      few = open-take items (c.loop-at.at + 1) c.in-Some.next (rw more at position);
      measures = subst (λ xs. AreMeasuresOf xs c.with-measures.result) more measures;
    }
