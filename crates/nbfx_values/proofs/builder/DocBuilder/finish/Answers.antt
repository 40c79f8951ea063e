use Rattle.std.proofs.Common.{◌≡◌, Some, sym, ap, ◌∙◌}
use Rattle.nbfx_values.specs.{declared.position.Position.TheVariants.After, Positions.position_of}
use Rattle.nbfx_values.proofs.Walks.{document-position, position_of-document}
use Rattle.nbfx_values.proofs.builder.DocBuilder.finish.Goals as goal

pub with_measures-doc-requires : goal.with_measures-doc-requires
with_measures-doc-requires c = rw c.take.ensures.values (record {
  document = position_of-document c.self.inside.items
      (c.self.invariant.leads ∙ ap Some (c.has_ended.ensures.0 c.if-not-has_ended.false));
  measured = c.self.invariant.measured;
})

pub returns-then-not-has_ended-clause-document : goal.returns-then-not-has_ended-clause-document
returns-then-not-has_ended-clause-document c = (
  λ e. absurd cc,
  λ d.
      let ended : Some c.self.inside.position ≡ Some After = sym c.self.invariant.leads ∙
      ap position_of c.self.view_is ∙ document-position c.args.self.now d in
      sym c.if-not-has_ended.true ∙ c.has_ended.ensures.1 cc,
)
