use Rattle.std.proofs.Common.{refl}
use Rattle.nbfx_values.proofs.Walks.{document-position, position_of-document, stops-refused}
use Rattle.nbfx_values.proofs.document.Doc.of.Goals as goal

pub invariant_of-result : goal.invariant_of-result
invariant_of-result c = record {
  document = position_of-document c.args.items (rw (← c.as_slice.ensures) c.in-Ok.ensures.document);
  measured = rw (← c.as_slice.ensures) c.in-Ok.ensures.measures;
}

pub returns-in-Ok-clause-ok : goal.returns-in-Ok-clause-ok
returns-in-Ok-clause-ok c = (
  λ _. position_of-document c.args.items (rw (← c.as_slice.ensures) c.in-Ok.ensures.document),
  λ _. refl,
)

pub returns-in-Err-clause-ok : goal.returns-in-Err-clause-ok
returns-in-Err-clause-ok c = (
  λ e. absurd cc,
  λ d. absurd
      (c.in-Err.ensures.refused.unfinished
      (rw c.as_slice.ensures (document-position c.args.items d))),
)

pub returns-in-Err-clause-at : goal.returns-in-Err-clause-at
returns-in-Err-clause-at c = rw (← c.as_slice.ensures)
    (stops-refused c.as_slice.result.now c.in-Err.at c.in-Err.ensures.refused)
