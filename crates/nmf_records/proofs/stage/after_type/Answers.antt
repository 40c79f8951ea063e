use Rattle.std.proofs.Common.{[], sym, ◌∙◌, subst}
use Rattle.nmf_records.{specs.Steps.Meets, proofs.Typed.allowed_reads}
use Rattle.nmf_records.proofs.stage.after_type.Goals as goal

pub returns-clause-reads : goal.returns-clause-reads
returns-clause-reads c = λ limits. subst (λ f. Meets f 1 c.after_known_type.result)
    (sym (allowed_reads limits c.args.types c.args.kind [] c.if-kind-gt-GREATEST.false
    (sym c.allows.ensures ∙ c.if-not-allows.false))) (c.after_known_type.ensures.reads limits)

pub returns-clause-goes : goal.returns-clause-goes
returns-clause-goes c = c.after_known_type.ensures.goes c.args.types
