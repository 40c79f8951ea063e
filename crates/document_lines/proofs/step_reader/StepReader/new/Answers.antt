use Rattle.std.proofs.Common.{◌∙◌, sym, ap}
use Rattle.line_streams.proofs.StreamFacts.{starts}
use Rattle.document_lines.specs.declared.steps.DocumentSteps.{DocumentSteps}
use Rattle.document_lines.specs.{StepReaderState.StandsFor, Steps.IsIn, Steps.step_rules}
use Rattle.document_lines.proofs.step_reader.StepReader.new.Goals as goal

pub returns-clause-stands : goal.returns-clause-stands
unfolding StandsFor
returns-clause-stands c =
    let r = c.new-2.result in
    let e = c.new-2.ensures in (
      ap (λ (s : DocumentSteps). s.quota) e.lines ∙ c.new.ensures.quota ∙ sym e.most,
      starts (step_rules r.lines.quota) (IsIn r.lines.lines) r.begun.items r.taken e.begun e.taken
          (ap (λ (s : DocumentSteps). s.lines) e.lines ∙ c.new.ensures.lines, tt),
    )
