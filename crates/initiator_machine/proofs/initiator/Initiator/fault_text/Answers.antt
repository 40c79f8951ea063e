use Rattle.std.proofs.Common.{◌∙◌}
use Rattle.initiator_machine.{specs.InitiatorState.reader_of, proofs.FaultTexts.no_text}
use Rattle.initiator_machine.proofs.initiator.Initiator.fault_text.Goals as goal

pub returns-clause-text : goal.returns-clause-text
unfolding reader_of
returns-clause-text c = record {
  shown = c.text.ensures.shown;
  stands = c.text.ensures.stands;
  failed = c.text.ensures.failed;
}

pub returns-clause-before : goal.returns-clause-before
unfolding reader_of
returns-clause-before c = λ p stands going.
    c.text.ensures.stands p stands ∙ no_text _ p c.args.self.now.side going
