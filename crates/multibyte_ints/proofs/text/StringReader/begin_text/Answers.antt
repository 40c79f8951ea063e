use Rattle.multibyte_ints.proofs.{TextFacts.above_is, TextSteps.begins_text}
use Rattle.multibyte_ints.proofs.text.StringReader.begin_text.Goals as goal

pub returns-then-length-self-clause-reached : goal.returns-then-length-self-clause-reached
returns-then-length-self-clause-reached c p e = above_is _ p _ _ e c.if-length-self.true

pub returns-else-length-self-clause-reached : goal.returns-else-length-self-clause-reached
returns-else-length-self-clause-reached c p e = begins_text _ _ p e c.if-length-self.false
    c.clear.ensures.items
