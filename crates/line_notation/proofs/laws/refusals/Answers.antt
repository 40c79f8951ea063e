use Rattle.line_notation.proofs.RefusalFacts.{no_line-refused, nothing-else, place-refused}
use Rattle.line_notation.proofs.RefusalFacts.{range-refused, refused-no_line, refused-place}
use Rattle.line_notation.proofs.RefusalFacts.{refused-range, refused-text, text-refused}
use Rattle.line_notation.proofs.laws.refusals.Goals as goal

pub returns-clause-no_form : goal.returns-clause-no_form
returns-clause-no_form c items opened line = (
  refused-no_line items opened line,
  no_line-refused
      items opened line,
)

pub returns-clause-text : goal.returns-clause-text
returns-clause-text c items opened line = (
  refused-text items opened line,
  text-refused items opened
      line,
)

pub returns-clause-range : goal.returns-clause-range
returns-clause-range c items opened line = (
  refused-range items opened line,
  range-refused items
      opened line,
)

pub returns-clause-place : goal.returns-clause-place
returns-clause-place c items opened line = (
  refused-place items opened line,
  place-refused items
      opened line,
)

pub returns-clause-nothing_else : goal.returns-clause-nothing_else
returns-clause-nothing_else c = nothing-else
