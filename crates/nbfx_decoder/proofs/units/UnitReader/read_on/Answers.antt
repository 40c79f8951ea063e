use Rattle.std.proofs.Common.{List, ℕ, subst}
use Rattle.nbfx_decoder.specs.Units.{UnitAnswers}
use Rattle.nbfx_decoder.proofs.units.UnitReader.read_on.Goals as goal

pub returns-in-TableSize-clause-answers : goal.returns-in-TableSize-clause-answers
returns-in-TableSize-clause-answers c x z from at =
    subst (λ (b : List ℕ). UnitAnswers x z from b c.table_size.new.self c.table_size.result)
    c.as_slice.ensures (c.table_size.ensures.answers x z from at)

pub returns-in-Strings-clause-answers : goal.returns-in-Strings-clause-answers
returns-in-Strings-clause-answers c x z from at =
    subst (λ (b : List ℕ). UnitAnswers x z from b c.table_string.new.self c.table_string.result)
    c.as_slice-in-Strings.ensures (c.table_string.ensures.answers x z from at)
