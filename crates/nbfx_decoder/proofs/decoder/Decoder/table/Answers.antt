use Rattle.std.proofs.Common.{◌∙◌, ap, arith}
use Rattle.string_tables.specs.SessionStrings.{used_cost}
use Rattle.session_dictionary.specs.Strings.{LimitedStrings}
use Rattle.nbfx_decoder.proofs.ShownFacts.{table_here, cost_small, failed_table}
use Rattle.nbfx_decoder.proofs.decoder.Decoder.table.Goals as goal

pub returns-clause-strings : goal.returns-clause-strings
returns-clause-strings c strings p h = c.table.ensures ∙ table_here c.args.self.now strings p h

pub returns-clause-failed : goal.returns-clause-failed
returns-clause-failed c fault strings p h = c.table.ensures ∙ failed_table c.args.self.now fault
    strings p h

pub returns-clause-within : goal.returns-clause-within
returns-clause-within c strings p h =
    let cost = ap (λ (t : LimitedStrings). used_cost t.strings)
    (c.table.ensures ∙ table_here c.args.self.now strings p h) in
    let le = cost_small c.args.self.now strings p h in
    omega (arith, cost, le)
