use Rattle.{std.proofs.Common.sym, string_tables.proofs.StaticFacts.static_text-stands}
use Rattle.static_dictionary.proofs.table.StaticTable.text.Goals as goal

pub returns-clause-static_id : goal.returns-clause-static_id
returns-clause-static_id c =
    (static_text-stands 0 c.args.self.now c.args.id _ c.in_ok-text.ensures.map
    (sym c.in_ok-text.ensures.text)).static_id
