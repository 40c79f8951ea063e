use Rattle.std.proofs.Common.{◌<◌, length, None, sym, ◌∙◌, rules}
use Rattle.{string_tables.proofs.StaticFacts.gives_least_static}
use Rattle.string_tables.proofs.LeastFacts.{found_least, found_none}
use Rattle.string_tables.specs.StaticStrings.{least_static_id, static_text}
use Rattle.static_dictionary.{specs.Inside.entries_in, proofs.MapFacts.found-static}
use Rattle.static_dictionary.proofs.table.StaticTable.id.Goals as goal

-- a text that is longer than all has no identifier
pub returns-then-text-self-clause-none : goal.returns-then-text-self-clause-none
returns-then-text-self-clause-none c =
    let entries = entries_in c.self.inside.by_id in
    let text = c.args.text.now in
    let longer : c.self.inside.names.longest < length text = search rules in
    let none = sym (c.self.invariant.maps.longest text longer)
    ∙ c.self.invariant.maps.least text in
    rw (← c.self.view_is)
    (found_none (static_text entries) (least_static_id entries)
    (gives_least_static entries c.self.invariant.maps.rises) text None none)

pub returns-clause-found : goal.returns-clause-found
returns-clause-found c =
    let entries = entries_in c.self.inside.by_id in
    let found = c.id.ensures
    ∙ c.self.invariant.maps.least c.args.text.now in
    rw (← c.self.view_is)
    (found_least (static_text entries) (least_static_id entries)
    (gives_least_static entries c.self.invariant.maps.rises) c.args.text.now c.id.result
    found)

pub returns-clause-none : goal.returns-clause-none
returns-clause-none c =
    let entries = entries_in c.self.inside.by_id in
    let found = c.id.ensures
    ∙ c.self.invariant.maps.least c.args.text.now in
    rw (← c.self.view_is)
    (found_none (static_text entries) (least_static_id entries)
    (gives_least_static entries c.self.invariant.maps.rises) c.args.text.now c.id.result
    found)

pub returns-clause-static_id : goal.returns-clause-static_id
returns-clause-static_id c =
    let found = c.id.ensures
    ∙ c.self.invariant.maps.least c.args.text.now in
    found-static (entries_in c.self.inside.by_id) c.args.text.now c.id.result found
    c.self.invariant.maps.rises
