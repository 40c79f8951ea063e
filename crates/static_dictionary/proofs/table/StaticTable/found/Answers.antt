use Rattle.std.proofs.Common.{◌≡◌, ◌/◌, slice_get, Some, sym, refl, ap, ◌∙◌}
use Rattle.{std.proofs.lemmas.Option.slice_get_read, static_dictionary.proofs.MapFacts.placed-here}
use Rattle.static_dictionary.proofs.table.StaticTable.found.Goals as goal

pub returns-in-Some-clause-text : goal.returns-in-Some-clause-text
returns-in-Some-clause-text c =
    let lookup = c.in-Some.ensures.lookup in
    let there : slice_get c.deref.result.now (c.args.id / 2) ≡ Some c.in-Some.text.now =
    slice_get_read c.deref.result.now _ (c.args.id / 2) c.in-Some.text.now refl lookup.3.0
    lookup.1 in
    let placed = sym there ∙ ap (λ texts. slice_get texts (c.args.id / 2)) c.deref.ensures.value in
    rw (← c.self.view_is)
    (c.text_in.ensures ∙ placed-here c.self.inside.placed.items c.self.inside.by_id
    c.in-Some.text.now c.args.id c.self.invariant.places placed c.if-id-eq0.true)
