use Rattle.std.proofs.Common.{if◌then◌else◌, bytes_eq, sym, ap, ◌∙◌}
use Rattle.{std.proofs.lemmas.Map.Text.btree_map_updates_str, soap_envelope.specs.Layers.place_in}
use Rattle.soap_envelope.proofs.bindings.put_back.Goals as goal

pub returns-in-Ok : goal.returns-in-Ok
returns-in-Ok c = λ q.
    let prefix = c.args.last.now.prefix.now in
    btree_map_updates_str prefix c.args.places.now c.insert.new.self _ c.in-Ok.ensures.updates q
    ∙ ap (λ o. if bytes_eq prefix q then o else place_in q c.args.places.now) (sym c.in-Some.is)

pub returns-in-None : goal.returns-in-None
returns-in-None c = λ q.
    let prefix = c.args.last.now.prefix.now in
    btree_map_updates_str prefix c.args.places.now c.remove.new.self _ c.remove.ensures.updates q
    ∙ ap (λ o. if bytes_eq prefix q then o else place_in q c.args.places.now) (sym c.in-None.is)
