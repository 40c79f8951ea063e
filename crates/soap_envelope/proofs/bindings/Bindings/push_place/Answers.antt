use Rattle.std.proofs.Common.{◌≡◌, ◌≤◌, length, if◌then◌else◌, Some, bytes_eq, sym, ap, ◌∙◌, arith}
use Rattle.std.proofs.lemmas.Map.Text.{btree_map_updates_str}
use Rattle.soap_envelope.specs.{declared.bindings.Binding.Binding, Bindings.few, Layers.place_in}
use Rattle.soap_envelope.proofs.BindingFacts.{declarations-length, kept-back, kept-more}
use Rattle.soap_envelope.proofs.bindings.Bindings.push_place.Goals as goal

pub invariant_of-self-in-Ok : goal.invariant_of-self-in-Ok
invariant_of-self-in-Ok c =
    let bound = c.self.inside.bound in
    let places = c.self.inside.places in
    let p = c.args.prefix.now in
    let one : Binding =
    record { prefix = c.args.prefix; uri = c.args.uri; hidden = c.in_ok-hidden.hidden } in
    let count : length c.args.self.now ≡ length bound.items =
    ap length (sym c.self.view_is) ∙ declarations-length bound.items in
    let many : few ≤ length bound.items = omega (arith, c.requires, count) in
    let at : c.len.result ≡ length bound.items = omega (arith, c.len.ensures, bound.ok.0) in
    kept-more bound c.push.new.self places c.insert.new.self one c.in-Ok.ensures.items many
    c.self.invariant c.in_ok-hidden.ensures.old
    (λ q. btree_map_updates_str p places c.insert.new.self _ c.in_ok-hidden.ensures.updates q
    ∙ ap (λ n. if bytes_eq p q then Some n else place_in q places) at)

pub invariant_of-self-in-Err : goal.invariant_of-self-in-Err
invariant_of-self-in-Err c =
    let bound = c.self.inside.bound in
    let places = c.self.inside.places in
    let p = c.args.prefix.now in
    let one : Binding =
    record { prefix = c.args.prefix; uri = c.args.uri; hidden = c.in_ok-hidden.hidden } in
    kept-back bound c.push.new.self places c.insert.new.self c.put_back.new.places one c.len.result
    c.in-Err.ensures.items c.self.invariant c.in_ok-hidden.ensures.old
    (λ q. btree_map_updates_str p places c.insert.new.self _ c.in_ok-hidden.ensures.updates q)
    (λ q. c.put_back.ensures q)
