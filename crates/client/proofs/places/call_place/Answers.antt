use Rattle.std.proofs.Common.{refl}
use Rattle.two_lanes.specs.Merges.{tags_of}
use Rattle.two_lanes.proofs.Naming.{some_order}
use Rattle.client.proofs.Merged.{may_apart}
use Rattle.client.proofs.places.call_place.Goals as goal

pub returns-then-not-is_admitted : goal.returns-then-not-is_admitted
returns-then-not-is_admitted g c =
    let a = c.args in
    let some = some_order a.a.now a.b.now in
    let order = tags_of some.0 in record {
      order = order;
      all = some.1.all_tagged;
      calls = (
        λ may. c.if-not-is_admitted.ensures.refused refl (may_apart a.a.now a.b.now order
            some.1.all_tagged a.settings.mode may),
        refl,
        refl,
      );
    }

pub returns-in_default : goal.returns-in_default
returns-in_default g c =
    let some = some_order c.args.a.now c.args.b.now in
    record { order = tags_of some.0; all = some.1.all_tagged; calls = (refl, refl) }

pub returns : goal.returns
returns g c = c.call_over.ensures
