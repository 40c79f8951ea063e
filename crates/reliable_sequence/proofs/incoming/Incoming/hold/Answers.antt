use Rattle.std.proofs.Common.{◌-◌, arith, ap}
use Rattle.reliable_sequence.specs.Received.{Received}
use Rattle.reliable_sequence.proofs.incoming.Incoming.hold.Goals as goal
use Rattle.reliable_sequence.proofs.SlotFacts.{ends-with_body, length-with_body}

pub invariant_of-self-2 : goal.invariant_of-self-2
invariant_of-self-2 c =
    let delivered = ap (λ (r : Received). r.delivered) c.self.view_is in
    let place = c.args.number - c.self.inside.delivered - 1 in
    let long = length-with_body c.self.inside.held place c.args.body in
    rw c.in_ok-put.ensures.put (
      omega arith,
      ends-with_body c.self.inside.held place c.args.body
          c.self.invariant.1,
    )

pub invariant_of-self-3 : goal.invariant_of-self-3
invariant_of-self-3 c =
    let delivered = ap (λ (r : Received). r.delivered) c.self.view_is in
    let place = c.args.number - c.self.inside.delivered - 1 in
    let long = length-with_body c.self.inside.held place c.args.body in
    rw c.in_ok-put.ensures.put (
      omega arith,
      ends-with_body c.self.inside.held place c.args.body
          c.self.invariant.1,
    )
