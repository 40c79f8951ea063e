use Rattle.relay.proofs.opening.front_listener.Goals as goal

pub returns : goal.returns
returns c = record { comes = rw c.in_ok-endpoint.ensures at c.new.ensures.comes }
