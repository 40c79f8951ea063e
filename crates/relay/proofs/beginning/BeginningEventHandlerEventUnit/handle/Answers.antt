use Rattle.std.proofs.Common.{[], ◌∷◌, ◌++◌, sym, refl, ◌∙◌, append_assoc}
use Rattle.relay.proofs.Begun.{waited_more}
use Rattle.relay.proofs.beginning.BeginningEventHandlerEventUnit.handle.Goals as goal

-- what begins a session
pub returns-in-Some-clause-halted : goal.returns-in-Some-clause-halted
returns-in-Some-clause-halted c = λ first paused since waited. record {
  unbegun = waited.unbegun;
  event = c.args.event;
  at_is = refl;
  begins_so = sym c.begun_at.ensures ∙ c.in-Some.is;
}

-- any other event
pub returns-in-None-clause-handled : goal.returns-in-None-clause-handled
returns-in-None-clause-handled c = λ first paused since waited.
    rw (← append_assoc paused since (c.args.event ∷ [])) (waited_more (paused ++ since) c.args.event
    c.args.self.now _ refl (sym c.begun_at.ensures ∙ c.in-None.is) c.is_fault-self.ensures waited)
