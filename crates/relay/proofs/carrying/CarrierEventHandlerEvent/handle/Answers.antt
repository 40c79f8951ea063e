use Rattle.std.proofs.Common.{[], ◌∷◌, ◌++◌, false, sym, refl, ◌∙◌, append_assoc}
use Rattle.relay.proofs.{Begun.faulted_more, Putting.put_same}
use Rattle.relay.proofs.carrying.CarrierEventHandlerEvent.handle.Goals as goal

pub returns-clause-handled : goal.returns-clause-handled
returns-clause-handled g c = λ first paused since h.
    let w = c.write_for.ensures in
    rw (← append_assoc paused since (c.args.event ∷ []), w.set) (
      w.carried _ (g.K.Sink.view first) (paused ++ since) refl
          (put_same _ (g.K.Sink.view first) (paused ++ since) c.args.self.now
          (g.K.Sink.view c.args.sink.now) h.0 _ (g.K.Sink.view c.args.sink.now)
          (λ parts given. given) h.0.little (λ on. on) refl refl refl),
      w.faulted ∙ c.is_fault-self.ensures ∙ sym (faulted_more false (paused ++ since) c.args.event),
    )
