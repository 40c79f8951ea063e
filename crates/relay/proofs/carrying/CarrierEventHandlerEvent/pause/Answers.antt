use Rattle.std.proofs.Common.{◌++◌, sym, refl, ◌∙◌, append-nil, inl, inr}
use Rattle.relay.proofs.{Closing.going_before, Closing.going_unless, Putting.put_same}
use Rattle.relay.proofs.carrying.CarrierEventHandlerEvent.pause.Goals as goal

-- the direction was ended before
pub returns-then-self-clause-may_wait : goal.returns-then-self-clause-may_wait
returns-then-self-clause-may_wait g c = inl c.end.ensures.ended

pub returns-then-self-clause-handled : goal.returns-then-self-clause-handled
returns-then-self-clause-handled g c = λ first paused since h.
    rw (append-nil (paused ++ since), c.end.ensures.kept) h

pub returns-then-self-clause-same_end : goal.returns-then-self-clause-same_end
returns-then-self-clause-same_end g c = λ never. absurd (never (inr c.if-self.true))

pub returns-then-self-clause-stopped : goal.returns-then-self-clause-stopped
returns-then-self-clause-stopped g c = λ stopped. (stopped, c.end.ensures.kept)

-- all fitted
pub returns-then-is_none-clause-may_wait : goal.returns-then-is_none-clause-may_wait
returns-then-is_none-clause-may_wait g c = inr c.pause.ensures.may_wait

pub returns-then-is_none-clause-handled : goal.returns-then-is_none-clause-handled
returns-then-is_none-clause-handled g c = λ first paused since h.
    let m = c.args.self.now in
    let e = c.pause.ensures in
    rw (append-nil (paused ++ since)) (
      put_same _ (g.K.Sink.view first) (paused ++ since) m (g.K.Sink.view c.args.sink.now) h.0 _
          (g.K.Sink.view c.pause.new.sink)
          (λ parts given. e.given (g.K.Sink.view first) parts given) (e.little h.0.little)
          (going_before m.parts.outbound _ (λ stopped. (e.stopped stopped).0)) refl refl refl,
      h.1,
    )

pub returns-then-is_none-clause-same_end : goal.returns-then-is_none-clause-same_end
returns-then-is_none-clause-same_end g c = λ never.
    c.pause.ensures.same_end (going_unless _ (λ stopped. never (inl stopped)))

pub returns-then-is_none-clause-stopped : goal.returns-then-is_none-clause-stopped
returns-then-is_none-clause-stopped g c = λ stopped. elim stopped [
  | inl never ↦
      let e = c.pause.ensures.stopped never in
      (inl (λ going. never (sym e.0 ∙ going)), e.1)
  | inr over ↦ cc
]

-- a document didn't fit
pub returns-clause-may_wait : goal.returns-clause-may_wait
returns-clause-may_wait g c = inl c.end-2.ensures.ended

pub returns-clause-handled : goal.returns-clause-handled
returns-clause-handled g c = λ first paused since h.
    let m = c.args.self.now in
    let e = c.pause.ensures in
    rw (append-nil (paused ++ since), c.end-2.ensures.kept) (
      put_same _ (g.K.Sink.view first) (paused ++ since) m (g.K.Sink.view c.args.sink.now) h.0 _
          (g.K.Sink.view c.pause.new.sink)
          (λ parts given. e.given (g.K.Sink.view first) parts given) (e.little h.0.little)
          (going_before m.parts.outbound _ (λ stopped. (e.stopped stopped).0)) refl refl refl,
      h.1,
    )

pub returns-clause-same_end : goal.returns-clause-same_end
returns-clause-same_end g c = λ never. absurd (never (inr refl))

pub returns-clause-stopped : goal.returns-clause-stopped
returns-clause-stopped g c = λ stopped. elim stopped [
  | inl never ↦ (inr refl, c.end-2.ensures.kept ∙ (c.pause.ensures.stopped never).1)
  | inr over ↦ cc
]
