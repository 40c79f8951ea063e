use Rattle.std.proofs.Common.{false, [], ◌∷◌, refl, sym}
use Rattle.stream_loop.proofs.Parts.{given_none}
use Rattle.stream_loop.specs.Parts.{part}
use Rattle.relay.proofs.Closing.{put_opening, unfaulted}
use Rattle.relay.specs.Writing.{carrying_by}
use Rattle.relay.proofs.carrier.Carrier.open.Goals as goal

-- there was no memory to open it
pub returns-in_default-clause-carried : goal.returns-in_default-clause-carried
returns-in_default-clause-carried g c = λ bytes is events halt begins named.
    let first = g.K.Sink.view c.args.sink.now in
    let e = c.run_out.ensures in
    rw c.end.ensures.kept (
      put_opening (carrying_by c.args.settings bytes) first events halt begins named _
          (g.K.Sink.view c.run_out.new.sink)
          (e.given first [] (part bytes false) (given_none first c.new-3.result
          c.new-3.ensures.fresh))
          e.little (λ going. absurd (e.stopped going)),
      sym (unfaulted c.args.settings.side events halt begins),
    )

pub returns-in_default-clause-set : goal.returns-in_default-clause-set
returns-in_default-clause-set g c = λ bytes is going. absurd (c.run_out.ensures.stopped going)

pub returns-clause-carried : goal.returns-clause-carried
returns-clause-carried g c = λ bytes is events halt begins named.
    let first = g.K.Sink.view c.args.sink.now in
    let p = c.put_part.ensures in
    let q = c.pause.ensures in
    let same = rw c.in-Ok.is at is in (
      put_opening (carrying_by c.args.settings bytes) first events halt begins named _
          (g.K.Sink.view c.pause.new.sink)
          (rw (c.deref.ensures.value, same) at (q.given first (part c.deref.result.now false ∷ [])
          (p.given first [] (given_none first c.new-3.result c.new-3.ensures.fresh))))
          (q.little p.little)
          (λ going. (c.new.ensures.state, c.new.ensures.names, refl)),
      sym (unfaulted c.args.settings.side events halt begins),
    )

pub returns-clause-set : goal.returns-clause-set
returns-clause-set g c = λ bytes is going.
    let e = c.new.ensures in
    let same = rw c.in-Ok.is at is in
    rw (e.side, e.limits, e.names, e.mode, e.kind, same) refl
