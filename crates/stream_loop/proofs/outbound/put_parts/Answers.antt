use Rattle.std.proofs.Common.{◌≡◌, ℕ, ◌-◌, List, length, take, drop, Ok, subst, arith, refl, ◌∙◌}
use Rattle.{std.proofs.lemmas.Grind.common_steps, io_edges.specs.Puts.Puts}
use Rattle.io_edges.proofs.Putting.{none_taken, Puts-nothing, some_taken}
use Rattle.stream_loop.proofs.Gathered.{parts_done, parts_failed, parts_more}
use Rattle.stream_loop.proofs.outbound.put_parts.Goals as goal

pub loop-at-init : goal.loop-at-init
loop-at-init g c = (omega arith, Puts-nothing _, refl)

pub loop-at-preserved : goal.loop-at-preserved
loop-at-preserved g c =
    let bytes = c.args.bytes.now in
    let at = c.loop-at.at in
    let view = g.K.Sink.view in
    let rest : take (length bytes - at) (drop at bytes) ≡ drop at bytes =
    grind (arith, common_steps) in (
      grind (arith, common_steps),
      parts_more bytes at (view c.args.sink.now) (view c.loop-at.sink) c.loop-at.invariant.1
          c.in-Ok.n (view c.put_some.new.self)
          (subst (λ (l : List ℕ). Puts (view c.loop-at.sink) (view c.put_some.new.self)
          (take c.in-Ok.n l) (Ok tt)) rest (some_taken c.in-Ok.ensures.puts)),
      c.in-Ok.ensures.same_end ∙ c.loop-at.invariant.2,
    )

pub returns-in-Err-clause-puts : goal.returns-in-Err-clause-puts
returns-in-Err-clause-puts g c =
    rw c.outbound_of.ensures (parts_failed c.args.bytes.now c.loop-at.at
    (g.K.Sink.view c.args.sink.now) (g.K.Sink.view c.loop-at.sink) c.loop-at.invariant.1
    c.in-Err.fault (g.K.Sink.view c.put_some.new.self)
    (none_taken c.in-Err.ensures.puts) (omega arith))

pub returns-clause-puts : goal.returns-clause-puts
returns-clause-puts g c =
    parts_done c.args.bytes.now c.loop-at.at (g.K.Sink.view c.args.sink.now)
    (g.K.Sink.view c.loop-at.sink) c.loop-at.invariant.1 (omega arith) c.loop-at.invariant.0
