use Rattle.std.proofs.Common.{◌≡◌, ℕ, Bool, true, false, All, List, [], ◌∷◌, length}
use Rattle.std.proofs.Common.{Ok, sym, refl}
use Rattle.std.proofs.Common.{ap, ◌∙◌, subst, arith, length-append}
use Rattle.stream_reader.specs.Sides.{endpoint_of}
use Rattle.stream_loop.{proofs.Reading.none_taken, specs.Edges.Input, specs.Edges.input_at}
use Rattle.stream_loop.specs.declared.outbound.Outbound.TheVariants.{Done}
use Rattle.duplex_server.specs.declared.outcome.Outcome.{Outcome}
use Rattle.duplex_server.specs.{Carrying.FillsCarry, ServerStream.Answering, ServerStream.answering}
use Rattle.session_pool.specs.SoFar.{IsSoFar}
use Rattle.session_pool.proofs.Along.{filled_so_far, last_done, no_more, none_so_far}
use Rattle.session_pool.proofs.Along.{not_read, one_unwell, one_well}
use Rattle.session_pool.proofs.serving.serve_each.Given.{Over}
use Rattle.session_pool.proofs.serving.serve_each.Goals as goal

module _ (g : Over) where
  abbrev input_of : g.row.S.Denot → Input
  input_of source = input_at g.S.Source.left g.S.Source.taken g.S.Source.faults
      g.S.Source.empty_takes source

-- by the answer
fills_so : (i i' : Input) (carried carried' : List ℕ) (more answer : Bool) → more ≡ answer
    → FillsCarry i i' carried carried' (Ok more) → FillsCarry i i' carried carried' (Ok answer)
fills_so i i' carried carried' more answer is f =
    subst (λ (b : Bool). FillsCarry i i' carried carried' (Ok b)) is f

-- some are carried then
some_carried : (i i' : Input) (carried carried' : List ℕ)
    → FillsCarry i i' carried carried' (Ok true) → carried' ≡ [] → ⊥
some_carried i i' carried carried' f none = let never = f.some.1 none in cc

pub loop-number-init : goal.loop-number-init
loop-number-init g c =
    let s = c.args.server.now in
    let x : Answering = answering (g.V.Service.served s.service.now) s.statics.now s.quotas.now in
    let endpoint = endpoint_of s.endpoint.now in
    let i : Input = input_of g c.args.source in
    let sink = g.K.Sink.view c.args.sink in (
      subst (λ (l : List Outcome). IsSoFar x endpoint i i sink sink c.args.carry l)
          (sym c.requires.none) (subst (λ (h : List ℕ). IsSoFar x endpoint i i sink sink h [])
          (sym c.requires.new) (none_so_far x endpoint i sink (none_taken i))),
      ap length c.requires.none,
      c.requires.room,
      refl,
    )

pub returns-in_default-clause-served : goal.returns-in_default-clause-served
returns-in_default-clause-served g c =
    let s = c.args.server.now in
    let x : Answering = answering (g.V.Service.served s.service.now) s.statics.now s.quotas.now in
    let l = c.loop-number in
    let size = l.invariant.1 in
    let more = c.loop-number-test.true in
    not_read x (endpoint_of s.endpoint.now) c.args.most (input_of g c.args.source)
    (input_of g l.source) (input_of g c.fill.new.source) (g.K.Sink.view c.args.sink)
    (g.K.Sink.view l.sink) l.carry l.outcomes.items l.invariant.0 (omega (arith, size, more))
    c.turns.result c.turns.ensures.outcomes c.fill.new.self _ c.in_default.ensures
    c.turns.ensures.end

pub returns-then-not-more-clause-served : goal.returns-then-not-more-clause-served
returns-then-not-more-clause-served g c =
    let s = c.args.server.now in
    let x : Answering = answering (g.V.Service.served s.service.now) s.statics.now s.quotas.now in
    let l = c.loop-number in
    let size = l.invariant.1 in
    let more = c.loop-number-test.true in
    no_more x (endpoint_of s.endpoint.now) c.args.most (input_of g c.args.source)
    (input_of g l.source) (input_of g c.fill.new.source) (g.K.Sink.view c.args.sink)
    (g.K.Sink.view l.sink) l.carry l.outcomes.items l.invariant.0 (omega (arith, size, more))
    c.turns-then-not-more.result c.turns-then-not-more.ensures.outcomes c.fill.new.self
    (fills_so (input_of g l.source) (input_of g c.fill.new.source) l.carry c.fill.new.self
    c.in-Ok.more false c.if-not-more.true c.in-Ok.ensures) c.turns-then-not-more.ensures.end

pub returns-then-not-is_well-clause-served : goal.returns-then-not-is_well-clause-served
returns-then-not-is_well-clause-served g c =
    let s = c.args.server.now in
    let x : Answering = answering (g.V.Service.served s.service.now) s.statics.now s.quotas.now in
    let endpoint = endpoint_of s.endpoint.now in
    let i : Input = input_of g c.args.source in
    let l = c.loop-number in
    let k = c.serve_kept-left in
    let size = l.invariant.1 in
    let more = c.loop-number-test.true in
    let f = fills_so (input_of g l.source) (input_of g c.fill.new.source) l.carry c.fill.new.self
    c.in-Ok.more true c.if-not-more.false c.in-Ok.ensures in
    one_unwell x endpoint c.args.most i (input_of g c.fill.new.source) (input_of g k.result.2)
    (g.K.Sink.view c.args.sink) (g.K.Sink.view l.sink) (g.K.Sink.view k.result.3) c.fill.new.self
    k.result.1 l.outcomes.items k.result.0 (filled_so_far x endpoint i (input_of g l.source)
    (input_of g c.fill.new.source) (g.K.Sink.view c.args.sink) (g.K.Sink.view l.sink) l.carry
    c.fill.new.self l.outcomes.items l.invariant.0 f) k.ensures.served
    (c.is_well.ensures.no c.if-not-is_well.true)
    (some_carried (input_of g l.source) (input_of g c.fill.new.source) l.carry c.fill.new.self f)
    (omega (arith, size, more)) c.turns-then-not-is_well.result
    (c.turns-then-not-is_well.ensures.outcomes ∙ c.push_reserved.ensures.items)
    c.turns-then-not-is_well.ensures.end

pub returns-then-not-is_well-clause-same_end : goal.returns-then-not-is_well-clause-same_end
returns-then-not-is_well-clause-same_end g c = λ all.
    c.serve_kept-left.ensures.same_end (last_done c.loop-number.outcomes.items
    c.serve_kept-left.result.0 (subst (All (λ (o : Outcome). o.outbound ≡ Done))
    (c.turns-then-not-is_well.ensures.outcomes ∙ c.push_reserved.ensures.items) all))
    ∙ c.loop-number.invariant.3

pub loop-number-preserved : goal.loop-number-preserved
loop-number-preserved g c =
    let s = c.args.server.now in
    let x : Answering = answering (g.V.Service.served s.service.now) s.statics.now s.quotas.now in
    let endpoint = endpoint_of s.endpoint.now in
    let i : Input = input_of g c.args.source in
    let l = c.loop-number in
    let k = c.serve_kept-left in
    let size = l.invariant.1 in
    let longer = length-append l.outcomes.items (k.result.0 ∷ []) in
    let room = l.invariant.2 in
    let well = c.is_well.ensures.yes c.if-not-is_well.false in
    let f = fills_so (input_of g l.source) (input_of g c.fill.new.source) l.carry c.fill.new.self
    c.in-Ok.more true c.if-not-more.false c.in-Ok.ensures in (
      subst (λ (o : List Outcome). IsSoFar x endpoint i (input_of g k.result.2)
          (g.K.Sink.view c.args.sink) (g.K.Sink.view k.result.3) k.result.1 o)
          (sym c.push_reserved.ensures.items)
          (one_well x endpoint i (input_of g c.fill.new.source) (input_of g k.result.2)
          (g.K.Sink.view c.args.sink) (g.K.Sink.view l.sink) (g.K.Sink.view k.result.3)
          c.fill.new.self k.result.1 l.outcomes.items k.result.0 (filled_so_far x endpoint i
          (input_of g l.source) (input_of g c.fill.new.source) (g.K.Sink.view c.args.sink)
          (g.K.Sink.view l.sink) l.carry c.fill.new.self l.outcomes.items l.invariant.0 f)
          k.ensures.served well),
      ap length c.push_reserved.ensures.items ∙ omega (arith, longer, size),
      let same = c.push_reserved.ensures.capacity in omega (arith, room, same),
      k.ensures.same_end well.outbound ∙ l.invariant.3,
    )
