use Rattle.std.proofs.Common.{◌≡◌, ℕ, All, List, [], ◌∷◌, ◌++◌, length, sym, refl, ap, ◌∙◌, subst}
use Rattle.std.proofs.Common.{append_assoc, append-nil, arith, Option}
use Rattle.std.specs.Vec.Iter.{into_iter_items}
use Rattle.io_edges.specs.Wires.{Network, network_at}
use Rattle.stream_loop.specs.Edges.{AreNew, input_at}
use Rattle.duplex_server.specs.declared.connection.Server.{Server}
use Rattle.session_pool.specs.declared.turns.Turns.{Turns}
use Rattle.session_pool.specs.Serving.{AreServing, Closes}
use Rattle.session_pool.proofs.Pooled.{all_at, closed_pair, closes_more, closes_none, is_pooled}
use Rattle.session_pool.proofs.Pooled.{serving_first}
use Rattle.session_pool.proofs.pooling.close_each.Given.{Over}
use Rattle.session_pool.proofs.pooling.close_each.Goals as goal

module _ (g : Over) where
  abbrev seen_at : g.row.W.Denot → Network g.row.W-Reader.Denot g.row.W-Writer.Denot
  seen_at wire = network_at g.W.Wire.waiting g.W.Wire.closed g.W.Wire.out g.W.Wire.faults
      g.W.Wire.end_faults wire

  abbrev ClosesSo : Server g.row.V.Denot → ℕ → List (g.row.W-Reader.Denot × g.row.W-Writer.Denot)
      → Option (List (List ℕ × List ℕ)) → g.row.W.Denot → g.row.W.Denot → List Turns → Type 0
  ClosesSo server most ends told wire wire' list = Closes g.V.Service.served
      g.W.Reader.Source.left g.W.Reader.Source.taken g.W.Reader.Source.faults
      g.W.Reader.Source.empty_takes g.W.Writer.Sink.view server most ends told (seen_at wire)
      (seen_at wire') list

pub loop-turning-init : goal.loop-turning-init
loop-turning-init g c =
    let r = g.W.Reader.Source in
    let gives = c.into_iter-turning-iterator.ensures.into_iter_gives in
    let none = c.requires.none.1 in
    let room = c.requires.room in
    let out = c.requires.out in
    let size = gives.1 in (
      λ server most ends told serving new closed sized. (
        [],
        ends,
        refl,
        subst (AreServing g.V.Service.served r.left r.taken r.faults r.empty_takes
            g.W.Writer.Sink.view server most ends) (sym gives.0) serving,
        sized ∙ sym gives.1,
        subst (ClosesSo g server most [] told c.args.wire.now c.args.wire.now)
            (sym c.requires.none.0) (closes_none g.V.Service.served r.left r.taken r.faults
            r.empty_takes g.W.Writer.Sink.view server most told (seen_at g c.args.wire.now)),
      ),
      omega (arith, none, room, size),
      omega (arith, out, size),
    )

pub loop-turning-preserved : goal.loop-turning-preserved
loop-turning-preserved g c =
    let r = g.W.Reader.Source in
    let l = c.loop-turning in
    let steps = c.in-Some.ensures.steps in
    let fewer = steps.1 in
    let room = l.invariant.1 in
    let unclosed = l.invariant.2 in
    let pushed = c.push_reserved.ensures.len in
    let capacity = c.push_reserved.ensures.capacity in
    let out = c.close.ensures.out in (
      λ server most ends told serving new closed sized.
          let k = l.invariant.0 server most ends told serving new closed sized in
          let f = serving_first g.V.Service.served r.left r.taken r.faults r.empty_takes
          g.W.Writer.Sink.view server most k.1 (into_iter_items l.turning-iterator)
          c.in-Some.turning (into_iter_items c.next.new.self) steps.0 k.3 in
          let turned = c.finish-turns.result in
          let all : ends ≡ k.0 ++ f.one ∷ f.more = k.2 ∙ ap (λ rest. k.0 ++ rest) f.ends_are in
          let serves = c.finish-turns.ensures server most f.one f.is in
          let is_new = all_at (λ (one : g.row.W-Reader.Denot × g.row.W-Writer.Denot). AreNew told
          (input_at r.left r.taken r.faults r.empty_takes one.0) (g.W.Writer.Sink.view one.1)) k.0
          f.one f.more (subst (All (λ (one : g.row.W-Reader.Denot × g.row.W-Writer.Denot). AreNew
          told (input_at r.left r.taken r.faults r.empty_takes one.0)
          (g.W.Writer.Sink.view one.1))) all new) in
          let rest = k.4 in
          let one_fewer = ap length f.ends_are in (
            k.0 ++ f.one ∷ [],
            f.more,
            all ∙ sym (append_assoc k.0 (f.one ∷ []) f.more),
            f.others,
            omega (arith, rest, one_fewer, fewer),
            subst (ClosesSo g server most (k.0 ++ f.one ∷ []) told c.args.wire.now c.close.new.self)
                (sym c.push_reserved.ensures.items)
                (closes_more g.V.Service.served r.left r.taken r.faults r.empty_takes
                g.W.Writer.Sink.view server most k.0 told (seen_at g c.args.wire.now)
                (seen_at g l.wire) (seen_at g c.close.new.self) l.list.items k.5 f.one
                (turned.1, turned.2) turned.0
                (is_pooled g.V.Service.served r.left r.taken r.faults r.empty_takes
                g.W.Writer.Sink.view server most k.0 told (seen_at g c.args.wire.now)
                (seen_at g l.wire) (seen_at g c.close.new.self) l.list.items k.5 f.one
                (turned.1, turned.2) turned.0 is_new serves)
                (λ before was. closed_pair g.V.Service.served r.left r.taken r.faults r.empty_takes
                g.W.Writer.Sink.view server most f.one (turned.1, turned.2) turned.0 serves told
                is_new before (sym closed ∙ was) (g.W.Wire.closed l.wire)
                (g.W.Wire.closed c.close.new.self) c.close.ensures.closed)
                c.close.ensures.counted c.close.ensures.out c.close.ensures.waiting
                c.close.ensures.faults),
          ),
      omega (arith, room, pushed, capacity, fewer),
      omega (arith, unclosed, out, fewer),
    )

pub returns : goal.returns
returns g c = λ server most ends told serving new closed sized.
    let k = c.loop-turning.invariant.0 server most ends told serving new closed sized in
    let none = c.in-None.ensures.steps.0 in
    let size = k.4 in
    let empty : k.1 ≡ [] = nothing k.1 (omega (arith, size, none)) in
    subst (λ (l : List (g.row.W-Reader.Denot × g.row.W-Writer.Denot)). ClosesSo g server most l told
    c.args.wire.now c.loop-turning.wire c.loop-turning.list.items)
    (sym (k.2 ∙ ap (λ rest. k.0 ++ rest) empty ∙ append-nil k.0)) k.5
  where
    nothing : {X : Type 0} (l : List X) → length l ≡ 0 → l ≡ []
    nothing [] is = refl
    nothing (x ∷ l) is = absurd (omega (arith, is))
