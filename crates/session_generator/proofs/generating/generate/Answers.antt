use Rattle.std.proofs.Common.{◌≡◌, ℕ, ◌+◌, ◌-◌, List, [], ◌∷◌, ◌++◌, sym, refl, ap, ◌∙◌, subst}
use Rattle.std.proofs.{Common.arith, lemmas.Result.err_from_is_err_and}
use Rattle.nbfx_values.specs.{declared.content.Item.Item, QuotasOf.limits_of}
use Rattle.session_generator.specs.Documents.{document, drawn, stepped}
use Rattle.session_generator.specs.UnderWay.{CanSend, IsUnderWay, Stops}
use Rattle.session_generator.proofs.{Carrying.can_send, Looping.stopped_with}
use Rattle.session_generator.proofs.Closing.{closes_counted, closes_ended, closes_level}
use Rattle.session_generator.proofs.Closing.{closes_stopped, drawn_low, may_end}
use Rattle.session_generator.proofs.Looping.{all_sent, AreSentBefore, none_sent, one_sent}
use Rattle.session_generator.proofs.generating.generate.Goals as goal

pub returns-in_err-session-clause-ends : goal.returns-in_err-session-clause-ends
returns-in_err-session-clause-ends c =
    let p = err_from_is_err_and c.from_residual.result c.from_residual.ensures.1 in rw p.1 tt

pub returns-in_err-session-clause-counted : goal.returns-in_err-session-clause-counted
returns-in_err-session-clause-counted c =
    let p = err_from_is_err_and c.from_residual.result c.from_residual.ensures.1 in rw p.1 tt

pub returns-in_err-session-clause-level : goal.returns-in_err-session-clause-level
returns-in_err-session-clause-level c =
    let p = err_from_is_err_and c.from_residual.result c.from_residual.ensures.1 in rw p.1 tt

pub returns-in_err-doc-clause-ends : goal.returns-in_err-doc-clause-ends
returns-in_err-doc-clause-ends c =
    let p = err_from_is_err_and c.from_residual-in_err-doc.result
    c.from_residual-in_err-doc.ensures.1 in rw p.1 tt

pub returns-in_err-doc-clause-counted : goal.returns-in_err-doc-clause-counted
returns-in_err-doc-clause-counted c =
    let p = err_from_is_err_and c.from_residual-in_err-doc.result
    c.from_residual-in_err-doc.ensures.1 in rw p.1 tt

pub returns-in_err-doc-clause-level : goal.returns-in_err-doc-clause-level
returns-in_err-doc-clause-level c =
    let p = err_from_is_err_and c.from_residual-in_err-doc.result
    c.from_residual-in_err-doc.ensures.1 in rw p.1 tt

pub returns-in_err-send-clause-ends : goal.returns-in_err-send-clause-ends
returns-in_err-send-clause-ends c =
    let p = err_from_is_err_and c.from_residual-in_err-send.result
    c.from_residual-in_err-send.ensures.1 in rw p.1 tt

pub returns-in_err-send-clause-counted : goal.returns-in_err-send-clause-counted
returns-in_err-send-clause-counted c =
    let p = err_from_is_err_and c.from_residual-in_err-send.result
    c.from_residual-in_err-send.ensures.1 in rw p.1 tt

pub returns-in_err-send-clause-level : goal.returns-in_err-send-clause-level
returns-in_err-send-clause-level c =
    let p = err_from_is_err_and c.from_residual-in_err-send.result
    c.from_residual-in_err-send.ensures.1 in rw p.1 tt

pub returns-in_err-session-clause-none : goal.returns-in_err-session-clause-none
returns-in_err-session-clause-none c =
    let p = err_from_is_err_and c.from_residual.result c.from_residual.ensures.1 in
    rw (p.1, p.2)
    (stopped_with c.args.statics.now (limits_of c.args.quotas) c.args.quotas.good c.is_map.ensures
    c.args.seed c.args.count c.args.seed 0 c.args.count [] c.in_err-session.field-0.0 refl
    c.in_err-session.ensures.stopped)

pub loop-number-init : goal.loop-number-init
loop-number-init c =
    ([], none_sent c.args.seed c.args.count, c.in_ok-session.ensures.opened)

pub returns-in_err-doc-clause-none : goal.returns-in_err-doc-clause-none
returns-in_err-doc-clause-none c =
    let p = err_from_is_err_and c.from_residual-in_err-doc.result
    c.from_residual-in_err-doc.ensures.1 in
    rw (p.1, p.2) tt

pub send-requires : goal.send-requires
send-requires c =
    let made : c.in_ok-doc.doc ≡ document c.loop-number.number (drawn (stepped c.loop-number.state))
    = c.in_ok-doc.ensures ∙ ap (document c.loop-number.number)
    (c.drawn.ensures ∙ ap drawn c.stepped-state.ensures) in
    subst (CanSend c.loop-number.session) (sym made)
    (can_send c.args.statics.now (limits_of c.args.quotas) c.args.quotas.good c.is_map.ensures
    c.loop-number.invariant.0 c.loop-number.session c.loop-number.invariant.2
    c.loop-number.number (drawn (stepped c.loop-number.state))
    (let lt = c.loop-number-test.true in let fits = c.ranges.count.fits in omega (arith, lt, fits))
    (drawn_low c.loop-number.state))

pub returns-in_err-send-clause-none : goal.returns-in_err-send-clause-none
returns-in_err-send-clause-none c =
    let made : c.in_ok-doc.doc ≡ document c.loop-number.number (drawn (stepped c.loop-number.state))
    = c.in_ok-doc.ensures ∙ ap (document c.loop-number.number)
    (c.drawn.ensures ∙ ap drawn c.stepped-state.ensures) in
    let p = err_from_is_err_and c.from_residual-in_err-send.result
    c.from_residual-in_err-send.ensures.1 in
    rw (p.1, p.2)
    (stopped_with c.args.statics.now (limits_of c.args.quotas) c.args.quotas.good c.is_map.ensures
    c.args.seed c.args.count (stepped c.loop-number.state) (c.loop-number.number + 1)
    (c.args.count - (c.loop-number.number + 1))
    (c.loop-number.invariant.0
    ++ document c.loop-number.number (drawn (stepped c.loop-number.state)) ∷ [])
    c.in_err-send.field-0.0
    (one_sent c.args.seed c.args.count c.loop-number.state c.loop-number.number
    c.loop-number.invariant.0 c.loop-number.invariant.1 c.loop-number-test.true)
    (subst (λ (d : List Item). Stops (limits_of c.args.quotas) c.args.statics.now
    (c.loop-number.invariant.0 ++ d ∷ []) c.in_err-send.field-0.0) made
    (c.in_err-send.ensures.stopped (limits_of c.args.quotas) c.args.statics.now
    c.loop-number.invariant.0 c.args.quotas.good c.is_map.ensures c.loop-number.invariant.2)))

pub loop-number-preserved : goal.loop-number-preserved
loop-number-preserved c =
    let made : c.in_ok-doc.doc ≡ document c.loop-number.number (drawn (stepped c.loop-number.state))
    = c.in_ok-doc.ensures ∙ ap (document c.loop-number.number)
    (c.drawn.ensures ∙ ap drawn c.stepped-state.ensures) in
    let more : List (List Item) = c.loop-number.invariant.0
    ++ document c.loop-number.number (drawn (stepped c.loop-number.state)) ∷ [] in (
      more,
      subst (λ (y : ℕ). AreSentBefore c.args.seed c.args.count y (c.loop-number.number + 1) more)
          (sym c.stepped-state.ensures)
          (one_sent c.args.seed c.args.count c.loop-number.state c.loop-number.number
          c.loop-number.invariant.0 c.loop-number.invariant.1 c.loop-number-test.true),
      subst (λ (d : List Item). IsUnderWay (limits_of c.args.quotas) c.args.statics.now
          (c.loop-number.invariant.0 ++ d ∷ []) c.send.new.self) made
          (c.in_ok-send.ensures.sent (limits_of c.args.quotas) c.args.statics.now
          c.loop-number.invariant.0 c.args.quotas.good c.is_map.ensures
          c.loop-number.invariant.2),
    )

pub close-requires : goal.close-requires
close-requires c = may_end c.args.statics.now (limits_of c.args.quotas) c.args.quotas.good
    c.is_map.ensures
    c.loop-number.invariant.0 c.loop-number.session c.loop-number.invariant.2

pub returns-clause-ends : goal.returns-clause-ends
returns-clause-ends c =
    let all = all_sent c.args.seed c.args.count c.loop-number.state c.loop-number.number
    c.loop-number.invariant.0 c.loop-number.invariant.1 c.loop-number-test.false in
    closes_ended c.args.statics.now (limits_of c.args.quotas) c.args.quotas.good c.is_map.ensures
    c.loop-number.invariant.0 c.loop-number.session c.loop-number.invariant.2
    c.args.seed c.args.count all c.close.result c.close.ensures.ended

pub returns-clause-counted : goal.returns-clause-counted
returns-clause-counted c =
    let all = all_sent c.args.seed c.args.count c.loop-number.state c.loop-number.number
    c.loop-number.invariant.0 c.loop-number.invariant.1 c.loop-number-test.false in
    closes_counted c.args.statics.now (limits_of c.args.quotas) c.args.quotas.good c.is_map.ensures
    c.loop-number.invariant.0 c.loop-number.session c.loop-number.invariant.2
    c.args.seed c.args.count all c.close.result
    (closes_ended c.args.statics.now (limits_of c.args.quotas) c.args.quotas.good c.is_map.ensures
    c.loop-number.invariant.0 c.loop-number.session c.loop-number.invariant.2
    c.args.seed c.args.count all c.close.result c.close.ensures.ended)

pub returns-clause-level : goal.returns-clause-level
returns-clause-level c =
    let all = all_sent c.args.seed c.args.count c.loop-number.state c.loop-number.number
    c.loop-number.invariant.0 c.loop-number.invariant.1 c.loop-number-test.false in
    closes_level c.args.statics.now (limits_of c.args.quotas) c.args.quotas.good c.is_map.ensures
    c.loop-number.invariant.0 c.loop-number.session c.loop-number.invariant.2
    c.args.seed c.args.count all c.close.result
    (closes_ended c.args.statics.now (limits_of c.args.quotas) c.args.quotas.good c.is_map.ensures
    c.loop-number.invariant.0 c.loop-number.session c.loop-number.invariant.2
    c.args.seed c.args.count all c.close.result c.close.ensures.ended)

pub returns-clause-none : goal.returns-clause-none
returns-clause-none c =
    let all = all_sent c.args.seed c.args.count c.loop-number.state c.loop-number.number
    c.loop-number.invariant.0 c.loop-number.invariant.1 c.loop-number-test.false in
    closes_stopped c.args.statics.now (limits_of c.args.quotas) c.args.quotas.good c.is_map.ensures
    c.loop-number.invariant.0 c.loop-number.session c.loop-number.invariant.2
    c.args.seed c.args.count all c.close.result c.close.ensures.stopped
