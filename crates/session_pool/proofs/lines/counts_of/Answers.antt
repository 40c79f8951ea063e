use Rattle.std.proofs.Common.{ℕ, ◌+◌, ◌-◌, ◌^◌, List, map, min, take, get_or, sym, refl, ap}
use Rattle.std.proofs.Common.{◌∙◌}
use Rattle.std.proofs.lemmas.List.{take_more}
use Rattle.stream_loop.specs.declared.outbound.Outbound.TheVariants.{Done}
use Rattle.duplex_server.specs.declared.outcome.{Inbound.TheVariants.Ended, Outcome.Outcome}
use Rattle.session_pool.{specs.PoolLines.added_to, proofs.Sums.added_more}
use Rattle.session_pool.proofs.lines.counts_of.Goals as goal

pub loop-outcome-init : goal.loop-outcome-init
unfolding added_to
loop-outcome-init c = (refl, refl)

pub loop-outcome-preserved : goal.loop-outcome-preserved
loop-outcome-preserved c =
    let l = c.loop-outcome in
    let all : List Outcome = c.args.outcomes.now in
    let i : ℕ = l.outcome-index in
    let none : Outcome = record { messages = 0; answers = 0; inbound = Ended; outbound = Done } in
    let one : Outcome = get_or all i none in
    let more = take_more all i none c.loop-outcome-test.true in
    let sums : (Outcome → ℕ) → List Outcome → ℕ = λ of outcomes. added_to 0 (map of outcomes) in
    let messages : Outcome → ℕ = λ o. o.messages in
    let answers : Outcome → ℕ = λ o. o.answers in (
      c.saturating_add-messages.ensures
          ∙ ap (λ (n : ℕ). min (n + c.from.result) (2 ^ 128 - 1)) l.invariant.0
          ∙ ap (λ (n : ℕ). min (sums messages (take i all) + n) (2 ^ 128 - 1)) c.from.ensures
          ∙ sym (added_more messages (take i all) one) ∙ ap (sums messages) (sym more),
      c.saturating_add-answers.ensures
          ∙ ap (λ (n : ℕ). min (n + c.from-in-loop-outcome.result) (2 ^ 128 - 1)) l.invariant.1
          ∙ ap (λ (n : ℕ). min (sums answers (take i all) + n) (2 ^ 128 - 1))
          c.from-in-loop-outcome.ensures
          ∙ sym (added_more answers (take i all) one) ∙ ap (sums answers) (sym more),
    )
