use Rattle.std.proofs.Common.{ℕ, List, ◌++◌, length, take, Ok, Err, ap, ◌∙◌, subst, arith}
use Rattle.std.proofs.Common.{length-drop}
use Rattle.nbfx_decoder.{specs.Taking.TakeAnswers, proofs.Keeping.settings_through}
use Rattle.nbfx_decoder.proofs.AllSteps.{rest_of, taken_fault, taken_more}
use Rattle.nbfx_decoder.proofs.decoder.Decoder.take_all.Goals as goal

pub returns-in_err-used-clause-answers : goal.returns-in_err-used-clause-answers
returns-in_err-used-clause-answers c x strings p h =
    let far = c.loop-used.invariant.far x strings p h in
    taken_fault x strings p c.args.bytes.now c.loop-used.used far.quiet c.loop-used.self
    c.take.new.self c.loop-used-test.true far.reached _ c.from_residual.result
    c.from_residual.ensures.1
    (subst (λ (b : List ℕ). TakeAnswers x strings (p ++ take c.loop-used.used c.args.bytes.now) b
    c.take.new.self (Err c.in_err-used.field-0.0)) (rest_of c.args.bytes.now c.loop-used.used)
    (c.in_err-used.ensures.answers x strings (p ++ take c.loop-used.used c.args.bytes.now)
    far.reached))

pub loop-used-preserved : goal.loop-used-preserved
loop-used-preserved c =
    let size = ap length (rest_of c.args.bytes.now c.loop-used.used) ∙ length-drop c.loop-used.used
    c.args.bytes.now in
    let counts = c.in_ok-used.ensures.takes.within in
    let before = c.loop-used.invariant.taken in
    let more = c.in_ok-used.ensures.takes.taken in
    let within = c.loop-used.invariant.within in
    record {
      within = omega (arith, counts, size, within);
      taken = omega (arith, before, more);
      failure = c.take.ensures.keeps.failure ∙ c.loop-used.invariant.failure;
      kept = settings_through c.loop-used.invariant.kept c.take.ensures.keeps.settings;
      far = λ x strings p h.
          let far = c.loop-used.invariant.far x strings p h in
          taken_more x strings p c.args.bytes.now c.loop-used.used far.quiet c.take.new.self
          c.in_ok-used.field-0
          (subst (λ (b : List ℕ). TakeAnswers x strings
          (p ++ take c.loop-used.used c.args.bytes.now) b c.take.new.self (Ok c.in_ok-used.field-0))
          (rest_of c.args.bytes.now c.loop-used.used)
          (c.in_ok-used.ensures.answers x strings (p ++ take c.loop-used.used c.args.bytes.now)
          far.reached));
    }
