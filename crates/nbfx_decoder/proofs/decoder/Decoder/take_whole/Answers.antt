use Rattle.std.proofs.Common.{◌≡◌, ℕ, List, [], ◌++◌, length, Ok, Err, sym, refl, ap, ◌∙◌, subst}
use Rattle.std.proofs.Common.{arith}
use Rattle.nbfx_decoder.specs.declared.units.UnitRead.TheVariants.{Done, More}
use Rattle.nbfx_decoder.specs.DecoderState.{begun_of, from_of, situation_of}
use Rattle.nbfx_decoder.{specs.Payload.unit_in, specs.Units.UnitAnswers, proofs.Waits.waits_now}
use Rattle.nbfx_decoder.proofs.TakeSteps.{takes_all, takes_fault, takes_unit_of}
use Rattle.nbfx_decoder.proofs.decoder.Decoder.take_whole.Goals as goal

pub returns-in_err-used-clause-answers : goal.returns-in_err-used-clause-answers
returns-in_err-used-clause-answers c x strings p h =
    let none : [] ≡ begun_of x strings p = sym c.requires.none ∙ h.begun in
    takes_fault x strings p c.args.bytes.now _ h.going _ c.from_residual.result
    c.from_residual.ensures.1
    (subst (λ (b : List ℕ). UnitAnswers x (situation_of x strings p) (from_of x strings p)
    (b ++ c.args.bytes.now) c.read.new.self (Err c.in_err-used.field-0.0)) none
    (c.in_err-used.ensures.answers x (situation_of x strings p) (from_of x strings p) h.at))

pub returns-in_err-keep-in-More-clause-answers : goal.returns-in_err-keep-in-More-clause-answers
returns-in_err-keep-in-More-clause-answers c x strings p h =
    let read : UnitAnswers x (situation_of x strings p) (from_of x strings p) c.args.bytes.now
    c.read.new.self (Ok (More c.in-More.wants)) =
    rw c.in-More.is at c.in_ok-used.ensures.answers x (situation_of x strings p)
    (from_of x strings p) h.at in
    takes_fault x strings p c.args.bytes.now _ h.going _ c.from_residual-in_err-keep-in-More.result
    c.from_residual-in_err-keep-in-More.ensures.1 read.1.set

pub returns-in-Done-clause-answers : goal.returns-in-Done-clause-answers
returns-in-Done-clause-answers c x strings p h =
    let none : [] ≡ begun_of x strings p = sym c.requires.none ∙ h.begun in
    let read : UnitAnswers x (situation_of x strings p) (from_of x strings p)
    (begun_of x strings p ++ c.args.bytes.now) c.read.new.self (Ok (Done c.in-Done.used)) =
    subst (λ (b : List ℕ). UnitAnswers x (situation_of x strings p) (from_of x strings p)
    (b ++ c.args.bytes.now) c.read.new.self (Ok (Done c.in-Done.used))) none
    (rw c.in-Done.is at c.in_ok-used.ensures.answers x (situation_of x strings p)
    (from_of x strings p) h.at) in
    let empty = ap length none in
    takes_unit_of x strings p c.args.bytes.now h.going read.0 c.in-Done.used read.1 c.in-Done.used
    (omega (arith, empty)) read.2 _ read.3 c.requires.none h.unfailed

pub returns-in_ok-keep-in-More-clause-answers : goal.returns-in_ok-keep-in-More-clause-answers
returns-in_ok-keep-in-More-clause-answers c x strings p h =
    let none : [] ≡ begun_of x strings p = sym c.requires.none ∙ h.begun in
    let read : UnitAnswers x (situation_of x strings p) (from_of x strings p)
    (begun_of x strings p ++ c.args.bytes.now) c.read.new.self (Ok (More c.in-More.wants)) =
    subst (λ (b : List ℕ). UnitAnswers x (situation_of x strings p) (from_of x strings p)
    (b ++ c.args.bytes.now) c.read.new.self (Ok (More c.in-More.wants))) none
    (rw c.in-More.is at c.in_ok-used.ensures.answers x (situation_of x strings p)
    (from_of x strings p) h.at) in
    takes_all x strings p c.args.bytes.now h.going
    (waits_now (unit_in x (situation_of x strings p) (from_of x strings p))
    (begun_of x strings p ++ c.args.bytes.now) c.in-More.wants read.0) c.requires.some
    _ c.in-More.wants read.1 (c.in_ok-keep-in-More.ensures.kept ∙ ap (λ b. b ++ c.args.bytes.now)
    h.begun) refl read.0 h.unfailed
