use Rattle.std.proofs.Common.{◌≡◌, ◌+◌, ◌∙◌, Ok, length, take, refl, ap, arith, length-append}
use Rattle.std.proofs.lemmas.List.{length-take-le}
use Rattle.nbfx_decoder.specs.declared.units.UnitRead.TheVariants.{More, Done}
use Rattle.nbfx_decoder.specs.Units.{Counts, UnitAnswers}
use Rattle.nbfx_decoder.specs.DecoderState.{situation_of, from_of}
use Rattle.nbfx_decoder.proofs.TakeSteps.{on_begun, on_more, on_done, on_fault}
use Rattle.nbfx_decoder.proofs.decoder.Decoder.take_on.Goals as goal

pub returns-then-len-self-clause-answers : goal.returns-then-len-self-clause-answers
returns-then-len-self-clause-answers c x strings p h =
    let wanted = c.max-wanted.ensures in
    let used = c.min-used.ensures in
    let some = c.requires.some in
    let size = ap length c.in_ok-keep.ensures.kept in
    let short = c.if-len-self.true in
    let len = c.len-2.ensures in
    on_begun c.args.self.now x strings p h c.requires.begun c.args.bytes.now c.min-used.result
    (omega (arith, used)) (omega (arith, used, wanted, some)) _ (omega (arith, size, short, len))
    refl c.in_ok-keep.ensures.kept refl refl

pub returns-in_err-read_on-clause-answers : goal.returns-in_err-read_on-clause-answers
returns-in_err-read_on-clause-answers c x strings p h =
    let wanted = c.max-wanted.ensures in
    let used = c.min-used.ensures in
    let some = c.requires.some in
    on_fault c.args.self.now x strings p h c.requires.begun c.args.bytes.now c.min-used.result
    (omega (arith, used)) (omega (arith, used, wanted, some)) c.keep.new.self
    c.in_ok-keep.ensures.kept
    _ _ c.from_residual-in_err-read_on.result c.from_residual-in_err-read_on.ensures.1
    (c.in_err-read_on.ensures.answers x (situation_of x strings p) (from_of x strings p) h.at)

pub returns-in-Done-clause-answers : goal.returns-in-Done-clause-answers
returns-in-Done-clause-answers c x strings p h =
    let wanted = c.max-wanted.ensures in
    let used = c.min-used.ensures in
    let some = c.requires.some in
    let left = c.saturating_sub.ensures in
    let len = c.len.ensures in
    let waits = (h.waits c.requires.begun).more in
    let read : UnitAnswers x (situation_of x strings p) (from_of x strings p) c.keep.new.self
    c.read_on.new.self (Ok (Done c.in-Done.used)) =
    rw c.in-Done.is at c.in_ok-read_on.ensures.answers x (situation_of x strings p)
    (from_of x strings p) h.at in
    on_done c.args.self.now x strings p h c.requires.begun c.args.bytes.now c.min-used.result
    (omega (arith, used)) (omega (arith, used, wanted, some)) c.keep.new.self
    c.in_ok-keep.ensures.kept
    _ c.in-Done.used (omega (arith, used, wanted, left, len, waits)) read c.clear.ensures refl

pub returns-in-Done-clause-takes : goal.returns-in-Done-clause-takes
returns-in-Done-clause-takes c =
    let used = c.min-used.ensures in
    let counts : Counts (length c.keep.new.self) (Done c.in-Done.used) = rw c.in-Done.is at
    c.in_ok-read_on.ensures.counts in
    let from : c.read_on.new.self.from ≡ c.args.self.now.units.from + c.in-Done.used =
    rw c.in-Done.is at c.in_ok-read_on.ensures.from in
    let size = ap length c.in_ok-keep.ensures.kept ∙ length-append c.args.self.now.begun
    (take c.min-used.result c.args.bytes.now) in
    let part = length-take-le c.min-used.result c.args.bytes.now (omega (arith, used)) in
    let none = ap length c.clear.ensures in
    let wanted = c.max-wanted.ensures in
    let some = c.requires.some in
    record {
      some = omega (arith, used, wanted, some);
      within = omega (arith, used);
      taken = omega (arith, counts.1, from, size, part, none);
    }

pub returns-in-More-clause-answers : goal.returns-in-More-clause-answers
returns-in-More-clause-answers c x strings p h =
    let wanted = c.max-wanted.ensures in
    let used = c.min-used.ensures in
    let some = c.requires.some in
    let read : UnitAnswers x (situation_of x strings p) (from_of x strings p) c.keep.new.self
    c.read_on.new.self (Ok (More c.in-More.wants)) =
    rw c.in-More.is at c.in_ok-read_on.ensures.answers x (situation_of x strings p)
    (from_of x strings p) h.at in
    on_more c.args.self.now x strings p h c.requires.begun c.args.bytes.now c.min-used.result
    (omega (arith, used)) (omega (arith, used, wanted, some)) c.keep.new.self
    c.in_ok-keep.ensures.kept
    _ c.in-More.wants read c.read_on.ensures.unchanged refl refl
