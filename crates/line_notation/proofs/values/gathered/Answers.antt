use Rattle.std.proofs.Common.{◌≡◌, ap, arith, [], Err}
use Rattle.std.proofs.lemmas.Result.{err_from_is_err_and}
use Rattle.line_notation.proofs.GatherSteps.{fewer-left, gather-begins, gather-ends, gather-goes_on}
use Rattle.line_notation.proofs.GatherSteps.{gather-is_cut, gather-refuses, gather-stops}
use Rattle.line_notation.proofs.values.gathered.Goals as goal

pub loop-alloc-init : goal.loop-alloc-init
loop-alloc-init c = rw c.none-so_far.ensures (gather-begins c.args.holder c.args.words.now)

pub returns-in_err-token : goal.returns-in_err-token
returns-in_err-token c =
    let p = err_from_is_err_and c.from_residual.result c.from_residual.ensures.1 in
    let some : c.loop-alloc.words ≡ [] → ⊥ = grind arith in
    rw (p.1, p.2) (gather-stops c.args.holder c.args.words.now c.loop-alloc.words
    c.loop-alloc.so_far c.in_err-token.field-0.0 some c.loop-alloc.invariant
    c.in_err-token.ensures.token)

pub returns-in_err-so_far : goal.returns-in_err-so_far
returns-in_err-so_far c =
    let p = err_from_is_err_and c.from_residual-in_err-so_far.result
    c.from_residual-in_err-so_far.ensures.1 in
    let some : c.loop-alloc.words ≡ [] → ⊥ = grind arith in
    rw (p.1, p.2)
    (gather-refuses c.args.holder c.args.words.now c.loop-alloc.words c.token.new.words
    c.loop-alloc.so_far c.in_ok-token.token c.in_err-so_far.field-0.0 some c.is_empty.ensures.few
    c.loop-alloc.invariant c.in_ok-token.ensures.token
    (λ e. c.in_err-so_far.ensures.too_much (ap Err e)))

pub loop-alloc-smaller : goal.loop-alloc-smaller
loop-alloc-smaller c = fewer-left c.loop-alloc.words c.token.new.words c.in_ok-token.token
    c.in_ok-token.ensures.token

pub loop-alloc-preserved : goal.loop-alloc-preserved
loop-alloc-preserved c =
    let some : c.loop-alloc.words ≡ [] → ⊥ = grind arith in
    gather-goes_on c.args.holder c.args.words.now c.loop-alloc.words c.token.new.words
    c.loop-alloc.so_far c.in_ok-so_far.so_far c.in_ok-token.token some c.is_empty.ensures.few
    c.loop-alloc.invariant c.in_ok-token.ensures.token c.in_ok-so_far.ensures.more

pub returns-then-so_far-gt0 : goal.returns-then-so_far-gt0
returns-then-so_far-gt0 c =
    let none : c.loop-alloc.words ≡ [] = grind arith in
    gather-is_cut c.args.holder c.args.words.now c.loop-alloc.so_far
    (rw none at c.loop-alloc.invariant) c.if-so_far-gt0.true

pub returns : goal.returns
returns c =
    let none : c.loop-alloc.words ≡ [] = grind arith in
    gather-ends c.args.holder c.args.words.now c.loop-alloc.so_far
    (rw none at c.loop-alloc.invariant) (omega (arith, c.if-so_far-gt0.false))
