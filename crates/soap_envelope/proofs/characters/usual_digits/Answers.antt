-- The digits of 0 and 1.
use Rattle.std.proofs.{Common.◌≡◌, Common.pos, Common.sym, Common.ap, Common.arith, lemmas.Int.ints}
use Rattle.std.specs.Fmt.{digits, signed_decimal}
use Rattle.soap_envelope.proofs.characters.usual_digits.Goals as goal

pub returns-then-number-eq0 : goal.returns-then-number-eq0
unfolding digits
returns-then-number-eq0 c =
    let zero : c.args.number ≡ pos 0 = omega (arith, ints) in
    sym (ap signed_decimal zero)

pub returns-then-number-eq1 : goal.returns-then-number-eq1
unfolding digits
returns-then-number-eq1 c =
    let one : c.args.number ≡ pos 1 = omega (arith, ints) in
    sym (ap signed_decimal one)
