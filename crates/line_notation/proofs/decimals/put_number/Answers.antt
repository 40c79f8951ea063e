use Rattle.line_notation.proofs.DecimalFacts.{one_digit, two_digits, three_digits}
use Rattle.line_notation.proofs.decimals.put_number.Goals as goal

pub returns-then-n-lt10 : goal.returns-then-n-lt10
returns-then-n-lt10 g c =
    rw (one_digit c.args.n c.if-n-lt10.true, ← c.last_digit.ensures) c.put_bytes.ensures

pub returns-then-n-lt100 : goal.returns-then-n-lt100
returns-then-n-lt100 g c =
    rw (
      two_digits c.args.n c.if-n-lt10.false c.if-n-lt100.true,
      ← c.last_digit-then-n-lt100.ensures,
      ← c.last_digit-then-n-lt100-2.ensures,
    )
    c.put_bytes-then-n-lt100.ensures

pub returns-then-n-lt1000 : goal.returns-then-n-lt1000
returns-then-n-lt1000 g c =
    rw (
      three_digits c.args.n c.if-n-lt100.false c.if-n-lt1000.true,
      ← c.last_digit-then-n-lt1000.ensures,
      ← c.last_digit-then-n-lt1000-2.ensures,
      ← c.last_digit-then-n-lt1000-3.ensures,
    ) c.put_bytes-then-n-lt1000.ensures
