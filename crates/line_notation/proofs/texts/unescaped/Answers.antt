use Rattle.std.proofs.Common.{◌≡◌, ◌∙◌, ◌<◌, Some, sym, arith, length}
use Rattle.line_notation.specs.Parts.{escape_at}
use Rattle.line_notation.proofs.TextsFacts.{before-escape, before-plain}
use Rattle.line_notation.proofs.texts.unescaped.Goals as goal

pub loop-rest-preserved-then-plain-eq0 : goal.loop-rest-preserved-then-plain-eq0
loop-rest-preserved-then-plain-eq0 c =
    let some : 0 < length c.loop-rest.rest.now = grind arith in
    let none = sym c.plain_count-plain.ensures ∙ c.if-plain-eq0.true in
    let byte : escape_at c.loop-rest.rest.now ≡ Some c.in_ok-byte.byte = grind arith in
    rw (c.in_ok-push.ensures.items, c.split_at.ensures.back)
    (c.loop-rest.invariant ∙ before-escape c.loop-rest.text.items c.loop-rest.rest.now
    c.in_ok-byte.byte some none byte)

pub loop-rest-preserved : goal.loop-rest-preserved
loop-rest-preserved c =
    rw (
      c.in_ok-extend_from_slice.ensures.items,
      c.split_at-else-plain-eq0.ensures.front,
      c.split_at-else-plain-eq0.ensures.back,
    )
    (c.loop-rest.invariant ∙ before-plain c.loop-rest.text.items c.loop-rest.rest.now
    c.plain_count-plain.result c.plain_count-plain.ensures)
