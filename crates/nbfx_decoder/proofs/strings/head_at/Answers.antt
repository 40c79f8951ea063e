use Rattle.std.proofs.Common.{arith}
use Rattle.nbfx_decoder.proofs.StringSteps.{used_within, head_begun, head_cut, head_bad, head_long}
use Rattle.nbfx_decoder.proofs.StringSteps.{head_dear, head_good}
use Rattle.nbfx_decoder.proofs.strings.head_at.Goals as goal

pub overflow_sub-left : goal.overflow_sub-left
overflow_sub-left c = used_within c.args.room c.args.left c.requires c.args.bytes.now c.min.result
    c.min.ensures c.in-Done.value c.in-Done.used c.in-Done.ensures.0

pub returns-then-size-left : goal.returns-then-size-left
returns-then-size-left c = rw c.refused-then-size-left.ensures
    (head_long c.args.room c.args.left c.requires c.args.bytes.now c.min.result c.min.ensures
    c.in-Done.value c.in-Done.used c.in-Done.ensures.0 c.if-size-left.true)

pub returns-then-max-room : goal.returns-then-max-room
returns-then-max-room c = rw c.refused-then-max-room.ensures
    (head_dear c.args.room c.args.left c.requires c.args.bytes.now c.min.result c.min.ensures
    c.in-Done.value c.in-Done.used c.max.result c.in-Done.ensures.0 c.if-size-left.false
    c.max.ensures c.if-max-room.true)

pub returns-in-More : goal.returns-in-More
returns-in-More c = head_begun c.args.room c.args.left c.requires c.args.bytes.now c.min.result
    c.min.ensures c.in-More.ensures c.if-bytes-left.true

pub returns-in-More-2 : goal.returns-in-More-2
returns-in-More-2 c = rw c.refused.ensures
    (head_cut c.args.room c.args.left c.requires c.args.bytes.now c.min.result c.min.ensures
    c.in-More-2.ensures c.if-bytes-left.false)

pub returns-in-Bad : goal.returns-in-Bad
returns-in-Bad c = rw c.refused-in-Bad.ensures
    (head_bad c.args.room c.args.left c.requires c.args.bytes.now c.min.result c.min.ensures
    c.in-Bad.ensures)

pub returns-else-max-room : goal.returns-else-max-room
returns-else-max-room c = (
  head_good c.args.room c.args.left c.requires c.args.bytes.now c.min.result c.min.ensures
      c.in-Done.value c.in-Done.used c.max.result c.in-Done.ensures.0 c.if-size-left.false
      c.max.ensures c.if-max-room.false,
  (let paid = c.max.ensures in let few = c.if-max-room.false in omega (arith, paid, few)),
)
