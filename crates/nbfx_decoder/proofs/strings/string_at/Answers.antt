use Rattle.std.proofs.Common.{◌≡◌, Ok, Some, length, ap, ◌∙◌, arith}
use Rattle.nbfx_decoder.specs.Units.{HeadStands}
use Rattle.nbfx_decoder.proofs.StringSteps.{between_size, waits_for_length, waits_for_text}
use Rattle.nbfx_decoder.proofs.StringSteps.{string_whole, string_bad, text_within, string_exit}
use Rattle.nbfx_decoder.proofs.strings.string_at.Goals as goal

pub returns-in_err-head : goal.returns-in_err-head
returns-in_err-head c = string_exit c.args.room c.args.left c.args.bytes.now _
    c.from_residual.result c.from_residual.ensures.1 c.requires c.in_err-head.ensures

pub returns-in_default : goal.returns-in_default
returns-in_default c = waits_for_length c.args.room c.args.left c.requires c.args.bytes.now
    (rw c.in_default.is at c.in_ok-head.ensures)

pub overflow_add-used : goal.overflow_add-used
overflow_add-used c =
    let le = text_within c.args.room c.args.left c.args.bytes.now _ _
    (rw c.in-Some.is at c.in_ok-head.ensures).0 in
    let fits = c.ranges.left.fits in
    omega (arith, le, fits)

pub returns-then-bytes-used : goal.returns-then-bytes-used
returns-then-bytes-used c = waits_for_text c.args.room c.args.left c.requires c.args.bytes.now
    c.in-Some.head (rw c.in-Some.is at c.in_ok-head.ensures).0 c.if-bytes-used.true

pub returns-in-Ok : goal.returns-in-Ok
returns-in-Ok c =
    let there : HeadStands c.args.room c.args.left c.args.bytes.now (Ok (Some c.in-Some.head)) =
    rw c.in-Some.is at c.in_ok-head.ensures in
    let text = string_whole c.args.room c.args.left c.requires c.args.bytes.now c.in-Some.head
    there.0 c.in-Ok.text.now c.if-bytes-used.false c.in-Ok.ensures.cases.0 c.in-Ok.ensures.cases.1
    in
    let size : length c.in-Ok.text.now ≡ c.in-Some.head.size =
    ap length c.in-Ok.ensures.cases.0 ∙ between_size c.args.room c.args.left c.requires
    c.args.bytes.now c.in-Some.head there.0 c.if-bytes-used.false in
    (text, (let few = there.1 in omega (arith, size, few)))

pub returns-in-Err : goal.returns-in-Err
returns-in-Err c =
    rw c.refused.ensures (string_bad c.args.room c.args.left c.requires c.args.bytes.now
    c.in-Some.head (rw c.in-Some.is at c.in_ok-head.ensures).0 c.if-bytes-used.false
    c.in-Err.ensures.cases.0)
