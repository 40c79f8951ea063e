use Rattle.std.proofs.Common.{◌/◌, ◌%◌, ◌^◌, ◌++◌, arith, w32, w64}
use Rattle.std.{proofs.lemmas.Grind.common_steps, specs.Int.to_le_bytes}
use Rattle.nbfx_records.proofs.PutFacts.{put_first, put_second, puts_as}
use Rattle.nbfx_records.proofs.put_values.put_decimal.Goals as goal

pub returns-in_err-put_bytes : goal.returns-in_err-put_bytes
returns-in_err-put_bytes c = puts_as
    (put_first (to_le_bytes w32 (c.args.decimal.now.magnitude / 2 ^ 64)
    ++ to_le_bytes w64 (c.args.decimal.now.magnitude % 2 ^ 64)) c.from_residual.ensures.0
    c.in_err-put_bytes.ensures) (grind (arith, common_steps))

pub returns-in_err-put_bytes-2 : goal.returns-in_err-put_bytes-2
returns-in_err-put_bytes-2 c = puts_as
    (put_second c.in_ok-put_bytes.ensures
    (put_first (to_le_bytes w64 (c.args.decimal.now.magnitude % 2 ^ 64))
    c.from_residual-in_err-put_bytes-2.ensures.0 c.in_err-put_bytes-2.ensures))
    (grind (arith, common_steps))

pub returns : goal.returns
returns c = puts_as (put_second c.in_ok-put_bytes.ensures
    (put_second c.in_ok-put_bytes-2.ensures c.put_bytes-3.ensures)) (grind (arith, common_steps))
