use Rattle.std.proofs.Common.{◌≡◌, ◌-◌, length, take, drop, arith}
use Rattle.{std.proofs.lemmas.Grind.common_steps, io_edges.proofs.Pieces.appends_further}
use Rattle.io_edges.proofs.write_sink.write_whole.Goals as goal

pub loop-at-preserved : goal.loop-at-preserved
loop-at-preserved g c =
    let bytes = c.args.bytes.now in
    let whole : take (length bytes - c.loop-at.at) (drop c.loop-at.at bytes) ≡ drop c.loop-at.at
    bytes = grind (arith, common_steps) in (
      grind (arith, common_steps),
      appends_further _ _ _ bytes c.loop-at.at c.in-Ok.n
          c.loop-at.invariant.1 (rw whole at c.in-Ok.ensures.bytes),
    )
