use Rattle.std.proofs.Common.{◌-◌, ◌≤◌, length, drop, sym, ap, ◌∙◌, arith}
use Rattle.std.proofs.lemmas.List.{length-take}
use Rattle.stream_loop.proofs.Buffered.{used_more}
use Rattle.stream_loop.proofs.input_buffer.InputBuffer.consume.Goals as goal

pub returns : goal.returns
returns c =
    let b = c.self.inside in
    let size = ap length (sym c.self.view_is)
    ∙ length-take (b.to - b.from) (drop b.from b.room.items) in
    let within : c.args.count ≤ b.to - b.from = omega (arith, c.requires, size) in
    used_more b.room.items b.from b.to c.args.count within ∙ ap (drop c.args.count) c.self.view_is
