use Rattle.std.proofs.Common.{◌≡◌, ℕ, ◌+◌, ◌-◌, List, ◌++◌, length, take, drop, ap, ◌∙◌, subst}
use Rattle.std.proofs.Common.{arith, length-drop, length-take-le, take_all}
use Rattle.std.proofs.lemmas.{Grind.pieces, Slice.take-put_mid}
use Rattle.stream_reader.{specs.Runs.HasShort, proofs.RunFacts.run_gathered}
use Rattle.stream_reader.proofs.runs.gather.Goals as goal

pub loop-used-preserved : goal.loop-used-preserved
loop-used-preserved c =
    let bytes : List ℕ = c.args.bytes.now in
    let used : ℕ = c.loop-used.used in
    let filled : ℕ = c.loop-used.filled in
    let size : ℕ = c.in-Some.size in
    let left = length-drop used bytes in
    let whole : take (length bytes - used) (drop used bytes) ≡ drop used bytes =
    take_all (length bytes - used) (drop used bytes) (omega (arith, left)) in
    let next : HasShort (drop used bytes) size =
    subst (λ (d : List ℕ). HasShort d size) whole c.in-Some.ensures in
    let place = length-drop filled c.loop-used.room in
    let count : filled + size - filled ≡ size = omega arith in
    let few = length-take-le (filled + size - filled) (drop filled c.loop-used.room)
    (omega (arith, place, c.if-size-room.false)) in
    let same : used + 1 + size - (used + 1) ≡ size = omega arith in
    let within = next.within in
    record {
      used = omega (arith, within, left);
      filled = grind (arith, pieces);
      room = grind (arith, pieces);
      run =
          run_gathered bytes c.loop-used.room _ used filled size
          (omega (arith, c.loop-used-test.true)) c.loop-used.invariant.run next
          (take-put_mid filled (filled + size - filled) c.loop-used.room c.copy_from_slice.new.self
          (filled + size) (omega (arith, few, c.copy_from_slice.ensures.len))
          (omega (arith, c.loop-used.invariant.filled))
          ∙ ap (λ d. take filled c.loop-used.room ++ d) (c.copy_from_slice.ensures.after
          ∙ ap (λ n. take n (drop (used + 1) bytes)) same));
    }
