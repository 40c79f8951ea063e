use Rattle.std.proofs.Common.{◌+◌, ◌%◌, refl, arith}
use Rattle.multibyte_ints.proofs.WritingSteps.{at_start, goes_on, room_left, group_written}
use Rattle.multibyte_ints.proofs.WritingSteps.{rest_kept, still_within, last_written}
use Rattle.multibyte_ints.proofs.writing.put_int.Goals as goal

pub loop-rest-init : goal.loop-rest-init
loop-rest-init c = record {
  few = omega arith;
  room = let small = c.requires in omega arith;
  so_far = at_start c.args.n;
  kept = refl;
}

pub loop-rest-preserved : goal.loop-rest-preserved
loop-rest-preserved c =
    let so_far = c.loop-rest.invariant in
    let few = goes_on _ _ so_far.few so_far.room c.loop-rest-test.true in
    let size = c.told-out in
    let within = still_within c.loop-rest.out c.args.out.now c.loop-rest.count so_far.kept
    (omega arith) in
    record {
      few = omega arith;
      room = room_left _ _ few so_far.room;
      so_far = group_written _ _ _ _ few within c.loop-rest-test.true so_far.so_far;
      kept = rest_kept c.loop-rest.out c.args.out.now c.loop-rest.count
          (c.loop-rest.rest % 128 + 128) so_far.kept;
    }

pub returns : goal.returns
returns c =
    let so_far = c.loop-rest.invariant in
    let size = c.told-out in
    let few = so_far.few in
    let within = still_within c.loop-rest.out c.args.out.now c.loop-rest.count so_far.kept
    (omega arith) in
    let last = last_written _ _ c.args.out.now _ _ within c.loop-rest-test.false so_far.so_far
    so_far.kept in
    record { len = last.0; written = last.1 }
