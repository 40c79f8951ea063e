use Rattle.std.proofs.Common.{◌≡◌, ◌-◌, ◌^◌, ◌<◌, ◌≤◌, ◌++◌, take, drop}
use Rattle.multibyte_ints.specs.Integer.{shortest, shortest_within}
use Rattle.multibyte_ints.proofs.writing.put_int.Given as goal

abbrev pub invariant-loop-rest : goal.invariant-loop-rest
invariant-loop-rest l = record {
  few : l.count ≤ 4;
  room : l.rest < 128 ^ (5 - l.count);
  so_far : shortest l.fn.n ≡ take l.count l.out ++ shortest_within (4 - l.count) l.rest;
  kept : drop l.count l.out ≡ drop l.count l.fn.out;
}

abbrev pub decreases-loop-rest : goal.decreases-loop-rest
decreases-loop-rest l = l.rest
