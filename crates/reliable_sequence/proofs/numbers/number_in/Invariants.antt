use Rattle.std.proofs.Common.{◌≡◌, ◌^◌, ◌<◌, Some, drop}
use Rattle.reliable_sequence.specs.Numbers.{number_behind}
use Rattle.reliable_sequence.proofs.numbers.number_in.Given as goal

abbrev pub invariant-loop-digit : goal.invariant-loop-digit
invariant-loop-digit l = record {
  read : number_behind (Some l.number) (drop l.digit-index l.digits)
      ≡ number_behind (Some 0) l.digits;
  small : l.number < 2 ^ 63;
}
