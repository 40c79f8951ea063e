use Rattle.std.proofs.Common.{◌≡◌, ℕ, ◌+◌, ◌-◌, ◌≤◌, List, length}
use Rattle.nbfx_decoder.specs.{DecoderState.Reached, Payload.Settings, Taking.HasTaken}
use Rattle.nbfx_decoder.specs.{Units.KeepsSettings}
use Rattle.nbfx_decoder.proofs.decoder.Decoder.take_all.Given as goal

abbrev pub invariant-loop-used : goal.invariant-loop-used
invariant-loop-used l = record {
  within : l.used ≤ length l.bytes;
  taken : l.self.units.from + length l.self.begun ≤ l.initial.self.units.from
      + length l.initial.self.begun + l.used;
  failure : l.self.failure ≡ l.initial.self.failure;
  kept : KeepsSettings l.initial.self.units l.self.units;
  far : (x : Settings) (strings : List (List ℕ)) (p : List ℕ) → Reached l.initial.self x strings p
      → HasTaken l.self x strings p l.bytes l.used;
}

abbrev pub decreases-loop-used : goal.decreases-loop-used
decreases-loop-used l = length l.bytes - l.used
