-- Which fault a decoder answers from then on. Public contracts cite none of this.
use Rattle.std.specs.Prelude.{◌≡◌, ℕ, ◌+◌, ◌^◌, ◌<◌}
use Rattle.nbfx_decoder.specs.declared.faults.{DecodeFault.DecodeFault, UnitFault.UnitFault}
use Rattle.nbfx_decoder.specs.declared.faults.UnitFault.TheVariants.{Memory, Refused}
use Rattle.nbfx_decoder.specs.declared.faults.DecodeFault.TheVariants as decode_faults

-- that of the unit which begins at this offset
abbrev pub ShowsFault : ℕ → UnitFault → DecodeFault → Type 0
ShowsFault from (Refused reason shown_by) fault = from + shown_by < 2 ^ 32
    → fault ≡ decode_faults.Payload from reason (from + shown_by)
ShowsFault from Memory fault = fault ≡ decode_faults.Memory
