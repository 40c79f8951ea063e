-- Why a sending half refuses what fits.
use Rattle.{std.specs.Prelude.⊤, nbfx_encoder.specs.declared.faults.EncodeFault.TheVariants.Memory}
use Rattle.nbfx_encoder.specs.declared.sender.SendFault.{SendFault, TheVariants.Refused}

abbrev pub IsWantOfMemory : SendFault → Type 0
IsWantOfMemory (Refused Memory) = ⊤
IsWantOfMemory fault = ⊥
