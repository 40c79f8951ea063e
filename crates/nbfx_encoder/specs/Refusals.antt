-- How a writer tells why a document doesn't fit.
use Rattle.nbfx_encoder.specs.declared.faults.EncodeFault.{EncodeFault}
use Rattle.nbfx_encoder.specs.declared.faults.EncodeFault.TheVariants as faults
use Rattle.nbfx_encoder.specs.Spelling.{Unfit, too_deep, too_large, too_much, unnamed}

-- a refusal
abbrev pub told : Unfit → EncodeFault
told (too_deep depth) = faults.TooDeep depth
told (too_much size) = faults.TooMuchContent size
told (unnamed item) = faults.NoIdForQName item
told (too_large size) = faults.TooLarge size
