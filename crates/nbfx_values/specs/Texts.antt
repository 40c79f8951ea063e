-- The bytes of a text as it is kept. Public contracts cite none of this.
use Rattle.std.specs.Prelude.{ℕ, List, string_bytes}
use Rattle.nbfx_values.specs.declared.texts.Letters.{Letters, TheVariants.Long, TheVariants.Short}

abbrev pub bytes_of : Letters → List ℕ
bytes_of (Short text) = text.bytes
bytes_of (Long text) = string_bytes text
