-- The characters of a value as they are kept. Public contracts cite none of this.
use Rattle.std.specs.Prelude.{ℕ, List}
use Rattle.soap_envelope.specs.declared.characters.Spelled.{Spelled}
use Rattle.soap_envelope.specs.declared.characters.Spelled.TheVariants.{Borrowed, Owned}

abbrev pub bytes_of : Spelled → List ℕ
bytes_of (Borrowed text) = text.now
bytes_of (Owned text) = text
