-- The bytes and content types by which MC-NMF names modes and encodings.
use Rattle.std.specs.Prelude.{ℕ, List, codes}
use Rattle.nbfx_values.specs.declared.session.Encoding.{Encoding, TheVariants.Extensible}
use Rattle.nbfx_values.specs.declared.session.Encoding.TheVariants.{Known}
use Rattle.nbfx_values.specs.declared.session.Mode.{Mode}
use Rattle.nbfx_values.specs.declared.session.Kind.{Kind, TheVariants.Plain, TheVariants.Session}
use Rattle.nbfx_values.specs.declared.session.Mode.TheVariants.{Duplex, Simplex, Singleton}

abbrev pub mode_number : Mode → ℕ
mode_number Singleton = 1
mode_number Duplex = 2
mode_number Simplex = 3

abbrev pub kind_number : Kind → ℕ
kind_number Plain = 7
kind_number Session = 8

abbrev pub content_type : Kind → List ℕ
content_type Plain = codes "application/soap+msbin1"
content_type Session = codes "application/soap+msbinsession1"

abbrev pub encoding_kind : Encoding → Kind
encoding_kind (Known kind) = kind
encoding_kind (Extensible kind) = kind
