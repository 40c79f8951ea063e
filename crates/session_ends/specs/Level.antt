-- Both ends of one direction.
use Rattle.std.specs.Prelude.{◌≡◌, ℕ, List, [], Some, ⊤}
use Rattle.nbfx_values.specs.{declared.content.Item.Item, Limits.IsGood}
use Rattle.nbfx_encoder.specs.{declared.encoder.Encoder.Encoder, Spelling.encoded}
use Rattle.nbfx_encoder.specs.EncoderState.{kind_in, limits_in, names_in, Refuses, Writes}
use Rattle.nbfx_encoder.specs.ReadBack.{AdmitsAsMuch}
use Rattle.nbfx_decoder.specs.declared.decoder.Decoder.{Decoder}
use Rattle.nbfx_decoder.specs.DecoderState.{failure_of, settings_of, StandsFor}
use Rattle.session_ends.specs.declared.carrying.CarryFault.{CarryFault}
use Rattle.session_ends.specs.declared.carrying.CarryFault.TheVariants.{Memory, Unsent}
use Rattle.nbfx_decoder.specs.declared.faults.DecodeFault.TheVariants as faults

-- Between payloads the reader has the writer's strings, under the same static ones, and admits as
-- much as the writer.
pub record AreLevel (e : Encoder) (d : Decoder) : Type 0 where
  pub statics : (settings_of d).statics ≡ (names_in e).statics
  pub kind : (settings_of d).kind ≡ kind_in e
  pub good : IsGood (settings_of d).limits
  pub admits : AdmitsAsMuch (settings_of d).limits (limits_in e)
  pub stands : StandsFor d (names_in e).strings []

-- why a document wasn't carried, by both ends before and after
abbrev pub IsUnsent : Encoder → Encoder → Decoder → Decoder → List Item → CarryFault → Type 0
IsUnsent old new d e items (Unsent fault) =
    Refuses (encoded (limits_in old) (kind_in old) (names_in old) items) fault
    × (names_in new ≡ names_in old) × (e ≡ d)
IsUnsent old new d e items Memory = ⊤

-- A document was written, and the writer's strings are those after it. But the reader wanted
-- memory, hasn't read it, and has failed for good.
pub record IsLost (old new : Encoder) (d : Decoder) (items : List Item) (room : List ℕ)
    : Type 0 where
  pub written : Writes (encoded (limits_in old) (kind_in old) (names_in old) items) [] room
      (names_in new)
  pub failed : failure_of d ≡ Some faults.Memory
