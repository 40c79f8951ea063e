-- What the steps of a decoder answer. Public contracts cite none of this.
use Rattle.std.specs.Prelude.{◌≡◌, ℕ, ◌+◌, ◌<◌, ◌≤◌, List, [], ◌++◌, length, take, Some, None, Ok, Err}
use Rattle.std.specs.Prelude.{Result}
use Rattle.unit_streams.specs.{Going.IsQuiet, Judging.refusal_at}
use Rattle.nbfx_decoder.specs.declared.{decoder.Decoder.Decoder, faults.UnitFault.UnitFault}
use Rattle.nbfx_decoder.specs.declared.faults.UnitFault.TheVariants.{Memory, Refused}
use Rattle.nbfx_decoder.specs.DecoderState.{from_of, Reached, situation_of}
use Rattle.nbfx_decoder.specs.Payload.{payload, refusal, Settings}
use Rattle.nbfx_decoder.specs.Units.{HasStrings, KeepsSettings}

-- some of the bytes are used, and no more are taken
pub record TakesSome (old new : Decoder) (bytes : List ℕ) (used : ℕ) : Type 0 where
  pub some : 0 < used
  pub within : used ≤ length bytes
  pub taken : new.units.from + length new.begun ≤ old.units.from + length old.begun + used

-- how it is set stays, and so does what it has failed by
pub record KeepsRest (old new : Decoder) : Type 0 where
  pub failure : new.failure ≡ old.failure
  pub settings : KeepsSettings old.units new.units

-- some bytes of c behind p, of which there is one at least
abbrev pub TakeAnswers : Settings → List (List ℕ) → List ℕ → List ℕ → Decoder → Result ℕ UnitFault
    → Type 0
TakeAnswers x strings p c new (Ok k) = (0 < k) × IsQuiet (payload x strings) p c k
    × Reached new x strings (p ++ take k c)
TakeAnswers x strings p c new (Err (Refused reason shown_by)) =
    (k : ℕ) × IsQuiet (payload x strings) p c k
    × (refusal_at (payload x strings) (p ++ take k c) ≡ Some (refusal (from_of x strings p) reason))
    × (from_of x strings p + shown_by ≡ length p + k)
    × HasStrings new.units x (situation_of x strings (p ++ take k c)).strings (from_of x strings p)
TakeAnswers x strings p c new (Err Memory) =
    HasStrings new.units x (situation_of x strings p).strings (from_of x strings p)

-- so many bytes of y are taken behind p
pub record HasTaken (d : Decoder) (x : Settings) (strings : List (List ℕ)) (p y : List ℕ)
    (used : ℕ) : Type 0 where
  pub quiet : IsQuiet (payload x strings) p y used
  pub reached : Reached d x strings (p ++ take used y)

-- so many bytes of y are taken, which are whole records, and no other has begun
pub record TakesRecords (old new : Decoder) (y : List ℕ) (used : ℕ) : Type 0 where
  pub within : used ≤ length y
  pub taken : new.units.from ≤ old.units.from + used
  pub none : new.begun ≡ []
  pub keeps : KeepsRest old new
  pub far : (x : Settings) (strings : List (List ℕ)) (p : List ℕ) → Reached old x strings p
      → HasTaken new x strings p y used

-- all bytes of c behind p
abbrev pub AllAnswers : Settings → List (List ℕ) → List ℕ → List ℕ → Decoder
    → Result (Unit {0}) UnitFault → Type 0
AllAnswers x strings p c new (Ok done) = IsQuiet (payload x strings) p c (length c)
    × Reached new x strings (p ++ c)
AllAnswers x strings p c new (Err (Refused reason shown_by)) =
    (k : ℕ) × (at : ℕ) × IsQuiet (payload x strings) p c k
    × (refusal_at (payload x strings) (p ++ take k c) ≡ Some (refusal at reason))
    × (at + shown_by ≡ length p + k)
    × HasStrings new.units x (situation_of x strings (p ++ take k c)).strings at
AllAnswers x strings p c new (Err Memory) = (k : ℕ) × IsQuiet (payload x strings) p c k
    × (k < length c) × (refusal_at (payload x strings) (p ++ take k c) ≡ None)
    × HasStrings new.units x (situation_of x strings (p ++ take k c)).strings
    (from_of x strings (p ++ take k c))
