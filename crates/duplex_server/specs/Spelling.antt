-- What the spelling of an answer appends, and what it leaves of the sending half.
use Rattle.std.specs.Prelude.{◌≡◌, ℕ, Bool, true, false, List, ◌++◌, Some, None, Ok, Err, Option}
use Rattle.std.specs.Prelude.{Result, ⊤}
use Rattle.unit_streams.specs.declared.memory.Memory.{Memory}
use Rattle.string_tables.specs.StringTable.{StringTable}
use Rattle.nbfx_values.specs.declared.session.Mode.{Mode}
use Rattle.nbfx_encoder.specs.{declared.sender.SendState.SendState, Placing.Placed}
use Rattle.nbfx_encoder.specs.{Envelopes.envelope, Sending.behind_message, Spelling.Unfit}

module _ (mode : Mode) (old new : List ℕ) (before behind : StringTable) (was moment : SendState)
  where
    -- the envelope of this payload was appended
    pub record Appends (payload : Placed (List ℕ)) : Type 0 where
      pub written : new ≡ old ++ envelope mode payload.0
      pub table : behind ≡ payload.1
      pub moment_is : moment ≡ behind_message mode

    -- all is as before
    pub record StaysSo : Type 0 where
      pub written : new ≡ old
      pub table : behind ≡ before
      pub moment_is : moment ≡ was

    -- a document with this payload, if it fits, was given to a half that may send it
    abbrev pub Tries : Result (Placed (List ℕ)) Unfit → Result Bool Memory → Type 0
    Tries encoded (Ok true) =
        (payload : Placed (List ℕ)) × (encoded ≡ Ok payload) × Appends payload
    Tries encoded (Ok false) = (why : Unfit) × (encoded ≡ Err why) × StaysSo
    Tries encoded (Err memory) = ⊤

    -- the envelope of the payload was appended, where there is one
    abbrev pub Spells : Option (Placed (List ℕ)) → Result Bool Memory → Type 0
    Spells spelled (Ok true) =
        (payload : Placed (List ℕ)) × (spelled ≡ Some payload) × Appends payload
    Spells spelled (Ok false) = (spelled ≡ None) × StaysSo
    Spells spelled (Err memory) = ⊤
