-- What else changes which numbers are acknowledged: nothing.
use Rattle.std.specs.Prelude.{◌≡◌, ℕ, Bool, false, List}
use Rattle.nbfx_values.specs.declared.content.Item.{Item}
use Rattle.reliable_sequence.specs.Sent.{is_acknowledged, nothing_sent, Sent, sent_with}

-- at first no number is
abbrev pub NoneAtFirst : Type 0
NoneAtFirst = (window number : ℕ) → is_acknowledged (nothing_sent window) number ≡ false

-- a body that is submitted changes none
abbrev pub SameWithMore : Type 0
SameWithMore = (s : Sent) (body : List Item) (last : Bool) (number : ℕ)
    → is_acknowledged (sent_with s body last) number ≡ is_acknowledged s number
