-- What a caller knows that feeds a payload in pieces.
use Rattle.std.proofs.Common.{◌≡◌, ℕ, ◌+◌, ◌-◌, ◌≤◌, List, ◌++◌, length, take, drop, sym, ◌∙◌}
use Rattle.std.proofs.Common.{arith, length-append, length-drop, length-take-le}
use Rattle.nbfx_decoder.{specs.declared.decoder.Decoder.Decoder, proofs.StandsFacts.taken_is}
use Rattle.nbfx_decoder.specs.DecoderState.{settings_of, StandsFor, taken_of}

-- it has fed so many bytes
abbrev pub HasFed : Decoder → ℕ → Type 0
HasFed d n = (strings : List (List ℕ)) × (p : List ℕ) × StandsFor d strings p × (length p ≡ n)

-- and may feed more, as many as a payload may have
pub may_feed : (d : Decoder) (n m : ℕ) → HasFed d n → n + m ≤ (settings_of d).limits.payload
    → taken_of d + m ≤ (settings_of d).limits.payload
may_feed d n m h le =
    let same = taken_is d h.0 h.1 h.2 in
    let size = h.3 in
    omega (arith, same, size, le)

pub has_fed : (new : Decoder) (strings : List (List ℕ)) (p y : List ℕ) (n : ℕ)
    → StandsFor new strings (p ++ y) → n ≡ length p + length y → HasFed new n
has_fed new strings p y n stands size = (strings, p ++ y, stands, length-append p y ∙ sym size)

-- some bytes of it
pub piece_length : (i j : ℕ) (xs : List ℕ) → i ≤ j → j ≤ length xs
    → length (take (j - i) (drop i xs)) ≡ j - i
piece_length i j xs ordered within =
    let rest = length-drop i xs in
    length-take-le (j - i) (drop i xs) (omega (arith, rest, ordered, within))
