-- Texts that lie one after the other in one list of bytes.
use Rattle.std.specs.Prelude.{◌≡◌, ℕ, ◌≤◌, List, [], ◌∷◌, length, slice_range, IsUtf8}

-- the texts by the places where they end, the first of which begins at a given one
abbrev pub pieces : ℕ → List ℕ → List ℕ → List (List ℕ)
pieces from [] bytes = []
pieces from (end ∷ ends) bytes = slice_range bytes from end ∷ pieces end ends bytes

-- the places rise to the end of the bytes, and each text is UTF-8
abbrev pub ArePieces : ℕ → List ℕ → List ℕ → Type 0
ArePieces from [] bytes = from ≡ length bytes
ArePieces from (end ∷ ends) bytes =
    (from ≤ end) × IsUtf8 (slice_range bytes from end) × ArePieces end ends bytes

abbrev pub AreTexts : List ℕ → List ℕ → Type 0
AreTexts ends bytes = ArePieces 0 ends bytes
