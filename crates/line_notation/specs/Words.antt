-- The words of a line, with one space between each two.
use Rattle.std.specs.Prelude.{ℕ, Bool, false, not, ◌&&◌, List, [], ◌∷◌, ◌++◌, if◌then◌else◌, ◌==◌}
use Rattle.std.specs.Prelude.{Some, None, Option, flat_map}

-- words, each behind a space, and the line that has these words
abbrev pub behind_spaces : List (List ℕ) → List ℕ
behind_spaces = flat_map (λ word. 32 ∷ word)

abbrev pub spaced : List (List ℕ) → List ℕ
spaced [] = []
spaced (word ∷ words) = word ++ behind_spaces words

-- a byte before the first word
abbrev pub onto_first : ℕ → List (List ℕ) → List (List ℕ)
onto_first b [] = (b ∷ []) ∷ []
onto_first b (word ∷ words) = (b ∷ word) ∷ words

-- a byte that neither ends a word nor opens quotes
abbrev pub is_bare : ℕ → Bool
is_bare b = not (b == 32) && not (b == 34)

-- whether the byte behind one is in quotes
abbrev pub goes_on_within : Bool → ℕ → Bool
goes_on_within within b = if b == 34 then not within else within

-- what stands between spaces that are in no quotes, where the first byte is or isn't in quotes
abbrev pub words_from : Bool → List ℕ → List (List ℕ)
words_from within [] = [] ∷ []
words_from within (b ∷ bytes) =
    let more = words_from (goes_on_within within b) bytes in
    if b == 32 && not within then [] ∷ more else onto_first b more

abbrev pub words_of : List ℕ → List (List ℕ)
words_of line = words_from false line

-- the words of what is left of a line, if there is more
abbrev pub words_left : Option (List ℕ) → List (List ℕ)
words_left None = []
words_left (Some line) = words_of line

-- the next word, and those behind it
abbrev pub next_in : List (List ℕ) → Option (List ℕ × List (List ℕ))
next_in [] = None
next_in (word ∷ words) = Some (word, words)
