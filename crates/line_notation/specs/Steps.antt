-- What a step of reading a line gives.
use Rattle.std.specs.Prelude.{◌≡◌, ℕ, ◌≤◌, true, List, [], ◌∷◌, ◌++◌, length, take, drop, Some}
use Rattle.std.specs.Prelude.{None, Ok, Err, Option, Result}
use Rattle.std.specs.List.{list_all}
use Rattle.line_notation.specs.declared.words.Stop.{Stop, TheVariants.Memory, TheVariants.NotALine}
use Rattle.line_notation.specs.{Quoted.is_plain, Words.words_left, Words.words_of}

abbrev pub Stops : {A : Type 0} → Stop → Option A → Type 0
Stops NotALine read = read ≡ None
Stops Memory read = Unit {0}

-- what is seen by `view` of what a step returned, and the words that it left, is what reading
-- gives, unless memory ran out
abbrev pub Gives : {X A : Type 0} → (X → A) → Result X Stop → List (List ℕ)
    → Option (A × List (List ℕ)) → Type 0
Gives view (Ok x) left read = read ≡ Some (view x, left)
Gives view (Err stop) left read = Stops stop read

-- the same of a step that takes no words
abbrev pub Finds : {X A : Type 0} → (X → A) → Result X Stop → Option A → Type 0
Finds view (Ok x) read = read ≡ Some (view x)
Finds view (Err stop) read = Stops stop read

-- the words behind a place
abbrev pub words_behind : List ℕ → List (List ℕ)
words_behind [] = []
words_behind (b ∷ line) = words_of line

-- the first word ends at the place
pub record CutsWord (line : List ℕ) (at : ℕ) : Type 0 where
  pub within : at ≤ length line
  pub words : words_of line ≡ take at line ∷ words_behind (drop at line)

-- the first word has plain bytes between quotes, and this is left of the line behind it
pub record CutsShown (line shown : List ℕ) (left : Option (List ℕ)) : Type 0 where
  pub plain : list_all is_plain shown ≡ true
  pub words : words_of line ≡ (34 ∷ shown ++ 34 ∷ []) ∷ words_left left

-- the next word was taken, which has these plain bytes between quotes
pub record TakesShown (shown : List ℕ) (old new : List (List ℕ)) : Type 0 where
  pub plain : list_all is_plain shown ≡ true
  pub words : old ≡ (34 ∷ shown ++ 34 ∷ []) ∷ new
