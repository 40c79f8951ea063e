-- Short chunks, whose sizes are one byte each, one after the other. Public contracts cite none of
-- this.
use Rattle.std.specs.Prelude.{◌≡◌, ℕ, ◌+◌, ◌-◌, ◌<◌, List, [], ◌∷◌, ◌++◌, length, if◌then◌else◌}
use Rattle.std.specs.{Prelude.nat_le, Prelude.◌==◌, Prelude.slice_index, Prelude.⊤, List.concat}

-- some content whose size is one byte
pub record IsShort (content : List ℕ) : Type 0 where
  pub some : 0 < length content
  pub few : length content < 128

abbrev pub AreShort : List (List ℕ) → Type 0
AreShort [] = ⊤
AreShort (content ∷ contents) = IsShort content × AreShort contents

-- the chunks of these contents
abbrev pub chunks_of : List (List ℕ) → List ℕ
chunks_of [] = []
chunks_of (content ∷ contents) = length content ∷ (content ++ chunks_of contents)

-- how many bytes of the chunks bring so many of their content
abbrev pub place_in : List (List ℕ) → ℕ → ℕ
place_in [] n = n
place_in (content ∷ contents) n =
    if n == 0 then 0
    else (if nat_le n (length content) then n + 1
    else (length content + 1) + place_in contents (n - length content))

-- the bytes are short chunks of this content
pub record IsRun (run content : List ℕ) : Type 0 where
  pub contents : List (List ℕ)
  pub short : AreShort contents
  pub run_is : run ≡ chunks_of contents
  pub content_is : content ≡ concat contents

-- a short chunk with so many bytes of content is at the front of the bytes
pub record HasShort (bytes : List ℕ) (n : ℕ) : Type 0 where
  pub some : 0 < n
  pub few : n < 128
  pub size : slice_index bytes 0 ≡ n
  pub within : n < length bytes
