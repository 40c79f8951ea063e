-- What holds of integers and strings by their definitions alone, whatever bytes they are read from.
use Rattle.std.specs.Prelude.{◌≡◌, ℕ, ◌+◌, ◌-◌, ◌^◌, ◌<◌, ◌≤◌, ◌↔◌, List, [], ◌++◌, length, take}
use Rattle.std.specs.Prelude.{drop, slice_index, IsUtf8}
use Rattle.unit_streams.specs.Front.{begun, whole, wrong}
use Rattle.multibyte_ints.specs.Integer.{Spells, IsBytes, shortest, int_at}
use Rattle.multibyte_ints.specs.Text.{IsString, bad_int, too_long, bad_utf8, string_bytes_of}
use Rattle.multibyte_ints.specs.Text.{string_at}

-- the integer at the front is the one that bytes there are a spelling of
abbrev pub IntegersAreSpellings : Type 0
IntegersAreSpellings = (b : List ℕ) (n k : ℕ)
    → (int_at b ≡ whole n k) ↔ ((k ≤ length b) × Spells n (take k b))

-- an integer has begun where a spelling goes on from the bytes
abbrev pub BegunGoesOn : Type 0
BegunGoesOn = (b : List ℕ)
    → (int_at b ≡ begun) ↔ ((n : ℕ) × (more : List ℕ) × (0 < length more) × Spells n (b ++ more))

-- four bytes say that another follows, and the fifth is above 7
pub record FifthIsAbove (b : List ℕ) : Type 0 where
  pub within : 5 ≤ length b
  pub continued : (i : ℕ) → i < 4 → 128 ≤ slice_index b i
  pub above : 7 < slice_index b 4

-- that is what is wrong with an integer, and nothing else
abbrev pub WrongAtFifth : Type 0
WrongAtFifth = (b : List ℕ) (k : ℕ) → (int_at b ≡ wrong tt k) ↔ ((k ≡ 5) × FifthIsAbove b)

-- no spelling goes on to a longer one
abbrev pub NoSpellingGoesOn : Type 0
NoSpellingGoesOn = (m n : ℕ) (b more : List ℕ) → Spells m b → Spells n (b ++ more) → more ≡ []

abbrev pub ShortestIsSpelling : Type 0
ShortestIsSpelling = (n : ℕ) → n < 2 ^ 31 → Spells n (shortest n) × IsBytes (shortest n)

-- no other spelling ends in a byte that isn't 0, or is one byte long
abbrev pub ShortestIsAlone : Type 0
ShortestIsAlone = (n : ℕ) (b : List ℕ) → IsBytes b → Spells n b
    → (1 < length b → 0 < slice_index b (length b - 1)) → b ≡ shortest n

-- the text at the front is the one that bytes there are a string of
abbrev pub TextsAreStrings : Type 0
TextsAreStrings = (limit : ℕ) (b s : List ℕ) (k : ℕ)
    → (string_at limit b ≡ whole s k)
    ↔ ((k ≤ length b) × (length s ≤ limit) × IsString s (take k b))

-- a string is wrong by its integer, by a length above the limit, where that is whole, and by text
-- that isn't UTF-8, where all of it is there
abbrev pub BadByInteger : Type 0
BadByInteger = (limit : ℕ) (b : List ℕ) (k : ℕ)
    → (string_at limit b ≡ wrong bad_int k) ↔ (int_at b ≡ wrong tt k)

abbrev pub BadByLength : Type 0
BadByLength = (limit : ℕ) (b : List ℕ) (k : ℕ)
    → (string_at limit b ≡ wrong too_long k) ↔ ((n : ℕ) × (int_at b ≡ whole n k) × (limit < n))

-- the text of n bytes behind an integer of j bytes
pub record IsBadText (limit : ℕ) (b : List ℕ) (k : ℕ) : Type 0 where
  pub n : ℕ
  pub j : ℕ
  pub int : int_at b ≡ whole n j
  pub low : n ≤ limit
  pub size : k ≡ j + n
  pub within : k ≤ length b
  pub bad : ¬ (IsUtf8 (take n (drop j b)))

abbrev pub BadByText : Type 0
BadByText = (limit : ℕ) (b : List ℕ) (k : ℕ)
    → (string_at limit b ≡ wrong bad_utf8 k) ↔ IsBadText limit b k

-- no string goes on to a longer one
abbrev pub NoStringGoesOn : Type 0
NoStringGoesOn = (s t b more : List ℕ) → IsString s b → IsString t (b ++ more) → more ≡ []

abbrev pub WrittenIsString : Type 0
WrittenIsString = (s : List ℕ) → IsUtf8 s → length s < 2 ^ 31 → IsString s (string_bytes_of s)
