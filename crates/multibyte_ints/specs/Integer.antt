-- The variable-length integer (MC-NBFX's MultiByteInt31, MC-NMF's record size): one to five bytes
-- with seven value bits each, least significant first, where the top bit says that another byte
-- follows.
use Rattle.std.specs.Prelude.{◌≡◌, ℕ, zero, suc, ◌+◌, ◌-◌, ◌*◌, ◌/◌, ◌%◌, ◌^◌, ◌<◌, ◌≤◌, ◌&&◌, List}
use Rattle.std.specs.Prelude.{[], ◌∷◌, length, take, if◌then◌else◌, nat_lt, nat_le, ◌==◌}
use Rattle.std.specs.{Prelude.slice_index, Prelude.⊤, List.prefix_len}
use Rattle.unit_streams.specs.Front.{begun, Front, whole, wrong}

-- the low seven bits of each byte, the byte at i times 128 ^ i, added up
unfoldable pub value_of : List ℕ → ℕ
value_of [] = 0
value_of (b ∷ bs) = b % 128 + 128 * value_of bs

-- the bytes are a spelling of n
pub record Spells (n : ℕ) (b : List ℕ) : Type 0 where
  pub some : 0 < length b
  pub at_most_five : length b ≤ 5
  pub continued : (i : ℕ) → i + 1 < length b → 128 ≤ slice_index b i
  pub ended : slice_index b (length b - 1) < 128
  pub value : n ≡ value_of b
  pub in_31_bits : n < 2 ^ 31

-- each is a byte
abbrev pub IsBytes : List ℕ → Type 0
IsBytes b = (i : ℕ) → slice_index b i < 256

-- with at most so many bytes before the last
unfoldable pub shortest_within : ℕ → ℕ → List ℕ
shortest_within zero n = n ∷ []
shortest_within (suc more) n =
    if nat_lt n 128 then n ∷ [] else (n % 128 + 128) ∷ shortest_within more (n / 128)

-- the one spelling of n whose last byte isn't 0, and the byte 0 for 0
unfoldable pub shortest : ℕ → List ℕ
shortest n = shortest_within 4 n

-- how many bytes at the front say that another follows
abbrev pub continued_len : List ℕ → ℕ
continued_len b = prefix_len (λ x. nat_le 128 x) b

-- the integer at the front, where the first byte below 128 has the place k
unfoldable pub int_ending_at : ℕ → List ℕ → Front ℕ ⊤
int_ending_at k b =
    if nat_lt 4 k then wrong tt 5
    else (if k == length b then begun
    else (if (k == 4) && nat_lt 7 (slice_index b k) then wrong tt 5
    else whole (value_of (take (k + 1) b)) (k + 1)))

-- the integer at the front: it is wrong where a fifth byte is above 7
unfoldable pub int_at : List ℕ → Front ℕ ⊤
int_at b = int_ending_at (continued_len b) b
