-- The table of the bytes that show each byte, by computation.
use Rattle.std.proofs.Common.{◌≡◌, ℕ, ◌≤◌, ◌<◌, Bool, true, ◌&&◌, List, take, slice_index, nat_le}
use Rattle.std.proofs.Common.{◌==◌, length, slice_index_or, refl, leb-true, eqb-true}
use Rattle.std.proofs.lemmas.{Bool.agree_below_at, Bool.and_parts, Slice.Eq.bytes_eq-Decides}
use Rattle.std.specs.{Int.to_be_bytes, Int.w32, Str.bytes_eq}
use Rattle.line_notation.specs.declared.escapes.TheConstants.{SHOWN}
use Rattle.line_notation.specs.Quoted.{quoted_byte}

abbrev row : ℕ → List ℕ
row b = to_be_bytes w32 (slice_index_or SHOWN b 0)

abbrev shows : ℕ → Bool
shows b = (length (row b) == 4) && nat_le (slice_index (row b) 3) 3
    && bytes_eq (take (slice_index (row b) 3) (row b)) (quoted_byte b)

all_show : (b : ℕ) → b < 256 → shows b ≡ true
all_show b lt = agree_below_at shows (λ b. true) 256 b refl lt

pub row_len : (b : ℕ) → b < 256 → length (row b) ≡ 4
row_len b lt =
    let p = and_parts (length (row b) == 4) _ (all_show b lt) in
    eqb-true (length (row b)) 4 p.0

pub row_few : (b : ℕ) → b < 256 → slice_index (row b) 3 ≤ 3
row_few b lt =
    let p = and_parts (length (row b) == 4) _ (all_show b lt) in
    let q = and_parts (nat_le (slice_index (row b) 3) 3) _ p.1 in
    leb-true (slice_index (row b) 3) 3 q.0

pub row_shows : (b : ℕ) → b < 256 → take (slice_index (row b) 3) (row b) ≡ quoted_byte b
row_shows b lt =
    let p = and_parts (length (row b) == 4) _ (all_show b lt) in
    let q = and_parts (nat_le (slice_index (row b) 3) 3) _ p.1 in
    (bytes_eq-Decides (take (slice_index (row b) 3) (row b)) (quoted_byte b)).0 q.1
