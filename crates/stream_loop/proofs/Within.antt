-- How many parts end within the first bytes of some.
use Rattle.std.proofs.Common.{◌≡◌, ℕ, true, false, leb, List, [], ◌∷◌, ◌++◌, if◌then◌else◌, refl}
use Rattle.{io_edges.specs.Faults.one_more, stream_loop.specs.Parts.ends_within}

-- with one end more
pub within_more : (n : ℕ) (ends : List ℕ) (end count : ℕ)
    → ends_within n (ends ++ end ∷ []) count
    ≡ (if leb end n then one_more (ends_within n ends count) else ends_within n ends count)
unfolding ends_within
within_more n [] end count = refl
within_more n (one ∷ ends) end count =
    within_more n ends end (if leb one n then one_more count else count)

-- where it lies within, and where it doesn't
pub within_in : (n : ℕ) (ends : List ℕ) (end count : ℕ) → leb end n ≡ true
    → ends_within n (ends ++ end ∷ []) count ≡ one_more (ends_within n ends count)
within_in n ends end count is = rw is at (within_more n ends end count)

pub within_out : (n : ℕ) (ends : List ℕ) (end count : ℕ) → leb end n ≡ false
    → ends_within n (ends ++ end ∷ []) count ≡ ends_within n ends count
within_out n ends end count is = rw is at (within_more n ends end count)
