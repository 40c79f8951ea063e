-- The sum of counts, with one more.
use Rattle.std.proofs.Common.{◌≡◌, ℕ, ◌+◌, ◌-◌, ◌^◌, List, [], ◌∷◌, ◌++◌, map, min, refl, ap, ◌∙◌}
use Rattle.std.proofs.lemmas.List.{map-append}
use Rattle.duplex_server.specs.declared.outcome.Outcome.{Outcome}
use Rattle.session_pool.specs.PoolLines.{added_to}

added_push : (sum : ℕ) (counts : List ℕ) (count : ℕ) → added_to sum (counts ++ count ∷ [])
    ≡ min (added_to sum counts + count) (2 ^ 128 - 1)
unfolding added_to
added_push sum [] count = refl
added_push sum (one ∷ counts) count = added_push (min (sum + one) (2 ^ 128 - 1)) counts count

-- by what is counted of an outcome
pub added_more : (of : Outcome → ℕ) (outcomes : List Outcome) (outcome : Outcome)
    → added_to 0 (map of (outcomes ++ outcome ∷ []))
    ≡ min (added_to 0 (map of outcomes) + of outcome) (2 ^ 128 - 1)
added_more of outcomes outcome = ap (added_to 0) (map-append of outcomes (outcome ∷ []))
    ∙ added_push 0 (map of outcomes) (of outcome)
