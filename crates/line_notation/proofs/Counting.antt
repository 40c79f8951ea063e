-- How many lines were read, for a loop that hands them in.
use Rattle.std.proofs.Common.{◌≡◌, ◌+◌, ℕ, List, Ok, Err, Result, arith, subst, sym}
use Rattle.line_notation.specs.declared.reader.LineKind.{LineKind}
use Rattle.line_notation.specs.LineReaderState.{HasReadFewer, Placed, Standing, after, ends, failed}
use Rattle.line_notation.specs.LineReaderState.{going, on, outcome, standing_of}

fewer-behind : (most : ℕ) (z : Standing) (line : List ℕ) → HasReadFewer most z
    → HasReadFewer (most + 1) (after z line)
fewer-behind most (failed fault) line h = tt
fewer-behind most (going n items array) line h = go (outcome items array line)
  where
    go : (r : Result Placed LineKind) → HasReadFewer (most + 1) (standing_of (n + 1) r)
    go (Ok (on items array)) = omega arith
    go (Ok (ends doc)) = omega arith
    go (Err kind) = tt

pub one-more-read : (most : ℕ) (z z' : Standing) (line : List ℕ) → z' ≡ after z line
    → HasReadFewer most z → HasReadFewer (most + 1) z'
one-more-read most z z' line e h = subst (HasReadFewer (most + 1)) (sym e)
    (fewer-behind most z line h)
