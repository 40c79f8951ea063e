-- Whether a reader of lines stands between documents, and the number of the next line.
use Rattle.std.specs.Prelude.{ℕ, ◌+◌, Bool, true, false, [], None}
use Rattle.line_notation.specs.LineReaderState.{Standing, failed, going}

-- no line was refused, and memory didn't run out
abbrev pub IsUnrefused : Standing → Type 0
IsUnrefused (failed fault) = ⊥
IsUnrefused (going n items array) = Unit {0}

-- no document has begun that isn't ended
abbrev pub is_between : Standing → Bool
is_between (going n [] None) = true
is_between _ = false

-- the number of the next line
abbrev pub next_line : Standing → ℕ
next_line (going n items array) = n + 1
next_line (failed fault) = 0
