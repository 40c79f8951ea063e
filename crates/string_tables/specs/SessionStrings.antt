-- The strings of one direction of a session, in the order in which they came, each the list of its
-- UTF-8 bytes.
use Rattle.std.specs.Prelude.{ℕ, ◌+◌, ◌/◌, ◌%◌, max, List, [], ◌∷◌, length, if◌then◌else◌, ◌==◌}
use Rattle.std.specs.Prelude.{slice_get, Some, None, sum_by, Option, option_map, bytes_eq}

-- the text of an identifier: 2i + 1 has that of string i
abbrev pub session_text : List (List ℕ) → ℕ → Option (List ℕ)
session_text strings id = if id % 2 == 1 then slice_get strings (id / 2) else None

-- the least identifier of a text: 1 at the first string, and 2 more at each later one
abbrev pub least_session_id : List (List ℕ) → List ℕ → Option ℕ
least_session_id [] text = None
least_session_id (string ∷ strings) text =
    if bytes_eq string text
    then Some 1
    else option_map (λ id. id + 2) (least_session_id strings text)

-- what a string costs: its length in bytes, and 1 for the empty string
abbrev pub cost : List ℕ → ℕ
cost text = max (length text) 1

-- what the strings cost together
abbrev pub used_cost : List (List ℕ) → ℕ
used_cost strings = sum_by cost strings
