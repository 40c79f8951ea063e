-- The static strings: a finite map from identifiers to texts, as the list of its entries. A text is
-- the list of its UTF-8 bytes.
use Rattle.std.specs.Prelude.{◌≡◌, ℕ, ◌+◌, ◌%◌, ◌^◌, ◌<◌, ◌≤◌, min, List, [], ◌∷◌, if◌then◌else◌}
use Rattle.std.specs.Prelude.{nat_eq, Some, None, fold, Option, bytes_eq, ⊤}
use Rattle.std.specs.{BTreeMap.insert_entry, Map.lookup, Ordering.nat_cmp}

-- an identifier and its text
abbrev pub Entry : Type 0
Entry = ℕ × List ℕ

-- the text of an identifier
abbrev pub static_text : List Entry → ℕ → Option (List ℕ)
static_text entries id = lookup (nat_eq id) entries

-- the less of an identifier and another, where there is another
abbrev pub least_with : ℕ → Option ℕ → ℕ
least_with id None = id
least_with id (Some other) = min id other

-- the least identifier of a text
abbrev pub least_static_id : List Entry → List ℕ → Option ℕ
least_static_id [] text = None
least_static_id (entry ∷ entries) text =
    if bytes_eq entry.1 text
    then Some (least_with entry.0 (least_static_id entries text))
    else least_static_id entries text

-- the entries with one more, at its place in the order of the identifiers
abbrev pub with_entry : List Entry → Entry → List Entry
with_entry entries entry = insert_entry nat_cmp entries entry.0 entry.1

-- the entries in rising order of their identifiers
abbrev pub in_order : List Entry → List Entry
in_order entries = fold with_entry [] entries

-- a static identifier is even and below 2^31
pub record IsStaticId (id : ℕ) : Type 0 where
  pub even : id % 2 ≡ 0
  pub small : id < 2 ^ 31

-- from an identifier on, each entry has a static identifier, which is above those before it
abbrev pub RisesFrom : ℕ → List Entry → Type 0
RisesFrom least [] = ⊤
RisesFrom least (entry ∷ entries) =
    (least ≤ entry.0) × IsStaticId entry.0 × RisesFrom (entry.0 + 1) entries

-- the static strings of a table: a finite map on even numbers below 2^31, in rising order
abbrev pub IsStaticMap : List Entry → Type 0
IsStaticMap entries = RisesFrom 0 entries
