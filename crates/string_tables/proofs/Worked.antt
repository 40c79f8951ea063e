-- The definitions of string tables, at written ones.
use Rattle.std.specs.Prelude.{◌≡◌, ℕ, List, [], ◌∷◌, Option, Some, None, codes, map, refl}
use Rattle.string_tables.specs.StaticStrings.{Entry, in_order, least_static_id, static_text}
use Rattle.string_tables.specs.SessionStrings.{cost, least_session_id, session_text, used_cost}
use Rattle.string_tables.specs.StringTable.{StringTable, chosen_id, least_id, named_text}
use Rattle.string_tables.specs.StringTable.{with_strings}

-- strings that every envelope uses, one of them twice
abbrev statics : List Entry
statics = (2, codes "Envelope") ∷ (4, codes "a") ∷ (8, codes "Header") ∷ (10, codes "a") ∷ []

-- the strings that a document brings with its action and its address in the string table
abbrev strings : List (List ℕ)
strings = codes "urn:echo" ∷ codes "net.tcp://h/e" ∷ codes "x" ∷ []

abbrev table : StringTable
table = record { statics = statics; strings = strings }

-- a table whose session has a string of the statics too
abbrev brought_too : StringTable
brought_too = record { statics = statics; strings = codes "x" ∷ codes "a" ∷ [] }

-- identifiers and what they name, and texts and their identifiers
abbrev AreNamed : (ℕ → Option (List ℕ)) → List (ℕ × Option (List ℕ)) → Type 0
AreNamed find rows = map (λ (r : ℕ × Option (List ℕ)). find r.0) rows
    ≡ map (λ (r : ℕ × Option (List ℕ)). r.1) rows

abbrev AreFound : (List ℕ → Option ℕ) → List (List ℕ × Option ℕ) → Type 0
AreFound find rows = map (λ (r : List ℕ × Option ℕ). find r.0) rows
    ≡ map (λ (r : List ℕ × Option ℕ). r.1) rows

static_texts : AreNamed (static_text statics) (
    (8, Some (codes "Header")) ∷
    (6, None) ∷
    [])
static_texts = refl

session_texts : AreNamed (session_text strings) (
    (1, Some (codes "urn:echo")) ∷
    (5, Some (codes "x")) ∷
    (7, None) ∷
    (2, None) ∷
    [])
session_texts = refl

texts : AreNamed (named_text table) (
    (2, Some (codes "Envelope")) ∷
    (3, Some (codes "net.tcp://h/e")) ∷
    (0, None) ∷
    [])
texts = refl

next_text : AreNamed (named_text (with_strings table (codes "y" ∷ []))) (
    (7, Some (codes "y")) ∷
    [])
next_text = refl

static_ids : AreFound (least_static_id statics) (
    (codes "a", Some 4) ∷
    [])
static_ids = refl

session_ids : AreFound (least_session_id strings) (
    (codes "net.tcp://h/e", Some 3) ∷
    (codes "y", None) ∷
    [])
session_ids = refl

least_of_two : AreFound (least_session_id (codes "a" ∷ codes "a" ∷ [])) (
    (codes "a", Some 1) ∷
    [])
least_of_two = refl

-- a text in both halves, one in the session alone, and one in neither
least_in_both : AreFound (least_id (with_strings table (codes "a" ∷ []))) (
    (codes "a", Some 4) ∷
    (codes "x", Some 5) ∷
    [])
least_in_both = refl

least_of_the_session : AreFound (least_id brought_too) (
    (codes "a", Some 3) ∷
    [])
least_of_the_session = refl

chosen : AreFound (chosen_id brought_too) (
    (codes "a", Some 4) ∷
    (codes "x", Some 1) ∷
    (codes "y", None) ∷
    [])
chosen = refl

costs : map cost ([] ∷ codes "x" ∷ (0xC3 ∷ 0xA9 ∷ []) ∷ []) ≡ 1 ∷ 1 ∷ 2 ∷ []
costs = refl

used_three : used_cost strings ≡ 22
used_three = refl

ordered : in_order ((8, codes "c") ∷ (0, codes "a") ∷ (4, codes "b") ∷ [])
    ≡ (0, codes "a") ∷ (4, codes "b") ∷ (8, codes "c") ∷ []
ordered = refl
