-- What holds of string tables by their definitions alone.
use Rattle.std.specs.Prelude.{◌≡◌, ℕ, ◌+◌, ◌*◌, ◌^◌, ◌<◌, ◌≤◌, ◌⊎◌, ◌↔◌, List, [], ◌∷◌, ◌++◌}
use Rattle.std.specs.Prelude.{length, Some, None, Contains, Option, MatchOption}
use Rattle.string_tables.specs.SessionStrings.{least_session_id, session_text, used_cost}
use Rattle.string_tables.specs.StaticStrings.{Entry, IsStaticId, IsStaticMap, least_static_id}
use Rattle.string_tables.specs.{StaticStrings.static_text, StringTable.with_strings}
use Rattle.string_tables.specs.StringTable.{chosen_id, IsChosenName, IsLeastName, IsUnnamed}
use Rattle.string_tables.specs.StringTable.{least_id, named_text, Names, NamesString, StringTable}

-- the text that a look-up finds is the one that the identifier names
abbrev pub FindsNamed : Type 0
FindsNamed = (table : StringTable) (id : ℕ) (text : List ℕ)
    → (named_text table id ≡ Some text) ↔ Names table id text

-- in the static strings, the one in the identifier's entry
abbrev pub FindsEntries : Type 0
FindsEntries = (entries : List Entry) (id : ℕ) (text : List ℕ) → IsStaticMap entries
    → (static_text entries id ≡ Some text) ↔ Contains entries (id, text)

-- in a session, the string at the identifier's place
abbrev pub FindsStrings : Type 0
FindsStrings = (strings : List (List ℕ)) (id : ℕ) (text : List ℕ)
    → (session_text strings id ≡ Some text) ↔ NamesString strings id text

abbrev pub NamesOneText : Type 0
NamesOneText = (table : StringTable) (id : ℕ) (text other : List ℕ)
    → Names table id text → Names table id other → text ≡ other

abbrev pub HasStaticIds : Type 0
HasStaticIds = (entries : List Entry) (id : ℕ) (text : List ℕ) → IsStaticMap entries
    → static_text entries id ≡ Some text → IsStaticId id

-- a function that gives the least identifier by which a look-up finds a text, and none where no
-- identifier does
abbrev pub GivesLeast : (ℕ → Option (List ℕ)) → (List ℕ → Option ℕ) → Type 0
GivesLeast text_of least_of = (text : List ℕ)
    → MatchOption (least_of text) (IsUnnamed text_of text) (IsLeastName text_of text)

abbrev pub FindsLeast : Type 0
FindsLeast = (table : StringTable) → IsStaticMap table.statics
    → GivesLeast (named_text table) (least_id table)

abbrev pub FindsLeastStatic : Type 0
FindsLeastStatic = (entries : List Entry) → IsStaticMap entries
    → GivesLeast (static_text entries) (least_static_id entries)

abbrev pub FindsLeastSession : Type 0
FindsLeastSession = (strings : List (List ℕ))
    → GivesLeast (session_text strings) (least_session_id strings)

-- the identifier that a writer takes is the least of its half, and there is one exactly where an
-- identifier names the text
abbrev pub FindsChosen : Type 0
FindsChosen = (table : StringTable) (text : List ℕ) → IsStaticMap table.statics
    → MatchOption (chosen_id table text)
    (IsUnnamed (named_text table) text) (IsChosenName table text)

abbrev pub NamesChosen : Type 0
NamesChosen = (table : StringTable) (text : List ℕ) (id : ℕ) → IsStaticMap table.statics
    → chosen_id table text ≡ Some id → Names table id text

-- where the strings cost no more than 2^30 an identifier has 31 bits
abbrev pub NamesSmall : Type 0
NamesSmall = (table : StringTable) (id : ℕ) (text : List ℕ) → IsStaticMap table.statics
    → used_cost table.strings ≤ 2 ^ 30 → Names table id text → id < 2 ^ 31

abbrev pub KeepsChosen : Type 0
KeepsChosen = (table : StringTable) (more : List (List ℕ)) (text : List ℕ) (id : ℕ)
    → chosen_id table text ≡ Some id → chosen_id (with_strings table more) text ≡ Some id

-- a text that had none has the next number as its own where it is appended
abbrev pub ChoosesAppended : Type 0
ChoosesAppended = (table : StringTable) (text : List ℕ) → chosen_id table text ≡ None
    → chosen_id (with_strings table (text ∷ [])) text ≡ Some (2 * length table.strings + 1)

abbrev pub KeepsNames : Type 0
KeepsNames = (table : StringTable) (more : List (List ℕ)) (id : ℕ) (text : List ℕ)
    → Names table id text → Names (with_strings table more) id text

-- one more string is named by the next odd number, and nothing else gets a name
abbrev pub NamesOneMore : Type 0
NamesOneMore = (table : StringTable) (string : List ℕ) (id : ℕ) (text : List ℕ)
    → Names (with_strings table (string ∷ [])) id text
    ↔ (Names table id text ⊎ ((id ≡ 2 * length table.strings + 1) × (text ≡ string)))

abbrev pub KeepsLeast : Type 0
KeepsLeast = (strings more : List (List ℕ)) (text : List ℕ) (id : ℕ)
    → least_session_id strings text ≡ Some id → least_session_id (strings ++ more) text ≡ Some id

abbrev pub NamesFirst : Type 0
NamesFirst = (strings : List (List ℕ)) (text : List ℕ) → least_session_id strings text ≡ None
    → least_session_id (strings ++ text ∷ []) text ≡ Some (2 * length strings + 1)

abbrev pub AddsCosts : Type 0
AddsCosts = (strings more : List (List ℕ))
    → used_cost (strings ++ more) ≡ used_cost strings + used_cost more

abbrev pub CountsWithin : Type 0
CountsWithin = (strings : List (List ℕ)) → length strings ≤ used_cost strings
