-- A table's parts, as the entries that a contract sees.
use Rattle.std.specs.Prelude.{◌≡◌, ℕ, ◌*◌, ◌<◌, None, List, map, length, slice_get, Some, string_bytes, Option}
use Rattle.std.specs.{Prelude.String, BTreeMap.BTreeMap}
use Rattle.string_tables.specs.StaticStrings.{Entry, IsStaticMap, least_static_id, static_text}
use Rattle.static_dictionary.specs.{declared.names.Names.Names, Names.identifier_in}

module _ {A : Type 0} where
  -- the entries of a map from identifiers to texts
  abbrev pub entries_in : BTreeMap ℕ (String A) → List Entry
  entries_in by_id = map (λ entry. (entry.0, string_bytes entry.1)) by_id.entries

  -- the map is that of a static table, and the names have the least identifier of each text
  pub record AreMapsOfTable (by_id : BTreeMap ℕ (String A)) (names : Names) : Type 0 where
    pub rises : IsStaticMap (entries_in by_id)
    pub least : (text : List ℕ) → identifier_in names text ≡ least_static_id (entries_in by_id) text
    pub longest : (text : List ℕ) → names.longest < length text → identifier_in names text ≡ None

  -- at each place there is the text of the identifier that is twice as much, if it has one
  pub record ArePlaced (placed : List (Option (List ℕ)))
      (by_id : BTreeMap ℕ (String A)) : Type 0 where
    pub are : (place : ℕ) (text : Option (List ℕ)) → slice_get placed place ≡ Some text
        → text ≡ static_text (entries_in by_id) (2 * place)

  pub record IsTable (by_id : BTreeMap ℕ (String A)) (names : Names)
      (placed : List (Option (List ℕ))) : Type 0 where
    pub maps : AreMapsOfTable by_id names
    pub places : ArePlaced placed by_id
    pub all : length placed ≡ 512
