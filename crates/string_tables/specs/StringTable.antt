-- What identifiers name, in a table of static strings and the strings of one direction of a
-- session.
use Rattle.std.specs.Prelude.{◌≡◌, ◌≢◌, ℕ, ◌+◌, ◌*◌, ◌%◌, ◌≤◌, ◌==◌, ◌⊎◌, if◌then◌else◌, List, ◌++◌}
use Rattle.std.specs.Prelude.{Option, Some, None, slice_get}
use Rattle.std.specs.Option.{option_or}
use Rattle.string_tables.specs.StaticStrings.{Entry, least_static_id, least_with, static_text}
use Rattle.string_tables.specs.SessionStrings.{least_session_id, session_text}

-- a string table, as plain data
pub record StringTable : Type 0 where
  pub statics : List Entry
  pub strings : List (List ℕ)

-- an even identifier, under which the static strings have the text
pub record NamesEntry (entries : List Entry) (id : ℕ) (text : List ℕ) : Type 0 where
  pub even : id % 2 ≡ 0
  pub held : static_text entries id ≡ Some text

-- 2i + 1, where string i is the text
pub record NamesString (strings : List (List ℕ)) (id : ℕ) (text : List ℕ) : Type 0 where
  pub place : ℕ
  pub odd : id ≡ 2 * place + 1
  pub held : slice_get strings place ≡ Some text

-- an identifier names a text, as a static string or as one of the session
abbrev pub Names : StringTable → ℕ → List ℕ → Type 0
Names table id text = NamesEntry table.statics id text ⊎ NamesString table.strings id text

-- the text that an identifier names
abbrev pub named_text : StringTable → ℕ → Option (List ℕ)
named_text table id =
    if id % 2 == 1 then session_text table.strings id else static_text table.statics id

-- the lesser of two identifiers that may be missing
abbrev pub lesser_id : Option ℕ → Option ℕ → Option ℕ
lesser_id None other = other
lesser_id (Some id) other = Some (least_with id other)

-- the least identifier of a text
abbrev pub least_id : StringTable → List ℕ → Option ℕ
least_id table text =
    lesser_id (least_static_id table.statics text) (least_session_id table.strings text)

-- the identifier that a writer takes for a text: the least of a static string, and where there is
-- none the least of the session
abbrev pub chosen_id : StringTable → List ℕ → Option ℕ
chosen_id table text =
    option_or (least_static_id table.statics text) (least_session_id table.strings text)

-- by this look-up an identifier names a text, and none below it does
pub record IsLeastName (text_of : ℕ → Option (List ℕ)) (text : List ℕ) (id : ℕ) : Type 0 where
  pub names : text_of id ≡ Some text
  pub lowest : (other : ℕ) → text_of other ≡ Some text → id ≤ other

-- no identifier names a text by this look-up
abbrev pub IsUnnamed : (ℕ → Option (List ℕ)) → List ℕ → Type 0
IsUnnamed text_of text = (id : ℕ) → text_of id ≢ Some text

-- the text's least static identifier, or where no static string is the text its least in the
-- session
abbrev pub IsChosenName : StringTable → List ℕ → ℕ → Type 0
IsChosenName table text id =
    IsLeastName (static_text table.statics) text id
    ⊎ (IsUnnamed (static_text table.statics) text
    × IsLeastName (session_text table.strings) text id)

-- the table with strings appended
abbrev pub with_strings : StringTable → List (List ℕ) → StringTable
with_strings table more = record table { strings = table.strings ++ more }
