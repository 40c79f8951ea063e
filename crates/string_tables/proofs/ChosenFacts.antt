-- What follows for the identifier that a writer takes for a text.
use Rattle.std.proofs.Common.{◌≡◌, ℕ, ◌+◌, ◌*◌, List, [], ◌∷◌, ◌++◌, length, Some, None, Option}
use Rattle.std.proofs.Common.{MatchOption, refl, ◌∙◌, inl, inr, arith}
use Rattle.std.{proofs.lemmas.Option.slice_get_within, specs.Option.option_or}
use Rattle.string_tables.specs.Laws.{ChoosesAppended, FindsChosen, KeepsChosen, NamesChosen}
use Rattle.string_tables.specs.Laws.{NamesSmall}
use Rattle.string_tables.specs.SessionStrings.{least_session_id, session_text}
use Rattle.string_tables.specs.StaticStrings.{IsStaticMap, least_static_id, static_text}
use Rattle.string_tables.specs.StringTable.{chosen_id, IsChosenName, IsLeastName, IsUnnamed}
use Rattle.string_tables.specs.StringTable.{named_text, Names, StringTable}
use Rattle.string_tables.proofs.SessionFacts.{gives_least_session, least_session_id-append}
use Rattle.string_tables.proofs.SessionFacts.{least_session_id-push, length-le-used_cost}
use Rattle.string_tables.proofs.{SessionFacts.session_text-string, TableFacts.named_text-names}
use Rattle.string_tables.proofs.StaticFacts.{gives_least_static, static_text-stands}

-- what names a text is in one half or in the other
halves_name : (table : StringTable) (text : List ℕ) → IsUnnamed (static_text table.statics) text
    → IsUnnamed (session_text table.strings) text → IsUnnamed (named_text table) text
halves_name table text no_static no_string id names = by ((named_text-names table id text).0 names)
  where
    by : Names table id text → ⊥
    by (inl entry) = no_static id entry.held
    by (inr string) = no_string id ((session_text-string table.strings id text).1 string)

-- the one of the first half, or else the one of the second
chooses : (table : StringTable) (text : List ℕ) (static session : Option ℕ)
    → MatchOption static (IsUnnamed (static_text table.statics) text)
    (IsLeastName (static_text table.statics) text)
    → MatchOption session (IsUnnamed (session_text table.strings) text)
    (IsLeastName (session_text table.strings) text)
    → MatchOption (option_or static session) (IsUnnamed (named_text table) text)
    (IsChosenName table text)
chooses table text None None no_static no_string = halves_name table text no_static no_string
chooses table text None (Some id) no_static least = inr (no_static, least)
chooses table text (Some id) session least other = inl least

pub finds_chosen : FindsChosen
finds_chosen table text rises =
    chooses table text (least_static_id table.statics text) (least_session_id table.strings text)
    (gives_least_static table.statics rises text) (gives_least_session table.strings text)

chosen_names : (table : StringTable) (text : List ℕ) (id : ℕ) → IsStaticMap table.statics
    → IsChosenName table text id → Names table id text
chosen_names table text id rises (inl least) =
    inl (record {
      even = (static_text-stands 0 table.statics id text rises
          least.names).static_id.even;
      held = least.names;
    })
chosen_names table text id rises (inr (none, least)) =
    inr ((session_text-string table.strings id text).0 least.names)

there : (table : StringTable) (text : List ℕ) (found : Option ℕ) (id : ℕ) → found ≡ Some id
    → MatchOption found (IsUnnamed (named_text table) text) (IsChosenName table text)
    → IsChosenName table text id
there table text None id e is = cc e
there table text (Some other) id e is = let same : other ≡ id = cc e in rw (← same) is

pub names_chosen : NamesChosen
names_chosen table text id rises found =
    chosen_names table text id rises
    (there table text (chosen_id table text) id found (finds_chosen table text rises))

pub names_small : NamesSmall
names_small table id text rises cost (inl entry) =
    (static_text-stands 0 table.statics id text rises entry.held).static_id.small
names_small table id text rises cost (inr string) =
    omega (
      arith,
      string.odd,
      slice_get_within table.strings string.place text string.held,
      length-le-used_cost table.strings,
    )

pub keeps_chosen : KeepsChosen
keeps_chosen table more text id found =
    by (least_static_id table.statics text) (least_session_id table.strings text) refl found
  where
    by : (static session : Option ℕ) → least_session_id table.strings text ≡ session
        → option_or static session ≡ Some id
        → option_or static (least_session_id (table.strings ++ more) text) ≡ Some id
    by (Some first) session is e = e
    by None session is e = least_session_id-append table.strings more text id (is ∙ e)

pub chooses_appended : ChoosesAppended
chooses_appended table text none =
    by (least_static_id table.statics text) (least_session_id table.strings text) refl none
  where
    by : (static session : Option ℕ) → least_session_id table.strings text ≡ session
        → option_or static session ≡ None
        → option_or static (least_session_id (table.strings ++ text ∷ []) text)
        ≡ Some (2 * length table.strings + 1)
    by (Some first) session is e = cc e
    by None session is e = least_session_id-push table.strings text (is ∙ e)
