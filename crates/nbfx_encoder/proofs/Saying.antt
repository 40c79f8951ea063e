-- What is spelled of a name, a value or an item says it under the table behind it.
use Rattle.std.proofs.Common.{◌≡◌, ℕ, ◌+◌, ◌*◌, ◌^◌, ◌≤◌, Bool, true, false, List, [], ◌∷◌, ◌++◌}
use Rattle.std.proofs.Common.{length, nat_le, Some, None, Option, option_map, option_and_then, sym}
use Rattle.std.proofs.Common.{refl, subst, inr, arith, lt-ltb, leb-true}
use Rattle.std.proofs.lemmas.Bool.{and_from, and_parts}
use Rattle.std.specs.{List.list_all, Str.is_utf8}
use Rattle.string_tables.proofs.ChosenFacts.{names_chosen, names_small}
use Rattle.string_tables.proofs.{SessionFacts.used_cost-append, TableFacts.names-push}
use Rattle.string_tables.specs.SessionStrings.{cost, used_cost}
use Rattle.string_tables.specs.StringTable.{chosen_id, Names, StringTable, with_strings}
use Rattle.nbfx_values.specs.declared.scalars.{Scalar.Scalar, Value.Value}
use Rattle.nbfx_values.specs.Scalars.{is_unsigned, is_valid_scalar}
use Rattle.nbfx_records.proofs.StayFacts.{name_stays, scalar_stays}
use Rattle.nbfx_records.specs.declared.nodes.NameRef.{NameRef, TheVariants.Id, TheVariants.Inline}
use Rattle.nbfx_records.specs.declared.nodes.{RawScalar.RawScalar, RawValue.RawValue}
use Rattle.nbfx_records.specs.declared.nodes.RawScalar.TheVariants.{Known, QName}
use Rattle.nbfx_records.specs.Meaning.{EachMeans, ids_of_name, ids_of_scalar, ids_of_value}
use Rattle.nbfx_records.specs.Meaning.{NameMeans, ScalarMeans, ValueMeans}
use Rattle.nbfx_records.specs.Valid.{names_qnames_raw, names_qnames_text}
use Rattle.nbfx_encoder.specs.Placing.{brings_strings, has_room, place, place_found, place_new}
use Rattle.nbfx_encoder.specs.Placing.{Placed, qualified, spell_each, spell_scalar, spell_text}
use Rattle.nbfx_encoder.specs.{Placing.text_found, Placing.Writing, Sound.IsSound}
use Rattle.nbfx_encoder.proofs.Growing.{Grows, grows_not, grows_on, sound_behind}
use Rattle.nbfx_values.specs.declared.scalars.Scalar.TheVariants as scalars

-- what is placed says something under the table behind it
pub record Spells {X : Type 0} (w : Writing) (table : StringTable) (Says : StringTable → X → Type 0)
    (placed : Placed X) : Type 0 where
  pub grows : Grows w table placed.1
  pub says : Says placed.1 placed.0

-- identifiers have 31 bits
abbrev pub Small : List ℕ → Type 0
Small ids = list_all (is_unsigned 31) ids ≡ true

-- A thing says another under a table: it means it there, its identifiers have 31 bits, and what it
-- knows is no QName.
pub record Says {X Y : Type 0} (Mean : StringTable → Y → X → Type 0) (ids : Y → List ℕ)
    (good : Y → Bool) (said : X) (table : StringTable) (thing : Y) : Type 0 where
  pub means : Mean table thing said
  pub small : Small (ids thing)
  pub qnamed : good thing ≡ true

-- and it does where more strings come
pub says_behind : {X Y : Type 0} (Mean : StringTable → Y → X → Type 0) (ids : Y → List ℕ)
    (good : Y → Bool) (stays : (table : StringTable) (more : List (List ℕ)) (thing : Y) (said : X)
    → Mean table thing said → Mean (with_strings table more) thing said) (w : Writing) (said : X)
    (table behind : StringTable) (thing : Y) → Grows w table behind
    → Says Mean ids good said table thing → Says Mean ids good said behind thing
says_behind Mean ids good stays w said table behind thing grows says = record {
  means = subst (λ (t : StringTable). Mean t thing said) (sym grows.is)
      (stays table grows.more thing said says.means);
  small = says.small;
  qnamed = says.qnamed;
}

abbrev any_name : NameRef → Bool
any_name name = true

abbrev pub SaysName : List ℕ → StringTable → NameRef → Type 0
SaysName = Says NameMeans ids_of_name any_name

abbrev pub SaysScalar : Scalar → StringTable → RawScalar → Type 0
SaysScalar = Says ScalarMeans ids_of_scalar names_qnames_raw

abbrev pub SaysValue : Value → StringTable → RawValue → Type 0
SaysValue = Says ValueMeans ids_of_value names_qnames_text

pub name_says_behind : (w : Writing) (text : List ℕ) (table behind : StringTable) (name : NameRef)
    → Grows w table behind → SaysName text table name → SaysName text behind name
name_says_behind = says_behind NameMeans ids_of_name any_name name_stays

pub scalar_says_behind : (w : Writing) (scalar : Scalar) (table behind : StringTable)
    (raw : RawScalar) → Grows w table behind → SaysScalar scalar table raw
    → SaysScalar scalar behind raw
scalar_says_behind = says_behind ScalarMeans ids_of_scalar names_qnames_raw scalar_stays

-- an identifier that names a text has 31 bits
small_name : (w : Writing) (table : StringTable) (id : ℕ) (text : List ℕ) → IsSound w table
    → Names table id text → Small (id ∷ [])
small_name w table id text sound names =
    and_from (is_unsigned 31 id) true
    (lt-ltb id (2 ^ 31) (names_small table id text sound.statics
    (omega (arith, sound.cost, sound.small)) names)) refl

-- a text that becomes the next string of the session
added : (w : Writing) (table : StringTable) (text : List ℕ) → IsSound w table → is_utf8 text ≡ true
    → brings_strings w.kind ≡ true → used_cost table.strings + cost text ≤ w.dictionary
    → Spells w table (SaysName text)
    (Id (2 * length table.strings + 1), with_strings table (text ∷ []))
added w table text sound utf8 brings fits =
    let named : Names (with_strings table (text ∷ [])) (2 * length table.strings + 1) text =
    (names-push table text (2 * length table.strings + 1) text).1 (inr (refl, refl)) in
    let spent : used_cost (table.strings ++ text ∷ []) ≤ w.dictionary =
    omega (arith, used_cost-append table.strings (text ∷ []), fits) in
    let grows : Grows w table (with_strings table (text ∷ [])) =
    record {
      more = text ∷ [];
      is = refl;
      cost = spent;
      texts =
          and_from (is_utf8 text) true utf8 refl;
      none = λ plain. absurd (cc (plain, brings));
    } in
    record {
      grows = grows;
      says = record {
        means = named;
        small =
            small_name w (with_strings table (text ∷ [])) (2 * length table.strings + 1) text
            (sound_behind w table (with_strings table (text ∷ [])) sound grows) named;
        qnamed = refl;
      };
    }

placed_new : (w : Writing) (table : StringTable) (text : List ℕ) (room : Bool)
    → has_room w table text ≡ room → IsSound w table → is_utf8 text ≡ true
    → Spells w table (SaysName text) (place_new w table text)
placed_new w table text true room sound utf8 =
    let parts = and_parts (brings_strings w.kind)
    (nat_le (used_cost table.strings + cost text) w.dictionary) room in
    rw room (added w table text sound utf8 parts.0
    (leb-true (used_cost table.strings + cost text) w.dictionary parts.1))
placed_new w table text false room sound utf8 =
    rw room (record {
      grows = grows_not w table sound;
      says =
          record { means = refl; small = refl; qnamed = refl };
    })

placed_found : (w : Writing) (table : StringTable) (text : List ℕ) (found : Option ℕ)
    → chosen_id table text ≡ found → IsSound w table → is_utf8 text ≡ true
    → Spells w table (SaysName text) (place_found w table text found)
placed_found w table text (Some id) is sound utf8 =
    let names = names_chosen table text id sound.statics is in
    record {
      grows = grows_not w table sound;
      says =
          record { means = names; small = small_name w table id text sound names; qnamed = refl };
    }
placed_found w table text None is sound utf8 =
    placed_new w table text (has_room w table text) refl sound utf8

pub placed_says : (w : Writing) (table : StringTable) (text : List ℕ) → IsSound w table
    → is_utf8 text ≡ true → Spells w table (SaysName text) (place w table text)
placed_says w table text sound utf8 =
    placed_found w table text (chosen_id table text) refl sound utf8

-- a text as a value
found_says : (w : Writing) (table : StringTable) (text : List ℕ) (found : Option ℕ)
    → chosen_id table text ≡ found → IsSound w table
    → SaysScalar (scalars.Text text) table (text_found text found)
found_says w table text (Some id) is sound =
    let names = names_chosen table text id sound.statics is in
    record {
      means = (text, names, refl);
      small = small_name w table id text sound names;
      qnamed =
          refl;
    }
found_says w table text None is sound = record { means = refl; small = refl; qnamed = refl }

text_says : (w : Writing) (table : StringTable) (text : List ℕ) → IsSound w table
    → SaysScalar (scalars.Text text) table (spell_text table text)
text_says w table [] sound = record { means = refl; small = refl; qnamed = refl }
text_says w table (c ∷ text) sound =
    found_says w table (c ∷ text) (chosen_id table (c ∷ text)) refl sound

qualified_says : (w : Writing) (table behind : StringTable) (letter : ℕ) (text : List ℕ)
    (name : NameRef) (placed : Placed RawScalar) → Grows w table behind → SaysName text behind name
    → qualified letter behind name ≡ Some placed
    → Spells w table (SaysScalar (scalars.QName letter text)) placed
qualified_says w table behind letter text (Id id) placed grows says is =
    let same : (QName letter id, behind) ≡ placed = cc is in
    subst (Spells w table (SaysScalar (scalars.QName letter text))) same
    (record {
      grows = grows;
      says =
          record { means = (text, says.means, refl); small = says.small; qnamed = refl };
    })
qualified_says w table behind letter text (Inline s) placed grows says is = absurd (cc is)

known_says : (w : Writing) (table : StringTable) (scalar : Scalar) (placed : Placed RawScalar)
    → IsSound w table → names_qnames_raw (Known scalar) ≡ true
    → Some (Known scalar, table) ≡ Some placed → Spells w table (SaysScalar scalar) placed
known_says w table scalar placed sound qnamed is =
    let same : (Known scalar, table) ≡ placed = cc is in
    subst (Spells w table (SaysScalar scalar)) same
    (record {
      grows = grows_not w table sound;
      says =
          record { means = refl; small = refl; qnamed = qnamed };
    })

pub scalar_says : (w : Writing) (table : StringTable) (scalar : Scalar) → IsSound w table
    → is_valid_scalar scalar ≡ true → (placed : Placed RawScalar)
    → spell_scalar w table scalar ≡ Some placed → Spells w table (SaysScalar scalar) placed
scalar_says w table (scalars.Text text) sound valid placed is =
    let same : (spell_text table text, table) ≡ placed = cc is in
    subst (Spells w table (SaysScalar (scalars.Text text))) same
    (record { grows = grows_not w table sound; says = text_says w table text sound })
scalar_says w table (scalars.QName letter name) sound valid placed is =
    let utf8 = (and_parts (nat_le letter 25) (is_utf8 name) valid).1 in
    let said = placed_says w table name sound utf8 in
    qualified_says w table (place w table name).1 letter name (place w table name).0 placed
    said.grows said.says is
scalar_says w table scalar sound valid placed is = known_says w table scalar placed sound refl is

-- each of a list, where one says what it should, and goes on to where tables grow
module _ {A B : Type 0} (w : Writing) (spell : StringTable → A → Option (Placed B))
    (Says : A → StringTable → B → Type 0) (ok : A → Bool)
    (one : (table : StringTable) (x : A) → IsSound w table → ok x ≡ true → (placed : Placed B)
    → spell table x ≡ Some placed → Spells w table (Says x) placed)
    (stays : (x : A) (table behind : StringTable) (y : B) → Grows w table behind → Says x table y
    → Says x behind y) where
  -- what the others are, and all
  ends_so : (table : StringTable) (x : A) (xs : List A) (first : Placed B)
      (rest : Option (Placed (List B))) (placed : Placed (List B)) → Spells w table (Says x) first
      → ((others : Placed (List B)) → rest ≡ Some others
      → Spells w first.1 (λ t ys. EachMeans (λ y x. Says x t y) ys xs) others)
      → option_map (λ r. (first.0 ∷ r.0, r.1)) rest ≡ Some placed
      → Spells w table (λ t ys. EachMeans (λ y x. Says x t y) ys (x ∷ xs)) placed
  ends_so table x xs first None placed said behind is = absurd (cc is)
  ends_so table x xs first (Some others) placed said behind is =
      let same : (first.0 ∷ others.0, others.1) ≡ placed = cc is in
      let more = behind others refl in
      subst (Spells w table (λ t ys. EachMeans (λ y x. Says x t y) ys (x ∷ xs))) same
      (record {
        grows = grows_on w table first.1 others.1 said.grows more.grows;
        says =
            (x, xs, stays x first.1 others.1 first.0 more.grows said.says, more.says, refl);
      })

  first_so : (table : StringTable) (x : A) (xs : List A) (first : Option (Placed B))
      (placed : Placed (List B)) → spell table x ≡ first
      → ((p : Placed B) → first ≡ Some p → Spells w table (Says x) p)
      → ((p : Placed B) → Spells w table (Says x) p → (others : Placed (List B))
      → spell_each spell p.1 xs ≡ Some others
      → Spells w p.1 (λ t ys. EachMeans (λ y x. Says x t y) ys xs) others)
      → option_and_then (λ p. option_map (λ r. (p.0 ∷ r.0, r.1)) (spell_each spell p.1 xs)) first
      ≡ Some placed → Spells w table (λ t ys. EachMeans (λ y x. Says x t y) ys (x ∷ xs)) placed
  first_so table x xs None placed e said behind is = absurd (cc is)
  first_so table x xs (Some p) placed e said behind is =
      ends_so table x xs p (spell_each spell p.1 xs) placed (said p refl) (behind p (said p refl))
      is

  pub each_says : (xs : List A) (table : StringTable) → IsSound w table → list_all ok xs ≡ true
      → (placed : Placed (List B)) → spell_each spell table xs ≡ Some placed
      → Spells w table (λ t ys. EachMeans (λ y x. Says x t y) ys xs) placed
  each_says [] table sound good placed is =
      let same : ([], table) ≡ placed = cc is in
      subst (Spells w table (λ t ys. EachMeans (λ y x. Says x t y) ys [])) same
      (record { grows = grows_not w table sound; says = refl })
  each_says (x ∷ xs) table sound good placed is =
      let parts = and_parts (ok x) (list_all ok xs) good in
      first_so table x xs (spell table x) placed refl (λ p e. one table x sound parts.0 p e)
      (λ p said others e. each_says xs p.1 (sound_behind w table p.1 sound said.grows) parts.1
      others e) is
