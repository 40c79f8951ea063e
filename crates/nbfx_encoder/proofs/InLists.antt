-- What is spelled of a list, one step on, and what a speller keeps on the way.
use Rattle.std.proofs.Common.{◌≡◌, ℕ, ◌+◌, ◌<◌, ◌≤◌, List, [], ◌∷◌, ◌++◌, length, get_or, drop}
use Rattle.std.proofs.Common.{Some, None, Option, option_map, flat_map, sym, refl, ap, ◌∙◌}
use Rattle.std.proofs.Common.{append_assoc, append-nil}
use Rattle.std.proofs.lemmas.List.{drop_all, drop_more, Concat.flat_map-append}
use Rattle.string_tables.specs.StringTable.{StringTable}
use Rattle.nbfx_encoder.specs.{declared.speller.Speller.Speller, Sound.IsSound}
use Rattle.nbfx_encoder.specs.Inside.{AddsStrings, names_of, writing_of, Wrote}
use Rattle.nbfx_encoder.specs.Placing.{Placed, spell_each, Writing}

-- spelled ones before others
abbrev pub behind : {B : Type 0} → List B → Option (Placed (List B)) → Option (Placed (List B))
behind done None = None
behind done (Some rest) = Some (done ++ rest.0, rest.1)

behind_one : {B : Type 0} (done : List B) (first : B) (rest : Option (Placed (List B)))
    → behind done (option_map (λ r. (first ∷ r.0, r.1)) rest) ≡ behind (done ++ first ∷ []) rest
behind_one done first None = refl
behind_one done first (Some rest) =
    ap (λ l. Some (l, rest.1)) (sym (append_assoc done (first ∷ []) rest.0))

-- where one more is spelled
pub one_more : {A B : Type 0} (spell : StringTable → A → Option (Placed B)) (table : StringTable)
    (x : A) (xs : List A) (done : List B) (placed : Placed B) → spell table x ≡ Some placed
    → behind done (spell_each spell table (x ∷ xs))
    ≡ behind (done ++ placed.0 ∷ []) (spell_each spell placed.1 xs)
one_more spell table x xs done placed is =
    rw is (behind_one done placed.0 (spell_each spell placed.1 xs))

-- and where it isn't
pub one_not : {A B : Type 0} (spell : StringTable → A → Option (Placed B)) (table : StringTable)
    (x : A) (xs : List A) (done : List B) → spell table x ≡ None
    → behind done (spell_each spell table (x ∷ xs)) ≡ None
one_not spell table x xs done is = rw is refl

-- what calls leave as it is they leave one behind the other
pub keeps_on : (a b c : Speller) → AddsStrings a b → AddsStrings b c → AddsStrings a c
keeps_on a b c first second = record {
  statics = second.statics ∙ first.statics;
  kind = second.kind ∙ first.kind;
  limit = second.limit ∙ first.limit;
  more = first.more ++ second.more;
  grown = second.grown ∙ ap (λ l. l ++ second.more) first.grown
      ∙ append_assoc a.table.strings first.more second.more;
  cost = λ within. second.cost (first.cost within);
}

pub keeps_writing : (old new : Speller) → AddsStrings old new → writing_of new ≡ writing_of old
keeps_writing old new keeps = rw (keeps.kind, keeps.limit) refl

pub keeps_sound : (old new : Speller) → AddsStrings old new
    → IsSound (writing_of old) (names_of old)
    → IsSound (writing_of new) (names_of new)
keeps_sound old new keeps sound = record {
  statics = rw keeps.statics sound.statics;
  cost = keeps.cost sound.cost;
  small = rw keeps.limit sound.small;
}

-- on the way through a list, of which some are left
pub record Along {A B : Type 0} (spell : Writing → StringTable → A → Option (Placed B))
    (bytes : B → List ℕ) (start now : Speller) (xs left : List A) : Type 0 where
  pub done : List B
  pub spelled : spell_each (spell (writing_of start)) (names_of start) xs
      ≡ behind done (spell_each (spell (writing_of start)) (names_of now) left)
  pub nodes : now.nodes.items ≡ start.nodes.items ++ flat_map bytes done
  pub keeps : AddsStrings start now
  pub sound : IsSound (writing_of now) (names_of now)

-- before the first
pub along_first : {A B : Type 0} (spell : Writing → StringTable → A → Option (Placed B))
    (bytes : B → List ℕ) (start : Speller) (xs : List A)
    → IsSound (writing_of start) (names_of start) → Along spell bytes start start xs (drop 0 xs)
along_first spell bytes start xs sound = record {
  done = [];
  spelled = nothing_before (spell_each (spell (writing_of start)) (names_of start) xs);
  nodes = sym (append-nil start.nodes.items);
  keeps = record {
    statics = refl;
    kind = refl;
    limit = refl;
    more = [];
    grown =
        sym (append-nil start.table.strings);
    cost = λ within. within;
  };
  sound = sound;
}
  where
    nothing_before : {B : Type 0} (found : Option (Placed (List B))) → found ≡ behind [] found
    nothing_before None = refl
    nothing_before (Some rest) = refl

-- behind one more
pub along_more : {A B : Type 0} (spell : Writing → StringTable → A → Option (Placed B))
    (bytes : B → List ℕ) (start now next : Speller) (xs : List A) (i : ℕ) (x : A)
    → Along spell bytes start now xs (drop i xs) → i < length xs → x ≡ get_or xs i x
    → Wrote (spell (writing_of now) (names_of now) x) bytes now next → AddsStrings now next
    → Along spell bytes start next xs (drop (i + 1) xs)
along_more spell bytes start now next xs i x along lt is wrote keeps =
    let w = keeps_writing start now along.keeps in
    let found : spell (writing_of start) (names_of now) x ≡ Some wrote.placed =
    ap (λ v. spell v (names_of now) x) (sym w) ∙ wrote.found_is in
    let left : drop i xs ≡ x ∷ drop (i + 1) xs =
    drop_more xs i x lt ∙ ap (λ y. y ∷ drop (i + 1) xs) (sym is) in
    let s = spell (writing_of start) in
    let step = one_more s (names_of now) x (drop (i + 1) xs) along.done wrote.placed found in
    record {
      done = along.done ++ wrote.placed.0 ∷ [];
      spelled = along.spelled ∙ ap (λ l. behind along.done (spell_each s (names_of now) l)) left
          ∙ step
          ∙ ap (λ t. behind (along.done ++ wrote.placed.0 ∷ []) (spell_each s t (drop (i + 1) xs)))
          (sym wrote.table);
      nodes = wrote.nodes ∙ ap (λ l. l ++ bytes wrote.placed.0) along.nodes
          ∙ append_assoc start.nodes.items (flat_map bytes along.done) (bytes wrote.placed.0)
          ∙ ap (λ l. start.nodes.items ++ l)
          (ap (λ l. flat_map bytes along.done ++ l) (sym (append-nil (bytes wrote.placed.0)))
          ∙ sym (flat_map-append bytes along.done (wrote.placed.0 ∷ [])));
      keeps = keeps_on start now next along.keeps keeps;
      sound = keeps_sound now next keeps along.sound;
    }

-- where one isn't spelled, the list isn't
pub along_not : {A B : Type 0} (spell : Writing → StringTable → A → Option (Placed B))
    (bytes : B → List ℕ) (start now : Speller) (xs : List A) (i : ℕ) (x : A)
    → Along spell bytes start now xs (drop i xs) → i < length xs → x ≡ get_or xs i x
    → spell (writing_of now) (names_of now) x ≡ None
    → spell_each (spell (writing_of start)) (names_of start) xs ≡ None
along_not spell bytes start now xs i x along lt is none =
    let w = keeps_writing start now along.keeps in
    let found : spell (writing_of start) (names_of now) x ≡ None =
    ap (λ v. spell v (names_of now) x) (sym w) ∙ none in
    let left : drop i xs ≡ x ∷ drop (i + 1) xs =
    drop_more xs i x lt ∙ ap (λ y. y ∷ drop (i + 1) xs) (sym is) in
    let s = spell (writing_of start) in
    along.spelled ∙ ap (λ l. behind along.done (spell_each s (names_of now) l)) left
    ∙ one_not s (names_of now) x (drop (i + 1) xs) along.done found

-- behind the last
pub along_last : {A B : Type 0} (spell : Writing → StringTable → A → Option (Placed B))
    (bytes : B → List ℕ) (start now : Speller) (xs : List A) (i : ℕ)
    → Along spell bytes start now xs (drop i xs) → length xs ≤ i
    → Wrote (spell_each (spell (writing_of start)) (names_of start) xs) (flat_map bytes) start now
along_last spell bytes start now xs i along ge =
    let s = spell (writing_of start) in
    record {
      placed = (along.done, names_of now);
      found_is = along.spelled ∙ ap (λ l. behind along.done (spell_each s (names_of now) l))
          (drop_all i xs ge) ∙ ap (λ l. Some (l, names_of now)) (append-nil along.done);
      table = refl;
      nodes = along.nodes;
    }
