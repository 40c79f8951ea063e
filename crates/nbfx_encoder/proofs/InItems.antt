-- On the way through the items of a document.
use Rattle.std.proofs.Common.{◌≡◌, ℕ, ◌+◌, ◌-◌, ◌^◌, ◌<◌, ◌≤◌, List, [], ◌∷◌, ◌++◌, length, take}
use Rattle.std.proofs.Common.{drop, IsTrue, Some, None, Ok, Err, Result, flat_map, sym, refl, ap}
use Rattle.std.proofs.Common.{◌∙◌, append_assoc, append-nil, arith, length-drop, take-append-drop}
use Rattle.std.{proofs.Common.take_all, proofs.Common.drop-drop, specs.List.list_all}
use Rattle.std.proofs.lemmas.{Bool.and_parts, List.drop_all, List.Concat.flat_map-append}
use Rattle.std.proofs.lemmas.List.{Folds.list_all-append, Sums.sum_by-append}
use Rattle.string_tables.specs.StringTable.{StringTable}
use Rattle.nbfx_values.specs.{declared.content.Item.Item, Items.is_valid_item}
use Rattle.nbfx_values.specs.Measures.{content_of, item_content}
use Rattle.nbfx_records.specs.{declared.nodes.Node.Node, Chosen.chosen_bytes}
use Rattle.nbfx_encoder.specs.{declared.speller.Speller.Speller, Sound.IsSound}
use Rattle.nbfx_encoder.specs.Inside.{AddsStrings, CantFirst, HasWritten, names_of, PutFirst}
use Rattle.nbfx_encoder.specs.{Inside.writing_of, Spelling.with_first}
use Rattle.nbfx_encoder.specs.Placing.{Placed, Writing}
use Rattle.nbfx_encoder.specs.Spelling.{in_records, items_said, Said, spell, spell_from, spell_said}
use Rattle.nbfx_encoder.proofs.InLists.{keeps_on, keeps_sound, keeps_writing}

-- nodes before those of the rest
abbrev pub before : List Node → Result (Placed (List Node)) ℕ → Result (Placed (List Node)) ℕ
before done (Err item) = Err item
before done (Ok rest) = Ok (done ++ rest.0, rest.1)

before_one : (done : List Node) (node : Node) (rest : Result (Placed (List Node)) ℕ)
    → before done (with_first node rest) ≡ before (done ++ node ∷ []) rest
before_one done node (Err item) = refl
before_one done node (Ok rest) =
    ap (λ l. Ok (l, rest.1)) (sym (append_assoc done (node ∷ []) rest.0))

before_none : (rest : Result (Placed (List Node)) ℕ) → rest ≡ before [] rest
before_none (Err item) = refl
before_none (Ok rest) = refl

one_more : (w : Writing) (table : StringTable) (at : ℕ) (said : Said) (rest : List Said)
    (done : List Node) (placed : Placed Node) → spell_said w table said ≡ Some placed
    → before done (spell_from w table at (said ∷ rest))
    ≡ before (done ++ placed.0 ∷ []) (spell_from w placed.1 (at + length (items_said said)) rest)
one_more w table at said rest done placed is =
    rw is (before_one done placed.0 (spell_from w placed.1 (at + length (items_said said)) rest))

one_not : (w : Writing) (table : StringTable) (at : ℕ) (said : Said) (rest : List Said)
    (done : List Node) → spell_said w table said ≡ None
    → before done (spell_from w table at (said ∷ rest)) ≡ Err at
one_not w table at said rest done is = rw is refl

-- the items before this number were written
pub record AlongItems (start now : Speller) (items : List Item) (at : ℕ) : Type 0 where
  pub done : List Node
  pub spelled : spell (writing_of start) (names_of start) items
      ≡ before done (spell_from (writing_of start) (names_of now) at (in_records (drop at items)))
  pub nodes : now.nodes.items ≡ start.nodes.items ++ flat_map chosen_bytes done
  pub keeps : AddsStrings start now
  pub sound : IsSound (writing_of now) (names_of now)
  pub within : at ≤ length items

-- before the first
pub items_first : (start : Speller) (items : List Item)
    → IsSound (writing_of start) (names_of start) → AlongItems start start items 0
items_first start items sound = record {
  done = [];
  spelled = before_none (spell (writing_of start) (names_of start) items);
  nodes = sym (append-nil start.nodes.items);
  keeps = record {
    statics = refl;
    kind = refl;
    limit = refl;
    more = [];
    grown =
        sym (append-nil start.table.strings);
    cost = λ within. within;
  };
  sound = sound;
  within = omega arith;
}

-- behind one more record
pub items_more : (start now next : Speller) (items : List Item) (at count : ℕ)
    → AlongItems start now items at → PutFirst (drop at items) count now next → AddsStrings now next
    → AlongItems start next items (at + count)
items_more start now next items at count along put keeps =
    let w = keeps_writing start now along.keeps in
    let placed = put.wrote.placed in
    let found : spell_said (writing_of start) (names_of now) put.said ≡ Some placed =
    ap (λ v. spell_said v (names_of now) put.said) (sym w) ∙ put.wrote.found_is in
    let rest = in_records (drop count (drop at items)) in
    let later : drop count (drop at items) ≡ drop (at + count) items = drop-drop count at items in
    record {
      done = along.done ++ placed.0 ∷ [];
      spelled = along.spelled ∙ ap (λ l. before along.done
          (spell_from (writing_of start) (names_of now) at l)) put.first
          ∙ one_more (writing_of start) (names_of now) at put.said rest along.done placed found
          ∙ ap (λ n. before (along.done ++ placed.0 ∷ [])
          (spell_from (writing_of start) placed.1 (at + n) rest)) (sym put.counted)
          ∙ ap (λ t. before (along.done ++ placed.0 ∷ [])
          (spell_from (writing_of start) t (at + count) rest)) (sym put.wrote.table)
          ∙ ap (λ l. before (along.done ++ placed.0 ∷ [])
          (spell_from (writing_of start) (names_of next) (at + count) (in_records l))) later;
      nodes = put.wrote.nodes ∙ ap (λ l. l ++ chosen_bytes placed.0) along.nodes
          ∙ append_assoc start.nodes.items (flat_map chosen_bytes along.done)
          (chosen_bytes placed.0)
          ∙ ap (λ l. start.nodes.items ++ l)
          (ap (λ l. flat_map chosen_bytes along.done ++ l)
          (sym (append-nil (chosen_bytes placed.0)))
          ∙ sym (flat_map-append chosen_bytes along.done (placed.0 ∷ [])));
      keeps = keeps_on start now next along.keeps keeps;
      sound = keeps_sound now next keeps along.sound;
      within = omega (arith, put.within, along.within, length-drop at items);
    }

-- where a record can't be spelled, the items can't
pub items_not : (start now : Speller) (items : List Item) (at : ℕ) → AlongItems start now items at
    → CantFirst (drop at items) now → spell (writing_of start) (names_of start) items ≡ Err at
items_not start now items at along cant =
    let w = keeps_writing start now along.keeps in
    let found : spell_said (writing_of start) (names_of now) cant.said ≡ None =
    ap (λ v. spell_said v (names_of now) cant.said) (sym w) ∙ cant.none in
    along.spelled ∙ ap (λ l. before along.done (spell_from (writing_of start) (names_of now) at l))
    cant.first
    ∙ one_not (writing_of start) (names_of now) at cant.said cant.rest along.done found

-- behind the last
pub items_last : (start now : Speller) (items : List Item) (at : ℕ) → AlongItems start now items at
    → length items ≤ at → (placed : Placed (List Node))
    × (spell (writing_of start) (names_of start) items ≡ Ok placed) × HasWritten placed start now
items_last start now items at along over = (
  (along.done, names_of now),
  along.spelled ∙ ap (λ l. before along.done
      (spell_from (writing_of start) (names_of now) at (in_records l))) (drop_all at items over)
      ∙ ap (λ l. Ok (l, names_of now)) (append-nil along.done),
  record { table = refl; nodes = along.nodes },
)

-- of items that are left each is valid, and they count no more than all
pub left_valid : (items : List Item) (at : ℕ) → IsTrue (list_all is_valid_item items)
    → IsTrue (list_all is_valid_item (drop at items))
left_valid items at valid =
    (and_parts (list_all is_valid_item (take at items)) (list_all is_valid_item (drop at items))
    (sym (list_all-append is_valid_item (take at items) (drop at items))
    ∙ ap (list_all is_valid_item) (take-append-drop at items) ∙ valid)).1

pub left_few : (items : List Item) (at : ℕ) → content_of items < 2 ^ 31
    → content_of (drop at items) < 2 ^ 31
left_few items at few =
    omega (
      arith,
      few,
      sum_by-append item_content (take at items) (drop at items),
      ap content_of
          (take-append-drop at items),
    )

-- a slice to the end is what is left
pub rest_of : (items : List Item) (at : ℕ)
    → take (length items - at) (drop at items) ≡ drop at items
rest_of items at = take_all (length items - at) (drop at items)
    (omega (arith, length-drop at items))
