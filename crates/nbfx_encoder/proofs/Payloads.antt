-- What is written of a document that fits is a payload of it.
use Rattle.std.proofs.Common.{◌≡◌, ℕ, ◌+◌, ◌^◌, ◌<◌, ◌≤◌, true, false, List, [], ◌∷◌, ◌++◌, length}
use Rattle.std.proofs.Common.{drop, Some, None, Ok, Err, Option, Result, flat_map, sym, refl, ap}
use Rattle.std.proofs.Common.{◌∙◌, subst, arith}
use Rattle.std.proofs.{Math.Seq.drop-append_seam, lemmas.Bool.and_from, lemmas.Bool.and_parts}
use Rattle.std.proofs.lemmas.List.{Folds.list_all-append, Sums.sum_by-append}
use Rattle.std.specs.{List.list_all, Str.is_utf8}
use Rattle.string_tables.proofs.SessionFacts.{used_cost-append}
use Rattle.string_tables.specs.{SessionStrings.used_cost, StaticStrings.IsStaticMap}
use Rattle.string_tables.specs.StringTable.{StringTable, with_strings}
use Rattle.nbfx_values.specs.declared.content.Item.{Item, TheVariants.Text, TheVariants.Xmlns}
use Rattle.nbfx_values.specs.declared.content.Item.TheVariants.{Array, Attr, Close, Comment, Start}
use Rattle.nbfx_values.specs.declared.session.Kind.{Kind, TheVariants.Plain, TheVariants.Session}
use Rattle.nbfx_values.specs.{Documents.IsDocument, Items.is_valid_item}
use Rattle.nbfx_values.specs.Limits.{IsGood, Limits}
use Rattle.nbfx_values.specs.Measures.{content_of, item_content}
use Rattle.nbfx_records.proofs.PayloadFacts.{written_are_records, written_is_table}
use Rattle.nbfx_records.proofs.WritableFacts.{said_may_be_written}
use Rattle.nbfx_records.specs.{declared.nodes.Node.Node, Chosen.chosen_bytes}
use Rattle.nbfx_records.specs.Meaning.{EachMeans, Means}
use Rattle.nbfx_records.specs.Payloads.{AreRecords, IsOpening, IsPayload}
use Rattle.nbfx_records.specs.Valid.{fits_node, is_valid_node}
use Rattle.nbfx_encoder.{specs.Laws.ChosenIsPayload, specs.Sound.IsSound, proofs.Saying.Spells}
use Rattle.nbfx_encoder.specs.Placing.{brings_strings, Placed, Writing}
use Rattle.nbfx_encoder.specs.Spelling.{an_item, and_then, chosen_of, in_records, items_said}
use Rattle.nbfx_encoder.specs.Spelling.{joined, last_text, opening_bytes, Said, spell, spell_from}
use Rattle.nbfx_encoder.specs.Spelling.{spell_said, strings_behind, with_first, writing}
use Rattle.nbfx_encoder.proofs.Growing.{Grows, grows_not, grows_on, sound_behind}
use Rattle.nbfx_encoder.proofs.SaidItems.{items_say_behind, said_says, SaysItems}

-- the items of records, in their order
abbrev all_said : List Said → List Item
all_said = flat_map items_said

joined_said : (item : Item) (rest : List Said) → all_said (joined item rest) ≡ item ∷ all_said rest
joined_said (Text value) (an_item Close ∷ rest) = refl
joined_said (Text value) [] = refl
joined_said (Text value) (last_text other ∷ rest) = refl
joined_said (Text value) (an_item (Start prefix local) ∷ rest) = refl
joined_said (Text value) (an_item (Xmlns prefix uri) ∷ rest) = refl
joined_said (Text value) (an_item (Attr prefix local v) ∷ rest) = refl
joined_said (Text value) (an_item (Text other) ∷ rest) = refl
joined_said (Text value) (an_item (Comment text) ∷ rest) = refl
joined_said (Text value) (an_item (Array a) ∷ rest) = refl
joined_said (Start prefix local) rest = refl
joined_said (Xmlns prefix uri) rest = refl
joined_said (Attr prefix local v) rest = refl
joined_said (Comment text) rest = refl
joined_said (Array a) rest = refl
joined_said Close rest = refl

pub in_records_said : (items : List Item) → all_said (in_records items) ≡ items
in_records_said [] = refl
in_records_said (item ∷ items) =
    joined_said item (in_records items) ∙ ap (λ rest. item ∷ rest) (in_records_said items)

-- the items of each record
abbrev each_said : List Said → List (List Item)
each_said [] = []
each_said (said ∷ rest) = items_said said ∷ each_said rest

each_all : (saids : List Said) → flat_map (λ items. items) (each_said saids) ≡ all_said saids
each_all [] = refl
each_all (said ∷ rest) = ap (λ more. items_said said ++ more) (each_all rest)

-- nodes that say the items of records, and may be written
record AllWritten (table : StringTable) (nodes : List Node) (saids : List Said) : Type 0 where
  mean : EachMeans (Means table) nodes (each_said saids)
  valid : list_all is_valid_node nodes ≡ true
  fit : list_all fits_node nodes ≡ true

record Spelled (w : Writing) (table : StringTable) (saids : List Said) (placed : Placed (List Node))
    : Type 0 where
  grows : Grows w table placed.1
  written : AllWritten placed.1 placed.0 saids

one_more : (w : Writing) (table : StringTable) (said : Said) (rest : List Said)
    (first : Placed Node) (others : Placed (List Node))
    → list_all is_valid_item (items_said said) ≡ true → content_of (items_said said) < 2 ^ 31
    → Spells w table (SaysItems (items_said said)) first → Spelled w first.1 rest others
    → Spelled w table (said ∷ rest) (first.0 ∷ others.0, others.1)
one_more w table said rest first others valid few spelled more =
    let says = items_say_behind w (items_said said) first.1 others.1 first.0 more.grows spelled.says
    in
    let may = said_may_be_written others.1 first.0 (items_said said) says.means valid few
    says.qnamed says.small in
    record {
      grows = grows_on w table first.1 others.1 spelled.grows more.grows;
      written = record {
        mean = (items_said said, each_said rest, says.means, more.written.mean, refl);
        valid = and_from (is_valid_node first.0) (list_all is_valid_node others.0) may.0
            more.written.valid;
        fit = and_from (fits_node first.0) (list_all fits_node others.0) may.1 more.written.fit;
      };
    }

ends_so : (w : Writing) (table : StringTable) (said : Said) (rest : List Said) (first : Placed Node)
    (tail : Result (Placed (List Node)) ℕ) (placed : Placed (List Node))
    → list_all is_valid_item (items_said said) ≡ true → content_of (items_said said) < 2 ^ 31
    → Spells w table (SaysItems (items_said said)) first
    → ((others : Placed (List Node)) → tail ≡ Ok others → Spelled w first.1 rest others)
    → with_first first.0 tail ≡ Ok placed → Spelled w table (said ∷ rest) placed
ends_so w table said rest first (Ok others) placed valid few spelled more is =
    let same : (first.0 ∷ others.0, others.1) ≡ placed = cc is in
    subst (Spelled w table (said ∷ rest)) same
    (one_more w table said rest first others valid few spelled (more others refl))
ends_so w table said rest first (Err item) placed valid few spelled more is = absurd (cc is)

first_so : (w : Writing) (table : StringTable) (at : ℕ) (said : Said) (rest : List Said)
    (found : Option (Placed Node)) (placed : Placed (List Node)) → spell_said w table said ≡ found
    → list_all is_valid_item (items_said said) ≡ true → content_of (items_said said) < 2 ^ 31
    → IsSound w table → ((first : Placed Node) → IsSound w first.1 → (others : Placed (List Node))
    → spell_from w first.1 (at + length (items_said said)) rest ≡ Ok others
    → Spelled w first.1 rest others)
    → and_then found at (λ behind. spell_from w behind (at + length (items_said said)) rest)
    ≡ Ok placed → Spelled w table (said ∷ rest) placed
first_so w table at said rest None placed e valid few sound more is = absurd (cc is)
first_so w table at said rest (Some first) placed e valid few sound more is =
    let spelled = said_says w table said sound valid first e in
    ends_so w table said rest first (spell_from w first.1 (at + length (items_said said)) rest)
    placed valid few spelled
    (λ others o. more first (sound_behind w table first.1 sound spelled.grows) others o) is

-- the content of records, and whether their items are valid
content_both : (said : Said) (rest : List Said)
    → content_of (all_said (said ∷ rest)) ≡ content_of (items_said said)
    + content_of (all_said rest)
content_both said rest = sum_by-append item_content (items_said said) (all_said rest)

all_spelled : (w : Writing) (saids : List Said) (table : StringTable) (at : ℕ) → IsSound w table
    → list_all is_valid_item (all_said saids) ≡ true → content_of (all_said saids) < 2 ^ 31
    → (placed : Placed (List Node)) → spell_from w table at saids ≡ Ok placed
    → Spelled w table saids placed
all_spelled w [] table at sound valid few placed is =
    let same : ([], table) ≡ placed = cc is in
    subst (Spelled w table []) same
    (record {
      grows = grows_not w table sound;
      written =
          record { mean = refl; valid = refl; fit = refl };
    })
all_spelled w (said ∷ rest) table at sound valid few placed is =
    let parts = and_parts (list_all is_valid_item (items_said said))
    (list_all is_valid_item (all_said rest))
    (sym (list_all-append is_valid_item (items_said said) (all_said rest)) ∙ valid) in
    let sum = content_both said rest in
    first_so w table at said rest (spell_said w table said) placed refl parts.0
    (omega (arith, sum, few)) sound
    (λ first s others o. all_spelled w rest first.1 (at + length (items_said said)) s parts.1
    (omega (arith, sum, few)) others o) is

-- the strings that came behind are those that a table grew by
own_strings : (table behind : StringTable) (more : List (List ℕ)) → behind ≡ with_strings table more
    → strings_behind table behind ≡ more
own_strings table behind more is =
    ap (λ (t : StringTable). drop (length table.strings) t.strings) is
    ∙ drop-append_seam table.strings more

-- a writer of payloads without strings adds none
is_opening : (kind : Kind) (own : List (List ℕ)) → (brings_strings kind ≡ false → own ≡ [])
    → list_all is_utf8 own ≡ true → used_cost own ≤ 2 ^ 28
    → IsOpening kind own (opening_bytes kind own)
is_opening Plain own none texts few = (none refl, refl)
is_opening Session own none texts few = written_is_table own texts few

-- a document's payload
record IsSpelledPayload (limits : Limits) (kind : Kind) (table : StringTable) (items : List Item)
    (payload : Placed (List ℕ)) : Type 0 where
  own : List (List ℕ)
  is_payload : IsPayload kind table own items payload.0
  behind_is : payload.1 ≡ with_strings table own
  cost : used_cost payload.1.strings ≤ limits.dictionary

from_spelled : (limits : Limits) (kind : Kind) (table : StringTable) (items : List Item)
    (placed : Placed (List Node)) (payload : Placed (List ℕ)) → IsDocument items
    → limits.dictionary ≤ 2 ^ 28 → Spelled (writing limits kind) table (in_records items) placed
    → chosen_of kind table (Ok placed) ≡ Ok payload
    → IsSpelledPayload limits kind table items payload
from_spelled limits kind table items placed payload document small spelled is =
    let more = spelled.grows.more in
    let own_is = own_strings table placed.1 more spelled.grows.is in
    let same : (
      opening_bytes kind (strings_behind table placed.1)
          ++ flat_map chosen_bytes placed.0,
      placed.1,
    ) ≡ payload = cc is in
    let spent : used_cost more ≤ limits.dictionary =
    omega (
      arith,
      spelled.grows.cost,
      ap (λ (t : StringTable). used_cost t.strings)
          spelled.grows.is,
      used_cost-append table.strings more,
    ) in
    let records : AreRecords (with_strings table more)
    (flat_map (λ items. items) (each_said (in_records items))) (flat_map chosen_bytes placed.0)
    =
    subst (λ (t : StringTable). AreRecords t
    (flat_map (λ items. items) (each_said (in_records items))) (flat_map chosen_bytes placed.0))
    spelled.grows.is
    (written_are_records placed.1 placed.0 (each_said (in_records items)) spelled.written.mean
    spelled.written.valid spelled.written.fit) in
    let those : flat_map (λ items. items) (each_said (in_records items)) ≡ items =
    each_all (in_records items) ∙ in_records_said items in
    subst (IsSpelledPayload limits kind table items) same
    (record {
      own = more;
      is_payload = record {
        opening = opening_bytes kind (strings_behind table placed.1);
        nodes = flat_map chosen_bytes placed.0;
        joined = refl;
        is_opening = subst (λ own. IsOpening kind more (opening_bytes kind own)) (sym own_is)
            (is_opening kind more spelled.grows.none spelled.grows.texts
            (omega (arith, spent, small)));
        document = document;
        are_nodes = subst (λ l. AreRecords (with_strings table more) l
            (flat_map chosen_bytes placed.0)) those records;
      };
      behind_is = spelled.grows.is;
      cost = spelled.grows.cost;
    })

from_result : (limits : Limits) (kind : Kind) (table : StringTable) (items : List Item)
    (result : Result (Placed (List Node)) ℕ) (payload : Placed (List ℕ))
    → spell (writing limits kind) table items ≡ result → IsGood limits → IsStaticMap table.statics
    → used_cost table.strings ≤ limits.dictionary → content_of items ≤ limits.content
    → IsDocument items → chosen_of kind table result ≡ Ok payload
    → IsSpelledPayload limits kind table items payload
from_result limits kind table items (Err item) payload e good statics cost content document is =
    absurd (cc is)
from_result limits kind table items (Ok placed) payload e good statics cost content document is =
    let small : limits.dictionary ≤ 2 ^ 28 =
    omega (arith, good.dictionary_most, good.payload_most) in
    let all = in_records_said items in
    let few : content_of (all_said (in_records items)) < 2 ^ 31 =
    omega (arith, ap content_of all, content, good.content_most) in
    from_spelled limits kind table items placed payload document small
    (all_spelled (writing limits kind) (in_records items) table 0
    (record { statics = statics; cost = cost; small = small })
    (ap (list_all is_valid_item) all ∙ document.valid) few placed e) is

pub chosen_is_payload : ChosenIsPayload
chosen_is_payload writer reader kind table items good admits statics cost document fits =
    let p = from_result writer kind table items (spell (writing writer kind) table items)
    fits.payload refl good statics cost fits.content document fits.chosen_is in
    record {
      own = p.own;
      is_payload = p.is_payload;
      behind_is = p.behind_is;
      within = record {
        payload = omega (arith, fits.within, admits.payload);
        admitted = record {
          depth = omega (arith, fits.depth, admits.depth);
          content = omega (arith, fits.content, admits.content);
          dictionary = omega (arith, p.cost, admits.dictionary);
        };
      };
    }
