-- Records one behind the other, and the strings of a table as they are written.
use Rattle.std.proofs.Common.{◌≡◌, ℕ, ◌+◌, ◌*◌, ◌^◌, ◌<◌, ◌≤◌, true, ◌&&◌, List, [], ◌∷◌, ◌++◌}
use Rattle.std.proofs.Common.{length, drop, flat_map, sym, refl, ap, ◌∙◌, subst, append_assoc}
use Rattle.std.proofs.Common.{arith, length-append, ltb-true, lt-ltb}
use Rattle.std.{proofs.Math.Seq.drop-append_seam, specs.List.list_all, specs.Str.is_utf8}
use Rattle.std.proofs.lemmas.{Bool.and_from, Bool.and_parts, Str.IsUtf8-from_is_utf8}
use Rattle.std.proofs.lemmas.List.{Concat.flat_map-cons, Sums.sum_by-cons}
use Rattle.{unit_streams.specs.Front.whole, multibyte_ints.specs.Integer.shortest}
use Rattle.string_tables.specs.SessionStrings.{cost, used_cost}
use Rattle.multibyte_ints.proofs.{ShortestLaws.shortest_spells, TextBytes.string_reads_front}
use Rattle.multibyte_ints.proofs.TextLaws.{string_alone, string_bytes_are}
use Rattle.multibyte_ints.specs.Text.{IsString, string_at, string_bytes_of}
use Rattle.nbfx_values.specs.declared.content.Item.{Item}
use Rattle.nbfx_records.specs.{Chosen.chosen_bytes, Payloads.record_then}
use Rattle.nbfx_records.specs.Payloads.{AreRecords, AreStrings, IsRecordMeaning, no_record}
use Rattle.nbfx_records.specs.Valid.{fits_node, is_short, is_valid_node}
use Rattle.nbfx_records.specs.WritingLaws.{RecordsJoin, RecordsStay, StringsAreOnce}
use Rattle.nbfx_records.specs.WritingLaws.{WrittenAreRecords, WrittenAreStrings, WrittenIsTable}
use Rattle.nbfx_records.proofs.{ChosenNodes.chosen_is, StayFacts.meanings_stay}

pub records_stay : RecordsStay
records_stay table more items bytes no_record = no_record
records_stay table more items bytes (record_then first others front rest is are) =
    record_then first others front rest
    (record {
      node = is.node;
      is_node = is.is_node;
      means =
          meanings_stay table more is.node first is.means;
    }) (records_stay table more others rest are)

pub records_join : RecordsJoin
records_join table items more bytes rest no_record behind = behind
records_join table items more bytes rest (record_then first others front tail is are) behind =
    subst (λ (l : List Item). AreRecords table l ((front ++ tail) ++ rest))
    (sym (append_assoc first others more))
    (subst (AreRecords table (first ++ (others ++ more))) (sym (append_assoc front tail rest))
    (record_then first (others ++ more) front (tail ++ rest) is
    (records_join table others more tail rest are behind)))

pub written_are_records : WrittenAreRecords
written_are_records table [] said none valid fits =
    subst (λ (s : List (List Item)). AreRecords table (flat_map (λ items. items) s) []) (sym none)
    no_record
written_are_records table (node ∷ nodes) said (items, rest, says, others, made) valid fits =
    let v = and_parts (is_valid_node node) (list_all is_valid_node nodes) valid in
    let f = and_parts (fits_node node) (list_all fits_node nodes) fits in
    let first : IsRecordMeaning table items (chosen_bytes node) =
    record { node = node; is_node = chosen_is node v.0 f.0; means = says } in
    subst (λ (s : List (List Item)). AreRecords table (flat_map (λ items. items) s)
    (flat_map chosen_bytes (node ∷ nodes))) (sym made)
    (record_then items (flat_map (λ items. items) rest) (chosen_bytes node)
    (flat_map chosen_bytes nodes) first (written_are_records table nodes rest others v.1 f.1))

-- a string at the front of some bytes is of one text, and what follows it is one list
record SameString (text other rest more : List ℕ) : Type 0 where
  texts : text ≡ other
  rests : rest ≡ more

string_once : (text other front start rest more : List ℕ) → IsString text front
    → IsString other start → front ++ rest ≡ start ++ more → SameString text other rest more
string_once text other front start rest more is is_other same =
    let limit = length text + length other in
    let one = (string_reads_front limit).whole_stays front rest text (length front)
    (string_alone limit front text (omega arith) is) in
    let two = (string_reads_front limit).whole_stays start more other (length start)
    (string_alone limit start other (omega arith) is_other) in
    let both : whole text (length front) ≡ whole other (length start) =
    sym one ∙ ap (string_at limit) same ∙ two in
    let lengths : length front ≡ length start = cc both in
    record {
      texts = cc both;
      rests = sym (drop-append_seam front rest) ∙ ap (λ n. drop n (front ++ rest)) lengths
          ∙ ap (drop (length start)) same ∙ drop-append_seam start more;
    }

-- where there is a string there are bytes
some_bytes : (text front rest bytes : List ℕ) → IsString text front → bytes ≡ front ++ rest
    → 0 < length bytes
some_bytes text front rest bytes is joined =
    omega (
      arith,
      is.spelled.some,
      ap length is.joined,
      length-append is.spelling text,
      ap length
          joined,
      length-append front rest,
    )

pub strings_once : StringsAreOnce
strings_once [] [] bytes none none_too = refl
strings_once [] (other ∷ others) bytes none (front, rest, joined, is, are) =
    let some = some_bytes other front rest bytes is joined in
    absurd (omega (arith, some, ap length none))
strings_once (text ∷ texts) [] bytes (front, rest, joined, is, are) none =
    let some = some_bytes text front rest bytes is joined in
    absurd (omega (arith, some, ap length none))
strings_once (text ∷ texts) (other ∷ others) bytes (front, rest, joined, is, are)
    (start, more, joined_too, is_other, are_others) =
    let same = string_once text other front start rest more is is_other (sym joined ∙ joined_too) in
    let behind = strings_once texts others rest are
    (subst (AreStrings others) (sym same.rests) are_others) in
    cc (same.texts, behind)

pub written_are_strings : WrittenAreStrings
written_are_strings [] may = refl
written_are_strings (text ∷ texts) may =
    let parts = and_parts (is_utf8 text && is_short text)
    (list_all (λ t. is_utf8 t && is_short t) texts) may in
    let own = and_parts (is_utf8 text) (is_short text) parts.0 in (
      string_bytes_of text,
      flat_map string_bytes_of texts,
      flat_map-cons string_bytes_of text texts,
      string_bytes_are text (IsUtf8-from_is_utf8 text own.0)
          (ltb-true (length text) (2 ^ 31) own.1),
      written_are_strings texts parts.1,
    )

-- strings that don't cost too much have lengths of 31 bits, and few bytes more than they cost
all_short : (texts : List (List ℕ)) → list_all is_utf8 texts ≡ true → used_cost texts ≤ 2 ^ 28
    → list_all (λ t. is_utf8 t && is_short t) texts ≡ true
all_short [] utf8 few = refl
all_short (text ∷ texts) utf8 few =
    let parts = and_parts (is_utf8 text) (list_all is_utf8 texts) utf8 in
    let sum = sum_by-cons cost text texts in
    and_from (is_utf8 text && is_short text) (list_all (λ t. is_utf8 t && is_short t) texts)
    (and_from (is_utf8 text) (is_short text) parts.0
    (lt-ltb (length text) (2 ^ 31) (omega (arith, sum, few))))
    (all_short texts parts.1 (omega (arith, sum, few)))

string_length : (text : List ℕ) → length text < 2 ^ 31
    → length (string_bytes_of text) ≤ 6 * cost text
unfolding string_bytes_of
string_length text lt =
    let spelled = (shortest_spells (length text) lt).0.at_most_five in
    omega (arith, spelled, length-append (shortest (length text)) text)

pub strings_length : (texts : List (List ℕ)) → used_cost texts ≤ 2 ^ 28
    → length (flat_map string_bytes_of texts) ≤ 6 * used_cost texts
strings_length [] few = omega arith
strings_length (text ∷ texts) few =
    let sum = sum_by-cons cost text texts in
    let own = string_length text (omega (arith, sum, few)) in
    let others = strings_length texts (omega (arith, sum, few)) in
    let joined = length-append (string_bytes_of text) (flat_map string_bytes_of texts) in
    omega (arith, sum, own, others, joined, ap length (flat_map-cons string_bytes_of text texts))

pub written_is_table : WrittenIsTable
written_is_table texts utf8 few =
    let content = flat_map string_bytes_of texts in
    let long = strings_length texts few in
    record {
      size = shortest (length content);
      content = content;
      joined = refl;
      is_size = (shortest_spells (length content) (omega (arith, long, few))).0;
      are_strings = written_are_strings texts (all_short texts utf8 few);
    }
