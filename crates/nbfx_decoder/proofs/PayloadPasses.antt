-- The parts of a payload are units, none of which is refused.
use Rattle.std.proofs.Common.{◌≡◌, ℕ, suc, ◌+◌, ◌-◌, ◌<◌, ◌≤◌, List, [], ◌∷◌, ◌++◌, length, Some}
use Rattle.std.proofs.Common.{None, sym, refl, ap, ◌∙◌, subst, append_assoc, append-nil, arith}
use Rattle.std.proofs.{Common.length-append, Math.Seq.take-length, lemmas.List.Sums.sum_by-append}
use Rattle.unit_streams.proofs.Along.{Passes, passes_none, passes_then, passes_unit}
use Rattle.unit_streams.specs.{Front.whole, Grammar.IsReadable, Parts.seen}
use Rattle.string_tables.proofs.SessionFacts.{used_cost-append}
use Rattle.string_tables.specs.{SessionStrings.used_cost, StringTable.StringTable}
use Rattle.multibyte_ints.specs.{Integer.Spells, Text.IsString}
use Rattle.nbfx_values.proofs.{Heights.most_open-append, Walks.document-position}
use Rattle.nbfx_values.specs.declared.{content.Item.Item, position.Position.Position}
use Rattle.nbfx_values.specs.{declared.refusals.Reason.Reason, Positions.position_of}
use Rattle.nbfx_values.specs.declared.session.Kind.{Kind, TheVariants.Plain, TheVariants.Session}
use Rattle.nbfx_values.specs.Measures.{content_of, depth_of, item_content}
use Rattle.nbfx_records.proofs.{MeaningFacts.meanings_are_found, NodeBytes.read_of_all}
use Rattle.nbfx_records.specs.Payloads.{AreRecords, AreStrings, IsAdmitted, IsOpening, IsPayload}
use Rattle.nbfx_records.specs.Payloads.{IsRecordMeaning, no_record, record_then}
use Rattle.nbfx_decoder.specs.{declared.section.Section.Section, Faults.reason_of}
use Rattle.nbfx_decoder.specs.declared.section.Section.TheVariants.{Nodes, Strings, TableSize}
use Rattle.nbfx_decoder.specs.Payload.{after, beginning, node, payload, PayloadUnit, place_of}
use Rattle.nbfx_decoder.specs.Payload.{refusal, refusal_from, refused, room_for, Settings, unit_of}
use Rattle.nbfx_decoder.specs.Payload.{Situation, table_in, table_size, table_string, unit_in}
use Rattle.nbfx_decoder.specs.{Sections.first_section, Sections.section_of, Tables.TableString}
use Rattle.nbfx_decoder.proofs.{AcceptedUnits.some_left, UnitCases.node_passes}
use Rattle.nbfx_decoder.proofs.Places.{behind_stands, position_before}
use Rattle.nbfx_decoder.proofs.TableBytes.{IsTableString, just_integer, just_string}
use Rattle.nbfx_values.specs.declared.position.Position.TheVariants as positions

-- a front is no deeper, and has no more content
front_depth : (before more : List Item) → depth_of before ≤ depth_of (before ++ more)
front_depth before more = let most = most_open-append 0 before more in omega (arith, most)

front_content : (before more : List Item) → content_of before ≤ content_of (before ++ more)
front_content before more = let sum = sum_by-append item_content before more in omega (arith, sum)

module _ (x : Settings) where
  -- a unit of a section, where that comes
  unit_here : (z : Situation) (from : ℕ) (section : Section) (bytes : List ℕ) (unit : PayloadUnit)
      (k : ℕ) → z.section ≡ section → unit_of x z section bytes ≡ whole unit k → unit_in x z from
      bytes ≡ whole unit k
  unfolding unit_in
  unit_here z from section bytes unit k here e = ap (seen (λ unit. unit) (refusal from))
      (ap (λ s. unit_of x z s bytes) here ∙ e)

module _ (x : Settings) (strings : List (List ℕ)) (readable : IsReadable (payload x strings)) where
  -- one unit, to where it leads
  one_passes : (z : Situation) (from : ℕ) (bytes : List ℕ) (unit : PayloadUnit) (z' : Situation)
      → unit_in x z from bytes ≡ whole unit (length bytes) → refused x z unit ≡ None
      → after x z unit ≡ z'
      → Passes (payload x strings) z from bytes z' []
  one_passes z from bytes unit z' e ok leads =
      subst (λ (y : Situation). Passes (payload x strings) z from bytes y []) leads
      (passes_unit (payload x strings) readable z from bytes unit e (ap (refusal_from from) ok))

  -- nodes
  module _ (all : List Item) (last : Position) (at : position_of all ≡ Some last)
      (depth : depth_of all ≤ x.limits.depth) (content : content_of all ≤ x.limits.content) where
    one_node : (z : Situation) (from : ℕ) (items more : List Item) (bytes : List ℕ) → z.section
        ≡ Nodes → IsRecordMeaning (table_in x z) items bytes → all ≡ (z.items ++ items) ++ more
        → Passes (payload x strings) z from bytes (record z { items = z.items ++ items }) []
    one_node z from items more bytes here is total =
        let at_front = position_before (z.items ++ items) more last
        (ap position_of (sym total) ∙ at) in
        let deep : depth_of (z.items ++ items) ≤ x.limits.depth = let d = front_depth
        (z.items ++ items) more in let same = ap depth_of total in omega (arith, d, same, depth) in
        let full : content_of (z.items ++ items) ≤ x.limits.content = let c = front_content
        (z.items ++ items) more in let same = ap content_of total in omega (arith, c, same, content)
        in
        let stands = behind_stands (table_in x z) x.limits.depth z.items is.node items is.means
        at_front.0 at_front.1 deep in
        let found = (meanings_are_found (table_in x z) is.node items).1 is.means in
        let passes = node_passes x z is.node items found full in
        one_passes z from bytes (node is.node) (record z { items = z.items ++ items })
        (unit_here x z from Nodes bytes (node is.node) (length bytes) here
        (ap (seen node reason_of) (read_of_all (place_of x.limits.depth (position_of z.items))
        is.node bytes is.is_node stands))) passes.0 passes.1

    nodes_pass : (table : StringTable) (z : Situation) (from : ℕ) (more : List Item)
        (bytes : List ℕ) → z.section ≡ Nodes → table_in x z ≡ table → AreRecords table more bytes
        → all ≡ z.items ++ more
        → Passes (payload x strings) z from bytes (record z { items = z.items ++ more }) []
    nodes_pass table z from more bytes here same no_record total =
        subst (λ (l : List Item). Passes (payload x strings) z from [] (record z { items = l }) [])
        (sym (append-nil z.items)) (passes_none (payload x strings) z from)
    nodes_pass table z from more bytes here same (record_then items others front rest is are)
        total =
        let first = one_node z from items others front here
        (subst (λ (t : StringTable). IsRecordMeaning t items front) (sym same) is)
        (total ∙ sym (append_assoc z.items items others)) in
        let behind = nodes_pass table (record z { items = z.items ++ items }) (from + length front)
        others rest here same are (total ∙ sym (append_assoc z.items items others)) in
        passes_then (payload x strings) z from front rest (record z { items = z.items ++ items })
        (record z { items = z.items ++ (items ++ others) }) [] [] first
        (subst (λ (l : List Item). Passes (payload x strings)
        (record z { items = z.items ++ items }) (from + length front) rest (record z { items = l })
        []) (append_assoc z.items items others) behind)

  -- a string of a table
  one_string : (z : Situation) (from less : ℕ) (text front rest : List ℕ) → z.section
      ≡ Strings (suc less) → suc less ≡ length front + length rest → IsString text front
      → used_cost (z.strings ++ text ∷ []) ≤ x.limits.dictionary
      → Passes (payload x strings) z from front
      (record z { section = section_of (length rest); strings = z.strings ++ text ∷ [] }) []
  unfolding after refused
  one_string z from less text front rest here size is pays =
      let sum = used_cost-append z.strings (text ∷ []) in
      let s : TableString = record { text = text; left = length rest } in
      let it : IsTableString (room_for x.limits.dictionary z.strings) (suc less) s front = record {
        is_string = is;
        fits = omega (arith, size);
        pays = omega (arith, sum, pays);
        left_is = omega
            (arith, size);
      } in
      let read = (just_string (room_for x.limits.dictionary z.strings) (suc less) front s
      (length front)).1 (
        omega arith,
        subst (IsTableString (room_for x.limits.dictionary z.strings) (suc less) s)
            (sym (take-length front)) it,
      ) in
      one_passes z from front (table_string s)
      (record z { section = section_of (length rest); strings = z.strings ++ text ∷ [] })
      (unit_here x z from (Strings (suc less)) front (table_string s) (length front) here
      (ap (seen table_string (λ (r : Reason). r)) read)) refl refl

  strings_pass : (own : List (List ℕ)) (z : Situation) (from : ℕ) (content : List ℕ) → z.section
      ≡ section_of (length content) → AreStrings own content → used_cost (z.strings ++ own)
      ≤ x.limits.dictionary
      → Passes (payload x strings) z from content
      (record z { section = Nodes; strings = z.strings ++ own }) []
  strings_pass [] z from content here none pays =
      subst (λ (c : List ℕ). Passes (payload x strings) z from c
      (record z { section = Nodes; strings = z.strings ++ [] }) []) (sym none)
      (subst (λ (s : List (List ℕ)). Passes (payload x strings) z from []
      (record z { section = Nodes; strings = s }) []) (sym (append-nil z.strings))
      (subst (λ (s : Section). Passes (payload x strings) z from [] (record z { section = s }) [])
      (here ∙ ap (λ (c : List ℕ). section_of (length c)) none)
      (passes_none (payload x strings) z from)))
  strings_pass (text ∷ own) z from content here (front, rest, joined, is, are) pays =
      let size = ap length joined ∙ length-append front rest in
      let some : 0 < length front = let one = ap length is.joined ∙ length-append is.spelling text
      in let few = is.spelled.some in omega (arith, one, few) in
      let less : ℕ = length content - 1 in
      let all : length content ≡ suc less = omega (arith, size, some) in
      let total = append_assoc z.strings (text ∷ []) own in
      let sum = used_cost-append (z.strings ++ text ∷ []) own in
      let whole_cost = ap used_cost total in
      let first = one_string z from less text front rest (here ∙ ap section_of all ∙ some_left less)
      (sym all ∙ size) is (omega (arith, sum, whole_cost, pays)) in
      let z1 : Situation = record z {
        section = section_of (length rest);
        strings = z.strings
            ++ text ∷ [];
      } in
      let behind = strings_pass own z1 (from + length front) rest refl are
      (omega (arith, whole_cost, pays)) in
      subst (λ (c : List ℕ). Passes (payload x strings) z from c
      (record z { section = Nodes; strings = z.strings ++ (text ∷ own) }) []) (sym joined)
      (passes_then (payload x strings) z from front rest z1
      (record z { section = Nodes; strings = z.strings ++ (text ∷ own) }) [] [] first
      (subst (λ (s : List (List ℕ)). Passes (payload x strings) z1 (from + length front) rest
      (record z { section = Nodes; strings = s }) []) total behind))

  -- the size of a table
  size_passes : (z : Situation) (from n : ℕ) (bytes : List ℕ) → z.section ≡ TableSize
      → Spells n bytes → Passes (payload x strings) z from bytes
      (record z { section = section_of n }) []
  unfolding after refused
  size_passes z from n bytes here is =
      let read = (just_integer bytes n (length bytes)).1
      (omega arith, subst (Spells n) (sym (take-length bytes)) is) in
      one_passes z from bytes (table_size n) (record z { section = section_of n })
      (unit_here x z from TableSize bytes (table_size n) (length bytes) here
      (ap (seen table_size (λ (r : Reason). r)) read)) refl refl

  -- what comes before the nodes
  opening_passes : (kind : Kind) (z : Situation) (own : List (List ℕ)) (opening : List ℕ)
      → z.section ≡ first_section kind → IsOpening kind own opening → used_cost (z.strings ++ own)
      ≤ x.limits.dictionary
      → Passes (payload x strings) z 0 opening
      (record z { section = Nodes; strings = z.strings ++ own }) []
  opening_passes Plain z own opening here (none, empty) pays =
      subst (λ (c : List ℕ). Passes (payload x strings) z 0 c
      (record z { section = Nodes; strings = z.strings ++ own }) []) (sym empty)
      (subst (λ (s : List (List ℕ)). Passes (payload x strings) z 0 []
      (record z { section = Nodes; strings = s }) [])
      (sym (append-nil z.strings) ∙ ap (λ s. z.strings ++ s) (sym none))
      (subst (λ (s : Section). Passes (payload x strings) z 0 [] (record z { section = s }) []) here
      (passes_none (payload x strings) z 0)))
  opening_passes Session z own opening here is pays =
      let z1 : Situation = record z { section = section_of (length is.content) } in
      subst (λ (c : List ℕ). Passes (payload x strings) z 0 c
      (record z { section = Nodes; strings = z.strings ++ own }) []) (sym is.joined)
      (passes_then (payload x strings) z 0 is.size is.content z1
      (record z { section = Nodes; strings = z.strings ++ own }) [] []
      (size_passes z 0 (length is.content) is.size here is.is_size)
      (strings_pass own z1 (0 + length is.size) is.content refl is.are_strings pays))

  -- behind a payload
  abbrev pub behind_payload : List Item → List (List ℕ) → Situation
  behind_payload items own = record { section = Nodes; strings = strings ++ own; items = items }

  pub payload_passes : (bytes : List ℕ) (items : List Item) (own : List (List ℕ)) → IsPayload x.kind
      (record { statics = x.statics; strings = strings }) own items bytes → IsAdmitted x.limits
      items (strings ++ own)
      → Passes (payload x strings) (beginning x strings) 0 bytes (behind_payload items own) []
  payload_passes bytes items own is admitted =
      let z1 : Situation = record (beginning x strings) {
        section = Nodes;
        strings = strings
            ++ own;
      } in
      let first = opening_passes x.kind (beginning x strings) own is.opening refl is.is_opening
      admitted.dictionary in
      let behind = nodes_pass items positions.After (document-position items is.document)
      admitted.depth admitted.content (table_in x z1) z1 (0 + length is.opening) items is.nodes refl
      refl is.are_nodes refl in
      subst (λ (c : List ℕ). Passes (payload x strings) (beginning x strings) 0 c
      (behind_payload items own) []) (sym is.joined)
      (passes_then (payload x strings) (beginning x strings) 0 is.opening is.nodes z1
      (behind_payload items own) [] [] first behind)
