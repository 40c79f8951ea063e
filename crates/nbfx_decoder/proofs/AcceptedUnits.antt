-- Unrefused units that lead to the end of a document are a payload.
use Rattle.std.proofs.Common.{◌≡◌, ℕ, zero, suc, ◌+◌, ◌-◌, ◌≤◌, false, List, [], ◌∷◌, ◌++◌, length}
use Rattle.std.proofs.Common.{take, drop, if◌then◌else◌, ◌==◌, Some, None, Option, sym, refl, ap}
use Rattle.std.proofs.Common.{◌∙◌, subst, append_assoc, append-nil, arith, length-append}
use Rattle.std.proofs.Common.{take-append-drop, length-take-le, ne_eqb}
use Rattle.unit_streams.specs.Front.{begun, whole, wrong}
use Rattle.unit_streams.specs.{Parts.seen, Parts.◌>>=◌, Units.Counted, Units.UnitsLead}
use Rattle.multibyte_ints.specs.{Integer.Spells, Text.IsString}
use Rattle.nbfx_values.proofs.Walks.{position_of-document}
use Rattle.nbfx_values.specs.declared.{content.Item.Item, position.Position.Position}
use Rattle.nbfx_values.specs.{declared.refusals.Reason.Reason, Positions.position_of}
use Rattle.nbfx_values.specs.declared.session.Kind.{Kind, TheVariants.Plain, TheVariants.Session}
use Rattle.nbfx_records.proofs.{MeaningFacts.meanings_are_found, NodeBytes.records_are_read}
use Rattle.nbfx_records.specs.declared.nodes.{Node.Node, NodePlace.TheVariants.AfterRoot}
use Rattle.nbfx_records.specs.declared.nodes.RecordFault.TheVariants.{TrailingBytes}
use Rattle.nbfx_records.specs.Payloads.{AreRecords, AreStrings, IsOpening, IsPayload}
use Rattle.nbfx_records.specs.Payloads.{IsRecordMeaning, no_record, record_then}
use Rattle.nbfx_records.specs.{RecordAtFront.node_at, Shapes.shape_at}
use Rattle.nbfx_decoder.specs.{declared.section.Section.Section, Faults.reason_of, Payload.unit_of}
use Rattle.nbfx_decoder.specs.declared.section.Section.TheVariants.{Nodes, Strings, TableSize}
use Rattle.nbfx_decoder.specs.Payload.{after, beginning, cut_at, node, payload, PayloadUnit}
use Rattle.nbfx_decoder.specs.Payload.{place_of, refusal, refusal_from, refused, room_for, Settings}
use Rattle.nbfx_decoder.specs.Payload.{Situation, table_in, table_size, table_string, unit_in}
use Rattle.nbfx_decoder.specs.Sections.{first_section, section_of}
use Rattle.nbfx_decoder.specs.Tables.{table_integer, table_string_at, TableString}
use Rattle.nbfx_decoder.proofs.TableBytes.{just_integer, just_string}
use Rattle.nbfx_decoder.proofs.UnitCases.{a_node, a_size, a_string, adds, node_case, NodeCase}
use Rattle.nbfx_decoder.proofs.UnitCases.{refuses, unit_case, UnitCase}
use Rattle.nbfx_values.specs.declared.position.Position.TheVariants as positions

-- a refusal at an offset is one
unrefused : (from : ℕ) (r : Option Reason) → refusal_from from r ≡ None → r ≡ None
unrefused from None e = refl
unrefused from (Some reason) e = cc

-- behind the root there is no byte
pub after_root : (byte : ℕ) (rest : List ℕ) → node_at AfterRoot (byte ∷ rest) ≡ wrong TrailingBytes
    1
unfolding node_at shape_at ◌>>=◌
after_root byte rest = refl

pub some_left : (n : ℕ) → section_of (suc n) ≡ Strings (suc n)
some_left n = let more : (suc n == 0) ≡ false = ne_eqb (suc n) 0 (omega arith) in
    ap (λ none. if none then Nodes else Strings (suc n)) more

module _ (x : Settings) (strings : List (List ℕ)) where
  -- units that are nodes
  pub record AreNodes (z : Situation) (bytes : List ℕ) (z' : Situation) (rest : List ℕ) : Type 0
    where
      pub more : List Item
      pub front : List ℕ
      pub items : z'.items ≡ z.items ++ more
      pub strings_stay : z'.strings ≡ z.strings
      pub section : z'.section ≡ Nodes
      pub joined : bytes ≡ front ++ rest
      pub are : AreRecords (table_in x z) more front

  -- one more
  node_before : (z : Situation) (bytes : List ℕ) (k : ℕ) (n : Node) (more : List Item)
      (z' : Situation) (rest : List ℕ) → (after x z (node n)).items ≡ z.items ++ more
      → IsRecordMeaning (table_in x z) more (take k bytes)
      → AreNodes (after x z (node n)) (drop k bytes) z' rest → AreNodes z bytes z' rest
  unfolding after
  node_before z bytes k n more z' rest items is h = record {
    more = more ++ h.more;
    front = take k bytes ++ h.front;
    items = h.items ∙ ap (λ l. l ++ h.more) items ∙ append_assoc z.items more h.more;
    strings_stay = h.strings_stay;
    section = h.section;
    joined = sym (take-append-drop k bytes) ∙ ap (λ c. take k bytes ++ c) h.joined ∙ sym
        (append_assoc (take k bytes) h.front rest);
    are = record_then more h.more (take k bytes) h.front is h.are;
  }

  nodes_lead : (units : List (Counted PayloadUnit)) (z : Situation) (from : ℕ) (bytes : List ℕ)
      (z' : Situation) (rest : List ℕ) → z.section ≡ Nodes → UnitsLead (payload x strings) z from
      units bytes z' rest → AreNodes z bytes z' rest
  unfolding UnitsLead after
  nodes_lead [] z from bytes z' rest here l = record {
    more = [];
    front = [];
    items = ap (λ (y : Situation). y.items) (sym l.0) ∙ sym (append-nil z.items);
    strings_stay = ap (λ (y : Situation). y.strings) (sym l.0);
    section = ap (λ (y : Situation). y.section) (sym l.0) ∙ here;
    joined = l.1;
    are = no_record;
  }
  nodes_lead (one ∷ units) z from bytes z' rest here l =
      by_case (λ y there lead. nodes_lead units y (from + one.size) (drop one.size bytes) z' rest
      there lead) (unit_case x z bytes one.unit one.size from l.0)
    where
      Behind : Type 0
      Behind = (y : Situation) → y.section ≡ Nodes → UnitsLead (payload x strings) y
          (from + one.size) units (drop one.size bytes) z' rest → AreNodes y (drop one.size bytes)
          z' rest

      by_node : Behind → (n : Node) → one.unit ≡ node n
          → node_at (place_of x.limits.depth (position_of z.items)) bytes ≡ whole n one.size
          → NodeCase x z n → AreNodes z bytes z' rest
      by_node lead n is e (refuses reason told items) = absurd
          (let none = unrefused from (refused x z one.unit) l.1 in let same = ap (refused x z) is in
          cc)
      by_node lead n is e (adds more told meant content items) =
          let read = (records_are_read (place_of x.limits.depth (position_of z.items)) bytes n
          one.size).0 e in
          let behind = lead (after x z (node n)) here
          (subst (λ (u : PayloadUnit). UnitsLead (payload x strings) (after x z u) (from + one.size)
          units (drop one.size bytes) z' rest) is l.2) in
          node_before z bytes one.size n more z' rest items
          (record {
            node = n;
            is_node = read.1;
            means = (meanings_are_found (table_in x z) n more).0
                meant;
          }) behind

      by_case : Behind → UnitCase x z bytes one.unit one.size → AreNodes z bytes z' rest
      by_case lead (a_size n is there e) = absurd (let both : Nodes ≡ TableSize = sym here ∙ there
          in cc)
      by_case lead (a_string left s is there e) = absurd
          (let both : Nodes ≡ Strings (suc left) = sym here ∙ there in cc)
      by_case lead (a_node n is there e) = by_node lead n is e (node_case x z n)

  -- units that are the strings of a table, and those behind them
  pub record AreTable (z : Situation) (left : ℕ) (bytes : List ℕ) (z' : Situation) (rest : List ℕ) :
      Type 0 where
    pub own : List (List ℕ)
    pub content : List ℕ
    pub behind : List ℕ
    pub are_strings : AreStrings own content
    pub size : length content ≡ left
    pub joined : bytes ≡ content ++ behind
    pub nodes : AreNodes (record z { section = Nodes; strings = z.strings ++ own }) behind z' rest

  -- one more
  string_before : (z : Situation) (left : ℕ) (bytes : List ℕ) (k : ℕ) (text : List ℕ)
      (section : Section) (less : ℕ) (z' : Situation) (rest : List ℕ) → k ≤ length bytes → k ≤ left
      → less ≡ left - k → IsString text (take k bytes)
      → AreTable (record z { section = section; strings = z.strings ++ text ∷ [] }) less
      (drop k bytes) z' rest → AreTable z left bytes z' rest
  string_before z left bytes k text section less z' rest within fits is_less is h = record {
    own = text ∷ h.own;
    content = take k bytes ++ h.content;
    behind = h.behind;
    are_strings = (take k bytes, h.content, refl, is, h.are_strings);
    size = let sum = length-append (take k bytes) h.content in let front = length-take-le k bytes
        within in let size = h.size in omega (arith, sum, front, size, fits, is_less);
    joined = sym (take-append-drop k bytes) ∙ ap (λ c. take k bytes ++ c) h.joined ∙ sym
        (append_assoc (take k bytes) h.content h.behind);
    nodes = subst (λ (s : List (List ℕ)). AreNodes (record z { section = Nodes; strings = s })
        h.behind z' rest) (append_assoc z.strings (text ∷ []) h.own) h.nodes;
  }

  -- the end isn't before the root
  not_before : (z z' : Situation) → z ≡ z' → z.items ≡ [] → position_of z'.items
      ≡ Some positions.After → ⊥
  not_before z z' same none at = let bad : Some positions.Before ≡ Some positions.After =
      ap position_of (sym none ∙ ap (λ (y : Situation). y.items) same) ∙ at in cc

  strings_lead : (units : List (Counted PayloadUnit)) (left : ℕ) (z : Situation) (from : ℕ)
      (bytes : List ℕ) (z' : Situation) (rest : List ℕ) → z.section ≡ section_of left → z.items ≡ []
      → position_of z'.items ≡ Some positions.After
      → UnitsLead (payload x strings) z from units bytes z' rest → AreTable z left bytes z' rest
  unfolding UnitsLead after
  strings_lead units zero z from bytes z' rest here none at l =
      let nodes = nodes_lead units z from bytes z' rest here l in record {
        own = [];
        content = [];
        behind = bytes;
        are_strings = refl;
        size = refl;
        joined = refl;
        nodes = subst (λ (s : List (List ℕ)). AreNodes (record z { section = Nodes; strings = s })
            bytes z' rest) (sym (append-nil z.strings))
            (subst (λ (s : Section). AreNodes (record z { section = s }) bytes z' rest) here nodes);
      }
  strings_lead [] (suc less) z from bytes z' rest here none at l = absurd
      (not_before z z' l.0 none at)
  strings_lead (one ∷ units) (suc less) z from bytes z' rest here none at l =
      by_case (λ left y there nothing lead. strings_lead units left y (from + one.size)
      (drop one.size bytes) z' rest there nothing at lead)
      (unit_case x z bytes one.unit one.size from l.0)
    where
      Behind : Type 0
      Behind = (left : ℕ) (y : Situation) → y.section ≡ section_of left → y.items ≡ []
          → UnitsLead (payload x strings) y (from + one.size) units (drop one.size bytes) z' rest
          → AreTable y left (drop one.size bytes) z' rest

      by_string : Behind → (s : TableString) → one.unit ≡ table_string s → table_string_at
          (room_for x.limits.dictionary z.strings) (suc less) bytes ≡ whole s one.size
          → AreTable z (suc less) bytes z' rest
      by_string lead s is e =
          let read = (just_string (room_for x.limits.dictionary z.strings) (suc less) bytes s
          one.size).0 e in
          let size = length-take-le one.size bytes read.0 in
          let fits = read.1.fits in
          let is_less = read.1.left_is in
          let behind = lead s.left (after x z (table_string s)) refl none
          (subst (λ (u : PayloadUnit). UnitsLead (payload x strings) (after x z u) (from + one.size)
          units (drop one.size bytes) z' rest) is l.2) in
          string_before z (suc less) bytes one.size s.text (section_of s.left) s.left z' rest read.0
          (omega (arith, size, fits)) (omega (arith, size, is_less)) read.1.is_string behind

      by_case : Behind → UnitCase x z bytes one.unit one.size → AreTable z (suc less) bytes z' rest
      by_case lead (a_size n is there e) = absurd (let both : Strings (suc less) ≡ TableSize = sym
          (some_left less) ∙ sym here ∙ there in cc)
      by_case lead (a_string other s is there e) =
          let same : other ≡ less = let both : Strings (suc other) ≡ Strings (suc less) = sym there
          ∙ here ∙ some_left less in cc in
          by_string lead s is
          (ap (λ m. table_string_at (room_for x.limits.dictionary z.strings) (suc m) bytes)
          (sym same) ∙ e)
      by_case lead (a_node n is there e) = absurd
          (let both : Strings (suc less) ≡ Nodes = sym (some_left less) ∙ sym here ∙ there in cc)

  -- all units of a payload, and the bytes behind them
  pub record AreAll (z : Situation) (bytes : List ℕ) (z' : Situation) (rest : List ℕ) : Type 0 where
    pub own : List (List ℕ)
    pub front : List ℕ
    pub joined : bytes ≡ front ++ rest
    pub is_payload : IsPayload x.kind (table_in x z) own z'.items front
    pub strings_are : z'.strings ≡ z.strings ++ own
    pub section : z'.section ≡ Nodes

  whole_payload : (kind : Kind) → x.kind ≡ kind → (z : Situation) (bytes : List ℕ) (z' : Situation)
      (rest : List ℕ) (own : List (List ℕ)) (opening behind : List ℕ) → z.items ≡ []
      → position_of z'.items ≡ Some positions.After
      → bytes ≡ opening ++ behind → IsOpening kind own opening
      → AreNodes (record z { section = Nodes; strings = z.strings ++ own }) behind z' rest
      → AreAll z bytes z' rest
  whole_payload kind here z bytes z' rest own opening behind none at joined is nodes = record {
    own = own;
    front = opening ++ nodes.front;
    joined = joined ∙ ap (λ c. opening ++ c) nodes.joined ∙ sym
        (append_assoc opening nodes.front rest);
    is_payload = subst (λ (k : Kind). IsPayload k (table_in x z) own z'.items
        (opening ++ nodes.front)) (sym here) (record {
          opening = opening;
          nodes = nodes.front;
          joined = refl;
          is_opening = is;
          document = position_of-document z'.items at;
          are_nodes = subst
              (λ (l : List Item). AreRecords (table_in x (record z { strings = z.strings ++ own })) l
              nodes.front) (sym (nodes.items ∙ ap (λ l. l ++ nodes.more) none)) nodes.are;
        });
    strings_are = nodes.strings_stay;
    section = nodes.section;
  }

  all_lead : (kind : Kind) → x.kind ≡ kind → (units : List (Counted PayloadUnit)) (bytes : List ℕ)
      (z' : Situation) (rest : List ℕ) → position_of z'.items ≡ Some positions.After
      → UnitsLead (payload x strings) (beginning x strings) 0 units bytes z' rest
      → AreAll (beginning x strings) bytes z' rest
  unfolding UnitsLead after
  all_lead Plain plain units bytes z' rest at l =
      let z = beginning x strings in
      let nodes = nodes_lead units z 0 bytes z' rest (ap first_section plain) l in
      whole_payload Plain plain z bytes z' rest [] [] bytes refl at refl (refl, refl)
      (subst (λ (s : List (List ℕ)). AreNodes (record z { section = Nodes; strings = s }) bytes z'
      rest) (sym (append-nil strings))
      (subst (λ (s : Section). AreNodes (record z { section = s }) bytes z' rest)
      (ap first_section plain) nodes))
  all_lead Session session [] bytes z' rest at l = absurd
      (not_before (beginning x strings) z' l.0 refl at)
  all_lead Session session (one ∷ units) bytes z' rest at l = by_case
      (unit_case x (beginning x strings) bytes one.unit one.size 0 l.0)
    where
      z : Situation
      z = beginning x strings

      by_size : (n : ℕ) → one.unit ≡ table_size n → table_integer bytes ≡ whole n one.size
          → AreAll z bytes z' rest
      by_size n is e =
          let read = (just_integer bytes n one.size).0 e in
          let table = strings_lead units n (after x z (table_size n)) (0 + one.size)
          (drop one.size bytes) z' rest refl refl at
          (subst (λ (u : PayloadUnit). UnitsLead (payload x strings) (after x z u) (0 + one.size)
          units (drop one.size bytes) z' rest) is l.2) in
          let joined : bytes ≡ (take one.size bytes ++ table.content) ++ table.behind =
          sym (take-append-drop one.size bytes) ∙ ap (λ c. take one.size bytes ++ c) table.joined ∙
          sym (append_assoc (take one.size bytes) table.content table.behind) in
          whole_payload Session session z bytes z' rest table.own
          (take one.size bytes ++ table.content) table.behind refl at joined
          (record {
            size = take one.size bytes;
            content = table.content;
            joined = refl;
            is_size =
                subst (λ (m : ℕ). Spells m (take one.size bytes)) (sym table.size) read.1;
            are_strings =
                table.are_strings;
          }) table.nodes

      first : (beginning x strings).section ≡ TableSize
      first = ap first_section session

      by_case : UnitCase x z bytes one.unit one.size → AreAll z bytes z' rest
      by_case (a_size n is there e) = by_size n is e
      by_case (a_string left s is there e) = absurd (let both : TableSize ≡ Strings (suc left) = sym
          first ∙ there in cc)
      by_case (a_node n is there e) = absurd (let both : TableSize ≡ Nodes = sym first ∙ there in
          cc)

  pub units_are_payload : (units : List (Counted PayloadUnit)) (bytes : List ℕ) (z' : Situation)
      (rest : List ℕ) → position_of z'.items ≡ Some positions.After
      → UnitsLead (payload x strings) (beginning x strings) 0 units bytes z' rest
      → AreAll (beginning x strings) bytes z' rest
  units_are_payload units bytes z' rest at l = all_lead x.kind refl units bytes z' rest at l

  -- behind the root nothing has begun but no bytes
  pub nothing_begun : (z : Situation) (from : ℕ) (bytes : List ℕ) → z.section ≡ Nodes
      → position_of z.items ≡ Some positions.After → unit_in x z from bytes ≡ begun → bytes ≡ []
  unfolding unit_in
  nothing_begun z from [] here at e = refl
  nothing_begun z from (byte ∷ rest) here at e =
      let wrong_there : unit_of x z Nodes (byte ∷ rest) ≡ wrong (reason_of TrailingBytes) 1 =
      ap (λ o. seen node reason_of (node_at (place_of x.limits.depth o) (byte ∷ rest))) at ∙
      ap (seen node reason_of) (after_root byte rest) in
      let refused_there = ap (seen (λ unit. unit) (refusal from))
      (ap (λ s. unit_of x z s (byte ∷ rest)) here ∙ wrong_there) in
      absurd (let both = sym e ∙ refused_there in cc)

  -- what ends behind its root
  pub ends_after : (z : Situation) (from : ℕ) → cut_at (position_of z.items) from ≡ None
      → position_of z.items ≡ Some positions.After
  ends_after z from e = by (position_of z.items) e
    where
      by : (o : Option Position) → cut_at o from ≡ None → o ≡ Some positions.After
      by (Some positions.After) e = refl
      by None e = cc
      by (Some positions.Before) e = cc
      by (Some (positions.Within inner attributes)) e = cc
