-- What bounds the situation behind any bytes of a payload.
use Rattle.std.proofs.Common.{◌≡◌, ℕ, zero, suc, ◌+◌, ◌<◌, ◌≤◌, max, List, [], ◌∷◌, ◌++◌, length}
use Rattle.std.proofs.Common.{take, drop, Some, IsUtf8, sym, refl, ap, ◌∙◌, subst, inl, inr, arith}
use Rattle.std.proofs.Common.{length-append, take-append-drop, length-take-le}
use Rattle.{std.proofs.lemmas.List.Sums.sum_by-append, multibyte_ints.specs.Integer.IsBytes}
use Rattle.unit_streams.proofs.Standing.{peel_by, standing_keeps}
use Rattle.unit_streams.specs.Grammar.{at_start, IsReadable, standing}
use Rattle.string_tables.proofs.{SessionFacts.used_cost-append, TableFacts.names-push}
use Rattle.string_tables.specs.{SessionStrings.used_cost, StringTable.with_strings}
use Rattle.nbfx_values.specs.declared.{content.Item.Item, position.Position.Position}
use Rattle.nbfx_values.specs.{Measures.content_of, Positions.position_of}
use Rattle.nbfx_records.proofs.MeaningFacts.{meanings_are_found, meanings_are_valid}
use Rattle.nbfx_records.proofs.{NodeBytes.records_are_read, ValidFacts.records_are_valid}
use Rattle.nbfx_records.specs.{declared.nodes.Node.Node, Meaning.Means}
use Rattle.nbfx_records.specs.{Places.Stands, Records.IsNode}
use Rattle.nbfx_decoder.specs.{Bounds.KeepsWithin, Bounds.NamesTexts, Values.item_values}
use Rattle.nbfx_decoder.specs.DecoderState.{from_of, situation_of}
use Rattle.nbfx_decoder.specs.Payload.{after, node, payload, PayloadUnit, place_of, room_for}
use Rattle.nbfx_decoder.specs.Payload.{Settings, Situation, table_in, table_size, table_string}
use Rattle.nbfx_decoder.proofs.{Counts.node_fits, Counts.node_items, TableBytes.just_string}
use Rattle.nbfx_decoder.proofs.Places.{open_within_depth, stands_behind, stands_depth}
use Rattle.nbfx_decoder.proofs.UnitCases.{a_node, a_size, a_string, adds, node_case, NodeCase}
use Rattle.nbfx_decoder.proofs.UnitCases.{refuses, unit_case, UnitCase}
use Rattle.nbfx_values.specs.declared.position.Position.TheVariants as positions

module _ (x : Settings) (before : List (List ℕ)) where
  -- more bytes, and nothing new
  keeps_same : (z z' : Situation) (from k : ℕ) → z'.items ≡ z.items → z'.strings ≡ z.strings
      → KeepsWithin x.limits before z from → KeepsWithin x.limits before z' (from + k)
  keeps_same z z' from k items strings h =
      let same : KeepsWithin x.limits before (record z' { items = z.items; strings = z.strings })
      (from + k) = record {
        content = h.content;
        depth = h.depth;
        open_elements = h.open_elements;
        dictionary = h.dictionary;
        few_items = let few = h.few_items in omega (arith, few);
        few_values = let few = h.few_values in omega (arith, few);
      } in
      subst (λ (l : List Item). KeepsWithin x.limits before (record z' { items = l }) (from + k))
      (sym items)
      (subst (λ (s : List (List ℕ)). KeepsWithin x.limits before
      (record z' { items = z.items; strings = s }) (from + k)) (sym strings) same)

  -- one string more
  keeps_string : (z z' : Situation) (from k : ℕ) (text : List ℕ) → z'.items ≡ z.items → z'.strings
      ≡ z.strings ++ text ∷ [] → used_cost (z.strings ++ text ∷ []) ≤ max (used_cost before)
      x.limits.dictionary
      → KeepsWithin x.limits before z from → KeepsWithin x.limits before z' (from + k)
  keeps_string z z' from k text items strings pays h =
      keeps_same (record z { strings = z.strings ++ text ∷ [] }) z' from k items strings (record {
        content = h.content;
        depth = h.depth;
        open_elements = h.open_elements;
        dictionary = pays;
        few_items = h.few_items;
        few_values = h.few_values;
      })

  -- the items of a node more
  keeps_items : (z z' : Situation) (from k : ℕ) (n : Node) (more : List Item) (bytes : List ℕ)
      → z'.items ≡ z.items ++ more → z'.strings ≡ z.strings → length bytes ≡ k → 0 < k
      → content_of (z.items ++ more) ≤ x.limits.content → Means (table_in x z) n more
      → IsNode n bytes → Stands (place_of x.limits.depth (position_of z.items)) n
      → KeepsWithin x.limits before z from → KeepsWithin x.limits before z' (from + k)
  keeps_items z z' from k n more bytes items strings size one content means is stands h =
      let deep = stands_depth (table_in x z) x.limits.depth z.items n more means stands h.depth in
      let two = node_items (table_in x z) n more means in
      let fits = node_fits (table_in x z) n more bytes means is in
      let same : KeepsWithin x.limits before
      (record z' { items = z.items ++ more; strings = z.strings }) (from + k) = record {
        content = content;
        depth = deep;
        open_elements = let open_now = open_within_depth (z.items ++ more) in omega
            (arith, open_now, deep);
        dictionary = h.dictionary;
        few_items = let few = h.few_items in let sum = length-append z.items more in omega
            (arith, few, sum, two, one);
        few_values = let few = h.few_values in let sum = sum_by-append item_values z.items more in
            omega (arith, few, sum, fits, size);
      } in
      subst (λ (l : List Item). KeepsWithin x.limits before (record z' { items = l }) (from + k))
      (sym items)
      (subst (λ (s : List (List ℕ)). KeepsWithin x.limits before
      (record z' { items = z.items ++ more; strings = s }) (from + k)) (sym strings) same)

  module _ (z : Situation) (from : ℕ) (b : List ℕ) (k : ℕ) (one : 0 < k)
      (h : KeepsWithin x.limits before z from) where
    node_keeps : (n : Node) → IsNode n (take k b) → k ≤ length b
        → Stands (place_of x.limits.depth (position_of z.items)) n → NodeCase x z n
        → KeepsWithin x.limits before (after x z (node n)) (from + k)
    unfolding after
    node_keeps n is within stands (refuses reason told items) = keeps_same z (after x z (node n))
        from k items refl h
    node_keeps n is within stands (adds more told meant content items) =
        keeps_items z (after x z (node n)) from k n more (take k b) items refl
        (length-take-le k b within) one content ((meanings_are_found (table_in x z) n more).0 meant)
        is stands h

    case_keeps : (unit : PayloadUnit) → UnitCase x z b unit k → KeepsWithin x.limits before
        (after x z unit) (from + k)
    unfolding after
    case_keeps unit (a_size n is here e) = subst (λ (u : PayloadUnit). KeepsWithin x.limits before
        (after x z u) (from + k)) (sym is) (keeps_same z (after x z (table_size n)) from k refl refl
        h)
    case_keeps unit (a_string left s is here e) =
        let it = (just_string (room_for x.limits.dictionary z.strings) (suc left) b s k).0 e in
        let pays = it.1.pays in
        let sum = used_cost-append z.strings (s.text ∷ []) in
        let so_far = h.dictionary in
        subst (λ (u : PayloadUnit). KeepsWithin x.limits before (after x z u) (from + k)) (sym is)
        (keeps_string z (after x z (table_string s)) from k s.text refl refl
        (omega (arith, pays, sum, so_far)) h)
    case_keeps unit (a_node n is here e) =
        let it = (records_are_read (place_of x.limits.depth (position_of z.items)) b n k).0 e in
        subst (λ (u : PayloadUnit). KeepsWithin x.limits before (after x z u) (from + k)) (sym is)
        (node_keeps n it.1 it.0 it.2 (node_case x z n))

-- however many bytes came
pub keeps_within : (x : Settings) (strings : List (List ℕ)) → IsReadable (payload x strings)
    → (p : List ℕ) → KeepsWithin x.limits strings (situation_of x strings p) (from_of x strings p)
keeps_within x strings readable p =
    standing_keeps (payload x strings) readable (KeepsWithin x.limits strings)
    (record {
      content = omega arith;
      depth = omega arith;
      open_elements = omega arith;
      dictionary =
          omega arith;
      few_items = omega arith;
      few_values = omega arith;
    })
    (λ z from b unit k e one h. case_keeps x strings z from b k one h unit
    (unit_case x z b unit k from e)) p

-- it is somewhere in a document, and what identifiers name is text
pub record IsSomewhere (x : Settings) (z : Situation) : Type 0 where
  pub position : Position
  pub leads : position_of z.items ≡ Some position
  pub texts : NamesTexts (table_in x z)

-- parts of bytes are bytes
first_bytes : (a b : List ℕ) → IsBytes (a ++ b) → IsBytes a
first_bytes [] b are i = omega arith
first_bytes (byte ∷ a) b are zero = are zero
first_bytes (byte ∷ a) b are (suc i) = first_bytes a b (λ j. are (suc j)) i

last_bytes : (a b : List ℕ) → IsBytes (a ++ b) → IsBytes b
last_bytes [] b are = are
last_bytes (byte ∷ a) b are = last_bytes a b (λ j. are (suc j))

pub bytes_front : (k : ℕ) (b : List ℕ) → IsBytes b → IsBytes (take k b)
bytes_front k b are = first_bytes (take k b) (drop k b)
    (subst IsBytes (sym (take-append-drop k b)) are)

pub bytes_rest : (k : ℕ) (b : List ℕ) → IsBytes b → IsBytes (drop k b)
bytes_rest k b are = last_bytes (take k b) (drop k b)
    (subst IsBytes (sym (take-append-drop k b)) are)

module _ (x : Settings) (z : Situation) (b : List ℕ) (k : ℕ) (bytes : IsBytes b)
    (h : IsSomewhere x z) where
  -- one more string is text
  texts_more : (text : List ℕ) → IsUtf8 text → NamesTexts (with_strings (table_in x z) (text ∷ []))
  texts_more text good id other names =
      elim ((names-push (table_in x z) text id other).0 names) [
        | inl before ↦ h.texts id other before
        | inr last ↦ subst IsUtf8 (sym last.1) good
      ]

  node_somewhere : (n : Node) → IsNode n (take k b)
      → Stands (place_of x.limits.depth (position_of z.items)) n → NodeCase x z n
      → IsSomewhere x (after x z (node n))
  unfolding after
  node_somewhere n is stands (refuses reason told items) = record
      { position = h.position; leads = ap position_of items ∙ h.leads; texts = h.texts }
  node_somewhere n is stands (adds more told meant content items) =
      let means = (meanings_are_found (table_in x z) n more).0 meant in
      let valid_node = records_are_valid n (take k b) (bytes_front k b bytes) is in
      let valid = meanings_are_valid (table_in x z) n more h.texts valid_node means in
      let on = stands_behind (table_in x z) x.limits.depth z.items h.position n more h.leads stands
      means valid in
      record { position = on.0; leads = ap position_of items ∙ on.1; texts = h.texts }

  case_somewhere : (unit : PayloadUnit) → UnitCase x z b unit k → IsSomewhere x (after x z unit)
  unfolding after
  case_somewhere unit (a_size n is here e) = subst
      (λ (u : PayloadUnit). IsSomewhere x (after x z u)) (sym is)
      (record { position = h.position; leads = h.leads; texts = h.texts })
  case_somewhere unit (a_string left s is here e) =
      let it = (just_string (room_for x.limits.dictionary z.strings) (suc left) b s k).0 e in
      subst (λ (u : PayloadUnit). IsSomewhere x (after x z u)) (sym is)
      (record {
        position = h.position;
        leads = h.leads;
        texts = texts_more s.text
            it.1.is_string.utf8;
      })
  case_somewhere unit (a_node n is here e) =
      let it = (records_are_read (place_of x.limits.depth (position_of z.items)) b n k).0 e in
      subst (λ (u : PayloadUnit). IsSomewhere x (after x z u)) (sym is)
      (node_somewhere n it.1 it.2 (node_case x z n))

module _ (x : Settings) (strings : List (List ℕ)) (readable : IsReadable (payload x strings)) where
  -- behind any bytes
  pub somewhere : NamesTexts (record { statics = x.statics; strings = strings }) → (p : List ℕ)
      → IsBytes p → IsSomewhere x (situation_of x strings p)
  unfolding standing
  somewhere texts p bytes =
      peel_by (payload x strings) readable (λ s t. IsBytes s.begun → IsSomewhere x s.situation
      → IsSomewhere x t.situation) (λ s o are h. h)
      (λ s unit k t e one within rest are h. rest (bytes_rest k s.begun are)
      (case_somewhere x s.situation s.begun k are h unit
      (unit_case x s.situation s.begun unit k s.from e)))
      (at_start (payload x strings) p) bytes
      (record { position = positions.Before; leads = refl; texts = texts })
