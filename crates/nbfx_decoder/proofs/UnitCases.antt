-- Which unit was read, and what it adds.
use Rattle.std.proofs.Common.{◌≡◌, ℕ, zero, suc, ◌≤◌, Bool, true, false, List, ◌++◌, if◌then◌else◌}
use Rattle.std.proofs.Common.{nat_lt, Some, None, Option, sym, refl, ap, ◌∙◌, append-nil, ltb-false}
use Rattle.std.proofs.Common.{le-ltb}
use Rattle.unit_streams.specs.{Front.begun, Front.Front, Front.whole, Front.wrong, Parts.seen}
use Rattle.nbfx_values.specs.declared.{content.Item.Item, refusals.Reason.Reason}
use Rattle.nbfx_values.specs.declared.refusals.Reason.TheVariants.{TooMuchContent, UnknownString}
use Rattle.nbfx_values.specs.{Measures.content_of, Positions.position_of}
use Rattle.nbfx_records.specs.{declared.nodes.Node.Node, Meaning.items_of, RecordAtFront.node_at}
use Rattle.nbfx_decoder.specs.{declared.section.Section.Section, Faults.reason_of}
use Rattle.nbfx_decoder.specs.declared.section.Section.TheVariants.{Nodes, Strings, TableSize}
use Rattle.nbfx_decoder.specs.Payload.{added, after, node, PayloadUnit, place_of, reason_in}
use Rattle.nbfx_decoder.specs.Payload.{refusal, refused, room_for, Settings, Situation, table_in}
use Rattle.nbfx_decoder.specs.Payload.{table_size, table_string, unit_in, unit_of}
use Rattle.nbfx_decoder.specs.Tables.{table_integer, table_string_at, TableString}

-- a thing that is seen, as it was read
pub seen_whole : {A B R S : Type 0} (f : A → B) (h : R → S) (v : Front A R) (b : B) (k : ℕ)
    → seen f h v ≡ whole b k → (a : A) × (v ≡ whole a k) × (f a ≡ b)
seen_whole f h begun b k e = cc
seen_whole f h (whole a n) b k e = let same : f a ≡ b = cc in let size : n
    ≡ k = cc in (a, ap (whole a) size, same)
seen_whole f h (wrong r n) b k e = cc

-- the unit at the front of some bytes
pub data UnitCase (x : Settings) (z : Situation) (b : List ℕ) (unit : PayloadUnit) (k : ℕ) : Type 0
  where
    a_size : (n : ℕ) → unit ≡ table_size n → z.section ≡ TableSize → table_integer b ≡ whole n k
        → UnitCase x z b unit k
    a_string : (left : ℕ) (s : TableString) → unit ≡ table_string s → z.section ≡ Strings (suc left)
        → table_string_at (room_for x.limits.dictionary z.strings) (suc left) b ≡ whole s k
        → UnitCase x z b unit k
    a_node : (n : Node) → unit ≡ node n → z.section ≡ Nodes
        → node_at (place_of x.limits.depth (position_of z.items)) b ≡ whole n k → UnitCase x z b unit
        k

module _ (x : Settings) (z : Situation) (b : List ℕ) (unit : PayloadUnit) (k : ℕ) where
  by_section : (section : Section) → z.section ≡ section → unit_of x z section b ≡ whole unit k
      → UnitCase x z b unit k
  by_section TableSize here e = let it = seen_whole table_size (λ (r : Reason). r) (table_integer b)
      unit k e in a_size it.0 (sym it.2) here it.1
  by_section (Strings zero) here e = cc
  by_section (Strings (suc left)) here e =
      let it = seen_whole table_string (λ (r : Reason). r)
      (table_string_at (room_for x.limits.dictionary z.strings) (suc left) b) unit k e in a_string
      left it.0 (sym it.2) here it.1
  by_section Nodes here e = let it = seen_whole node reason_of
      (node_at (place_of x.limits.depth (position_of z.items)) b) unit k e in a_node it.0 (sym it.2)
      here it.1

  pub unit_case : (from : ℕ) → unit_in x z from b ≡ whole unit k → UnitCase x z b unit k
  unfolding unit_in
  unit_case from e =
      let it = seen_whole (λ (u : PayloadUnit). u) (refusal from) (unit_of x z z.section b) unit k e
      in
      by_section z.section refl (it.1 ∙ ap (λ u. whole u k) it.2)

-- the items behind a node: those before it, or these too
pub data NodeCase (x : Settings) (z : Situation) (n : Node) : Type 0 where
  refuses : (reason : Reason) → refused x z (node n) ≡ Some reason → (after x z (node n)).items
      ≡ z.items → NodeCase x z n
  adds : (more : List Item) → refused x z (node n) ≡ None → items_of (table_in x z) n ≡ Some more
      → content_of (z.items ++ more) ≤ x.limits.content
      → (after x z (node n)).items ≡ z.items ++ more → NodeCase x z n

module _ (x : Settings) (z : Situation) (n : Node) where
  by_content : (more : List Item) → items_of (table_in x z) n ≡ Some more → (above : Bool)
      → nat_lt x.limits.content (content_of (z.items ++ more)) ≡ above → NodeCase x z n
  unfolding after refused
  by_content more e true a =
      let told : reason_in x.limits.content z.items (items_of (table_in x z) n)
      ≡ Some TooMuchContent = ap (reason_in x.limits.content z.items) e ∙
      ap (λ t. if t then Some TooMuchContent else None) a in
      refuses TooMuchContent told (ap (λ r. z.items ++ added r (items_of (table_in x z) n)) told ∙
      append-nil z.items)
  by_content more e false a =
      let told : reason_in x.limits.content z.items (items_of (table_in x z) n)
      ≡ None = ap (reason_in x.limits.content z.items) e ∙
      ap (λ t. if t then Some TooMuchContent else None) a in
      adds more told e (ltb-false x.limits.content (content_of (z.items ++ more)) a)
      (ap (λ r. z.items ++ added r (items_of (table_in x z) n)) told ∙
      ap (λ o. z.items ++ added None o) e)

  by_items : (o : Option (List Item)) → items_of (table_in x z) n ≡ o → NodeCase x z n
  unfolding after refused
  by_items None e =
      let told : reason_in x.limits.content z.items (items_of (table_in x z) n)
      ≡ Some UnknownString = ap (reason_in x.limits.content z.items) e in
      refuses UnknownString told (ap (λ r. z.items ++ added r (items_of (table_in x z) n)) told ∙
      append-nil z.items)
  by_items (Some more) e = by_content more e
      (nat_lt x.limits.content (content_of (z.items ++ more))) refl

  pub node_case : NodeCase x z n
  node_case = by_items (items_of (table_in x z) n) refl

  -- a node whose items are within the content isn't refused
  pub node_passes : (more : List Item) → items_of (table_in x z) n ≡ Some more
      → content_of (z.items ++ more) ≤ x.limits.content
      → (refused x z (node n) ≡ None)
      × ((after x z (node n)) ≡ record z { items = z.items ++ more })
  unfolding after refused
  node_passes more e within =
      let told : reason_in x.limits.content z.items (items_of (table_in x z) n)
      ≡ None = ap (reason_in x.limits.content z.items) e ∙
      ap (λ t. if t then Some TooMuchContent else None)
      (le-ltb x.limits.content (content_of (z.items ++ more)) within) in (
        told,
        ap (λ (more : List Item). record z { items = z.items ++ more })
            (ap (λ r. added r (items_of (table_in x z) n)) told ∙ ap (added None) e),
      )
