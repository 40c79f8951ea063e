-- A node that stands where items lead means items that lead on from there, within the depth; and
-- what leads on stands.
use Rattle.std.proofs.Common.{◌≡◌, ℕ, zero, suc, ◌+◌, ◌≤◌, max, Bool, true, false, List, [], ◌∷◌}
use Rattle.std.proofs.Common.{◌++◌, if◌then◌else◌, nat_lt, Some, None, Option, sym, refl, ap, ◌∙◌}
use Rattle.std.proofs.Common.{subst, arith, ltb-true, lt-ltb}
use Rattle.std.{proofs.lemmas.Bool.and_parts, specs.List.list_all}
use Rattle.{string_tables.specs.StringTable.StringTable, nbfx_decoder.specs.Payload.place_of}
use Rattle.nbfx_values.{proofs.Heights.most_open-append, specs.Items.is_valid_item}
use Rattle.nbfx_values.proofs.Positions.{led, open-position, passed, position_from-append}
use Rattle.nbfx_values.proofs.Positions.{position_from-none, stepped}
use Rattle.nbfx_values.specs.declared.{content.Item.Item, position.Position.Position}
use Rattle.nbfx_values.specs.Measures.{depth_of, most_open, opened, opened_by}
use Rattle.nbfx_values.specs.Positions.{moved, open_count, position_from, position_of}
use Rattle.nbfx_records.specs.{declared.nodes.Node.Node, Places.Stands}
use Rattle.nbfx_records.specs.declared.nodes.Node.TheVariants.{Array, Attribute, Comment, Element}
use Rattle.nbfx_records.specs.declared.nodes.Node.TheVariants.{EndElement, Text, Xmlns}
use Rattle.nbfx_records.specs.Meaning.{closing, Means}
use Rattle.nbfx_values.specs.declared.content.Item.TheVariants as items
use Rattle.nbfx_values.specs.declared.position.Position.TheVariants as positions

-- one valid item
one_leads : (q t : Position) (item : Item) (more : List Item) → more ≡ item ∷ []
    → list_all is_valid_item more ≡ true → moved q item ≡ Some t → position_from (Some q) more
    ≡ Some t
one_leads q t item more is valid e =
    let v : is_valid_item item
    ≡ true = (and_parts (is_valid_item item) true (ap (list_all is_valid_item) (sym is) ∙ valid)).0
    in
    ap (position_from (Some q)) is ∙ stepped q item [] v ∙ e

-- a text and the end of its element
two_lead : (q s t : Position) (item : Item) (more : List Item) → more ≡ item ∷ items.Close ∷ []
    → list_all is_valid_item more ≡ true → moved q item ≡ Some s → moved s items.Close ≡ Some t
    → position_from (Some q) more ≡ Some t
two_lead q s t item more is valid first second =
    let v : is_valid_item item
    ≡ true = (and_parts (is_valid_item item) true (ap (list_all is_valid_item) (sym is) ∙ valid)).0
    in
    ap (position_from (Some q)) is ∙ stepped q item (items.Close ∷ []) v ∙
    ap (λ o. position_from o (items.Close ∷ [])) first ∙ stepped s items.Close [] refl ∙ second

-- items that lead on
abbrev LeadOn : Position → List Item → Type 0
LeadOn q more = (t : Position) × (position_from (Some q) more ≡ Some t)

attribute_moves : (inner : ℕ) (attributes : Bool) → attributes ≡ true
    → (if attributes then Some (positions.Within inner true) else None)
    ≡ Some (positions.Within inner true)
attribute_moves inner attributes e = ap (λ b. if b then Some (positions.Within inner true)
    else None) e

-- a node that stands leads on
module _ (table : StringTable) (depth : ℕ) where
  stands_leads : (q : Position) (node : Node) (more : List Item) → Stands (place_of depth (Some q))
      node → Means table node more → list_all is_valid_item more ≡ true → LeadOn q more
  stands_leads positions.Before (Element prefix name) more stands (local, named, is) valid = (
    positions.Within 0 true,
    one_leads positions.Before (positions.Within 0 true)
        (items.Start prefix local) more is valid refl,
  )
  stands_leads positions.Before node more stands means valid = absurd stands
  stands_leads (positions.Within zero attributes) EndElement more stands is valid = (
    positions.After,
    one_leads (positions.Within zero attributes) positions.After items.Close
        more is valid refl,
  )
  stands_leads (positions.Within (suc inner) attributes) EndElement more stands is valid = (
    positions.Within inner false,
    one_leads (positions.Within (suc inner) attributes)
        (positions.Within inner false) items.Close more is valid refl,
  )
  stands_leads (positions.Within inner attributes) (Comment text) more stands is valid = (
    positions.Within inner false,
    one_leads (positions.Within inner attributes)
        (positions.Within inner false) (items.Comment text) more is valid refl,
  )
  stands_leads (positions.Within inner attributes) (Array a) more stands (item, means, is) valid = (
    positions.Within inner false,
    one_leads (positions.Within inner attributes)
        (positions.Within inner false) (items.Array item) more is valid refl,
  )
  stands_leads (positions.Within inner attributes) (Attribute prefix name raw) more stands
      (local, value, named, means, is) valid = (
        positions.Within inner true,
        one_leads (positions.Within inner attributes)
            (positions.Within inner true) (items.Attr prefix local value) more is valid
            (attribute_moves inner attributes stands),
      )
  stands_leads (positions.Within inner attributes) (Xmlns prefix name) more stands (uri, named, is)
      valid = (
        positions.Within inner true,
        one_leads (positions.Within inner attributes)
            (positions.Within inner true) (items.Xmlns prefix uri) more is valid
            (attribute_moves inner attributes stands),
      )
  stands_leads (positions.Within inner attributes) (Element prefix name) more stands
      (local, named, is) valid = (
        positions.Within (suc inner) true,
        one_leads (positions.Within inner attributes)
            (positions.Within (suc inner) true) (items.Start prefix local) more is valid refl,
      )
  stands_leads (positions.Within inner attributes) (Text raw false) more stands (value, means, is)
      valid = (
        positions.Within inner false,
        one_leads (positions.Within inner attributes)
            (positions.Within inner false) (items.Text value) more is valid refl,
      )
  stands_leads (positions.Within zero attributes) (Text raw true) more stands (value, means, is)
      valid = (
        positions.After,
        two_lead (positions.Within zero attributes) (positions.Within zero false)
            positions.After (items.Text value) more is valid refl refl,
      )
  stands_leads (positions.Within (suc inner) attributes) (Text raw true) more stands
      (value, means, is) valid = (
        positions.Within inner false,
        two_lead (positions.Within (suc inner) attributes)
            (positions.Within (suc inner) false) (positions.Within inner false) (items.Text value) more is
            valid refl refl,
      )
  stands_leads positions.After node more stands means valid = absurd stands

  -- behind items that lead somewhere
  pub stands_behind : (before : List Item) (q : Position) (node : Node) (more : List Item)
      → position_of before ≡ Some q → Stands (place_of depth (position_of before)) node
      → Means table node more
      → list_all is_valid_item more ≡ true → (t : Position)
      × (position_of (before ++ more) ≡ Some t)
  stands_behind before q node more e stands means valid =
      let on = stands_leads q node more
      (subst (λ (o : Option Position). Stands (place_of depth o) node) e stands) means valid in (
        on.0,
        position_from-append (Some positions.Before) before more ∙
            ap (λ o. position_from o more) e ∙ on.1,
      )

-- an item that may not stand there leads nowhere
none_leads : (q : Position) (item : Item) (others more : List Item) (t : Position) → more ≡ item
    ∷ others → moved q item ≡ None → position_from (Some q) more ≡ Some t → ⊥
none_leads q item others more t is none e =
    let p = passed (is_valid_item item) (moved q item) others t
    (ap (position_from (Some q)) (sym is) ∙ e) in
    let l = led (moved q item) q item others t refl p.1 in
    let some = l.1 in cc

attribute_moved : (inner : ℕ) (attributes : Bool) (item : Item) (others more : List Item)
    (t : Position) → more ≡ item ∷ others
    → moved (positions.Within inner attributes) item
    ≡ (if attributes then Some (positions.Within inner true) else None)
    → position_from (Some (positions.Within inner attributes)) more ≡ Some t → attributes ≡ true
attribute_moved inner true item others more t is moves e = refl
attribute_moved inner false item others more t is moves e = absurd
    (none_leads (positions.Within inner false) item others more t is moves e)

module _ (table : StringTable) where
  -- each node means an item at least
  first_of : (node : Node) (more : List Item) → Means table node more → (item : Item)
      × (others : List Item) × (more ≡ item ∷ others)
  first_of EndElement more is = (items.Close, [], is)
  first_of (Comment text) more is = (items.Comment text, [], is)
  first_of (Array a) more (item, means, is) = (items.Array item, [], is)
  first_of (Attribute prefix name raw) more (local, value, named, means, is) =
      (items.Attr prefix local value, [], is)
  first_of (Xmlns prefix name) more (uri, named, is) = (items.Xmlns prefix uri, [], is)
  first_of (Element prefix name) more (local, named, is) = (items.Start prefix local, [], is)
  first_of (Text raw ends) more (value, means, is) = (items.Text value, closing ends, is)

  module _ (depth : ℕ) where
    -- what an element or an array opens
    deeper_of : (inner : ℕ) (more : List Item) (n : ℕ) → inner + 2 ≤ most_open (inner + 1) more
        → most_open (inner + 1) more ≤ depth → nat_lt (inner + 1) depth ≡ true
    deeper_of inner more n opens deep = lt-ltb (inner + 1) depth (omega (arith, opens, deep))

    -- a node that leads on stands, where the depth allows what it opens
    leads_stands : (q : Position) (node : Node) (more : List Item) (t : Position) → Means table node
        more → position_from (Some q) more ≡ Some t → most_open (open_count q) more ≤ depth
        → Stands (place_of depth (Some q)) node
    leads_stands positions.Before (Element prefix name) more t means e deep = tt
    leads_stands positions.Before EndElement more t is e deep = none_leads positions.Before
        items.Close [] more t is refl e
    leads_stands positions.Before (Comment text) more t is e deep = none_leads positions.Before
        (items.Comment text) [] more t is refl e
    leads_stands positions.Before (Array a) more t (item, means, is) e deep = none_leads
        positions.Before (items.Array item) [] more t is refl e
    leads_stands positions.Before (Attribute prefix name raw) more t
        (local, value, named, means, is) e deep = none_leads positions.Before
        (items.Attr prefix local value) [] more t is refl e
    leads_stands positions.Before (Xmlns prefix name) more t (uri, named, is) e deep = none_leads
        positions.Before (items.Xmlns prefix uri) [] more t is refl e
    leads_stands positions.Before (Text raw ends) more t (value, means, is) e deep = none_leads
        positions.Before (items.Text value) (closing ends) more t is refl e
    leads_stands (positions.Within inner attributes) (Element prefix name) more t (local, named, is)
        e deep =
        deeper_of inner more 0 (subst (λ (m : List Item). inner + 2 ≤ most_open (inner + 1) m)
        (sym is) (omega arith)) deep
    leads_stands (positions.Within inner attributes) (Array a) more t (item, means, is) e deep =
        deeper_of inner more 0 (subst (λ (m : List Item). inner + 2 ≤ most_open (inner + 1) m)
        (sym is) (omega arith)) deep
    leads_stands (positions.Within inner attributes) (Attribute prefix name raw) more t
        (local, value, named, means, is) e deep =
        attribute_moved inner attributes (items.Attr prefix local value) [] more t is refl e
    leads_stands (positions.Within inner attributes) (Xmlns prefix name) more t (uri, named, is) e
        deep = attribute_moved inner attributes (items.Xmlns prefix uri) [] more t is refl e
    leads_stands (positions.Within inner attributes) node more t means e deep = tt
    leads_stands positions.After node more t means e deep = let first = first_of node more means in
        none_leads positions.After first.0 first.1 more t first.2 refl e

    -- and one that stands opens no more than the depth, but for a root
    stands_within : (q : Position) (node : Node) (more : List Item)
        → Stands (place_of depth (Some q)) node → Means table node more → open_count q ≤ max 1 depth
        → most_open (open_count q) more ≤ max 1 depth
    stands_within positions.Before (Element prefix name) more stands (local, named, is) within =
        subst (λ (m : List Item). most_open 0 m ≤ max 1 depth) (sym is) (omega arith)
    stands_within positions.Before node more stands means within = absurd stands
    stands_within (positions.Within inner attributes) (Element prefix name) more stands
        (local, named, is) within =
        let deeper = ltb-true (inner + 1) depth stands in subst
        (λ (m : List Item). most_open (inner + 1) m ≤ max 1 depth) (sym is) (omega (arith, deeper))
    stands_within (positions.Within inner attributes) (Array a) more stands (item, means, is)
        within =
        let deeper = ltb-true (inner + 1) depth stands in subst
        (λ (m : List Item). most_open (inner + 1) m ≤ max 1 depth) (sym is) (omega (arith, deeper))
    stands_within (positions.Within inner attributes) EndElement more stands is within = subst
        (λ (m : List Item). most_open (inner + 1) m ≤ max 1 depth) (sym is) (omega (arith, within))
    stands_within (positions.Within inner attributes) (Comment text) more stands is within = subst
        (λ (m : List Item). most_open (inner + 1) m ≤ max 1 depth) (sym is) (omega (arith, within))
    stands_within (positions.Within inner attributes) (Attribute prefix name raw) more stands
        (local, value, named, means, is) within =
        subst (λ (m : List Item). most_open (inner + 1) m ≤ max 1 depth) (sym is)
        (omega (arith, within))
    stands_within (positions.Within inner attributes) (Xmlns prefix name) more stands
        (uri, named, is) within = subst (λ (m : List Item). most_open (inner + 1) m ≤ max 1 depth)
        (sym is) (omega (arith, within))
    stands_within (positions.Within inner attributes) (Text raw false) more stands
        (value, means, is) within = subst (λ (m : List Item). most_open (inner + 1) m ≤ max 1 depth)
        (sym is) (omega (arith, within))
    stands_within (positions.Within inner attributes) (Text raw true) more stands (value, means, is)
        within = subst (λ (m : List Item). most_open (inner + 1) m ≤ max 1 depth) (sym is)
        (omega (arith, within))
    stands_within positions.After node more stands means within = absurd stands

-- where items lead somewhere, so do those before them
pub position_before : (before more : List Item) (t : Position) → position_of (before ++ more)
    ≡ Some t → (q : Position) × (position_of before ≡ Some q)
    × (position_from (Some q) more ≡ Some t)
position_before before more t e = by (position_of before) refl
  where
    by : (o : Option Position) → position_of before ≡ o → (q : Position) × (o ≡ Some q)
        × (position_from (Some q) more ≡ Some t)
    by None none = absurd (let bad : None ≡ Some t = sym (position_from-none more) ∙
        ap (λ o. position_from o more) (sym none) ∙ sym
        (position_from-append (Some positions.Before) before more) ∙ e in cc)
    by (Some q) some = (
      q,
      refl,
      ap (λ o. position_from o more) (sym some) ∙ sym
          (position_from-append (Some positions.Before) before more) ∙ e,
    )

-- no more elements are open at the end than at the most
opened_within : (n : ℕ) (xs : List Item) → opened_by n xs ≤ most_open n xs
opened_within n [] = omega arith
opened_within n (x ∷ xs) = let e = opened_within (opened n x) xs in omega (arith, e)

pub open_within_depth : (xs : List Item) → opened_by 0 xs ≤ depth_of xs
open_within_depth xs = opened_within 0 xs

-- the depth of more items
pub depth_more : (before more : List Item) (q : Position) → position_of before ≡ Some q
    → depth_of (before ++ more) ≡ max (depth_of before) (most_open (open_count q) more)
depth_more before more q e = most_open-append 0 before more ∙
    ap (λ n. max (depth_of before) (most_open n more)) (open-position before q e)

module _ (table : StringTable) (depth : ℕ) (before : List Item) (node : Node) (more : List Item)
    (means : Means table node more) where
  -- what leads on behind items, within the depth, stands there
  pub behind_stands : (t : Position) → position_of (before ++ more) ≡ Some t
      → depth_of (before ++ more) ≤ depth → Stands (place_of depth (position_of before)) node
  behind_stands t e deep =
      let at = position_before before more t e in
      let most = depth_more before more at.0 at.1 in
      subst (λ (o : Option Position). Stands (place_of depth o) node) (sym at.1)
      (leads_stands table depth at.0 node more t means at.2 (omega (arith, most, deep)))

  stands_deep : (o : Option Position) → position_of before ≡ o → Stands (place_of depth o) node
      → depth_of before ≤ max 1 depth → depth_of (before ++ more) ≤ max 1 depth
  stands_deep None e stands within = absurd stands
  stands_deep (Some q) e stands within =
      let open_now = open-position before q e in
      let most = depth_more before more q e in
      let few = stands_within table depth q node more stands means
      (omega (arith, open_now, open_within_depth before, within)) in
      omega (arith, most, few, within)

  -- what stands there keeps within the depth, but for a root
  pub stands_depth : Stands (place_of depth (position_of before)) node → depth_of before
      ≤ max 1 depth → depth_of (before ++ more) ≤ max 1 depth
  stands_depth stands within = stands_deep (position_of before) refl stands within
