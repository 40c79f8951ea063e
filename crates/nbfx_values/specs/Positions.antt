-- Where in a document a list of items ends that may be the front of one.
use Rattle.std.specs.Prelude.{◌≡◌, ℕ, zero, suc, ◌+◌, ◌<◌, ◌≤◌, Bool, true, false, List, [], ◌∷◌}
use Rattle.std.specs.Prelude.{length, take, if◌then◌else◌, IsSome, Some, None, Option}
use Rattle.nbfx_values.specs.declared.content.Item.{Item, TheVariants.Text, TheVariants.Xmlns}
use Rattle.nbfx_values.specs.declared.content.Item.TheVariants.{Array, Attr, Close, Comment, Start}
use Rattle.nbfx_values.specs.{declared.position.Position.Position, Items.is_valid_item}
use Rattle.nbfx_values.specs.declared.position.Position.TheVariants.{After, Before, Within}

-- where an item leads, whatever its values, if it may stand there
abbrev pub moved : Position → Item → Option Position
moved Before (Start prefix local) = Some (Within 0 true)
moved Before _ = None
moved (Within inner attributes) (Start prefix local) = Some (Within (suc inner) true)
moved (Within inner attributes) (Xmlns prefix uri) =
    if attributes then Some (Within inner true) else None
moved (Within inner attributes) (Attr prefix local value) =
    if attributes then Some (Within inner true) else None
moved (Within inner attributes) (Text value) = Some (Within inner false)
moved (Within inner attributes) (Comment bytes) = Some (Within inner false)
moved (Within inner attributes) (Array a) = Some (Within inner false)
moved (Within zero attributes) Close = Some After
moved (Within (suc inner) attributes) Close = Some (Within inner false)
moved After _ = None

-- the same, where records can hold the item's values
abbrev pub next_position : Position → Item → Option Position
next_position position item = if is_valid_item item then moved position item else None

-- where items lead, if each may stand where it does
abbrev pub position_from : Option Position → List Item → Option Position
position_from position [] = position
position_from None (item ∷ items) = None
position_from (Some position) (item ∷ items) = position_from (next_position position item) items

-- where they lead from before the root
abbrev pub position_of : List Item → Option Position
position_of items = position_from (Some Before) items

-- how many elements are open there
abbrev pub open_count : Position → ℕ
open_count Before = 0
open_count (Within inner attributes) = inner + 1
open_count After = 0

-- whether a declaration or an attribute may stand there
abbrev pub takes_attributes : Position → Bool
takes_attributes Before = false
takes_attributes (Within inner attributes) = attributes
takes_attributes After = false

-- the items before the place may stand where they do, and that at the place may not; or all may,
-- and they end before the root does
pub record StopsAt (items : List Item) (at : ℕ) : Type 0 where
  pub within : at ≤ length items
  pub front : IsSome (position_of (take at items))
  pub stops : at < length items → position_of (take (at + 1) items) ≡ None
  pub unfinished : position_of items ≡ Some After → ⊥
