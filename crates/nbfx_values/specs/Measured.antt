-- The depth and the content of items, as they are kept beside them.
use Rattle.std.specs.Prelude.{◌≡◌, List, Some}
use Rattle.nbfx_values.specs.declared.{content.Item.Item, measures.Measures.Measures}
use Rattle.nbfx_values.specs.{declared.position.Position.Position, Documents.IsDocument}
use Rattle.nbfx_values.specs.Measures.{capped, content_of, depth_of}
use Rattle.nbfx_values.specs.Positions.{position_of}

pub record AreMeasuresOf (items : List Item) (measures : Measures) : Type 0 where
  pub depth : measures.depth ≡ depth_of items
  pub content : measures.content ≡ capped (content_of items)

-- a front's items, with its end and its measures
pub record IsMeasuredFront (items : List Item) (position : Position)
    (measures : Measures) : Type 0 where
  pub leads : position_of items ≡ Some position
  pub measured : AreMeasuresOf items measures

-- a document's items, with their measures
pub record IsMeasuredDocument (items : List Item) (measures : Measures) : Type 0 where
  pub document : IsDocument items
  pub measured : AreMeasuresOf items measures
