-- Where in a document a node may stand.
use Rattle.std.specs.Prelude.{IsTrue, ⊤}
use Rattle.nbfx_records.specs.declared.nodes.{Node.Node, NodePlace.NodePlace}
use Rattle.nbfx_records.specs.declared.nodes.Node.TheVariants.{Array, Attribute, Element, Xmlns}
use Rattle.nbfx_records.specs.declared.nodes.NodePlace.TheVariants.{AfterRoot, BeforeRoot, Within}

-- Before the root only an element, behind it nothing. Within it an element or an array where one
-- more may be opened, an attribute or a declaration where one may stand, and anything else
-- anywhere.
abbrev pub Stands : NodePlace → Node → Type 0
Stands BeforeRoot (Element prefix name) = ⊤
Stands BeforeRoot _ = ⊥
Stands (Within attributes deeper) (Element prefix name) = IsTrue deeper
Stands (Within attributes deeper) (Array a) = IsTrue deeper
Stands (Within attributes deeper) (Attribute prefix name value) = IsTrue attributes
Stands (Within attributes deeper) (Xmlns prefix uri) = IsTrue attributes
Stands (Within attributes deeper) _ = ⊤
Stands AfterRoot _ = ⊥
