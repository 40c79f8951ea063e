-- What is made of a record that is neither a list nor an array is neither.
use Rattle.std.proofs.Common.{◌≡◌, ℕ, Bool, true, false, List, Some, None, Ok, Option, option_map}
use Rattle.{std.proofs.Common.subst, nbfx_records.specs.Contents.scalar_value}
use Rattle.nbfx_records.specs.declared.nodes.{NameRef.NameRef, Node.Node}
use Rattle.nbfx_records.specs.declared.nodes.{RawScalar.RawScalar, RawValue.TheVariants.One}
use Rattle.nbfx_records.specs.Contents.{attribute_node, contents, is_text, judge, node_of}
use Rattle.nbfx_records.specs.Shapes.{adds, attributes, begins_element, comments, declares}
use Rattle.nbfx_records.specs.Shapes.{ends_element, has_text, one, repeats, several, Shape}
use Rattle.nbfx_decoder.specs.Units.{IsSingle, IsSingleShape}
use Rattle.nbfx_records.specs.declared.nodes.AttrNode.TheVariants as attribute_nodes
use Rattle.nbfx_records.specs.declared.nodes.Node.TheVariants as nodes

found_in : (texts : Bool) (found : Option Node) (node : Node) → judge texts found ≡ Ok node
    → found ≡ Some node
found_in true (Some other) node e = cc
found_in true None node e = cc
found_in false found node e = cc

-- of one value
attribute_single : (prefix : List ℕ) (name : NameRef) (found : Option RawScalar) (node : Node)
    → option_map attribute_node
    (option_map (λ v. attribute_nodes.Attribute prefix name v) (option_map One found)) ≡ Some node
    → IsSingle node
attribute_single prefix name (Some raw) node e =
    let same : nodes.Attribute prefix name (One raw) ≡ node = cc in subst IsSingle same tt
attribute_single prefix name None node e = cc

text_single : (ends : Bool) (found : Option RawScalar) (node : Node)
    → option_map (λ v. nodes.Text v ends) (option_map One found) ≡ Some node → IsSingle node
text_single ends (Some raw) node e =
    let same : nodes.Text (One raw) ends ≡ node = cc in subst IsSingle same tt
text_single ends None node e = cc

by_shape : (shape : Shape) → IsSingleShape shape → (node : Node) → node_of shape ≡ Some node
    → IsSingle node
by_shape ends_element h node e =
    let same : nodes.EndElement ≡ node = cc in subst IsSingle same tt
by_shape (comments text) h node e =
    let same : nodes.Comment text ≡ node = cc in subst IsSingle same tt
by_shape (begins_element prefix name) h node e =
    let same : nodes.Element prefix name ≡ node = cc in subst IsSingle same tt
by_shape (adds (attributes prefix name (one scalar))) h node e =
    attribute_single prefix name (scalar_value scalar) node e
by_shape (adds (attributes prefix name (several scalars))) h node e = absurd h
by_shape (adds (declares prefix uri)) h node e =
    let same : nodes.Xmlns prefix uri ≡ node = cc in subst IsSingle same tt
by_shape (has_text (one scalar) ends) h node e =
    text_single ends (scalar_value scalar) node e
by_shape (has_text (several scalars) ends) h node e = absurd h
by_shape (repeats array) h node e = absurd h

pub single_made : (shape : Shape) → IsSingleShape shape → (node : Node) → contents shape ≡ Ok node
    → IsSingle node
unfolding contents
single_made shape h node e =
    by_shape shape h node (found_in (is_text shape) (node_of shape) node e)
