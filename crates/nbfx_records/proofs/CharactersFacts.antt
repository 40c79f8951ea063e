-- The value of UTF-8 characters.
use Rattle.std.proofs.Common.{◌≡◌, ℕ, Bool, true, false, List, IsTrue, Some, Ok}
use Rattle.std.specs.Str.{is_utf8}
use Rattle.nbfx_records.specs.declared.{kinds.TextKind.TextKind, nodes.RawValue.TheVariants.One}
use Rattle.nbfx_records.specs.declared.nodes.{Node.Node, RawScalar.TheVariants.Known}
use Rattle.nbfx_records.specs.Contents.{contents, is_chars, judge, scalar_of, text_judged}
use Rattle.nbfx_records.specs.Shapes.{bytes_of, has_text, one}
use Rattle.nbfx_values.specs.declared.scalars.Scalar.TheVariants as scalars
use Rattle.nbfx_records.specs.declared.kinds.TextKind.TheVariants as texts
use Rattle.nbfx_records.specs.declared.nodes.Node.TheVariants as nodes

abbrev pub node_of_text : Bool → List ℕ → Node
node_of_text ends text = nodes.Text (One (Known (scalars.Text text))) ends

judged : (bytes t : List ℕ) (ends texts : Bool) → judge texts (Some bytes) ≡ Ok t → judge {A = Node}
    texts (Some (node_of_text ends bytes)) ≡ Ok (node_of_text ends t)
judged bytes t ends true e = cc
judged bytes t ends false e = cc

-- the node of a text of characters
pub characters_are : (kind : TextKind) → IsTrue (is_chars kind) → (bytes t : List ℕ) (ends : Bool)
    → text_judged bytes ≡ Ok t
    → contents (has_text (one (bytes_of kind bytes)) ends) ≡ Ok (node_of_text ends t)
unfolding contents scalar_of
characters_are texts.Chars8 is bytes t ends e = judged bytes t ends (is_utf8 bytes) e
characters_are texts.Chars16 is bytes t ends e = judged bytes t ends (is_utf8 bytes) e
characters_are texts.Chars32 is bytes t ends e = judged bytes t ends (is_utf8 bytes) e
characters_are _ is bytes t ends e = cc
