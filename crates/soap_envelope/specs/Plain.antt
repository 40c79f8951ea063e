-- Envelopes with blocks of any standard.
use Rattle.std.specs.Prelude.{List, ◌++◌}
use Rattle.nbfx_values.specs.declared.content.Item.{Item}
use Rattle.soap_envelope.specs.declared.versions.Addressing.{Addressing}
use Rattle.soap_envelope.specs.Making.{ending, middle, opening}

-- in a version of addressing with these blocks and this content of Body
abbrev pub plain_items : Addressing → (blocks body : List Item) → List Item
plain_items version blocks body = opening version ++ (blocks ++ (middle ++ (body ++ ending)))
