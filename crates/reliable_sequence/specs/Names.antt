-- The namespace of WS-ReliableMessaging (February 2005), and names of its elements.
use Rattle.std.specs.Prelude.{ℕ, Bool, List, codes}
use Rattle.soap_envelope.specs.{declared.blocks.Block.Block, Names.is_named}

unfoldable pub messaging : List ℕ
messaging = codes "http://schemas.xmlsoap.org/ws/2005/02/rm"

-- whether a block is the standard's of a local name
abbrev pub is_block : List ℕ → Block → Bool
is_block local b = is_named b.name messaging local
