-- The blocks that must be understood and aren't.
use Rattle.std.specs.Prelude.{Bool, not, ◌&&◌, List, map, filter}
use Rattle.std.specs.List.{list_any}
use Rattle.soap_envelope.specs.{declared.blocks.Block.Block, Names.is_same_name, Qualified.Name}

-- whether a block is targeted and must be understood, and its name isn't among those known
abbrev pub is_foreign : List Name → Block → Bool
is_foreign known b =
    b.targeted && (b.must_understand && not (list_any (is_same_name b.name) known))

-- the names of such blocks, in order
abbrev pub not_understood : List Name → List Block → List Name
not_understood known blocks = map (λ (b : Block). b.name) (filter (is_foreign known) blocks)
