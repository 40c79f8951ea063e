-- The identifiers of texts, as a function.
use Rattle.std.specs.{Prelude.ℕ, Prelude.List, Prelude.Option, Option.option_or}
use Rattle.static_dictionary.specs.declared.names.Names.{Names}
use Rattle.std.specs.BTreeMap as tree
use Rattle.std.specs.HashMap as hash

-- the identifier of a text: by its hash, or else by its order
abbrev pub identifier_in : Names → List ℕ → Option ℕ
identifier_in names text =
    option_or (hash.get_by_text names.by_hash text) (tree.get_by_text names.by_order text)
