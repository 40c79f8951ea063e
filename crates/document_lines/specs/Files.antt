-- What a file of documents on a shelf says.
use Rattle.std.specs.Prelude.{◌≡◌, ℕ, List, IfSome, Some, None, Ok, Err, Option, Result, ⊤}
use Rattle.{io_edges.specs.Store.Store, nbfx_values.specs.declared.content.Item.Item}
use Rattle.document_lines.specs.{declared.InputFault.InputFault, Documents.documents_in}
use Rattle.document_lines.specs.declared.fetching.DocumentsFault.{DocumentsFault}
use Rattle.document_lines.specs.declared.fetching.DocumentsFault.{TheVariants.Refused}
use Rattle.document_lines.specs.declared.fetching.DocumentsFault.TheVariants.{Failed, Memory}
use Rattle.document_lines.specs.declared.fetching.DocumentsFault.TheVariants.{Missing}
use Rattle.std.specs.FinMap as finite

-- what the bytes of a file are read as, if there is one
abbrev pub read_of : Option (List ℕ) → Option (Result (List (List Item)) InputFault)
read_of None = None
read_of (Some bytes) = Some (documents_in bytes)

-- this is what the file with the name says, where the shelf tells its files
abbrev pub FileSays : Option Store → (name : List ℕ)
    → Option (Result (List (List Item)) InputFault) → Type 0
FileSays files name says = IfSome files (λ store. read_of (finite.get store name) ≡ says)

-- and it is answered so
abbrev pub Answers : Option Store → (name : List ℕ) → Result (List (List Item)) DocumentsFault
    → Type 0
Answers files name (Ok documents) = FileSays files name (Some (Ok documents))
Answers files name (Err Missing) = FileSays files name None
Answers files name (Err (Refused fault)) = FileSays files name (Some (Err fault))
Answers files name (Err Failed) = ⊤
Answers files name (Err Memory) = ⊤
