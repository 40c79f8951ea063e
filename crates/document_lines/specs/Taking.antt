-- What was read of a source that gives lines of documents.
use Rattle.std.specs.Prelude.{◌≡◌, ℕ, ◌<◌, ◌⊎◌, List, [], ◌++◌, length, Some, Ok, Err, Result, ⊤}
use Rattle.io_edges.specs.{Faults.CountsFaults, Faults.one_more, Flow.Told}
use Rattle.{nbfx_values.specs.declared.content.Item.Item, stream_loop.specs.Edges.Input}
use Rattle.line_notation.specs.{Between.IsUnrefused, LineReaderState.standing, Lines.cut}
use Rattle.document_lines.specs.declared.{InputFault.InputFault, reading.ListFault.ListFault}
use Rattle.document_lines.specs.declared.reading.ListFault.TheVariants.{Memory, ReadFault, Refused}
use Rattle.document_lines.specs.Documents.{documents_within}

-- what bytes are read as is answered so, unless a read failed or there was no memory
abbrev pub Says : Result (List (List Item)) InputFault → Result (List (List Item)) ListFault
    → Type 0
Says read (Ok documents) = read ≡ Ok documents
Says read (Err (Refused fault)) = read ≡ Err fault
Says read (Err ReadFault) = ⊤
Says read (Err Memory) = ⊤

-- what is answered where these documents were kept
abbrev pub of_kept : {D : Type 0} → (documents : List (List Item)) → Result D ListFault
    → Result (List (List Item)) ListFault
of_kept documents (Ok keeper) = Ok documents
of_kept documents (Err fault) = Err fault

-- What these bytes say that were read, which are all that there are, or decide it however they go
-- on. Where a read failed they are fewer than the quota, and none of their lines is refused.
abbrev pub IsReadAs : (quota : ℕ) → (bytes : List ℕ) → (ended : Type 0)
    → Result (List (List Item)) ListFault → Type 0
IsReadAs quota bytes ended (Ok documents) = (documents_within quota bytes ≡ Ok documents) × ended
IsReadAs quota bytes ended (Err (Refused fault)) = (documents_within quota bytes ≡ Err fault)
    × (ended ⊎ ((more : List ℕ) → documents_within quota (bytes ++ more) ≡ Err fault))
IsReadAs quota bytes ended (Err ReadFault) =
    (length bytes < quota) × IsUnrefused (standing (cut bytes).0)
IsReadAs quota bytes ended (Err Memory) = ⊤

-- What is known of documents that were taken from a source: of all that it gives, where it tells
-- that, what its lines say; which bytes were read, and what they say; how often the source was
-- asked at its end; and what the calls that failed by the outside left of its count.
pub record TakesDocuments (quota : ℕ) (i i' : Input) (result : Result (List (List Item)) ListFault)
    : Type 0 where
  pub says : (bytes : List ℕ) → i.left ≡ Some bytes → Says (documents_within quota bytes) result
  pub bytes : List ℕ
  pub stream : Told i.left i'.left (λ all rest. all ≡ bytes ++ rest)
  pub took : Told i.taken i'.taken (λ t t'. t' ≡ t ++ bytes)
  pub read : IsReadAs quota bytes (Told i.left i'.left (λ all rest. rest ≡ [])) result
  pub one_empty_take : (i'.empty_takes ≡ i.empty_takes) ⊎ (i'.empty_takes ≡ one_more i.empty_takes)
  pub counted : CountsFaults i.faults i'.faults (result ≡ Err ReadFault)
