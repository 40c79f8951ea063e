-- What is written of the strings of a table, and of which nodes each QName has an identifier: at
-- written ones.
use Rattle.std.proofs.Common.{◌≡◌, ℕ, Bool, true, false, List, [], ◌∷◌, map, pos, codes, refl}
use Rattle.nbfx_records.specs.declared.nodes.{NameRef.TheVariants.Id, Node.Node}
use Rattle.nbfx_records.specs.declared.nodes.Node.TheVariants.{Attribute, EndElement, Text}
use Rattle.nbfx_records.specs.declared.nodes.RawScalar.TheVariants.{Dictionary, Known, QName}
use Rattle.nbfx_records.specs.declared.nodes.RawValue.TheVariants.{List as ListOf, One}
use Rattle.nbfx_records.specs.{Chosen.table_bytes, Valid.names_qnames}
use Rattle.nbfx_records.proofs.OnLiterals.{records_on_literals}
use Rattle.nbfx_values.specs.declared.scalars.Scalar.TheVariants as scalars

-- the strings, and the bytes
abbrev StringsRow : Type 0
StringsRow = List (List ℕ) × List ℕ

abbrev AreWritten : List StringsRow → Type 0
AreWritten rows = map (λ (r : StringsRow). table_bytes r.0) rows
    ≡ map (λ (r : StringsRow). r.1) rows

tables : AreWritten (
    ([], 0 ∷ []) ∷
    (codes "s" ∷ [], 2 ∷ 1 ∷ 115 ∷ []) ∷
    (codes "ab" ∷ [] ∷ codes "ab" ∷ [], 7 ∷ 2 ∷ 97 ∷ 98 ∷ 0 ∷ 2 ∷ 97 ∷ 98 ∷ []) ∷
    [])
unfolding records_on_literals
tables = refl

-- a node, and whether each QName of it has an identifier
abbrev NamesRow : Type 0
NamesRow = Node × Bool

abbrev AreNamed : List NamesRow → Type 0
AreNamed rows = map (λ (r : NamesRow). names_qnames r.0) rows ≡ map (λ (r : NamesRow). r.1) rows

qnames : AreNamed (
    (EndElement, true) ∷
    (Text (One (Dictionary 2)) true, true) ∷
    (Text (One (QName 0 2)) false, true) ∷
    (Text (One (Known (scalars.QName 0 (codes "Sender")))) false, false) ∷ (
      Attribute [] (Id 2) (ListOf (Known (scalars.Number (pos 7))
          ∷ Known (scalars.QName 0 (codes "a")) ∷ [])),
      false,
    ) ∷
    [])
unfolding records_on_literals
qnames = refl
