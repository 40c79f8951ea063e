-- What a node is found to mean. Public contracts cite none of this.
use Rattle.std.specs.Prelude.{◌≡◌, ℕ, Bool, List, [], ◌∷◌, IsTrue, Some, None, Ok, Err, Option}
use Rattle.std.specs.{Prelude.Result, Prelude.⊤, List.list_all, Str.is_utf8}
use Rattle.string_tables.specs.StringTable.{StringTable}
use Rattle.nbfx_values.specs.declared.{content.Item.Item, scalars.Scalar.Scalar}
use Rattle.nbfx_records.specs.declared.nodes.{NameRef.NameRef, RawScalar.RawScalar}
use Rattle.nbfx_records.specs.Contents.{each, name_is_text, scalar_judged, scalars_judged}
use Rattle.nbfx_records.specs.Meaning.{items_of, meant_scalar, name_text}
use Rattle.nbfx_records.specs.{Shapes.ScalarShape, Valid.is_valid_raw}
use Rattle.nbfx_decoder.specs.declared.meaning.{Lookup.Lookup, Meant.Meant, Unmeant.Unmeant}
use Rattle.nbfx_decoder.specs.declared.meaning.Unmeant.TheVariants.{Memory, UnknownString}
use Rattle.nbfx_values.specs.declared.content.Item.TheVariants as items
use Rattle.nbfx_records.specs.declared.nodes.Node.TheVariants as nodes
use Rattle.nbfx_records.specs.declared.nodes.RawValue.TheVariants as values
use Rattle.nbfx_decoder.specs.declared.meaning.Meant.TheVariants as meants

abbrev pub table_of : Lookup → StringTable
table_of names = record { statics = names.statics.now; strings = names.strings.now.strings }

-- what is there is found, and where nothing is an identifier names no string
abbrev pub Finds : {A : Type 0} → Option A → Result A Unmeant → Type 0
Finds there (Ok a) = there ≡ Some a
Finds there (Err UnknownString) = there ≡ None
Finds there (Err Memory) = ⊤

abbrev pub items_in : Meant → List Item
items_in (meants.Item item) = item ∷ []
items_in (meants.LastText value) = items.Text value ∷ items.Close ∷ []

abbrev pub FindsItems : Option (List Item) → Result Meant Unmeant → Type 0
FindsItems there (Ok meant) = there ≡ Some (items_in meant)
FindsItems there (Err UnknownString) = there ≡ None
FindsItems there (Err Memory) = ⊤

-- a value that is one of its kind, and each of whose identifiers names a string, and what it says
pub record MeansValue (table : StringTable) (scalar : ScalarShape) : Type 0 where
  pub raw : RawScalar
  pub said : Scalar
  pub judged : scalar_judged scalar ≡ Ok raw
  pub means : meant_scalar table raw ≡ Some said
  pub valid : IsTrue (is_valid_raw raw)

abbrev pub SaysValue : StringTable → ScalarShape → Scalar → Type 0
SaysValue table scalar said =
    (raw : RawScalar) × (scalar_judged scalar ≡ Ok raw) × (meant_scalar table raw ≡ Some said)

-- the same of a list of values
pub record MeansValues (table : StringTable) (scalars : List ScalarShape) : Type 0 where
  pub raws : List RawScalar
  pub said : List Scalar
  pub judged : scalars_judged scalars ≡ Ok raws
  pub means : each (meant_scalar table) raws ≡ Some said
  pub valid : IsTrue (list_all is_valid_raw raws)

abbrev pub SaysValues : StringTable → List ScalarShape → List Scalar → Type 0
SaysValues table scalars said =
    (raws : List RawScalar) × (scalars_judged scalars ≡ Ok raws)
    × (each (meant_scalar table) raws ≡ Some said)

-- what a text says that is such a list
abbrev pub SaysText : StringTable → List ScalarShape → Bool → Meant → Type 0
SaysText table scalars ends meant =
    (raws : List RawScalar) × (scalars_judged scalars ≡ Ok raws)
    × (items_of table (nodes.Text (values.List raws) ends) ≡ Some (items_in meant))

-- a name that is UTF-8, or whose identifier names a string
pub record MeansName (table : StringTable) (name : NameRef) : Type 0 where
  pub text : List ℕ
  pub is_text : IsTrue (name_is_text name)
  pub means : name_text table name ≡ Some text

-- an attribute whose value is such a list
pub record MeansAttribute (table : StringTable) (prefix : List ℕ) (name : NameRef)
    (scalars : List ScalarShape) : Type 0 where
  pub prefix_is_text : IsTrue (is_utf8 prefix)
  pub named : MeansName table name
  pub values : MeansValues table scalars

-- and what it says
abbrev pub SaysAttribute : StringTable → List ℕ → NameRef → List ScalarShape → Meant → Type 0
SaysAttribute table prefix name scalars meant =
    (raws : List RawScalar) × (scalars_judged scalars ≡ Ok raws)
    × (items_of table (nodes.Attribute prefix name (values.List raws)) ≡ Some (items_in meant))
