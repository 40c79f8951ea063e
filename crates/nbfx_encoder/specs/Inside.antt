-- What a speller stands for, and what its parts answer.
use Rattle.std.specs.Prelude.{◌≡◌, ℕ, ◌≤◌, List, ◌∷◌, ◌++◌, length, drop, Some, None, Ok, Err}
use Rattle.std.specs.Prelude.{Option, Result, flat_map, ⊤}
use Rattle.string_tables.specs.{SessionStrings.used_cost, StringTable.StringTable}
use Rattle.{nbfx_values.specs.declared.content.Item.Item, nbfx_records.specs.Chosen.chosen_bytes}
use Rattle.nbfx_records.specs.declared.nodes.{Node.Node, RawScalar.RawScalar}
use Rattle.nbfx_records.specs.{declared.put_values.ScalarChoice.ScalarChoice, Choices.choice_seen}
use Rattle.nbfx_encoder.specs.{declared.faults.EncodeFault.EncodeFault, Refusals.told}
use Rattle.nbfx_encoder.specs.declared.speller.{SpellFault.SpellFault, Speller.Speller}
use Rattle.nbfx_encoder.specs.declared.speller.SpellFault.TheVariants.{Memory, Unnamed}
use Rattle.nbfx_encoder.specs.Placing.{Placed, Writing}
use Rattle.nbfx_encoder.specs.Spelling.{in_records, items_said, Said, spell_said, Unfit}
use Rattle.nbfx_encoder.specs.declared.faults.EncodeFault.TheVariants as faults

-- what it is set to
abbrev pub writing_of : Speller → Writing
writing_of s = record { kind = s.kind; dictionary = s.table.limit }

-- what its identifiers name
abbrev pub names_of : Speller → StringTable
names_of s = record { statics = s.statics.now; strings = s.table.strings }

-- what a call leaves as it is; strings may come behind those before
pub record AddsStrings (old new : Speller) : Type 0 where
  pub statics : new.statics ≡ old.statics
  pub kind : new.kind ≡ old.kind
  pub limit : new.table.limit ≡ old.table.limit
  pub more : List (List ℕ)
  pub grown : new.table.strings ≡ old.table.strings ++ more
  pub cost : used_cost old.table.strings ≤ old.table.limit
      → used_cost new.table.strings ≤ new.table.limit

-- what is spelled was appended, and the strings are those behind it
pub record Wrote {X : Type 0} (found : Option (Placed X)) (bytes : X → List ℕ) (old new : Speller)
    : Type 0 where
  pub placed : Placed X
  pub found_is : found ≡ Some placed
  pub table : names_of new ≡ placed.1
  pub nodes : new.nodes.items ≡ old.nodes.items ++ bytes placed.0

abbrev pub Answers : {X : Type 0} → Option (Placed X) → (X → List ℕ) → Result ⊤ SpellFault
    → (old new : Speller) → Type 0
Answers found bytes (Ok _) old new = Wrote found bytes old new
Answers found bytes (Err Unnamed) old new = found ≡ None
Answers found bytes (Err Memory) old new = ⊤

-- what is spelled was chosen, and the table is the one behind it
abbrev pub Chooses : Option (Placed RawScalar) → Result ScalarChoice SpellFault → StringTable
    → Type 0
Chooses found (Ok choice) behind = found ≡ Some (choice_seen choice, behind)
Chooses found (Err Unnamed) behind = found ≡ None
Chooses found (Err Memory) behind = ⊤

-- why an item of this number isn't spelled
abbrev pub fault_told : SpellFault → ℕ → EncodeFault
fault_told Unnamed item = faults.NoIdForQName item
fault_told Memory item = faults.Memory

-- the first record of items was appended, which says so many of them
pub record PutFirst (items : List Item) (count : ℕ) (old new : Speller) : Type 0 where
  pub said : Said
  pub first : in_records items ≡ said ∷ in_records (drop count items)
  pub counted : count ≡ length (items_said said)
  pub within : count ≤ length items
  pub wrote : Wrote (spell_said (writing_of old) (names_of old) said) chosen_bytes old new

-- or it can't be spelled
pub record CantFirst (items : List Item) (old : Speller) : Type 0 where
  pub said : Said
  pub rest : List Said
  pub first : in_records items ≡ said ∷ rest
  pub none : spell_said (writing_of old) (names_of old) said ≡ None

abbrev pub PutsRecord : List Item → ℕ → Result ℕ EncodeFault → (old new : Speller) → Type 0
PutsRecord items at (Ok count) old new = PutFirst items count old new
PutsRecord items at (Err faults.Memory) old new = ⊤
PutsRecord items at (Err fault) old new = (fault ≡ faults.NoIdForQName at) × CantFirst items old

-- all nodes were appended, and the strings are those behind them
pub record HasWritten (placed : Placed (List Node)) (old new : Speller) : Type 0 where
  pub table : names_of new ≡ placed.1
  pub nodes : new.nodes.items ≡ old.nodes.items ++ flat_map chosen_bytes placed.0

abbrev pub HasSpelled : Result (Placed (List Node)) ℕ → Result ⊤ EncodeFault → (old new : Speller)
    → Type 0
HasSpelled spelled (Ok _) old new =
    (placed : Placed (List Node)) × (spelled ≡ Ok placed) × HasWritten placed old new
HasSpelled spelled (Err faults.Memory) old new = ⊤
HasSpelled spelled (Err fault) old new =
    (item : ℕ) × (spelled ≡ Err item) × (fault ≡ faults.NoIdForQName item)

-- a payload of so many bytes is spelled, where another answer tells why not
pub record SpelledPayload {E : Type 0} (answer : Result (Placed (List ℕ)) E) (size : ℕ)
    (bytes : List ℕ) (behind : StringTable) : Type 0 where
  pub payload : Placed (List ℕ)
  pub answer_is : answer ≡ Ok payload
  pub table : behind ≡ payload.1
  pub bytes_are : bytes ≡ payload.0
  pub counted : size ≡ length bytes

abbrev pub SpellsPayload : Result (Placed (List ℕ)) ℕ → Result ℕ EncodeFault → (bytes : List ℕ)
    → (behind : StringTable) → Type 0
SpellsPayload answer (Ok size) bytes behind = SpelledPayload answer size bytes behind
SpellsPayload answer (Err faults.Memory) bytes behind = ⊤
SpellsPayload answer (Err fault) bytes behind =
    (item : ℕ) × (answer ≡ Err item) × (fault ≡ faults.NoIdForQName item)

-- the same, and within the payload quota
abbrev pub SpellsWithin : Result (Placed (List ℕ)) Unfit → Result ℕ EncodeFault → (bytes : List ℕ)
    → (behind : StringTable) → Type 0
SpellsWithin answer (Ok size) bytes behind = SpelledPayload answer size bytes behind
SpellsWithin answer (Err faults.Memory) bytes behind = ⊤
SpellsWithin answer (Err fault) bytes behind =
    (unfit : Unfit) × (answer ≡ Err unfit) × (fault ≡ told unfit)
