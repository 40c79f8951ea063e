-- What a file on a shelf gives, where the shelf tells its files. Reading is what the bytes of such
-- a
-- file give.
use Rattle.std.specs.Prelude.{◌≡◌, ℕ, List, IfSome, Some, None, Option, ⊤}
use Rattle.io_edges.specs.{declared.fault.FileFault.FileFault, Store.Store}
use Rattle.io_edges.specs.declared.fault.FileFault.TheVariants.{Bad, Failed, Memory, Missing}
use Rattle.std.specs.FinMap as finite

-- what a file of content in X says, whose rows are bad in the ways in K, or that there is none
pub data ShelfFile (X K : Type 0) : Type 0 where
  whole : X → ShelfFile X K
  -- the first row that fails, and what is wrong with it
  bad : ℕ → K → ShelfFile X K
  missing : ShelfFile X K

-- the bytes of such a file, as what they say
abbrev pub Reading : Type 0 → Type 0 → Type 0
Reading X K = List ℕ → ShelfFile X K

abbrev pub file_by : {X K : Type 0} → Reading X K → Option (List ℕ) → ShelfFile X K
file_by reading None = missing
file_by reading (Some bytes) = reading bytes

-- the file with this name on a shelf
abbrev pub file_in : {X K : Type 0} → Reading X K → Store → List ℕ → ShelfFile X K
file_in reading store name = file_by reading (finite.get store name)

-- this is what the shelf has under the name, where it tells
abbrev pub Has : {X K : Type 0} → Reading X K → Option Store → List ℕ → ShelfFile X K → Type 0
Has reading files name file = IfSome files (λ store. file_in reading store name ≡ file)

-- what a fault says of the file with this name
abbrev pub Tells : {X K : Type 0} → Reading X K → Option Store → List ℕ → FileFault K → Type 0
Tells reading files name Missing = Has reading files name missing
Tells reading files name (Bad row kind) = Has reading files name (bad row kind)
Tells reading files name Failed = ⊤
Tells reading files name Memory = ⊤

-- what a fault says of a file whose bytes aren't there
abbrev pub IsUnfetched : {K : Type 0} → Option Store → List ℕ → FileFault K → Type 0
IsUnfetched files name Missing = IfSome files (λ store. finite.get store name ≡ None)
IsUnfetched files name (Bad row kind) = ⊥
IsUnfetched files name Failed = ⊤
IsUnfetched files name Memory = ⊤
