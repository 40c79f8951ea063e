-- Parts of what is written, some of which count.
use Rattle.std.specs.Prelude.{ℕ, Bool, leb, List, [], ◌∷◌, if◌then◌else◌}
use Rattle.{io_edges.specs.Faults.one_more, unit_streams.specs.Tellers.Teller}

-- bytes that belong together, and whether they count once they were put whole
pub record Part : Type 0 where
  pub bytes : List ℕ
  pub counts : Bool

abbrev pub part : List ℕ → Bool → Part
part bytes counts = record { bytes = bytes; counts = counts }

-- how many parts count, with one part more
abbrev pub with_part : ℕ → Part → ℕ
with_part count part = if part.counts then one_more count else count

-- parts, one after the other, by how many of those before count
abbrev pub counting : Teller ℕ Part (Unit {0})
counting = record {
  start = 0;
  told = λ count part. part.bytes;
  next = with_part;
  ends = λ count refusal. [];
}

-- how many parts count with those that end within the first n of some bytes
unfoldable pub ends_within : (n : ℕ) → (ends : List ℕ) → (count : ℕ) → ℕ
ends_within n [] count = count
ends_within n (end ∷ ends) count =
    ends_within n ends (if leb end n then one_more count else count)
