-- The ways in which a prefix of a stream is refused.
use Rattle.std.specs.Prelude.{◌≡◌, ℕ, ◌⊎◌, ◌↔◌, List, [], ◌++◌, length, Some}
use Rattle.unit_streams.specs.{Front.whole, Front.wrong, Going.IsGoing, Judging.refusal_at}
use Rattle.unit_streams.specs.Grammar.{Grammar, standing}

module _ {Z U E R : Type 0} (g : Grammar Z U E R) where
  -- the bytes are whole units, one behind the other
  abbrev pub AreUnits : List ℕ → Type 0
  AreUnits p = (standing g p).begun ≡ []

  -- the prefix is whole units, the last of which is refused by what it says
  pub record IsRefusedByUnit (p : List ℕ) (r : R) : Type 0 where
    pub before : List ℕ
    pub bytes : List ℕ
    pub unit : U
    pub joined : p ≡ before ++ bytes
    pub units : AreUnits before
    pub reads : g.unit_at (standing g before).situation (standing g before).from bytes
        ≡ whole unit (length bytes)
    pub refused : g.refused (standing g before).situation (standing g before).from unit ≡ Some r

  -- the prefix is whole units, and bytes that are no unit which may come
  pub record IsRefusedByBytes (p : List ℕ) (r : R) : Type 0 where
    pub before : List ℕ
    pub bytes : List ℕ
    pub size : ℕ
    pub joined : p ≡ before ++ bytes
    pub units : AreUnits before
    pub reads : g.unit_at (standing g before).situation (standing g before).from bytes
        ≡ wrong r size

  -- the prefix is refused by its length, and by nothing else
  pub record IsRefusedByLength (p : List ℕ) (r : R) : Type 0 where
    pub going : IsGoing g (standing g p)
    pub refused : g.at_length (standing g p).situation (standing g p).from (length p) ≡ Some r

  -- these are the ways, and there is no other
  abbrev pub RefusalsAreThree : Type 0
  RefusalsAreThree = (p : List ℕ) (r : R)
      → (refusal_at g p ≡ Some r)
      ↔ (IsRefusedByUnit p r ⊎ IsRefusedByBytes p r ⊎ IsRefusedByLength p r)
