-- What stands at the front of some bytes, where things of one kind are read from them.
use Rattle.std.specs.Prelude.{◌≡◌, ℕ, ◌<◌, ◌≤◌, List, ◌++◌, length, take, Option, Some, None}

-- of things in A, with what can be wrong with one in R
pub data Front (A R : Type 0) : Type 0 where
  -- less than a whole one: it can go on
  begun : Front A R
  -- a whole one, of so many bytes
  whole : A → ℕ → Front A R
  -- no such thing, however it goes on, which the first so many bytes show and fewer do not
  wrong : R → ℕ → Front A R

-- what f makes of a whole thing and its length, or the other
abbrev pub on_whole : {A R B : Type 0} → Front A R → (A → ℕ → B) → B → B
on_whole begun f other = other
on_whole (whole a n) f other = f a n
on_whole (wrong r n) f other = other

-- what is wrong with it
abbrev pub wrong_of : {A R : Type 0} → Front A R → Option R
wrong_of begun = None
wrong_of (whole a n) = None
wrong_of (wrong r n) = Some r

-- it isn't whole
abbrev pub IsOpen : {A R : Type 0} → Front A R → Type 0
IsOpen begun = Unit {0}
IsOpen (whole a n) = ⊥
IsOpen (wrong r n) = Unit {0}

-- what is said of a front rests on its own bytes: it is said of them alone and however they go on,
-- and of fewer of them it is only said that something has begun
pub record ReadsFront {A R : Type 0} (front : List ℕ → Front A R) : Type 0 where
  pub whole_within : (b : List ℕ) (a : A) (k : ℕ) → front b ≡ whole a k → k ≤ length b
  pub wrong_within : (b : List ℕ) (r : R) (k : ℕ) → front b ≡ wrong r k → k ≤ length b
  pub whole_alone : (b : List ℕ) (a : A) (k : ℕ) → front b ≡ whole a k
      → front (take k b) ≡ whole a k
  pub wrong_alone : (b : List ℕ) (r : R) (k : ℕ) → front b ≡ wrong r k
      → front (take k b) ≡ wrong r k
  pub whole_stays : (b more : List ℕ) (a : A) (k : ℕ) → front b ≡ whole a k
      → front (b ++ more) ≡ whole a k
  pub wrong_stays : (b more : List ℕ) (r : R) (k : ℕ) → front b ≡ wrong r k
      → front (b ++ more) ≡ wrong r k
  pub whole_first : (b : List ℕ) (a : A) (k j : ℕ) → front b ≡ whole a k → j < k
      → front (take j b) ≡ begun
  pub wrong_first : (b : List ℕ) (r : R) (k j : ℕ) → front b ≡ wrong r k → j < k
      → front (take j b) ≡ begun
