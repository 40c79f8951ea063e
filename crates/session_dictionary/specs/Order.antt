-- The order of texts: their positions, in runs.
use Rattle.std.specs.Prelude.{◌≡◌, ℕ, zero, suc, ◌+◌, ◌<◌, ◌≤◌, Bool, false, ◌≢◌, ◌↔◌, List, []}
use Rattle.std.specs.Prelude.{◌∷◌, length, take, IfSome, if◌then◌else◌, nat_lt, slice_index_or, All}
use Rattle.std.specs.Prelude.{Contains, count_by, filter, Option, ⊤}
use Rattle.std.specs.{Cmp.Lexicographic.slice_cmp, declared.cmp.Ordering.Ordering}
use Rattle.std.specs.Ordering.{is_lt, nat_cmp, ordering_then}
use Rattle.session_dictionary.specs.declared.order.TextOrder.{TextOrder}

-- the text at a position
abbrev pub text_of : List (List ℕ) → ℕ → List ℕ
text_of strings position = slice_index_or strings position []

-- positions compare by their texts, and those of one text by themselves
abbrev pub by_text : List (List ℕ) → ℕ → ℕ → Ordering
by_text strings first second =
    ordering_then (slice_cmp nat_cmp (text_of strings first) (text_of strings second))
    (nat_cmp first second)

-- how many numbers below a bound pass a test
abbrev pub count_below : (ℕ → Bool) → ℕ → ℕ
count_below test zero = 0
count_below test (suc n) = count_below test n + (if test n then 1 else 0)

-- the positions below a bound, each of them once, in any order
pub record ArePositions (bound : ℕ) (positions : List ℕ) : Type 0 where
  pub each : (test : ℕ → Bool) → count_by test positions ≡ count_below test bound

-- what holds of each element and each after it
abbrev pub EachPair : {A : Type 0} → (A → A → Type 0) → List A → Type 0
EachPair R [] = ⊤
EachPair R (x ∷ xs) = All (R x) xs × EachPair R xs

-- no cut lies between two positions
abbrev pub IsOneRun : List ℕ → ℕ → ℕ → Type 0
IsOneRun cuts first second = All (λ cut. (cut ≤ first) ↔ (cut ≤ second)) cuts

-- the first does not come after the second
abbrev pub InOrder : List (List ℕ) → ℕ → ℕ → Type 0
InOrder strings first second = is_lt (by_text strings second first) ≡ false

-- those of one run stand in order
abbrev pub InRuns : List (List ℕ) → List ℕ → ℕ → ℕ → Type 0
InRuns strings cuts first second = IsOneRun cuts first second → InOrder strings first second

-- all positions, in runs that are cut off from one another: those below a cut stand before it, and
-- those of a run stand in order
pub record IsOrder (strings : List (List ℕ)) (positions : List ℕ) (cuts : List ℕ) : Type 0 where
  pub all : ArePositions (length strings) positions
  pub apart : All (λ cut. ArePositions cut (take cut positions)) cuts
  pub rises : EachPair ◌≤◌ cuts
  pub sorted : EachPair (InRuns strings cuts) positions

-- the positions that are left, in runs that begin below a bound, have all those below it
pub record IsCutTo (bound : ℕ) (cuts positions left : List ℕ) : Type 0 where
  pub all : ArePositions (length left) left
  pub apart : All (λ cut. ArePositions cut (take cut left)) cuts
  pub same : filter (λ x. nat_lt x bound) left ≡ filter (λ x. nat_lt x bound) positions

-- the order that a table keeps of its texts, where it keeps one
abbrev pub IsOrderOf : List (List ℕ) → TextOrder → Type 0
IsOrderOf strings order = IsOrder strings order.positions.items order.cuts.items

abbrev pub KeepsOrder : List (List ℕ) → Option TextOrder → Type 0
KeepsOrder strings order = IfSome order (IsOrderOf strings)

-- a position in a run that has a text, and no lesser one in it does
pub record IsFirstIn (strings : List (List ℕ)) (run : List ℕ) (text : List ℕ)
    (position : ℕ) : Type 0 where
  pub there : Contains run position
  pub has : text_of strings position ≡ text
  pub first : All (λ other. other < position → text_of strings other ≢ text) run

-- the first position that has a text
pub record IsFirst (strings : List (List ℕ)) (text : List ℕ) (position : ℕ) : Type 0 where
  pub there : position < length strings
  pub has : text_of strings position ≡ text
  pub first : (other : ℕ) → other < position → text_of strings other ≢ text
