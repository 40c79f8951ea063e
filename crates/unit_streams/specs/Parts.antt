-- Things that are made of parts, one behind the other: what stands at the front of some bytes, by
-- what stands there of each part.
use Rattle.std.specs.Prelude.{◌≡◌, ℕ, zero, suc, ◌+◌, ◌≤◌, ◌↔◌, List, [], ◌∷◌, ◌++◌, length, take}
use Rattle.std.specs.Prelude.{drop, nat_lt, nat_le, if◌then◌else◌, Result, Ok, Err}
use Rattle.unit_streams.specs.Front.{Front, begun, whole, wrong}

-- what stands at the front of any bytes
abbrev pub Reader : Type 0 → Type 0 → Type 0
Reader A R = List ℕ → Front A R

-- a thing of no bytes
abbrev pub given : {A R : Type 0} → A → Reader A R
given a bytes = whole a 0

-- nothing that may come, whatever the bytes
abbrev pub refuse : {A R : Type 0} → R → Reader A R
refuse r bytes = wrong r 0

-- a byte
abbrev pub a_byte : {R : Type 0} → Reader ℕ R
a_byte [] = begun
a_byte (byte ∷ rest) = whole byte 1

-- so many bytes
abbrev pub some_bytes : {R : Type 0} → ℕ → Reader (List ℕ) R
some_bytes n bytes = if nat_lt (length bytes) n then begun else whole (take n bytes) n

-- what is read behind so many bytes
abbrev pub further : {A R : Type 0} → ℕ → Front A R → Front A R
further n begun = begun
further n (whole a k) = whole a (n + k)
further n (wrong r k) = wrong r (n + k)

-- what comes behind a first part
abbrev pub behind_first : {A B R : Type 0} → Front A R → (A → Reader B R) → Reader B R
behind_first begun next bytes = begun
behind_first (whole a n) next bytes = further n (next a (drop n bytes))
behind_first (wrong r n) next bytes = wrong r n

-- a first part, and then what it makes come next
infixl 10 ◌>>=◌
unfoldable pub ◌>>=◌ : {A B R : Type 0} → Reader A R → (A → Reader B R) → Reader B R
(first >>= next) bytes = behind_first (first bytes) next bytes

-- a thing as f sees it, and what is wrong with it as h does
abbrev pub seen : {A B R S : Type 0} → (A → B) → (R → S) → Front A R → Front B S
seen f h begun = begun
seen f h (whole a n) = whole (f a) n
seen f h (wrong r n) = wrong (h r) n

-- a whole thing, judged by what it says
abbrev pub judged_whole : {A R : Type 0} → Result A R → ℕ → Front A R
judged_whole (Ok a) n = whole a n
judged_whole (Err r) n = wrong r n

abbrev pub judged : {A B R : Type 0} → (A → Result B R) → Front A R → Front B R
judged judge begun = begun
judged judge (whole a n) = judged_whole (judge a) n
judged judge (wrong r n) = wrong r n

-- the same, where how many bytes it has is judged too
abbrev pub judged_at : {A B R : Type 0} → (A → ℕ → Result B R) → Front A R → Front B R
judged_at judge begun = begun
judged_at judge (whole a n) = judged_whole (judge a n) n
judged_at judge (wrong r n) = wrong r n

-- what has begun where no more than so many bytes may have it: with all of these it is wrong
abbrev pub closed_at : {A R : Type 0} → ℕ → R → ℕ → Front A R → Front A R
closed_at limit r len begun = if nat_le limit len then wrong r limit else begun
closed_at limit r len (whole a n) = whole a n
closed_at limit r len (wrong s n) = wrong s n

-- a thing within so many bytes
abbrev pub within : {A R : Type 0} → ℕ → R → Reader A R → Reader A R
within limit r reader bytes = closed_at limit r (length bytes) (reader (take limit bytes))

-- what is read at the front is what bytes there are
abbrev pub ReadsJust : {A R : Type 0} → Reader A R → (A → List ℕ → Type 0) → Type 0
ReadsJust {A} reader Is = (bytes : List ℕ) (a : A) (n : ℕ)
    → (reader bytes ≡ whole a n) ↔ ((n ≤ length bytes) × Is a (take n bytes))

-- the bytes are two parts, one behind the other
pub record Joined {A B : Type 0} (First : A → List ℕ → Type 0) (Next : A → B → List ℕ → Type 0)
    (b : B) (bytes : List ℕ) : Type 0 where
  pub part : A
  pub front : List ℕ
  pub rest : List ℕ
  pub joined : bytes ≡ front ++ rest
  pub first : First part front
  pub next : Next part b rest

-- one more thing, or an end
pub data Turn (A B : Type 0) : Type 0 where
  more : A → Turn A B
  stop : B → Turn A B

-- things, and then an end
pub record Many (A B : Type 0) : Type 0 where
  pub items : List A
  pub last : B

-- with one more in front
abbrev pub with_first : {A B : Type 0} → A → Many A B → Many A B
with_first a rest = record { items = a ∷ rest.items; last = rest.last }

-- what comes behind a turn
abbrev pub turned : {A B R : Type 0} → Reader (Many A B) R → Turn A B → Reader (Many A B) R
turned rest (more a) bytes = seen (with_first a) (λ r. r) (rest bytes)
turned rest (stop b) bytes = whole (record { items = []; last = b }) 0

-- fewer than so many things, and then an end
unfoldable pub repeated : {A B R : Type 0} → ℕ → Reader (Turn A B) R → Reader (Many A B) R
repeated zero turn bytes = begun
repeated (suc n) turn bytes = (turn >>= turned (repeated n turn)) bytes

-- any number of things, and then an end; each has at least one byte
unfoldable pub many : {A B R : Type 0} → Reader (Turn A B) R → Reader (Many A B) R
many turn bytes = repeated (suc (length bytes)) turn bytes

-- the bytes are such things, and then the end
unfoldable pub AreMany : {A B : Type 0} → (Turn A B → List ℕ → Type 0) → List A → B → List ℕ
    → Type 0
AreMany Is [] last bytes = Is (stop last) bytes
AreMany Is (a ∷ items) last bytes =
    (front : List ℕ) × (rest : List ℕ) × (bytes ≡ front ++ rest)
    × Is (more a) front × AreMany Is items last rest
