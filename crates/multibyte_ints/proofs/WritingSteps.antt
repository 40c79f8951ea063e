-- The groups of seven bits, one after the other.
use Rattle.std.proofs.Common.{◌≡◌, ℕ, zero, suc, ◌+◌, ◌-◌, ◌/◌, ◌%◌, ◌^◌, ◌<◌, ◌≤◌, List, [], ◌∷◌}
use Rattle.std.proofs.Common.{◌++◌, length, take, drop, set, sym, refl, ap, ◌∙◌, inl, inr}
use Rattle.std.proofs.Common.{append_assoc, add-one, arith, length-append, length-drop}
use Rattle.std.proofs.Common.{length-take-le, drop-drop, take_at, drop-set-lt}
use Rattle.std.proofs.Math.Nat.{pow-succ'}
use Rattle.std.proofs.lemmas.{Bool.Decides.leb_tells, List.set_split, List.take_more_set}
use Rattle.multibyte_ints.specs.{Integer.shortest, Integer.shortest_within, Text.string_bytes_of}

last_group : (k n : ℕ) → n < 128 → shortest_within k n ≡ n ∷ []
unfolding shortest_within
last_group zero n lt = refl
last_group (suc k) n lt =
    elim (leb_tells (suc n) 128) [
      | inl h ↦ rw h.0 refl
      | inr h ↦ absurd (omega arith)
    ]

next_group : (k n : ℕ) → 128 ≤ n → shortest_within (suc k) n ≡ (n % 128 + 128) ∷ shortest_within k
    (n / 128)
unfolding shortest_within
next_group k n le =
    elim (leb_tells (suc n) 128) [
      | inl h ↦ absurd (omega arith)
      | inr h ↦ rw h.0 refl
    ]

pub at_start : (n : ℕ) → shortest n ≡ shortest_within 4 n
unfolding shortest
at_start n = refl

-- a group that isn't the last has a place below 4
pub goes_on : (count rest : ℕ) → count ≤ 4 → rest < 128 ^ (5 - count) → 128 ≤ rest → count < 4
goes_on count rest few room le =
    elim (leb_tells 4 count) [
      | inl h ↦ absurd (let last : 5 - count ≡ 1 = omega arith in let below : rest
          < 128 ^ 1 = rw last at room in omega arith)
      | inr h ↦ h.1
    ]

pub room_left : (count rest : ℕ) → count < 4 → rest < 128 ^ (5 - count) → rest / 128
    < 128 ^ (5 - (count + 1))
room_left count rest few room =
    let less : 5 - count ≡ suc (5 - (count + 1)) = omega arith in
    let below : rest < 128 ^ suc (5 - (count + 1)) = rw less at room in
    let power = pow-succ' 128 (5 - (count + 1)) in
    omega arith

pub group_written : (all out : List ℕ) (count rest : ℕ) → count < 4 → count < length out → 128
    ≤ rest
    → all ≡ take count out ++ shortest_within (4 - count) rest
    → all ≡ take (count + 1) (set out count (rest % 128 + 128)) ++ shortest_within (4 - (count + 1))
    (rest / 128)
group_written all out count rest few within le e =
    let less : 4 - count ≡ suc (4 - (count + 1)) = omega arith in
    rw (take_more_set out count (rest % 128 + 128) within, append_assoc)
    (e ∙ ap (λ g. take count out ++ g) (ap (λ k. shortest_within k rest) less ∙ next_group
    (4 - (count + 1)) rest le))

one_further : (out before : List ℕ) (count : ℕ) → drop count out ≡ drop count before
    → drop (count + 1) out ≡ drop (count + 1) before
one_further out before count e = sym (drop-drop 1 count out) ∙ ap (drop 1) e ∙ drop-drop 1 count
    before

pub rest_kept : (out before : List ℕ) (count y : ℕ) → drop count out ≡ drop count before
    → drop (count + 1) (set out count y) ≡ drop (count + 1) before
rest_kept out before count y e =
    rw (drop-set-lt (count + 1) out count y (omega arith)) (one_further out before count e)

-- the rest is as long as it was
pub still_within : (out before : List ℕ) (count : ℕ) → drop count out ≡ drop count before → count
    < length before → count < length out
still_within out before count e within = omega
    (arith, ap length e, length-drop count out, length-drop count before)

pub last_written : (all out before : List ℕ) (count rest : ℕ) → count < length out → rest < 128
    → all ≡ take count out ++ shortest_within (4 - count) rest → drop count out ≡ drop count before
    → (count + 1 ≡ length all) × (set out count rest ≡ all ++ drop (count + 1) before)
last_written all out before count rest within lt e kept =
    let is : all ≡ take count out ++ rest ∷ [] = e ∙ ap (λ g. take count out ++ g)
    (last_group (4 - count) rest lt) in
    let len : length all ≡ count + 1 =
    ap length is ∙ length-append (take count out) (rest ∷ [])
    ∙ ap (λ n. n + 1) (length-take-le count out (omega arith)) in
    let split : set out count rest ≡ take count out ++ rest ∷ drop (count + 1) out =
    rw add-one (set_split out count rest within) in (
      sym len,
      split ∙ rw (is, append_assoc)
          (ap (λ r. take count out ++ rest ∷ r) (one_further out before count kept)),
    )

-- a string's two parts were appended
pub both_appended : (out spelling rest text first second : List ℕ) (used : ℕ) → used
    ≡ length (shortest (length text))
    → spelling ≡ shortest (length text) ++ rest → first ≡ out ++ take used spelling → second ≡ first
    ++ text
    → second ≡ out ++ string_bytes_of text
unfolding string_bytes_of
both_appended out spelling rest text first second used len spelled e f =
    let front : take used spelling ≡ shortest (length text) =
    ap (take used) spelled ∙ take_at (shortest (length text)) rest used (sym len) in
    rw (f, e, front, append_assoc) refl
