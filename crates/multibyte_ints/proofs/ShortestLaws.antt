-- The shortest spelling is one, and no other has a last byte that isn't 0.
use Rattle.std.proofs.Common.{◌≡◌, ℕ, zero, suc, ◌+◌, ◌-◌, ◌/◌, ◌%◌, ◌^◌, ◌<◌, ◌≤◌, List, [], ◌∷◌}
use Rattle.std.proofs.Common.{length, get_or, refl, ap, inl, inr, arith}
use Rattle.std.proofs.{Math.Nat.pow-succ', lemmas.Bool.Decides.leb_tells}
use Rattle.multibyte_ints.specs.Integer.{IsBytes, shortest, shortest_within, Spells, value_of}

-- a spelling of n by at most k + 1 bytes, whose last byte isn't 0 where there are more than one
record IsShortest (k n : ℕ) (b : List ℕ) : Type 0 where
  some : 0 < length b
  at_most : length b ≤ k + 1
  continued : (i : ℕ) → i + 1 < length b → 128 ≤ get_or b i 0
  ended : get_or b (length b - 1) 0 < 128
  value : n ≡ value_of b
  bytes : IsBytes b
  last : 1 < length b → 0 < get_or b (length b - 1) 0

last_of_cons : (x y : ℕ) (ys : List ℕ) → get_or (x ∷ y ∷ ys) (length (x ∷ y ∷ ys) - 1) 0
    ≡ get_or (y ∷ ys) (length (y ∷ ys) - 1) 0
last_of_cons x y ys =
    let outer : length (x ∷ y ∷ ys) - 1 ≡ suc (length ys) = omega arith in
    let inner : length (y ∷ ys) - 1 ≡ length ys = omega arith in
    rw (outer, inner) refl

bytes_of_one : (n : ℕ) → n < 128 → IsBytes (n ∷ [])
bytes_of_one n lt zero = omega arith
bytes_of_one n lt (suc i) = omega arith

one : (k n : ℕ) → n < 128 → IsShortest k n (n ∷ [])
unfolding value_of
one k n lt = record {
  some = omega arith;
  at_most = omega arith;
  continued = λ i h. absurd (omega arith);
  ended = omega arith;
  value = omega arith;
  bytes = bytes_of_one n lt;
  last = λ h. absurd (omega arith);
}

bytes_of_more : (x : ℕ) (rest : List ℕ) → x < 256 → IsBytes rest → IsBytes (x ∷ rest)
bytes_of_more x rest lt h zero = lt
bytes_of_more x rest lt h (suc i) = h i

continued_more : (x : ℕ) (rest : List ℕ) → 128 ≤ x
    → ((i : ℕ) → i + 1 < length rest → 128 ≤ get_or rest i 0)
    → (i : ℕ) → i + 1 < length (x ∷ rest) → 128 ≤ get_or (x ∷ rest) i 0
continued_more x rest le h zero lt = le
continued_more x rest le h (suc i) lt = h i (omega arith)

last_positive : (k n : ℕ) (b : List ℕ) → IsShortest k n b → 0 < n → 0 < get_or b (length b - 1) 0
unfolding value_of
last_positive k n [] s h = absurd (let some = s.some in omega arith)
last_positive k n (x ∷ []) s h = let value = s.value in omega arith
last_positive k n (x ∷ y ∷ ys) s h = s.last (omega arith)

more : (k n : ℕ) (rest : List ℕ) → 128 ≤ n → IsShortest k (n / 128) rest → IsShortest (suc k) n
    ((n % 128 + 128) ∷ rest)
unfolding value_of
more k n [] le s = absurd (let some = s.some in omega arith)
more k n (y ∷ ys) le s =
    let same = last_of_cons (n % 128 + 128) y ys in
    record {
      some = omega arith;
      at_most = let most = s.at_most in omega arith;
      continued = continued_more (n % 128 + 128) (y ∷ ys) (omega arith) s.continued;
      ended = rw same s.ended;
      value = let value = s.value in omega arith;
      bytes = bytes_of_more (n % 128 + 128) (y ∷ ys) (omega arith) s.bytes;
      last = λ h. rw same (last_positive k (n / 128) (y ∷ ys) s (omega arith));
    }

shortest_is : (k n : ℕ) → n < 128 ^ suc k → IsShortest k n (shortest_within k n)
unfolding shortest_within
shortest_is zero n lt = one zero n lt
shortest_is (suc k) n lt =
    let size = pow-succ' 128 (suc k) in
    elim (leb_tells (suc n) 128) [
      | inl h ↦ rw h.0 (one (suc k) n (omega arith))
      | inr h ↦ rw h.0 (more k n _ (omega arith) (shortest_is k (n / 128) (omega arith)))
    ]

pub shortest_spells : (n : ℕ) → n < 2 ^ 31 → Spells n (shortest n) × IsBytes (shortest n)
unfolding shortest
shortest_spells n lt =
    let s = shortest_is 4 n (omega arith) in (
      record {
        some = s.some;
        at_most_five = s.at_most;
        continued = s.continued;
        ended = s.ended;
        value = s.value;
        in_31_bits = lt;
      },
      s.bytes,
    )

value_positive : (b : List ℕ) → 0 < get_or b (length b - 1) 0 → get_or b (length b - 1) 0 < 128 → 0
    < value_of b
unfolding value_of
value_positive [] low high = low
value_positive (x ∷ []) low high = omega arith
value_positive (x ∷ y ∷ ys) low high =
    let same = last_of_cons x y ys in
    let rest = value_positive (y ∷ ys) (rw same at low) (rw same at high) in omega arith

-- behind a byte that says that another follows
behind : (k n x y : ℕ) (ys : List ℕ) → IsShortest (suc k) n (x ∷ y ∷ ys) → IsShortest k (n / 128)
    (y ∷ ys)
unfolding value_of
behind k n x y ys s =
    let same = last_of_cons x y ys in
    let value = s.value in
    record {
      some = omega arith;
      at_most = let most = s.at_most in omega arith;
      continued = λ i lt. s.continued (suc i) (omega arith);
      ended = rw same at s.ended;
      value = omega arith;
      bytes = λ i. s.bytes (suc i);
      last = λ h. rw same at (s.last (omega arith));
    }

one_only : (k n x : ℕ) → IsShortest k n (x ∷ []) → x ∷ [] ≡ shortest_within k n
unfolding shortest_within value_of
one_only zero n x s = let value = s.value in let ended = s.ended in ap (λ m. m ∷ []) (omega arith)
one_only (suc k) n x s =
    let value = s.value in
    let ended = s.ended in
    elim (leb_tells (suc n) 128) [
      | inl h ↦ rw h.0 (ap (λ m. m ∷ []) (omega arith))
      | inr h ↦ absurd (omega arith)
    ]

only : (k n : ℕ) (b : List ℕ) → IsShortest k n b → b ≡ shortest_within k n
unfolding shortest_within value_of
only k n [] s = absurd (let some = s.some in omega arith)
only k n (x ∷ []) s = one_only k n x s
only zero n (x ∷ y ∷ ys) s = absurd (let most = s.at_most in omega arith)
only (suc k) n (x ∷ y ∷ ys) s =
    let value = s.value in
    let first : 128 ≤ x = s.continued 0 (omega arith) in
    let byte : x < 256 = s.bytes 0 in
    let same = last_of_cons x y ys in
    let positive : 0 < value_of (y ∷ ys) = value_positive (y ∷ ys)
    (rw same at (s.last (omega arith))) (rw same at s.ended) in
    elim (leb_tells (suc n) 128) [
      | inl h ↦ absurd (omega arith)
      | inr h ↦ rw h.0 (let head : x ≡ n % 128 + 128 = omega arith in
          let tail = only k (n / 128) (y ∷ ys) (behind k n x y ys s) in cc)
    ]

pub shortest_only : (n : ℕ) (b : List ℕ) → IsBytes b → Spells n b
    → (1 < length b → 0 < get_or b (length b - 1) 0) → b ≡ shortest n
unfolding shortest
shortest_only n b bytes s last = only 4 n b (record {
  some = s.some;
  at_most = s.at_most_five;
  continued = s.continued;
  ended = s.ended;
  value = s.value;
  bytes = bytes;
  last = last;
})
