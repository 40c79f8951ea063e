-- The integer at the front of some bytes, by the places of the bytes.
use Rattle.std.proofs.Common.{◌≡◌, ℕ, ◌+◌, ◌<◌, ◌≤◌, true, false, ◌⊎◌, List, length, get_or, take}
use Rattle.std.proofs.Common.{nat_le, inl, inr, arith}
use Rattle.std.proofs.lemmas.Bool.Decides.{leb_tells, nat_tests}
use Rattle.std.proofs.lemmas.List.Sums.{prefix_len-le-length, prefix_len_is, prefix_len_passes}
use Rattle.{std.proofs.lemmas.List.Sums.prefix_len_stops, multibyte_ints.specs.Laws.FifthIsAbove}
use Rattle.unit_streams.specs.Front.{begun, whole, wrong}
use Rattle.multibyte_ints.specs.Integer.{continued_len, int_at, int_ending_at, value_of}

-- each byte says that another follows, and there are fewer than five
pub record Begun (b : List ℕ) : Type 0 where
  pub short : length b ≤ 4
  pub continued : (i : ℕ) → i < length b → 128 ≤ get_or b i 0

-- the byte at k is the first that ends an integer, and it is no fifth byte above 7
pub record EndsAt (k : ℕ) (b : List ℕ) : Type 0 where
  pub within : k < length b
  pub at_most_five : k ≤ 4
  pub continued : (i : ℕ) → i < k → 128 ≤ get_or b i 0
  pub ended : get_or b k 0 < 128
  pub fifth : k ≡ 4 → get_or b k 0 ≤ 7

continued_test : (x : ℕ) → nat_le 128 x ≡ true → 128 ≤ x
continued_test x h = grind (arith, nat_tests)

ended_test : (x : ℕ) → nat_le 128 x ≡ false → x < 128
ended_test x h = grind (arith, nat_tests)

continued_before : (b : List ℕ) (i : ℕ) → i < continued_len b → 128 ≤ get_or b i 0
continued_before b i h = continued_test _ (prefix_len_passes (λ x. nat_le 128 x) b i 0 h)

ended_there : (b : List ℕ) → continued_len b < length b → get_or b (continued_len b) 0 < 128
ended_there b h = ended_test _ (prefix_len_stops (λ x. nat_le 128 x) b 0 h)

continued_len_is : (b : List ℕ) (k : ℕ) → k ≤ length b → ((i : ℕ) → i < k → 128 ≤ get_or b i 0)
    → (k < length b → get_or b k 0 < 128) → continued_len b ≡ k
continued_len_is b k le continued ended =
    prefix_len_is (λ x. nat_le 128 x) b k 0 le
    (λ i h. let c = continued i h in grind (arith, nat_tests))
    (λ h. let e = ended h in grind (arith, nat_tests))

pub begun_is : (b : List ℕ) → Begun b → int_at b ≡ begun
unfolding int_at int_ending_at
begun_is b w =
    rw (continued_len_is b (length b) (omega arith) w.continued (λ h. absurd (omega arith)))
    (grind (arith, nat_tests))

pub whole_is : (k : ℕ) (b : List ℕ) → EndsAt k b → int_at b ≡ whole (value_of (take (k + 1) b))
    (k + 1)
unfolding int_at int_ending_at
whole_is k b w =
    rw (continued_len_is b k (omega arith) w.continued (λ _. w.ended))
    (grind (arith, nat_tests))

wrong_cases : (b : List ℕ) → FifthIsAbove b → (continued_len b ≡ 4) ⊎ (4 < continued_len b)
wrong_cases b w =
    elim (leb_tells 5 (continued_len b)) [
      | inl h ↦ inr (omega arith)
      | inr h ↦ inl (grind (arith, ended_there b, w.continued (continued_len b)))
    ]

pub wrong_is : (b : List ℕ) → FifthIsAbove b → int_at b ≡ wrong tt 5
unfolding int_at int_ending_at
wrong_is b w =
    let p = wrong_cases b w in
    grind (arith, nat_tests)

ends_there : (b : List ℕ) → continued_len b < length b → continued_len b ≤ 4
    → (continued_len b ≡ 4 → get_or b (continued_len b) 0 ≤ 7)
    → EndsAt (continued_len b) b
ends_there b less few fifth = record {
  within = less;
  at_most_five = few;
  continued = continued_before b;
  ended = ended_there b less;
  fifth = fifth;
}

ends_or_above : (b : List ℕ) → continued_len b < 5 → continued_len b < length b
    → Begun b ⊎ ((k : ℕ) × EndsAt k b) ⊎ FifthIsAbove b
ends_or_above b few less =
    elim (leb_tells (get_or b 4 0) 7) [
      | inl low ↦ inr (inl (continued_len b, ends_there b less (omega arith) (λ e. rw e low.1)))
      | inr high ↦ elim (leb_tells 4 (continued_len b)) [
        | inl four ↦ inr (inr (record {
          within = omega arith;
          continued = λ i lt. continued_before b i (omega arith);
          above = high.1;
        }))
        | inr below ↦ inr
            (inl (continued_len b, ends_there b less (omega arith) (λ e. absurd (omega arith))))
      ]
    ]

pub cases : (b : List ℕ) → Begun b ⊎ ((k : ℕ) × EndsAt k b) ⊎ FifthIsAbove b
cases b =
    let within = prefix_len-le-length (λ x. nat_le 128 x) b in
    elim (leb_tells 5 (continued_len b)) [
      | inl h ↦ inr (inr (record {
        within = omega arith;
        continued = λ i lt. continued_before b i (omega arith);
        above = omega (arith, continued_before b 4 (omega arith));
      }))
      | inr h ↦ elim (leb_tells (length b) (continued_len b)) [
        | inl all ↦ inl (record {
          short = omega arith;
          continued = λ i lt. continued_before b i (omega arith);
        })
        | inr less ↦ ends_or_above b (omega arith) (omega arith)
      ]
    ]
