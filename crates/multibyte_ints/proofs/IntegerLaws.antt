-- The integer at the front is the one that is spelled there.
use Rattle.std.proofs.Common.{◌≡◌, ℕ, ◌+◌, ◌-◌, ◌^◌, ◌<◌, ◌≤◌, List, [], ◌∷◌, ◌++◌, length, get_or}
use Rattle.std.proofs.Common.{take, drop, sym, ap, ◌∙◌, subst, inl, inr, arith, length-append}
use Rattle.std.proofs.Common.{take-append-drop, length-take-le, take_all}
use Rattle.std.proofs.{Math.Seq.take-append_seam, lemmas.Bool.Decides.leb_tells}
use Rattle.unit_streams.{proofs.Taken.none_goes_on, specs.Front.begun, specs.Front.whole}
use Rattle.multibyte_ints.specs.Integer.{int_at, Spells, value_of}
use Rattle.multibyte_ints.proofs.IntegerBytes.{begun_from, ended_from, ends, int_reads_front}
use Rattle.multibyte_ints.proofs.IntegerFacts.{EndsAt, whole_is}
use Rattle.multibyte_ints.proofs.Values.{value_of_fifth, value_of_five, value_of_four}

small_enough : (b : List ℕ) (j : ℕ) → EndsAt j b → length b ≡ j + 1 → value_of b < 2 ^ 31
small_enough b j w len =
    elim (leb_tells 4 j) [
      | inl four ↦ value_of_five b (let most = w.at_most_five in omega arith)
          (let is : j ≡ 4 = (let most = w.at_most_five in omega arith) in subst
          (λ m. get_or b m 0 ≤ 7) is (w.fifth is))
      | inr below ↦ value_of_four b (omega arith)
    ]

spells_at : (n j : ℕ) (b : List ℕ) → EndsAt j b → length b ≡ j + 1 → n ≡ value_of b → Spells n b
spells_at n j b w len e = record {
  some = omega arith;
  at_most_five = let most = w.at_most_five in omega arith;
  continued = λ i lt. w.continued i (omega arith);
  ended = let at : length b - 1 ≡ j = omega arith in rw at w.ended;
  value = e;
  in_31_bits = rw e (small_enough b j w len);
}

-- the place before the last byte
ends_at : (n : ℕ) (b : List ℕ) → Spells n b → EndsAt (length b - 1) b
ends_at n b s =
    let some = s.some in
    let most = s.at_most_five in
    record {
      within = omega arith;
      at_most_five = omega arith;
      continued = λ i lt. s.continued i (omega arith);
      ended = s.ended;
      fifth = λ four. rw four (value_of_fifth b (omega arith) (rw four at s.ended)
          (subst (λ m. m < 2 ^ 31) s.value s.in_31_bits));
    }

-- the bytes of a whole integer spell it
pub spells_from_all : (q : List ℕ) (n : ℕ) → int_at q ≡ whole n (length q) → Spells n q
spells_from_all q n e =
    let w = ended_from q n (length q) e in
    spells_at n w.place q w.ends w.size
    (w.value ∙ ap value_of (take_all (length q) q (omega arith)))

-- and what spells an integer is one
pub whole_from_all : (q : List ℕ) (n : ℕ) → Spells n q → int_at q ≡ whole n (length q)
whole_from_all q n s =
    let some = s.some in
    let size : (length q - 1) + 1 ≡ length q = omega arith in
    whole_is (length q - 1) q (ends_at n q s)
    ∙ ap (λ k. whole (value_of (take k q)) k) size
    ∙ ap (λ c. whole (value_of c) (length q)) (take_all (length q) q (omega arith)) ∙
    ap (λ v. whole v (length q)) (sym s.value)

-- whatever follows it
pub whole_then : (q rest : List ℕ) (n : ℕ) → Spells n q → int_at (q ++ rest) ≡ whole n (length q)
whole_then q rest n s = int_reads_front.whole_stays q rest n (length q) (whole_from_all q n s)

pub spells_from_whole : (b : List ℕ) (n k : ℕ) → int_at b ≡ whole n k → (k ≤ length b)
    × Spells n (take k b)
spells_from_whole b n k e =
    let within = int_reads_front.whole_within b n k e in (
      within,
      spells_from_all (take k b) n (int_reads_front.whole_alone b n k e ∙ ap (whole n)
          (sym (length-take-le k b within))),
    )

pub whole_from_spells : (b : List ℕ) (n k : ℕ) → k ≤ length b → Spells n (take k b) → int_at b
    ≡ whole n k
whole_from_spells b n k le s =
    ap int_at (sym (take-append-drop k b)) ∙ whole_then (take k b) (drop k b) n s ∙ ap (whole n)
    (length-take-le k b le)

pub no_longer_spelling : (m n : ℕ) (b more : List ℕ) → Spells m b → Spells n (b ++ more) → more ≡ []
no_longer_spelling m n b more s t =
    (none_goes_on int_at int_reads_front b more m n (whole_from_all b m s)
    (whole_from_all (b ++ more) n t)).0

-- an integer that has begun goes on with a 0
pub goes_on_from_begun : (b : List ℕ) → int_at b ≡ begun → (n : ℕ) × (more : List ℕ)
    × (0 < length more) × Spells n (b ++ more)
goes_on_from_begun b e = (
  _,
  0 ∷ [],
  omega arith,
  spells_from_all (b ++ 0 ∷ []) _
      (ends b 0 (begun_from b e) (λ four. omega arith) (omega arith)),
)

pub begun_from_spells : (b : List ℕ) (n : ℕ) (more : List ℕ) → 0 < length more
    → Spells n (b ++ more) → int_at b ≡ begun
begun_from_spells b n more some s =
    ap int_at (sym (take-append_seam b more))
    ∙ int_reads_front.whole_first (b ++ more) n (length (b ++ more)) (length b)
    (whole_from_all (b ++ more) n s) (omega (arith, length-append b more))
