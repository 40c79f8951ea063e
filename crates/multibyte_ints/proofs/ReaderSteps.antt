-- What a reader of integers stands for after one more byte, and what it answers.
use Rattle.std.proofs.Common.{◌≡◌, ℕ, ◌+◌, ◌*◌, ◌%◌, ◌^◌, ◌<◌, ◌≤◌, ◌≢◌, ◌⊎◌, ◌↔◌, List, [], ◌∷◌}
use Rattle.std.proofs.Common.{◌++◌, length, sym, ap, ◌∙◌, subst, inl, inr, arith, length-append}
use Rattle.std.proofs.Math.Nat.{mul-le-mul_left, pow-le-pow_right}
use Rattle.std.proofs.lemmas.Bool.Decides.{leb_tells}
use Rattle.unit_streams.specs.Front.{begun, whole, wrong}
use Rattle.multibyte_ints.specs.declared.integer.{IntReader.IntReader, IntStep.IntStep}
use Rattle.multibyte_ints.specs.declared.integer.IntStep.TheVariants.{Bad, Done, More}
use Rattle.multibyte_ints.specs.declared.integer.State.TheVariants.{Refused, Within}
use Rattle.multibyte_ints.specs.Integer.{int_at, Spells, value_of}
use Rattle.multibyte_ints.specs.Reader.{AnswersAt, StandsFor}
use Rattle.multibyte_ints.proofs.IntegerBytes.{begun_from, ends, fails_at_fifth, goes_on, int_peels}
use Rattle.multibyte_ints.proofs.{IntegerBytes.int_reads_front, Values.value_of_more}
use Rattle.multibyte_ints.proofs.IntegerLaws.{spells_from_all, whole_from_all}

-- the value with one more byte stays below 2 ^ 31
fits_31_bits : (count b value : ℕ) → count ≤ 4 → (count ≡ 4 → b ≤ 7) → value < 128 ^ count
    → value + (b % 128) * 128 ^ count < 2 ^ 31
fits_31_bits count b value few fifth below =
    elim (leb_tells 4 count) [
      | inl four ↦ (let is : count ≡ 4 = omega arith in
          let low = fifth is in
          let small : value < 128 ^ 4 = subst (λ n. value < 128 ^ n) is below in
          rw is (omega arith))
      | inr three ↦ (let power : 128 ^ count ≤ 128 ^ 3 = pow-le-pow_right {n = 128} (omega arith)
          {i = count} {j = 3} (omega arith) in
          let product : (b % 128) * 128 ^ count ≤ (b % 128) * 128 ^ 3 = mul-le-mul_left (b % 128)
          power in
          omega arith)
    ]

-- what the tests on a fifth byte leave
fifth_low : (count b : ℕ) → ((count ≡ 4) × (b ≤ 7)) ⊎ (count ≢ 4) → count ≡ 4 → b ≤ 7
fifth_low count b (inl h) e = h.1
fifth_low count b (inr h) e = absurd (h e)

-- a reader within an integer has at most four bytes of it
within_few : (r : IntReader) (count value : ℕ) → r.state ≡ Within count value → count ≤ 4
within_few r count value e = rw e at r.few

within_below : (r : IntReader) (count value : ℕ) → r.state ≡ Within count value → value
    < 128 ^ count
within_below r count value e = rw e at r.below

pub power_fits : (r : IntReader) (count value : ℕ) → r.state ≡ Within count value → 128 ^ count
    < 2 ^ 32
power_fits r count value e =
    let power : 128 ^ count ≤ 128 ^ 4 = pow-le-pow_right {n = 128} (omega arith) {i = count} {j = 4}
    (within_few r count value e) in
    omega arith

-- with one more byte they add up to less than 2 ^ 31
pub sum_fits : (r : IntReader) (b count value power : ℕ) → r.state ≡ Within count value
    → ((count ≡ 4) × (b ≤ 7)) ⊎ (count ≢ 4) → power ≡ 128 ^ count
    → value + (b % 128) * power < 2 ^ 31
sum_fits r b count value power e tests power_is =
    rw power_is (fits_31_bits count b value (within_few r count value e) (fifth_low count b tests)
    (within_below r count value e))

holds_of : (r : IntReader) (p : List ℕ) (count value : ℕ) → r.state ≡ Within count value
    → StandsFor r p
    → (int_at p ≡ begun) × (count ≡ length p) × (value ≡ value_of p)
unfolding StandsFor
holds_of r p count value e (inl h) = let same = h.state in (h.begun, cc, cc)
holds_of r p count value e (inr h) = let same = h.state in cc

pub failed_at_byte : (r : IntReader) (p : List ℕ) (b : ℕ) → r.state ≡ Refused → StandsFor r p
    → int_at (p ++ b ∷ []) ≡ wrong tt 5
unfolding StandsFor
failed_at_byte r p b e (inl h) = let same = h.state in cc
failed_at_byte r p b e (inr h) = int_reads_front.wrong_stays p (b ∷ []) tt 5 h.wrong

pub fails_at_byte : (r : IntReader) (p : List ℕ) (b count value : ℕ) → r.state ≡ Within count value
    → count ≡ 4 → 7 < b → StandsFor r p
    → int_at (p ++ b ∷ []) ≡ wrong tt 5
fails_at_byte r p b count value e four above s =
    let h = holds_of r p count value e s in
    fails_at_fifth p b (begun_from p h.0) (sym h.1 ∙ four) above

pub stands_begun : (r : IntReader) (p : List ℕ) → int_at p ≡ begun → r.state ≡ Within (length p)
    (value_of p) → StandsFor r p
unfolding StandsFor
stands_begun r p e state = inl (record { begun = e; state = state })

pub stands_failed : (r : IntReader) (p : List ℕ) → int_at p ≡ wrong tt 5 → r.state ≡ Refused
    → StandsFor r p
unfolding StandsFor
stands_failed r p e state = inr (record { wrong = e; state = state })

-- one more byte behind those that a reader within an integer stands for
module _ (r : IntReader) (p : List ℕ) (b count value power : ℕ) (e : r.state ≡ Within count value)
    (power_is : power ≡ 128 ^ count)
    (tests : ((count ≡ 4) × (b ≤ 7)) ⊎ (count ≢ 4)) (s : StandsFor r p) where
  -- what they add up to
  sum_is : value_of p + 128 ^ length p * (b % 128) ≡ value + b % 128 * power
  sum_is = let h = holds_of r p count value e s in rw (power_is, h.1, h.2) (omega arith)

  -- where the integer ends
  pub ends_at_byte : b < 128 → int_at (p ++ b ∷ []) ≡ whole (value + b % 128 * power)
      (length (p ++ b ∷ []))
  ends_at_byte lt =
      let h = holds_of r p count value e s in
      ends p b (begun_from p h.0) (λ four. fifth_low count b tests (h.1 ∙ four)) lt
      ∙ ap (λ v. whole v (length (p ++ b ∷ []))) sum_is

  -- and where it goes on
  pub goes_on_at_byte : 128 ≤ b → int_at (p ++ b ∷ []) ≡ begun
  goes_on_at_byte le =
      let h = holds_of r p count value e s in
      let w = begun_from p h.0 in
      let short = w.short in
      let same = h.1 in
      let low = fifth_low count b tests in
      goes_on p b w (grind arith) le

  pub stands_at_byte : (new : IntReader) → 128 ≤ b → new.state ≡ Within (count + 1)
      (value + b % 128 * power) → StandsFor new (p ++ b ∷ [])
  stands_at_byte new le is =
      let h = holds_of r p count value e s in
      let count_is : count + 1 ≡ length (p ++ b ∷ []) = simp length-append
      (let same = h.1 in omega arith) in
      let value_is : value + b % 128 * power ≡ value_of (p ++ b ∷ []) = sym
      (value_of_more p b ∙ sum_is) in
      stands_begun new (p ++ b ∷ []) (goes_on_at_byte le) (rw (← count_is, ← value_is) is)

pub stands_for_none : (r : IntReader) → r.state ≡ Within 0 0 → StandsFor r []
unfolding value_of
stands_for_none r state = stands_begun r [] int_peels.nothing state

-- `Done` comes with a spelling, and with nothing else
pub done_by_answer : (q : List ℕ) (step : IntStep) (n : ℕ) → AnswersAt q step → (step ≡ Done n)
    ↔ Spells n q
done_by_answer q More n a = (λ e. cc, λ s. let w = whole_from_all q n s in cc)
done_by_answer q (Done m) n a = (
  λ e. let same : m ≡ n = cc in subst (λ v. Spells v q) same (spells_from_all q m a),
  λ s. let w = whole_from_all q n s in let same : m ≡ n = cc in ap Done same,
)
done_by_answer q Bad n a = (λ e. cc, λ s. let w = whole_from_all q n s in cc)
