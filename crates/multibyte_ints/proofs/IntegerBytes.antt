-- What one more byte makes of an integer that has begun, so that integers are read byte by byte.
use Rattle.std.proofs.Common.{◌≡◌, ℕ, suc, ◌+◌, ◌*◌, ◌%◌, ◌^◌, ◌<◌, ◌≤◌, ◌⊎◌, List, [], ◌∷◌, ◌++◌}
use Rattle.std.proofs.Common.{length, get_or, take, sym, ap, ◌∙◌, inl, inr, arith, length-append}
use Rattle.std.proofs.{Common.take_all, Math.ListN.get_or-append, Math.Seq.get_or-append_seam}
use Rattle.{std.specs.Prelude.⊤, unit_streams.proofs.Taken.at_last}
use Rattle.std.proofs.lemmas.{Bool.Decides.leb_tells, List.take-append-le}
use Rattle.unit_streams.proofs.Peeling.{extent, IsPeeling, peels_front}
use Rattle.unit_streams.specs.Front.{begun, ReadsFront, whole, wrong}
use Rattle.multibyte_ints.specs.{Integer.int_at, Integer.value_of, Laws.FifthIsAbove}
use Rattle.multibyte_ints.proofs.IntegerFacts.{Begun, begun_is, cases, EndsAt, whole_is, wrong_is}
use Rattle.multibyte_ints.proofs.Values.{value_of_more}

-- what is known of the places of an integer that has begun
pub begun_from : (b : List ℕ) → int_at b ≡ begun → Begun b
begun_from b e =
    elim (cases b) [
      | inl w ↦ w
      | inr (inl (k, w)) ↦ let is = whole_is k b w in cc
      | inr (inr w) ↦ let is = wrong_is b w in cc
    ]

-- of one that is whole
pub record Ended (n k : ℕ) (b : List ℕ) : Type 0 where
  pub place : ℕ
  pub ends : EndsAt place b
  pub size : k ≡ place + 1
  pub value : n ≡ value_of (take k b)

pub ended_from : (b : List ℕ) (n k : ℕ) → int_at b ≡ whole n k → Ended n k b
ended_from b n k e =
    elim (cases b) [
      | inl w ↦ let is = begun_is b w in cc
      | inr (inl (j, w)) ↦
          let is = whole_is j b w in
          let size : k ≡ j + 1 = cc in
          record { place = j; ends = w; size = size; value = cc }
      | inr (inr w) ↦ let is = wrong_is b w in cc
    ]

-- and of one that is wrong
pub above_from : (b : List ℕ) (r : ⊤) (k : ℕ) → int_at b ≡ wrong r k → (k ≡ 5) × FifthIsAbove b
above_from b r k e =
    elim (cases b) [
      | inl w ↦ let is = begun_is b w in cc
      | inr (inl (j, w)) ↦ let is = whole_is j b w in cc
      | inr (inr w) ↦ let is = wrong_is b w in (cc, w)
    ]

-- one more byte behind an integer that has begun
module _ (p : List ℕ) (b : ℕ) (w : Begun p) where
  continued_more : (i : ℕ) → i < length p → 128 ≤ get_or (p ++ b ∷ []) i 0
  continued_more i lt = rw (get_or-append p (b ∷ []) 0 i lt) (w.continued i lt)

  continued_all : 128 ≤ b → (i : ℕ) → i < length p + 1 → 128 ≤ get_or (p ++ b ∷ []) i 0
  continued_all le i lt =
      elim (leb_tells (length p) i) [
        | inr before ↦ continued_more i before.1
        | inl last ↦ let is : i ≡ length p = omega arith in rw (is, get_or-append_seam p b [] 0) le
      ]

  pub goes_on : length p ≤ 3 → 128 ≤ b → int_at (p ++ b ∷ []) ≡ begun
  goes_on few le =
      let lens = length-append p (b ∷ []) in
      begun_is (p ++ b ∷ []) (record {
        short = omega arith;
        continued = λ i lt. continued_all le i (omega arith);
      })

  pub fails_at_fifth : length p ≡ 4 → 7 < b → int_at (p ++ b ∷ []) ≡ wrong tt 5
  fails_at_fifth four above =
      let lens = length-append p (b ∷ []) in
      wrong_is (p ++ b ∷ []) (record {
        within = omega arith;
        continued = λ i lt. continued_more i (omega arith);
        above = rw (sym four, get_or-append_seam p b [] 0) above;
      })

  ends_there : (length p ≡ 4 → b ≤ 7) → b < 128 → EndsAt (length p) (p ++ b ∷ [])
  ends_there fifth lt =
      let lens = length-append p (b ∷ []) in
      record {
        within = omega arith;
        at_most_five = w.short;
        continued = continued_more;
        ended = rw (get_or-append_seam p b [] 0) lt;
        fifth = λ four. rw (get_or-append_seam p b [] 0) (fifth four);
      }

  pub ends : (length p ≡ 4 → b ≤ 7) → b < 128 → int_at (p ++ b ∷ [])
      ≡ whole (value_of p + 128 ^ length p * (b % 128)) (length (p ++ b ∷ []))
  ends fifth lt =
      let lens = length-append p (b ∷ []) in
      let all : take (length p + 1) (p ++ b ∷ []) ≡ p ++ b ∷ [] = take_all (length p + 1)
      (p ++ b ∷ []) (omega arith) in
      let size : length p + 1 ≡ length (p ++ b ∷ []) = omega arith in
      whole_is (length p) (p ++ b ∷ []) (ends_there fifth lt)
      ∙ ap (λ c. whole (value_of c) (length p + 1)) all
      ∙ ap (λ v. whole v (length p + 1)) (value_of_more p b)
      ∙ ap (whole (value_of p + 128 ^ length p * (b % 128))) size

  -- it is the last byte that decides
  ended_by : (length p ≡ 4 → b ≤ 7) → b < 128 → extent (int_at (p ++ b ∷ [])) ≡ suc (length p)
  ended_by fifth lt = let lens = length-append p (b ∷ []) in omega
      (arith, ap extent (ends fifth lt))

  failed_by : length p ≡ 4 → 7 < b → extent (int_at (p ++ b ∷ [])) ≡ suc (length p)
  failed_by four above = omega (arith, ap extent (fails_at_fifth four above))

  one_byte : (int_at (p ++ b ∷ []) ≡ begun) ⊎ (extent (int_at (p ++ b ∷ [])) ≡ suc (length p))
  one_byte =
      elim (leb_tells b 7) [
        | inl low ↦ inr (ended_by (λ four. low.1) (omega arith))
        | inr above ↦ elim (leb_tells (length p) 3) [
          | inr four ↦ inr (failed_by (let short = w.short in omega arith) above.1)
          | inl few ↦ elim (leb_tells 128 b) [
            | inl le ↦ inl (goes_on few.1 le.1)
            | inr lt ↦ inr (ended_by (λ four. absurd (omega arith)) lt.1)
          ]
        ]
      ]

-- a whole integer stays where it ends
EndsAt-append : (k : ℕ) (b c : List ℕ) → EndsAt k b → EndsAt k (b ++ c)
EndsAt-append k b c w =
    let there = get_or-append b c 0 k w.within in
    record {
      within = simp length-append (omega arith);
      at_most_five = w.at_most_five;
      continued = λ i lt. rw (get_or-append b c 0 i (omega arith)) (w.continued i lt);
      ended = rw there w.ended;
      fifth = λ e. rw there (w.fifth e);
    }

FifthIsAbove-append : (b c : List ℕ) → FifthIsAbove b → FifthIsAbove (b ++ c)
FifthIsAbove-append b c w = record {
  within = simp length-append (omega arith);
  continued = λ i lt. rw (get_or-append b c 0 i (omega arith)) (w.continued i lt);
  above = rw (get_or-append b c 0 4 (omega arith)) w.above;
}

one_byte_stays : (b : List ℕ) (x : ℕ) → 0 < extent (int_at b) → int_at (b ++ x ∷ []) ≡ int_at b
one_byte_stays b x said =
    elim (cases b) [
      | inl w ↦ absurd (omega (arith, ap extent (begun_is b w)))
      | inr (inl (k, w)) ↦
          let same : take (k + 1) (b ++ x ∷ []) ≡ take (k + 1) b = take-append-le (k + 1) b (x ∷ [])
          (let within = w.within in omega arith) in
          whole_is k (b ++ x ∷ []) (EndsAt-append k b (x ∷ []) w) ∙
          ap (λ c. whole (value_of c) (k + 1)) same ∙ sym (whole_is k b w)
      | inr (inr w) ↦ wrong_is (b ++ x ∷ []) (FifthIsAbove-append b (x ∷ []) w) ∙ sym (wrong_is b w)
    ]

pub int_peels : IsPeeling int_at
int_peels = record {
  nothing = begun_is [] (record { short = omega arith; continued = λ i lt. absurd (omega arith) });
  byte = λ b x h. one_byte b x (begun_from b h);
  stays = one_byte_stays;
}

-- so an integer is known by its own bytes
pub int_reads_front : ReadsFront int_at
int_reads_front = peels_front int_at int_peels

-- and what is wrong with one that has begun is so with all its bytes
pub wrong_at_last : (q : List ℕ) (b : ℕ) → int_at q ≡ begun → int_at (q ++ b ∷ []) ≡ wrong tt 5 → 5
    ≡ length (q ++ b ∷ [])
wrong_at_last q b before e =
    omega (
      arith,
      ap extent e,
      at_last int_at int_peels q b before (λ h. cc),
      length-append q
          (b ∷ []),
    )
