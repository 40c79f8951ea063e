-- A word writes a number exactly where the number is read out of it.
use Rattle.std.proofs.Common.{◌≡◌, ℕ, zero, suc, ◌+◌, ◌-◌, ◌*◌, ◌/◌, ◌%◌, ◌^◌, ◌<◌, ◌≤◌, Bool, true}
use Rattle.std.proofs.Common.{false, ◌&&◌, ◌||◌, ◌⊎◌, List, [], ◌∷◌, ◌++◌, length, get_or, ℤ, pos}
use Rattle.std.proofs.Common.{negsuc, if◌then◌else◌, nat_lt, nat_le, ◌==◌, slice_index, Some, None}
use Rattle.std.proofs.Common.{decimal, Option, option_map, sym, refl, ap, ◌∙◌, subst, inl, inr}
use Rattle.std.proofs.Common.{append_assoc, append-nil, arith, length-append, le-ltb, lt-ltb}
use Rattle.std.proofs.Common.{eq-eqb, eqb-true, leb-true}
use Rattle.std.proofs.Math.{Bool.and-false, Nat.pow-suc}
use Rattle.std.proofs.lemmas.{Bool.and_parts, Bool.cases_lt, List.get_or_append_left}
use Rattle.std.proofs.lemmas.Int.Digits.{digits_push, digits_value_push}
use Rattle.std.specs.{Char.digit_value, Char.is_ascii_digit, Int.Signed.mag, List.list_all}
use Rattle.std.specs.Fmt.{digit_glyph, digits, digits_onto, signed_decimal}
use Rattle.std.specs.Str.{all_ascii_digits, Parse.AllDigits, Parse.digits_value}
use Rattle.line_notation.specs.Numerals.{count_digits, has_zero_in_front, integer_in, is_natural}
use Rattle.line_notation.specs.Numerals.{IsInteger, IsNatural, less_than_zero, natural_in}
use Rattle.line_notation.specs.Options.{◌>>=◌}
use Rattle.line_notation.proofs.{GatherFacts.eqb-other, GatherFacts.some_same, TokenFacts.found}
use Rattle.line_notation.proofs.NumeralsFacts.{all-digits, natural_parts, own}
use Rattle.line_notation.proofs.SpacedFacts.{is_solid, solid}

-- the digits of a number
record AreDigitsOf (n : ℕ) (ds : List ℕ) : Type 0 where
  some : 0 < length ds
  digits : AllDigits 10 ds
  value : digits_value 10 ds ≡ n
  first : 0 < n → 48 < get_or ds 0 0
  zero_is : n ≡ 0 → ds ≡ 48 ∷ []

-- and what they are put in front of
record PutsDigits (k n : ℕ) : Type 0 where
  ds : List ℕ
  are : AreDigitsOf n ds
  put : (acc : List ℕ) → digits_onto k 10 false n acc ≡ ds ++ acc

glyph-value : (d : ℕ) → d < 10 → digit_value (digit_glyph false d) ≡ d
glyph-value d small =
    let same : 48 + d - 48 ≡ d = omega arith in
    rw (lt-ltb d 10 small, le-ltb (48 + d) 48 (omega arith), lt-ltb (48 + d) 58 (omega arith)) same

one-digit : (n : ℕ) → n < 10 → AreDigitsOf n (digit_glyph false (n % 10) ∷ [])
one-digit n small =
    let same : n % 10 ≡ n = omega arith in
    let value = glyph-value n small in
    subst (λ d. AreDigitsOf n (digit_glyph false d ∷ [])) (sym same)
    (record {
      some = omega arith;
      digits = (subst (λ v. v < 10) (sym value) small, tt);
      value = ap (λ v. 0 * 10 + v) value ∙ omega arith;
      first = λ more. rw (lt-ltb n 10 small) (omega arith);
      zero_is = λ e. ap (λ d. digit_glyph false d ∷ []) e;
    })

more-digits : (n : ℕ) (ds : List ℕ) → 0 < n / 10 → AreDigitsOf (n / 10) ds
    → AreDigitsOf n (ds ++ digit_glyph false (n % 10) ∷ [])
more-digits n ds more h =
    let small : n % 10 < 10 = omega arith in
    let value = glyph-value (n % 10) small in
    let count = length-append ds (digit_glyph false (n % 10) ∷ []) in
    record {
      some = omega (arith, count);
      digits = digits_push 10 ds (digit_glyph false (n % 10)) h.digits
          (subst (λ v. v < 10) (sym value) small);
      value = digits_value_push 10 ds (digit_glyph false (n % 10)) ∙
          ap (λ v. v * 10 + digit_value (digit_glyph false (n % 10))) h.value ∙
          ap (λ v. n / 10 * 10 + v) value ∙ omega arith;
      first = λ some. subst (λ c. 48 < c)
          (sym (get_or_append_left ds (digit_glyph false (n % 10) ∷ []) 0 0 h.some)) (h.first more);
      zero_is = λ e. absurd (omega (arith, e, more));
    }

last-digit : (k n : ℕ) → n / 10 ≡ 0 → PutsDigits (suc k) n
last-digit k n e = record {
  ds = digit_glyph false (n % 10) ∷ [];
  are = one-digit n
      (omega (arith, e));
  put = λ acc. rw (eq-eqb (n / 10) 0 e) refl;
}

next-digit : (k n : ℕ) → 0 < n / 10 → PutsDigits k (n / 10) → PutsDigits (suc k) n
next-digit k n more h =
    record {
      ds = h.ds ++ digit_glyph false (n % 10) ∷ [];
      are = more-digits n h.ds more h.are;
      put = λ acc.
          rw (eqb-other (n / 10) 0 (λ e. omega (arith, e, more)))
          (h.put (digit_glyph false (n % 10) ∷ acc) ∙ sym
          (append_assoc h.ds (digit_glyph false (n % 10) ∷ []) acc));
    }

puts-digits : (k n : ℕ) → n < 10 ^ suc k → PutsDigits (suc k) n
puts-digits zero n small = last-digit zero n (omega arith)
puts-digits (suc k) n small = go (cases_lt 0 (n / 10))
    (puts-digits k (n / 10) (let e = pow-suc 10 (suc k) in fewer (10 ^ suc k)
    (subst (λ p. n < p) e small)))
  where
    fewer : (p : ℕ) → n < p * 10 → n / 10 < p
    fewer p h = omega arith

    go : (0 < n / 10) ⊎ (n / 10 ≤ 0) → PutsDigits (suc k) (n / 10) → PutsDigits (suc (suc k)) n
    go (inl more) h = next-digit (suc k) n more h
    go (inr none) h = last-digit (suc k) n (omega arith)

-- a natural number as it is put
natural-digits : (n : ℕ) (ds : List ℕ) → AreDigitsOf n ds → IsNatural n ds
natural-digits n ds h = record {
  digits = (h.some, h.digits);
  no_zero_in_front = λ e. go
      (cases_lt 0 n) e;
  value = h.value;
}
  where
    go : (0 < n) ⊎ (n ≤ 0) → slice_index ds 0 ≡ 48 → length ds ≡ 1
    go (inl some) e = absurd (let more = h.first some in omega (arith, e, more))
    go (inr none) e = ap length (h.zero_is (omega arith))

puts-natural : (k n : ℕ) → n < 10 ^ suc k → IsNatural n (digits_onto (suc k) 10 false n [])
puts-natural k n small =
    let p = puts-digits k n small in
    subst (IsNatural n) (sym (p.put [] ∙ append-nil p.ds)) (natural-digits n p.ds p.are)

below-power : (n : ℕ) → n < 10 ^ suc n
below-power zero = omega arith
below-power (suc n) = let e = pow-suc 10 (suc n) in more (10 ^ suc n) (10 ^ suc (suc n))
    (below-power n) e
  where
    more : (p q : ℕ) → n < p → q ≡ p * 10 → suc n < q
    more p q h e = omega (arith, e)

pub count_digits-natural : (n : ℕ) → IsNatural n (count_digits n)
count_digits-natural n = puts-natural n n (below-power n)

pub decimal-natural : (n : ℕ) → n < 10 ^ 64 → IsNatural n (decimal n)
unfolding digits
decimal-natural n small = puts-natural 63 n small

pub decimal-integer : (z : ℤ) → mag z + 1 < 10 ^ 64 → IsInteger z (signed_decimal z)
decimal-integer (pos n) small = decimal-natural n (omega arith)
decimal-integer (negsuc n) small = (decimal (suc n), refl, decimal-natural (suc n) (omega arith))

-- a word that writes a natural number
zero-in_front : (n : ℕ) (word : List ℕ) → IsNatural n word → has_zero_in_front word ≡ false
zero-in_front n word h = go (slice_index word 0 == 48) refl
  where
    go : (t : Bool) → (slice_index word 0 == 48) ≡ t → (nat_lt 1 (length word) && t) ≡ false
    go true e = rw (h.no_zero_in_front (eqb-true (slice_index word 0) 48 e)) refl
    go false e = and-false (nat_lt 1 (length word))

pub natural_in-natural : (n : ℕ) (word : List ℕ) → IsNatural n word → natural_in word ≡ Some n
natural_in-natural n word h =
    let some = h.digits.0 in
    let digits : list_all is_ascii_digit word ≡ true = all-digits word ∙ own.from word h.digits.1 in
    rw (eqb-other (length word) 0 (λ e. omega (arith, e, some)), zero-in_front n word h, digits)
    (ap Some h.value)

pub natural-natural_in : (n : ℕ) (word : List ℕ) → natural_in word ≡ Some n → IsNatural n word
natural-natural_in n word e = go (is_natural word) refl e
  where
    some_of : (word : List ℕ) → (length word == 0 || has_zero_in_front word) ≡ false → 0
        < length word
    some_of [] e = absurd cc
    some_of (c ∷ word) e = omega arith

    one : (word : List ℕ) → (length word == 0 || has_zero_in_front word) ≡ false → slice_index word
        0 ≡ 48 → length word ≡ 1
    one [] f e = absurd cc
    one (c ∷ word) f e = inner (cases_lt 1 (length (c ∷ word))) f
      where
        inner : (1 < length (c ∷ word)) ⊎ (length (c ∷ word) ≤ 1)
            → (length (c ∷ word) == 0 || has_zero_in_front (c ∷ word)) ≡ false → length (c ∷ word)
            ≡ 1
        inner (inl more) f =
            let zero : (length (c ∷ word) == 0 || has_zero_in_front (c ∷ word)) ≡ true =
            rw (
              eqb-other (length (c ∷ word)) 0 (λ e. omega (arith, e)),
              lt-ltb 1
                  (length (c ∷ word)) more,
              eq-eqb c 48 e,
            ) refl in
            cc
        inner (inr few) f = omega arith

    go : (t : Bool) → is_natural word ≡ t → (if t then Some (digits_value 10 word) else None)
        ≡ Some n → IsNatural n word
    go true f e =
        let p = natural_parts word f in
        record {
          digits = (some_of word p.some, own.to word p.digits);
          no_zero_in_front = one word
              p.some;
          value = some_same e;
        }
    go false f e = absurd cc

-- a word that writes an integer
digit-minus : (c : ℕ) (word : List ℕ) (n : ℕ) → IsNatural n (c ∷ word) → (c == 45) ≡ false
digit-minus c word n h = go (c == 45) refl
  where
    go : (t : Bool) → (c == 45) ≡ t → t ≡ false
    go true e = absurd (
        let digit = (and_parts (is_ascii_digit c) (all_ascii_digits word)
        (own.from (c ∷ word) h.digits.1)).0 in
        let wrong : is_ascii_digit 45 ≡ true = subst (λ b. is_ascii_digit b ≡ true)
        (eqb-true c 45 e) digit in
        cc)
    go false e = refl

pub integer_in-integer : (z : ℤ) (word : List ℕ) → IsInteger z word → integer_in word ≡ Some z
integer_in-integer (pos n) [] h = absurd (let some = h.digits.0 in omega (arith, some))
integer_in-integer (pos n) (c ∷ word) h = rw (digit-minus c word n h)
    (ap (option_map pos) (natural_in-natural n (c ∷ word) h))
integer_in-integer (negsuc n) word (digits, e, h) = ap integer_in e ∙
    ap (λ read. read >>= less_than_zero) (natural_in-natural (suc n) digits h)

pub integer-integer_in : (z : ℤ) (word : List ℕ) → integer_in word ≡ Some z → IsInteger z word
integer-integer_in z [] e = absurd cc
integer-integer_in z (c ∷ word) e = go (c == 45) refl e
  where
    below : (n : ℕ) → natural_in word ≡ Some n → less_than_zero n ≡ Some z → c ≡ 45
        → IsInteger z (c ∷ word)
    below zero f e minus = absurd cc
    below (suc n) f e minus = subst (λ y. IsInteger y (c ∷ word)) (some_same e)
        (word, ap (λ b. b ∷ word) minus, natural-natural_in (suc n) word f)

    above : (read : Option ℕ) → natural_in (c ∷ word) ≡ read → option_map pos read ≡ Some z
        → IsInteger z (c ∷ word)
    above None f e = absurd cc
    above (Some n) f e = subst (λ y. IsInteger y (c ∷ word)) (some_same e)
        (natural-natural_in n (c ∷ word) f)

    go : (t : Bool) → (c == 45) ≡ t
        → (if t then (natural_in word >>= less_than_zero) else option_map pos
        (natural_in (c ∷ word))) ≡ Some z → IsInteger z (c ∷ word)
    go true f e = let r = found (natural_in word) less_than_zero z e in below r.value r.read_is
        r.step_is (eqb-true c 45 f)
    go false f e = above (natural_in (c ∷ word)) refl e

-- such words have no space and no quote
digits-solid : (word : List ℕ) → list_all is_ascii_digit word ≡ true → list_all is_solid word ≡ true
digits-solid [] h = refl
digits-solid (c ∷ word) h =
    let p = and_parts (is_ascii_digit c) (list_all is_ascii_digit word) h in
    rw (digit c p.0, digits-solid word p.1) refl
  where
    digit : (c : ℕ) → is_ascii_digit c ≡ true → is_solid c ≡ true
    digit c is =
        let p = and_parts (nat_le 48 c) (nat_le c 57) is in
        let least = leb-true 48 c p.0 in
        let most = leb-true c 57 p.1 in
        solid c (omega arith) (omega arith) (λ e. omega (arith, e, least))
        (λ e. omega (arith, e, most))

pub natural-solid : (n : ℕ) (word : List ℕ) → IsNatural n word → list_all is_solid word ≡ true
natural-solid n word h = digits-solid word (all-digits word ∙ own.from word h.digits.1)

pub integer-solid : (z : ℤ) (word : List ℕ) → IsInteger z word → list_all is_solid word ≡ true
integer-solid (pos n) word h = natural-solid n word h
integer-solid (negsuc n) word (digits, e, h) = ap (list_all is_solid) e ∙ natural-solid (suc n)
    digits h
