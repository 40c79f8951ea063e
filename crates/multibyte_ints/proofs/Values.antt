-- What the seven-bit groups of some bytes add up to.
use Rattle.std.proofs.Common.{◌≡◌, ℕ, ◌+◌, ◌*◌, ◌%◌, ◌^◌, ◌<◌, ◌≤◌, List, [], ◌∷◌, ◌++◌, length}
use Rattle.std.proofs.Common.{get_or, take, sym, ap, ◌∙◌, subst, arith, length-take-le, take_all}
use Rattle.std.proofs.Math.Nat.{pow-le-pow_right, pow-succ'}
use Rattle.std.proofs.lemmas.{List.take_more, Nat.mod_below}
use Rattle.multibyte_ints.specs.Integer.{value_of}

pub value_of-append : (xs ys : List ℕ) → value_of (xs ++ ys) ≡ value_of xs + 128 ^ length xs *
    value_of ys
unfolding value_of
value_of-append [] ys = omega arith
value_of-append (x ∷ xs) ys = rw (value_of-append xs ys, pow-succ' 128 (length xs)) (omega arith)

pub value_of_below : (xs : List ℕ) → value_of xs < 128 ^ length xs
unfolding value_of
value_of_below [] = omega arith
value_of_below (x ∷ xs) = let low : x % 128 < 128 = mod_below x 128 (omega arith) in let rest =
    value_of_below xs in rw (pow-succ' 128 (length xs)) (omega arith)

pub value_of_more : (xs : List ℕ) (y : ℕ) → value_of (xs ++ y ∷ []) ≡ value_of xs + 128 ^ length xs
    * (y % 128)
unfolding value_of
value_of_more xs y = rw (value_of-append xs (y ∷ [])) (omega arith)

-- five bytes are four and the fifth
five_are : (b : List ℕ) → length b ≡ 5 → value_of b ≡ value_of (take 4 b)
    + 128 ^ 4 * (get_or b 4 0 % 128)
five_are b five =
    let four = length-take-le 4 b (omega arith) in
    let apart : b ≡ take 4 b ++ get_or b 4 0 ∷ [] = sym (take_all 5 b (omega arith)) ∙ take_more b 4
    0 (omega arith) in
    ap value_of apart ∙ value_of_more (take 4 b) (get_or b 4 0)
    ∙ ap (λ n. value_of (take 4 b) + 128 ^ n * (get_or b 4 0 % 128)) four

four_below : (b : List ℕ) → length b ≡ 5 → value_of (take 4 b) < 128 ^ 4
four_below b five =
    let four = length-take-le 4 b (omega arith) in
    let P : ℕ → Type 0 = λ n. value_of (take 4 b) < 128 ^ n in
    subst P four (value_of_below (take 4 b))

-- a fifth byte below 8 is what keeps a value below 2 ^ 31
pub value_of_five : (b : List ℕ) → length b ≡ 5 → get_or b 4 0 ≤ 7 → value_of b < 2 ^ 31
value_of_five b five low = omega (arith, five_are b five, four_below b five)

pub value_of_fifth : (b : List ℕ) → length b ≡ 5 → get_or b 4 0 < 128 → value_of b < 2 ^ 31
    → get_or b 4 0 ≤ 7
value_of_fifth b five ended small = omega (arith, five_are b five, four_below b five)

pub value_of_four : (b : List ℕ) → length b ≤ 4 → value_of b < 2 ^ 31
value_of_four b four =
    let below = value_of_below b in
    let grows = pow-le-pow_right {n = 128} (omega arith) four in
    omega arith
