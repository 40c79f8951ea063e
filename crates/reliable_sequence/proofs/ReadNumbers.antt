-- A number's digits are read as the number.
use Rattle.std.proofs.Common.{◌≡◌, ℕ, ◌+◌, ◌*◌, ◌/◌, ◌%◌, ◌^◌, ◌<◌}
use Rattle.std.proofs.Common.{List, [], ◌∷◌, ◌++◌, get_or, Some, None, Option}
use Rattle.std.proofs.Common.{refl, ap, ◌∙◌, arith, lt-ltb, le-leb}
use Rattle.std.proofs.lemmas.Fmt.{decimal_by_steps, first_decimal}
use Rattle.std.specs.Fmt.{decimal}
use Rattle.reliable_sequence.specs.Numbers.{behind_digit, greatest_behind, number_behind}
use Rattle.reliable_sequence.specs.Numbers.{number_in, with_digit}

-- one digit more at the end
abbrev more_by : Option ℕ → ℕ → Option ℕ
more_by None c = None
more_by (Some n) c = behind_digit n c

behind-none : (digits : List ℕ) → number_behind None digits ≡ None
behind-none digits = refl

behind-nil : (o : Option ℕ) → number_behind o [] ≡ o
behind-nil None = refl
behind-nil (Some n) = refl

behind-push : (o : Option ℕ) (digits : List ℕ) (c : ℕ)
    → number_behind o (digits ++ c ∷ []) ≡ more_by (number_behind o digits) c
behind-push None digits c = refl
behind-push (Some n) [] c = behind-nil (behind_digit n c)
behind-push (Some n) (d ∷ digits) c = behind-push (behind_digit n d) digits c

digit-read : (n d : ℕ) → d < 10 → n * 10 + d < 2 ^ 63
    → behind_digit n (48 + d) ≡ Some (n * 10 + d)
digit-read n d small fits =
    let low = le-leb 48 (48 + d) (omega arith) in
    let high = le-leb (48 + d) 57 (omega arith) in
    let same : with_digit n (48 + d) ≡ n * 10 + d = ap (λ k. n * 10 + k) (omega arith) in
    rw (low, high, same, lt-ltb (n * 10 + d) greatest_behind fits) refl

-- the digits of a number, where it is small enough
abbrev Reads : ℕ → List ℕ → Type 0
Reads n digits = n < 2 ^ 63 → number_behind (Some 0) digits ≡ Some n

reads-digits : (n : ℕ) → n < 2 ^ 64 → Reads n (decimal n)
reads-digits =
    decimal_by_steps Reads
    (λ n small fits.
    let same : 0 * 10 + n ≡ n = omega arith in
    behind-nil (behind_digit 0 (48 + n)) ∙ digit-read 0 n small (omega arith) ∙ ap Some same)
    (λ n digits large reads fits.
    let parts : (n / 10) * 10 + n % 10 ≡ n = omega arith in
    let rest : n % 10 < 10 = omega arith in
    behind-push (Some 0) digits (48 + n % 10)
    ∙ ap (λ o. more_by o (48 + n % 10)) (reads (omega arith))
    ∙ digit-read (n / 10) (n % 10) rest (omega arith)
    ∙ ap Some parts)

begun : (digits : List ℕ) → 48 < get_or digits 0 0
    → number_in digits ≡ number_behind (Some 0) digits
begun [] first = absurd (omega arith)
begun (c ∷ more) first = rw (lt-ltb 48 c first) refl

pub number-read : (n : ℕ) → 0 < n → n < 2 ^ 63 → number_in (decimal n) ≡ Some n
number-read n some small =
    let wide : n < 2 ^ 64 = omega arith in
    begun (decimal n) (first_decimal n some wide) ∙ reads-digits n wide small
