-- Numbers as values write them.
use Rattle.std.proofs.Common.{◌≡◌, ℕ, zero, suc, ◌^◌, ◌<◌, ◌≤◌, true, ◌≢◌, [], ◌∷◌, length, get_or}
use Rattle.std.proofs.Common.{OkIff, IfSome, IfNone, IsSome, Some, None, Ok, Err, codes, decimal}
use Rattle.std.proofs.Common.{Option, Result, sym, refl, ap, ◌∙◌, subst, arith, ltb-true, lt-ltb}
use Rattle.std.proofs.{Common.le-leb, Common.leb-true, lemmas.Str.Parse.tells_digits}
use Rattle.std.proofs.lemmas.Fmt.{decimal-digits_value, decimal_digit, decimal_injective}
use Rattle.std.proofs.lemmas.Fmt.{decimal_is_IsNumeral, first_decimal, parse-decimal}
use Rattle.std.proofs.lemmas.Str.Parse.{IsNumeralModel, digit_at, numerals_by_value, parse_plain}
use Rattle.std.specs.{Fmt.digits, Result.result_ok}
use Rattle.std.specs.Str.Parse.{AllDigits, ParsesUnsigned, digits_value}
use Rattle.{clap.proofs.WalkLemmas.both, nbfx_values.specs.declared.session.Encoding.TheVariants.Known}
use Rattle.nbfx_values.specs.Limits.{IsGood, Limits, limits}
use Rattle.command_words.specs.{Options.Text, Requests.AreLimits, Requests.content_beside}
use Rattle.command_words.specs.{Requests.QuotaValues, Values.encoding_text, Values.IsNumber}
use Rattle.command_words.specs.{WordAnswers.begins_plain}
use Rattle.nbfx_values.specs.declared.session.Kind.TheVariants as kinds

-- ---- decimal digits

-- how a text begins that begins plain
record BeginsPlain (text : Text) : Type 0 where
  unsigned : get_or text 0 0 ≢ 43
  some : 0 < length text
  zero_alone : get_or text 0 0 ≡ 48 → length text ≡ 1

plain-begins : (text : Text) → begins_plain text ≡ true → BeginsPlain text
plain-begins [] e = cc e
plain-begins (digit ∷ []) e =
    let least = leb-true 48 digit (both _ _ e).0 in
    record { unsigned = λ plus. absurd (omega arith); some = omega arith; zero_alone = λ _. refl }
plain-begins (digit ∷ next ∷ rest) e =
    let least = ltb-true 48 digit (both _ _ e).0 in
    record {
      unsigned = λ plus. absurd (omega arith);
      some = omega arith;
      zero_alone = λ zero.
          absurd (omega arith);
    }

begins-plain : (text : Text) → 0 < length text → 48 < get_or text 0 0 → get_or text 0 0 ≤ 57
    → begins_plain text ≡ true
begins-plain [] some least most = absurd (omega arith)
begins-plain (digit ∷ []) some least most = let above : 48 ≤ digit = omega arith in
    rw (le-leb 48 digit above, le-leb digit 57 most) refl
begins-plain (digit ∷ next ∷ rest) some least most =
    rw (lt-ltb 48 digit least, le-leb digit 57 most) refl

pub decimal-plain : (n : ℕ) → n < 2 ^ 64 → begins_plain (decimal n) ≡ true
decimal-plain zero small = ap begins_plain (decimal_digit 0 (omega arith))
decimal-plain (suc n) small =
    let numeral = decimal_is_IsNumeral (suc n) small in
    begins-plain (decimal (suc n)) numeral.0.0 (first_decimal (suc n) (omega arith) small)
    (digit_at (decimal (suc n)) 0 numeral.0.1 numeral.0.0).1

own : IsNumeralModel (AllDigits 10) (digits_value 10)
own = numerals_by_value (AllDigits 10) tells_digits

-- a text that begins plain and is read is the decimal digits of its number, which are always read
pub parsed-written : {E : Type 0} (text : Text) (r : Result ℕ E) → begins_plain text ≡ true
    → ParsesUnsigned 64 10 text r → IfSome (result_ok r) (λ n. text ≡ decimal n)
parsed-written text (Err e) plain parses = tt
parsed-written {E} text (Ok n) plain parses =
    let begins = plain-begins text plain in
    let is = parse_plain own {E = E} 64 text (Ok n) parses begins.unsigned in
    sym (ap decimal is.1 ∙ decimal-digits_value own text is.0.0 begins.some begins.zero_alone
    is.0.2)

pub parsed-none : {E : Type 0} (text : Text) (r : Result ℕ E) → ParsesUnsigned 64 10 text r
    → IfNone (result_ok r) ((n : ℕ) → n < 2 ^ 64 → text ≢ decimal n)
parsed-none text (Ok n) parses = tt
parsed-none {E} text (Err e) parses = λ n small is. cc
    (parse-decimal {E = E} 64 n text (Err e) small small is parses)

-- ---- numbers and limits

pub IsNumber-unique : (value : Option Text) (usual one other : ℕ) → one < 2 ^ 64 → other < 2 ^ 64
    → IsNumber value usual one → IsNumber value usual other → one ≡ other
IsNumber-unique None usual one other small_one small_other is_one is_other = is_one ∙ sym is_other
IsNumber-unique (Some text) usual one other small_one small_other is_one is_other =
    decimal_injective one other small_one small_other (sym is_one ∙ is_other)

pub IsGood-payload : (l : Limits) → IsGood l → l.payload < 2 ^ 32
IsGood-payload l good = omega (arith, good.payload_most)

pub IsGood-content : (l : Limits) → IsGood l → l.content < 2 ^ 32
IsGood-content l good = omega (arith, good.content_most)

-- a number that a smaller type doesn't hold
pub small-none : {E : Type 0} (value : Option Text) (usual m : ℕ) (r : Result ℕ E)
    → OkIff r (m < 2 ^ 32) m → m < 2 ^ 64 → IsNumber value usual m
    → IfNone (result_ok r) ((n : ℕ) → n < 2 ^ 32 → ¬ IsNumber value usual n)
small-none value usual m (Ok n) converts fits is = tt
small-none value usual m (Err e) converts fits is = λ n small is_n.
    converts (subst (λ k. k < 2 ^ 32) (IsNumber-unique value usual n m (omega arith) fits is_n is)
    small)

module _ (given : QuotaValues) (usual l : Limits) (are : AreLimits given usual l) (good : IsGood l)
  where
    -- the payload of good limits that values set is the number read
    pub payload-same : (payload : ℕ) → payload < 2 ^ 64
        → IsNumber given.payload usual.payload payload → payload ≡ l.payload
    payload-same payload small is = IsNumber-unique given.payload usual.payload payload l.payload small
        (omega (arith, good.payload_most)) is are.payload

    -- good limits that values set are the numbers read
    pub limits-same : (payload depth dictionary content session : ℕ) → payload < 2 ^ 64
        → depth < 2 ^ 64 → dictionary < 2 ^ 64 → content < 2 ^ 64 → session < 2 ^ 64
        → IsNumber given.payload usual.payload payload → IsNumber given.depth usual.depth depth
        → IsNumber given.dictionary usual.dictionary dictionary
        → IsNumber given.content (content_beside given.payload usual.content payload) content
        → IsNumber given.session usual.session session
        → limits payload depth dictionary content usual.via session ≡ l
    limits-same payload depth dictionary content session small_p small_d small_di small_c small_s
        is_p is_d is_di is_c is_s =
        let p = payload-same payload small_p is_p in
        let d = IsNumber-unique given.depth usual.depth depth l.depth small_d
        (omega (arith, good.depth_most)) is_d are.depth in
        let di = IsNumber-unique given.dictionary usual.dictionary dictionary l.dictionary small_di
        (omega (arith, good.dictionary_most, good.payload_most)) is_di are.dictionary in
        let beside : ℕ → ℕ = content_beside given.payload usual.content in
        let c = IsNumber-unique given.content (beside payload) content l.content small_c
        (omega (arith, good.content_most)) is_c
        (subst (λ n. IsNumber given.content (beside n) l.content) (sym p) are.content) in
        let s = IsNumber-unique given.session usual.session session l.session small_s
        (omega (arith, good.session_most)) is_s are.session in
        λ i. limits (p i) (d i) (di i) (c i) (sym are.via i) (s i)

-- numbers that are no good limits
pub none-good : {Q : Type 0} (r : Option Q) (given : QuotaValues) (usual read : Limits)
    → (IsGood read → IsSome r)
    → ((l : Limits) → AreLimits given usual l → IsGood l → read ≡ l)
    → IfNone r ((l : Limits) → AreLimits given usual l → ¬ IsGood l)
none-good (Some quotas) given usual read found same = tt
none-good None given usual read found same = λ l are good. let some = found
    (subst IsGood (sym (same l are good)) good) in cc some

-- ---- encodings

pub seven : encoding_text (Known kinds.Plain) ≡ codes "7"
unfolding digits
seven = refl

pub eight : encoding_text (Known kinds.Session) ≡ codes "8"
unfolding digits
eight = refl
