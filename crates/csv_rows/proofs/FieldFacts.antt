-- The two fields of a row, read one by one, and fields as text.
use Rattle.std.proofs.Common.{◌≡◌, ℕ, Bool, true, false, ◌≢◌, List, [], ◌∷◌, length, if◌then◌else◌}
use Rattle.std.proofs.Common.{Some, None, Ok, Err, IsUtf8, Result, option_map, MatchResult, refl}
use Rattle.std.proofs.{Common.ap, Common.arith, Common.Bor, lemmas.Bool.false_from_ne_true}
use Rattle.std.proofs.lemmas.Str.{IsUtf8-from_is_utf8, is_utf8-from_IsUtf8}
use Rattle.{std.specs.Result.result_ok, std.specs.Str.is_utf8, csv.specs.Records.field_at}
use Rattle.csv_rows.specs.Rows.{Row, text_of, two_of}

-- a row without a first field, without a second, with more or fewer fields than two, with two
pub two_of-no_first : (fields : Row) → field_at fields 0 ≡ None → two_of fields ≡ None
unfolding field_at
two_of-no_first [] e = refl
two_of-no_first (a ∷ fields) e = cc e

pub two_of-no_second : (fields : Row) → field_at fields 1 ≡ None → two_of fields ≡ None
unfolding field_at
two_of-no_second [] e = refl
two_of-no_second (a ∷ []) e = refl
two_of-no_second (a ∷ b ∷ fields) e = cc e

pub two_of-more : (fields : Row) → length fields ≢ 2 → two_of fields ≡ None
two_of-more [] e = refl
two_of-more (a ∷ []) e = refl
two_of-more (a ∷ b ∷ []) e = absurd (e refl)
two_of-more (a ∷ b ∷ c ∷ fields) e = refl

pub two_of-two : (fields : Row) (a b : List ℕ) → length fields ≡ 2 → field_at fields 0 ≡ Some a
    → field_at fields 1 ≡ Some b → two_of fields ≡ Some (a, b)
unfolding field_at
two_of-two [] a b two first second = cc
two_of-two (x ∷ []) a b two first second = cc second
two_of-two (x ∷ y ∷ []) a b two first second = cc second
two_of-two (x ∷ y ∷ z ∷ fields) a b two first second = absurd (omega arith)

-- a field is text or not
pub text_of-from : {E : Type 0} (field : List ℕ) (why : E → Type 0) (r : Result (Bor (List ℕ)) E)
    → MatchResult r (λ s. (s.now ≡ field) × IsUtf8 field) (λ e. ¬ (IsUtf8 field) × why e)
    → option_map (λ text. text.now) (result_ok r) ≡ text_of field
text_of-from field why (Ok s) is = rw (is_utf8-from_IsUtf8 field is.1) (ap Some is.0)
text_of-from field why (Err e) is =
    rw (false_from_ne_true (is_utf8 field) (λ yes. is.0 (IsUtf8-from_is_utf8 field yes))) refl

-- what a field that was read as text shows
pub text_of-is : (field text : List ℕ) → Some text ≡ text_of field
    → (is_utf8 field ≡ true) × (text ≡ field)
text_of-is field text e = shows (is_utf8 field) e
  where
    shows : (b : Bool) → Some text ≡ (if b then Some field else None) → (b ≡ true) × (text ≡ field)
    shows true e = (refl, cc e)
    shows false e = cc e
