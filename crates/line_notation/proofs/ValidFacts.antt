-- What fits an array is a value that records can hold.
use Rattle.std.proofs.Common.{◌≡◌, ◌<◌, true, List, [], ◌∷◌, length, ℤ, pos, negsuc, nat_lt, refl}
use Rattle.std.{proofs.Common.arith, proofs.Common.ltb-true, specs.List.list_all}
use Rattle.std.proofs.lemmas.Bool.{and_parts, Decides.nat_tests}
use Rattle.nbfx_values.specs.declared.{content.ArrayItem.ArrayItem, scalars.Scalar.Scalar}
use Rattle.nbfx_values.specs.declared.content.ArrayKind.{ArrayKind, TheVariants.Decimal as Decimals}
use Rattle.nbfx_values.specs.declared.content.ArrayKind.TheVariants.{Bool as Bools, Uuid as Uuids}
use Rattle.nbfx_values.specs.declared.content.ArrayKind.TheVariants.{DateTime as DateTimes}
use Rattle.nbfx_values.specs.declared.content.ArrayKind.TheVariants.{Double as Doubles}
use Rattle.nbfx_values.specs.declared.content.ArrayKind.TheVariants.{Float as Floats, Int16, Int32}
use Rattle.nbfx_values.specs.declared.content.ArrayKind.TheVariants.{Int64, TimeSpan as TimeSpans}
use Rattle.nbfx_values.specs.declared.scalars.Scalar.TheVariants.{DateTime, Decimal, Double, Float}
use Rattle.nbfx_values.specs.declared.scalars.Scalar.TheVariants.{Number, TimeSpan, Truth, Uuid}
use Rattle.nbfx_values.specs.Items.{are_texts, fits_kind, is_valid_array, is_valid_attribute}
use Rattle.nbfx_values.specs.Scalars.{is_number, is_signed, is_valid_scalar}

number-16 : (n : ℤ) → is_signed 16 n ≡ true → is_number n ≡ true
number-16 (pos n) h = grind (arith, nat_tests)
number-16 (negsuc n) h = grind (arith, nat_tests)

number-32 : (n : ℤ) → is_signed 32 n ≡ true → is_number n ≡ true
number-32 (pos n) h = grind (arith, nat_tests)
number-32 (negsuc n) h = grind (arith, nat_tests)

pub number-64 : (n : ℤ) → is_signed 64 n ≡ true → is_number n ≡ true
number-64 (pos n) h = grind (arith, nat_tests)
number-64 (negsuc n) h = grind (arith, nat_tests)

pub fits-valid : (kind : ArrayKind) (s : Scalar) → fits_kind kind s ≡ true → is_valid_scalar s
    ≡ true
fits-valid Bools (Truth truth) h = refl
fits-valid Int16 (Number n) h = number-16 n h
fits-valid Int32 (Number n) h = number-32 n h
fits-valid Int64 (Number n) h = number-64 n h
fits-valid Floats (Float bits) h = h
fits-valid Doubles (Double bits) h = h
fits-valid Decimals (Decimal d) h = h
fits-valid DateTimes (DateTime pattern) h = h
fits-valid TimeSpans (TimeSpan span) h = h
fits-valid Uuids (Uuid bytes) h = h
fits-valid kind s h = absurd cc

pub fit-valid : (kind : ArrayKind) (ss : List Scalar) → list_all (fits_kind kind) ss ≡ true
    → list_all is_valid_scalar ss ≡ true
fit-valid kind [] h = refl
fit-valid kind (s ∷ ss) h =
    let p = and_parts (fits_kind kind s) (list_all (fits_kind kind) ss) h in
    rw (fits-valid kind s p.0, fit-valid kind ss p.1) refl

-- the parts of an array that records can hold
pub record IsArray (a : ArrayItem) : Type 0 where
  pub texts : are_texts a.prefix a.local ≡ true
  pub attributes : list_all is_valid_attribute a.attrs ≡ true
  pub fit : list_all (fits_kind a.kind) a.values ≡ true
  pub valid : list_all is_valid_scalar a.values ≡ true

pub array_parts : (a : ArrayItem) → is_valid_array a ≡ true → IsArray a
array_parts a h =
    let p = and_parts (are_texts a.prefix a.local) _ h in
    let q = and_parts (list_all is_valid_attribute a.attrs) _ p.1 in
    let r = and_parts _ (list_all (fits_kind a.kind) a.values) q.1 in
    record { texts = p.0; attributes = q.0; fit = r.1; valid = fit-valid a.kind a.values r.1 }

pub array-some : (a : ArrayItem) → is_valid_array a ≡ true → 0 < length a.values
array-some a h =
    let p = and_parts (are_texts a.prefix a.local) _ h in
    let q = and_parts (list_all is_valid_attribute a.attrs) _ p.1 in
    let r = and_parts (nat_lt 0 (length a.values)) (list_all (fits_kind a.kind) a.values) q.1 in
    ltb-true 0 (length a.values) r.0
