-- Numbers with a sign, and the record that is chosen for one.
use Rattle.std.proofs.Common.{◌≡◌, ℕ, ◌-◌, ◌^◌, ◌<◌, Bool, true, false, ◌≢◌, List, ◌∷◌, ℤ, pos}
use Rattle.std.proofs.Common.{negsuc, nat_lt, unsigned_abs, FitsSigned, Result, int_eq, sym, refl}
use Rattle.std.proofs.Common.{ap, ◌∙◌, subst, arith, to_z-of_z, w8, w16, w32, w64, le-ltb, lt-ltb}
use Rattle.{std.specs.Cmp.signed_Decides, nbfx_values.specs.Scalars.is_signed}
use Rattle.std.specs.Int.{Width, cast_signed, cast_unsigned, to_le_bytes, w128}
use mir.Val.{hbits}
use Rattle.nbfx_records.specs.{declared.kinds.TextKind.TextKind, Putting.Puts, TypeBytes.byte_of}
use Rattle.nbfx_records.specs.Chosen.{chosen_number, record_bytes, signed, sized}
use Rattle.nbfx_records.specs.declared.kinds.TextKind.TheVariants as texts
use Rattle.nbfx_records.specs.declared.kinds.RecordKind.TheVariants as records

below_true : (p n : ℕ) → n < p → nat_lt (p - 1) n ≡ false
below_true p n h = le-ltb (p - 1) n (omega arith)

below_false : (p n : ℕ) → 0 < p → ¬ (n < p) → nat_lt (p - 1) n ≡ true
below_false p n some h = lt-ltb (p - 1) n (omega arith)

pub signed_true : (w : Width) (k : ℕ) (z : ℤ) → 2 ^ (k - 1) ≡ 2 ^ hbits w → FitsSigned w z
    → is_signed k z ≡ true
signed_true w k (pos n) e h = rw (below_true (2 ^ (k - 1)) n (omega (arith, e, h.sfits))) refl
signed_true w k (negsuc n) e h = rw (below_true (2 ^ (k - 1)) n (omega (arith, e, h.sfits))) refl

pub signed_false : (w : Width) (k : ℕ) (z : ℤ) → 2 ^ (k - 1) ≡ 2 ^ hbits w → 0 < 2 ^ (k - 1)
    → ¬ (FitsSigned w z) → is_signed k z ≡ false
signed_false w k (pos n) e some h =
    rw (below_false (2 ^ (k - 1)) n some (λ lt. h (record { sfits = omega (arith, e, lt) }))) refl
signed_false w k (negsuc n) e some h =
    rw (below_false (2 ^ (k - 1)) n some (λ lt. h (record { sfits = omega (arith, e, lt) }))) refl

int_ne : (x y : ℤ) → ¬ (x ≡ y) → int_eq x y ≡ false
int_ne x y h = by (int_eq x y) refl
  where
    by : (b : Bool) → int_eq x y ≡ b → b ≡ false
    by true e = absurd (h ((signed_Decides x y).0 e))
    by false e = refl

-- a number as it is tried in each width
module _ (n : ℤ) (fits : FitsSigned w128 n) where
  abbrev Tried : Width → Type 0
  Tried w = FitsSigned w (cast_signed w128 (cast_unsigned w128 n))

  pub same : cast_signed w128 (cast_unsigned w128 n) ≡ n
  same = to_z-of_z fits

  fails : (w : Width) → ¬ (Tried w) → ¬ (FitsSigned w n)
  fails w not h = not (subst (FitsSigned w) (sym same) h)

  holds : (w : Width) → Tried w → FitsSigned w n
  holds w h = subst (FitsSigned w) same h

  -- what is written of it in this width
  pub number_put : {T E : Type 0} {r : Result T E} {old new bytes : List ℕ} (w : Width)
      (kind : TextKind) (ends : Bool) (m : ℤ) → chosen_number n ≡ signed kind w n → Tried w
      → m ≡ cast_signed w128 (cast_unsigned w128 n) → bytes
      ≡ to_le_bytes w (cast_unsigned w (cast_signed w (cast_unsigned w m)))
      → Puts r old new (byte_of (records.Text kind ends) ∷ bytes)
      → Puts r old new (record_bytes ends (chosen_number n))
  number_put {r = r} {old = old} {new = new} w kind ends m chosen tried is spelled puts =
      let it : m ≡ n = is ∙ same in
      let back : cast_signed w (cast_unsigned w m) ≡ n = ap (λ z. cast_signed w (cast_unsigned w z))
      it ∙ to_z-of_z (holds w tried) in
      let bytes_are = spelled ∙ ap (λ z. to_le_bytes w (cast_unsigned w z)) back in
      subst (Puts r old new) (ap (λ c. byte_of (records.Text kind ends) ∷ c) bytes_are ∙ sym
      (ap (record_bytes ends) chosen)) puts

  module _ (not_zero : cast_unsigned w128 n ≢ 0) (not_one : cast_unsigned w128 n ≢ 1)
      (not_8 : ¬ (Tried w8)) where
    is_no_zero : int_eq n (pos 0) ≡ false
    is_no_zero = int_ne n (pos 0) (λ e. not_zero (ap (cast_unsigned w128) e))

    is_no_one : int_eq n (pos 1) ≡ false
    is_no_one = int_ne n (pos 1) (λ e. not_one (ap (cast_unsigned w128) e))

    wide_8 : is_signed 8 n ≡ false
    wide_8 = signed_false w8 8 n refl (omega arith) (fails w8 not_8)

    pub chosen_16 : Tried w16 → chosen_number n ≡ signed texts.Int16 w16 n
    chosen_16 h = rw (is_no_zero, is_no_one, wide_8, signed_true w16 16 n refl (holds w16 h)) refl

    module _ (not_16 : ¬ (Tried w16)) where
      wide_16 : is_signed 16 n ≡ false
      wide_16 = signed_false w16 16 n refl (omega arith) (fails w16 not_16)

      pub chosen_32 : Tried w32 → chosen_number n ≡ signed texts.Int32 w32 n
      chosen_32 h = rw (
        is_no_zero,
        is_no_one,
        wide_8,
        wide_16,
        signed_true w32 32 n refl
            (holds w32 h),
      ) refl

      module _ (not_32 : ¬ (Tried w32)) where
        wide_32 : is_signed 32 n ≡ false
        wide_32 = signed_false w32 32 n refl (omega arith) (fails w32 not_32)

        pub chosen_64 : Tried w64 → chosen_number n ≡ signed texts.Int64 w64 n
        chosen_64 h = rw (
          is_no_zero,
          is_no_one,
          wide_8,
          wide_16,
          wide_32,
          signed_true w64 64 n refl
              (holds w64 h),
        ) refl

        pub chosen_unsigned : ¬ (Tried w64) → chosen_number n ≡ sized texts.UInt64 w64
            (unsigned_abs n)
        chosen_unsigned not_64 = rw (
          is_no_zero,
          is_no_one,
          wide_8,
          wide_16,
          wide_32,
          signed_false
              w64 64 n refl (omega arith) (fails w64 not_64),
        ) refl
