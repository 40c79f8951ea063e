-- What values write, computed: what a value may mean is guessed, and then compared with how that is
-- written.
use Rattle.std.proofs.Common.{◌≡◌, ℕ, ◌^◌, ◌<◌, if◌then◌else◌, nat_lt, Some, None, codes, decimal}
use Rattle.std.proofs.Common.{Option, bytes_eq, sym, refl, ap, ◌∙◌, subst, inl, inr, ltb-true}
use Rattle.std.{proofs.Common.lt-ltb, specs.Fmt.digits, specs.Str.Parse.digits_value}
use Rattle.std.proofs.lemmas.{Bool.cases_Bool, Fmt.decimal_is_IsNumeral, Slice.Eq.bytes_eq-Decides}
use Rattle.nbfx_values.specs.declared.session.{Encoding.Encoding, Mode.Mode}
use Rattle.nbfx_values.specs.declared.session.Encoding.TheVariants.{Extensible, Known}
use Rattle.nbfx_values.specs.declared.session.Mode.TheVariants.{Duplex, Simplex, Singleton}
use Rattle.command_words.{specs.Options.Text, proofs.OptionFacts.bytes_eq-same}
use Rattle.command_words.specs.Values.{encoding_text, IsEncoding, IsWritten, mode_name, usual_encoding}
use Rattle.nbfx_values.specs.declared.session.Kind.TheVariants as kinds

-- what is guessed, where a text writes it
abbrev checked : {A : Type 0} → (A → Text) → Text → A → Option A
checked written text guess = if bytes_eq (written guess) text then Some guess else None

checked-sound : {A : Type 0} (written : A → Text) (text : Text) (guess x : A)
    → checked written text guess ≡ Some x → text ≡ written x
checked-sound written text guess x e =
    elim (cases_Bool (bytes_eq (written guess) text)) [
      | inl same ↦
          let is : guess ≡ x = cc (rw same at e) in
          sym (ap written (sym is) ∙ (bytes_eq-Decides (written guess) text).0 same)
      | inr other ↦ cc (rw other at e)
    ]

checked-complete : {A : Type 0} (written : A → Text) (guess x : A) → guess ≡ x
    → checked written (written x) guess ≡ Some x
checked-complete written guess x is =
    ap (checked written (written x)) is ∙ rw (bytes_eq-same (written x)) refl

-- what is read is what is written, and each of P is read so
pub record Reads (A : Type 0) (P : A → Type 0) (written : A → Text) (read : Text → Option A)
    : Type 0 where
  pub sound : (text : Text) (x : A) → read text ≡ Some x → text ≡ written x
  pub complete : (x : A) → P x → read (written x) ≡ Some x

-- ---- numbers, modes and encodings

abbrev pub number_in : Text → Option ℕ
number_in text =
    if nat_lt (digits_value 10 text) (2 ^ 64) then checked decimal text (digits_value 10 text)
    else None

number_in-sound : (text : Text) (n : ℕ) → number_in text ≡ Some n → text ≡ decimal n
number_in-sound text n e =
    elim (cases_Bool (nat_lt (digits_value 10 text) (2 ^ 64))) [
      | inl small ↦ checked-sound decimal text (digits_value 10 text) n (rw small at e)
      | inr great ↦ cc (rw great at e)
    ]

pub number_in-small : (text : Text) (n : ℕ) → number_in text ≡ Some n → n < 2 ^ 64
number_in-small text n e =
    let read = digits_value 10 text in
    elim (cases_Bool (nat_lt read (2 ^ 64))) [
      | inr great ↦ cc (rw great at e)
      | inl small ↦ elim (cases_Bool (bytes_eq (decimal read) text)) [
        | inl same ↦
            let is : read ≡ n = cc (rw (small, same) at e) in
            subst (λ m. m < 2 ^ 64) is (ltb-true read (2 ^ 64) small)
        | inr other ↦ cc (rw (small, other) at e)
      ]
    ]

number_in-complete : (n : ℕ) → n < 2 ^ 64 → number_in (decimal n) ≡ Some n
number_in-complete n small =
    let is = (decimal_is_IsNumeral n small).1 in
    ap (λ m. if nat_lt m (2 ^ 64) then checked decimal (decimal n) m else None) is
    ∙ rw (lt-ltb n (2 ^ 64) small) (checked-complete decimal n n refl)

pub numbers : Reads ℕ (λ n. n < 2 ^ 64) decimal number_in
numbers = record { sound = number_in-sound; complete = number_in-complete }

abbrev guessed_mode : Text → Mode
guessed_mode text =
    if bytes_eq text (codes "duplex") then Duplex
    else if bytes_eq text (codes "simplex") then Simplex else Singleton

abbrev pub mode_in : Text → Option Mode
mode_in text = checked mode_name text (guessed_mode text)

mode_in-complete : (mode : Mode) → Unit {0} → mode_in (mode_name mode) ≡ Some mode
mode_in-complete Duplex _ = refl
mode_in-complete Simplex _ = refl
mode_in-complete Singleton _ = refl

pub modes : Reads Mode (λ _. Unit {0}) mode_name mode_in
modes = record {
  sound = λ text mode e. checked-sound mode_name text (guessed_mode text) mode e;
  complete = mode_in-complete;
}

abbrev guessed_encoding : Text → Encoding
guessed_encoding text =
    if bytes_eq text (codes "7") then Known kinds.Plain
    else if bytes_eq text (codes "msbin1") then Extensible kinds.Plain
    else if bytes_eq text (codes "msbinsession1") then Extensible kinds.Session
    else Known kinds.Session

abbrev pub encoding_in : Text → Option Encoding
encoding_in text = checked encoding_text text (guessed_encoding text)

encoding_in-complete : (encoding : Encoding) → Unit {0}
    → encoding_in (encoding_text encoding) ≡ Some encoding
unfolding digits
encoding_in-complete (Known kinds.Plain) _ = refl
encoding_in-complete (Known kinds.Session) _ = refl
encoding_in-complete (Extensible kinds.Plain) _ = refl
encoding_in-complete (Extensible kinds.Session) _ = refl

pub encodings : Reads Encoding (λ _. Unit {0}) encoding_text encoding_in
encodings = record {
  sound = λ text encoding e. checked-sound encoding_text text (guessed_encoding text) encoding e;
  complete = encoding_in-complete;
}

-- ---- values that there may be

abbrev pub read_or : {A : Type 0} → (Text → Option A) → A → Option Text → Option A
read_or read usual None = Some usual
read_or read usual (Some text) = read text

module _ {A : Type 0} {P : A → Type 0} {written : A → Text} {read : Text → Option A}
    (reads : Reads A P written read) (usual : A) where
  pub read_or-sound : (value : Option Text) (x : A) → read_or read usual value ≡ Some x
      → IsWritten written usual value x
  read_or-sound None x e = let is : usual ≡ x = cc e in sym is
  read_or-sound (Some text) x e = reads.sound text x e

  pub read_or-complete : (value : Option Text) (x : A) → P x → IsWritten written usual value x
      → read_or read usual value ≡ Some x
  read_or-complete None x p is = ap Some (sym is)
  read_or-complete (Some text) x p is = ap read is ∙ reads.complete x p

pub encoding-one : (value : Option Text) (one other : Encoding) → IsEncoding value one
    → IsEncoding value other → one ≡ other
encoding-one value one other is is_other =
    let same : Some one ≡ Some other =
    sym (read_or-complete encodings usual_encoding value one tt is)
    ∙ read_or-complete encodings usual_encoding value other tt is_other in
    cc same
