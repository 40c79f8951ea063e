-- Prefixes and names that are read are those that are spelled, and the other way round.
use Rattle.std.proofs.Common.{◌≡◌, ℕ, zero, suc, ◌+◌, ◌-◌, ◌<◌, Bool, true, false, ◌&&◌, List, []}
use Rattle.std.proofs.Common.{◌∷◌, get_or, nat_lt, nat_le, refl, ap, ◌∙◌, inl, inr, arith, lt-ltb}
use Rattle.std.proofs.{Common.le-leb, lemmas.Bool.and_from, lemmas.Str.is_utf8-from_IsUtf8}
use Rattle.std.proofs.lemmas.Str.{IsUtf8-from_ascii, IsUtf8-from_is_utf8, IsUtf8-nil}
use Rattle.{std.specs.Str.is_utf8, multibyte_ints.specs.Text.IsString}
use Rattle.nbfx_records.specs.declared.kinds.{NameForm.NameForm, PrefixForm.PrefixForm}
use Rattle.nbfx_records.specs.declared.kinds.NameForm.TheVariants.{Identified, Inlined}
use Rattle.nbfx_records.specs.declared.kinds.PrefixForm.TheVariants.{Lettered, Prefixed, Unprefixed}
use Rattle.nbfx_records.specs.declared.nodes.NameRef.{NameRef, TheVariants.Id, TheVariants.Inline}
use Rattle.nbfx_records.specs.{Contents.name_is_text, TypeBytes.form_of, TypeBytes.is_letter}
use Rattle.nbfx_records.specs.Records.{IsHead, IsHeadOnly, IsName}
use Rattle.nbfx_records.proofs.KindBytes.{letter_parts}
use Rattle.nbfx_records.proofs.PartBytes.{IsRawString, NameIs, PrefixIs}

pub string_there : (s bytes : List ℕ) → IsRawString s bytes → is_utf8 s ≡ true → IsString s bytes
string_there s bytes h t = record {
  spelling = h.spelling;
  spelled = h.spelled;
  joined = h.joined;
  utf8 = IsUtf8-from_is_utf8 s t;
}

pub string_back : (s bytes : List ℕ) → IsString s bytes → IsRawString s bytes × (is_utf8 s ≡ true)
string_back s bytes h = (
  record { spelling = h.spelling; spelled = h.spelled; joined = h.joined },
  is_utf8-from_IsUtf8 s h.utf8,
)

pub name_there : (form : NameForm) (name : NameRef) (bytes : List ℕ) → NameIs form name bytes
    → name_is_text name ≡ true → IsName name bytes
name_there Inlined (Inline s) bytes h t = string_there s bytes h t
name_there Identified (Id id) bytes h t = h
name_there Inlined (Id id) bytes h t = absurd h
name_there Identified (Inline s) bytes h t = absurd h

pub name_back : (name : NameRef) (bytes : List ℕ) → IsName name bytes → NameIs (form_of name) name
    bytes × (name_is_text name ≡ true)
name_back (Inline s) bytes h = string_back s bytes h
name_back (Id id) bytes h = (h, refl)

-- the type byte of a prefix's form, where the plain one, the string's and that of the letter a are
-- these
abbrev pub head_byte : (plain with_string with_letter : ℕ) → PrefixForm → ℕ
head_byte plain with_string with_letter Unprefixed = plain
head_byte plain with_string with_letter (Lettered c) = with_letter + (c - 97)
head_byte plain with_string with_letter Prefixed = with_string

-- where letters may be a form
abbrev pub is_form : Bool → PrefixForm → Bool
is_form letters (Lettered c) = letters && is_letter c
is_form letters _ = true

pub head_there : (plain with_string with_letter : ℕ) (form : PrefixForm) (prefix : List ℕ)
    (byte : ℕ) (bytes : List ℕ) → byte ≡ head_byte plain with_string with_letter form
    → is_form true form ≡ true
    → PrefixIs form prefix bytes → is_utf8 prefix ≡ true → IsHead plain with_string with_letter
    prefix (byte ∷ bytes)
head_there plain with_string with_letter Unprefixed prefix byte bytes e f h t = inl
    (h.0, ap (λ b. b ∷ bytes) e ∙ ap (λ c. plain ∷ c) h.1)
head_there plain with_string with_letter (Lettered c) prefix byte bytes e f h t =
    let letter = letter_parts c f in
    inr (inr (
      c - 97,
      omega arith,
      h.0 ∙ ap (λ x. x ∷ []) (omega arith),
      ap (λ b. b ∷ bytes) e ∙
          ap (λ s. (with_letter + (c - 97)) ∷ s) h.1,
    ))
head_there plain with_string with_letter Prefixed prefix byte bytes e f h t = inr
    (inl (bytes, string_there prefix bytes h t, ap (λ b. b ∷ bytes) e))

-- the same without letters
pub head_only_there : (plain with_string : ℕ) (form : PrefixForm) (prefix : List ℕ) (byte : ℕ)
    (bytes : List ℕ) → byte ≡ head_byte plain with_string 0 form → is_form false form ≡ true
    → PrefixIs form prefix bytes → is_utf8 prefix ≡ true → IsHeadOnly plain with_string prefix
    (byte ∷ bytes)
head_only_there plain with_string Unprefixed prefix byte bytes e f h t = inl
    (h.0, ap (λ b. b ∷ bytes) e ∙ ap (λ c. plain ∷ c) h.1)
head_only_there plain with_string (Lettered c) prefix byte bytes e f h t = cc
head_only_there plain with_string Prefixed prefix byte bytes e f h t = inr
    (bytes, string_there prefix bytes h t, ap (λ b. b ∷ bytes) e)

-- a prefix that is read of these bytes
pub record IsReadHead (letters : Bool) (plain with_string with_letter : ℕ) (prefix bytes : List ℕ) :
    Type 0 where
  pub form : PrefixForm
  pub rest : List ℕ
  pub joined : bytes ≡ head_byte plain with_string with_letter form ∷ rest
  pub real : is_form letters form ≡ true
  pub is : PrefixIs form prefix rest
  pub is_text : is_utf8 prefix ≡ true

empty_is_text : (prefix : List ℕ) → prefix ≡ [] → is_utf8 prefix ≡ true
empty_is_text prefix e = ap is_utf8 e ∙ is_utf8-from_IsUtf8 [] IsUtf8-nil

letter_is_text : (n : ℕ) (prefix : List ℕ) → n < 26 → prefix ≡ (97 + n) ∷ [] → is_utf8 prefix ≡ true
letter_is_text n prefix lt e = ap is_utf8 e ∙ is_utf8-from_IsUtf8 ((97 + n) ∷ [])
    (IsUtf8-from_ascii ((97 + n) ∷ []) each)
  where
    each : (i : ℕ) → get_or ((97 + n) ∷ []) i 0 < 128
    each zero = omega arith
    each (suc i) = omega arith

pub head_back : (plain with_string with_letter : ℕ) (prefix bytes : List ℕ)
    → IsHead plain with_string with_letter prefix bytes → IsReadHead true plain with_string
    with_letter prefix bytes
head_back plain with_string with_letter prefix bytes (inl h) =
    record {
      form = Unprefixed;
      rest = [];
      joined = h.1;
      real = refl;
      is = (h.0, refl);
      is_text =
          empty_is_text prefix h.0;
    }
head_back plain with_string with_letter prefix bytes (inr (inl (string, is, joined))) =
    let it = string_back prefix string is in record
    { form = Prefixed; rest = string; joined = joined; real = refl; is = it.0; is_text = it.1 }
head_back plain with_string with_letter prefix bytes (inr (inr (n, lt, e, joined))) =
    record {
      form = Lettered (97 + n);
      rest = [];
      joined = joined ∙ ap (λ m. (with_letter + m) ∷ []) (omega arith);
      real = and_from (nat_le 97 (97 + n)) (nat_lt (97 + n) 123) (le-leb 97 (97 + n) (omega arith))
          (lt-ltb (97 + n) 123 (omega arith));
      is = (e, refl);
      is_text = letter_is_text n prefix lt e;
    }

pub head_only_back : (plain with_string : ℕ) (prefix bytes : List ℕ) → IsHeadOnly plain with_string
    prefix bytes → IsReadHead false plain with_string 0 prefix bytes
head_only_back plain with_string prefix bytes (inl h) = record {
  form = Unprefixed;
  rest = [];
  joined = h.1;
  real = refl;
  is = (h.0, refl);
  is_text =
      empty_is_text prefix h.0;
}
head_only_back plain with_string prefix bytes (inr (string, is, joined)) =
    let it = string_back prefix string is in record
    { form = Prefixed; rest = string; joined = joined; real = refl; is = it.0; is_text = it.1 }
