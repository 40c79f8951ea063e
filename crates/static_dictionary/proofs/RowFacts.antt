-- Facts about one row.
use Rattle.std.proofs.Common.{◌≡◌, ℕ, ◌%◌, ◌<◌, ◌≤◌, Bool, true, false, ◌&&◌, ◌≢◌, List, [], ◌∷◌}
use Rattle.std.proofs.Common.{length, get_or, if◌then◌else◌, nat_le, Some, None, Ok, Err, Option}
use Rattle.std.proofs.Common.{Result, refl, ap, ◌∙◌, arith, eq-eqb, ne_eqb, le-leb, leb-true}
use Rattle.std.proofs.lemmas.{Bool.false_from_ne_true, Str.Parse.tells_all_ascii_digits}
use Rattle.std.proofs.lemmas.Str.Parse.{IsNumeralModel, numerals_by_value, parse_plain}
use Rattle.{std.specs.Result.result_ok, static_dictionary.specs.Rows.two_of}
use Rattle.std.specs.Str.{all_ascii_digits, Parse.ParsesUnsigned, Parse.digits_value}
use Rattle.csv_rows.{proofs.FieldFacts.text_of-is, specs.Rows.text_of}
use Rattle.static_dictionary.specs.Rows.{entry_of, even_entry, id_of, is_plain_number, most_id, Row}
use Rattle.static_dictionary.specs.declared.fault.TableKind.TheVariants as kind

-- an identifier that a parse read, or did not
decimal : IsNumeralModel (λ ds. all_ascii_digits ds ≡ true) (digits_value 10)
decimal = numerals_by_value _ tells_all_ascii_digits

-- what the result of a parse leaves of an identifier
abbrev pub within_most : Option ℕ → Option ℕ
within_most None = None
within_most (Some id) = if nat_le id most_id then Some id else None

-- a choice that is refused
refused : {A : Type 0} (a b : Bool) (x : A) → (a ≡ true → b ≡ true → ⊥)
    → (if a && b then Some x else None) ≡ None
refused true true x not_both = absurd (not_both refl refl)
refused true false x not_both = refl
refused false b x not_both = refl

plain_some : (field : List ℕ) → is_plain_number field ≡ true → 0 < length field
plain_some [] plain = cc plain
plain_some (digit ∷ field) plain = omega arith

module _ (field : List ℕ) (digits : is_plain_number field ≡ all_ascii_digits field) where
  -- the identifier of a field that is plain where it passes a test
  abbrev id_where : Bool → Option ℕ
  id_where plain =
      if plain && nat_le (digits_value 10 field) most_id
      then Some (digits_value 10 field)
      else None

  id_of-digits : id_of field ≡ id_where (all_ascii_digits field)
  id_of-digits = ap id_where digits

  pub id_of-parsed : {E : Type 0} (r : Result ℕ E) → get_or field 0 0 ≢ 43
      → ParsesUnsigned 32 10 field r → id_of field ≡ within_most (result_ok r)
  id_of-parsed {E} (Ok id) unsigned parses =
      let is = parse_plain decimal {E = E} 32 field (Ok id) parses unsigned in
      id_of-digits ∙ rw (is.0.0, is.1) refl
  id_of-parsed {E} (Err e) unsigned parses =
      let is = parse_plain decimal {E = E} 32 field (Err e) parses unsigned in
      id_of-digits ∙ refused (all_ascii_digits field) (nat_le (digits_value 10 field) most_id)
      (digits_value 10 field)
      (λ all small. is (
        all,
        plain_some field (digits ∙ all),
        omega (arith, leb-true (digits_value 10 field) most_id small),
      ))

-- the entry of a row of two texts, the first of which was tried as an identifier
pub entry_of-read : (row : Row) (id text id_read text_read : List ℕ) (found : Option ℕ)
    → Some (id, text) ≡ two_of row → Some id_read ≡ text_of id → Some text_read ≡ text_of text
    → found ≡ id_of id_read → entry_of row ≡ even_entry found text_read
entry_of-read row id text id_read text_read found two id_text text_text tried =
    let first = text_of-is id id_read id_text in
    let second = text_of-is text text_read text_text in
    rw (← two, first.0, second.0, tried, first.1, second.1) refl

pub even_entry-odd : (id : ℕ) (text : List ℕ) → id % 2 ≡ 1
    → even_entry (Some id) text ≡ Err kind.Odd
even_entry-odd id text odd = rw (eq-eqb (id % 2) 1 odd) refl

pub even_entry-even : (id : ℕ) (text : List ℕ) → id % 2 ≢ 1
    → even_entry (Some id) text ≡ Ok (id, text)
even_entry-even id text even = rw (ne_eqb (id % 2) 1 even) refl

pub within_most-small : (id : ℕ) → id ≤ most_id → within_most (Some id) ≡ Some id
within_most-small id small = rw (le-leb id most_id small) refl

pub within_most-great : (id : ℕ) → most_id < id → within_most (Some id) ≡ None
within_most-great id great =
    rw (false_from_ne_true (nat_le id most_id)
    (λ yes. absurd (omega (arith, leb-true id most_id yes)))) refl
