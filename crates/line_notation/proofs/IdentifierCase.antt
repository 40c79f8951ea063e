-- A word of 36 bytes without a capital letter is an identifier's where it is read as one, and any
-- other word is none.
use Rattle.std.proofs.Common.{◌≡◌, ℕ, ◌+◌, ◌*◌, ◌/◌, ◌%◌, ◌<◌, Bool, true, false, ◌&&◌, ◌⊎◌, List}
use Rattle.std.proofs.Common.{length, if◌then◌else◌, ◌==◌, slice_index, Some, None, Option}
use Rattle.std.proofs.Common.{bytes_eq, sym, refl, ap, ◌∙◌, subst, inl, inr, arith}
use Rattle.std.proofs.lemmas.Bool.{and_parts, cases_lt, Decides.nat_tests}
use Rattle.std.proofs.lemmas.{List.get_or_default, Slice.Eq.bytes_eq-Decides}
use Rattle.{std.specs.List.list_all, uuid.specs.Parts.swap_fields}
use Rattle.uuid.proofs.TextLemmas.{by_index_at, by_index_length, by_index_same, nibble_even}
use Rattle.uuid.proofs.TextLemmas.{nibble_odd, nibble_small}
use Rattle.uuid.specs.Text.{by_index, byte_of_digits, digit_place, digits_of, has_hyphens}
use Rattle.uuid.specs.Text.{hex_digit, hyphen_place, hyphenated_text, is_hex_digit, is_hyphen_place}
use Rattle.uuid.specs.Text.{lower, nibble, parsed, parsed_hyphenated, parsed_simple, value_of}
use Rattle.line_notation.specs.{Options.◌>>=◌, Parts.has_no_capitals, Parts.is_no_capital}
use Rattle.line_notation.specs.Scalars.{identifier_in, identifier_word, if_identifier}
use Rattle.line_notation.proofs.{GatherFacts.some_same, IdentifierFacts.is_identifier-word}
use Rattle.line_notation.proofs.IdentifierFacts.{all-at, all-listed, digit-small}

-- a digit that is no capital is the digit of its value
digit-back : (c : ℕ) → is_hex_digit c ≡ true → is_no_capital c ≡ true
    → hex_digit lower (value_of c) ≡ c
digit-back c digit small = grind (arith, nat_tests)

-- the two digits of a byte
high-half : (high low : ℕ) → high < 16 → low < 16 → (high * 16 + low) / 16 % 16 ≡ high
high-half high low h l = omega arith

low-half : (high low : ℕ) → high < 16 → low < 16 → (high * 16 + low) % 16 ≡ low
low-half high low h l = omega arith

-- of a word of 36 bytes that has digits where they stand in the hyphenated form
module _ (word : List ℕ) (count : length word ≡ 36)
    (digits : list_all is_hex_digit (digits_of word) ≡ true) where
  abbrev digit_at : ℕ → ℕ
  digit_at j = slice_index (digits_of word) j

  abbrev fields : List ℕ
  fields = by_index 16 (byte_of_digits (digits_of word))

  digit : (j : ℕ) → j < 32 → is_hex_digit (digit_at j) ≡ true
  digit j below = all-at is_hex_digit (digits_of word) j
      (let n : length (digits_of word) ≡ 32 = by_index_length 32 _ in omega (arith, n)) digits

  value-small : (j : ℕ) → j < 32 → value_of (digit_at j) < 16
  value-small j below = digit-small (digit_at j) (digit j below)

  field : (i : ℕ) → i < 16
      → slice_index fields i ≡ value_of (digit_at (2 * i)) * 16 + value_of (digit_at (2 * i + 1))
  field i below = by_index_at 16 (byte_of_digits (digits_of word)) i 0 below

  high-is : (i : ℕ) → i < 16 → nibble fields (2 * i) ≡ value_of (digit_at (2 * i))
  high-is i below = nibble_even fields i ∙ ap (λ b. b / 16 % 16) (field i below)
      ∙ high-half (value_of (digit_at (2 * i))) (value_of (digit_at (2 * i + 1)))
      (value-small (2 * i) (omega arith)) (value-small (2 * i + 1) (omega arith))

  low-is : (i : ℕ) → i < 16 → nibble fields (2 * i + 1) ≡ value_of (digit_at (2 * i + 1))
  low-is i below = nibble_odd fields i ∙ ap (λ b. b % 16) (field i below)
      ∙ low-half (value_of (digit_at (2 * i))) (value_of (digit_at (2 * i + 1)))
      (value-small (2 * i) (omega arith)) (value-small (2 * i + 1) (omega arith))

  nibble-is : (j : ℕ) → j < 32 → nibble fields j ≡ value_of (digit_at j)
  nibble-is j below =
      elim (cases_lt (j % 2) 1) [
        | inl even ↦
            let e : 2 * (j / 2) ≡ j = omega (arith, even) in
            subst (λ k. nibble fields k ≡ value_of (digit_at k)) e (high-is (j / 2) (omega arith))
        | inr odd ↦
            let e : 2 * (j / 2) + 1 ≡ j = omega (arith, odd) in
            subst (λ k. nibble fields k ≡ value_of (digit_at k)) e (low-is (j / 2) (omega arith))
      ]

  -- the digit at a place of the word that is no hyphen's
  digit-is : (k : ℕ) → k < 36 → is_hyphen_place k ≡ false
      → digit_at (digit_place k) ≡ slice_index word k
  digit-is k below none =
      let within : digit_place k < 32 = grind (arith, nat_tests) in
      let back : hyphen_place (digit_place k) ≡ k = grind (arith, nat_tests) in
      by_index_at 32 (λ i. slice_index word (hyphen_place i)) (digit_place k) 0 within
      ∙ ap (slice_index word) back

  pub written : has_no_capitals word ≡ true → has_hyphens word ≡ true
      → word ≡ hyphenated_text lower fields
  written small hyphens = by_index_same word 36 _ count
      (λ k d below. get_or_default word k d 0 (rw count below)
      ∙ go k below (is_hyphen_place k) refl)
    where
      go : (k : ℕ) → k < 36 → (t : Bool) → is_hyphen_place k ≡ t
          → slice_index word k
          ≡ (if t then 45 else hex_digit lower (nibble fields (digit_place k)))
      go k below true e = grind (arith, nat_tests)
      go k below false e =
          let within : digit_place k < 32 = grind (arith, nat_tests) in
          let same = digit-is k below e in
          let is_digit : is_hex_digit (slice_index word k) ≡ true = rw same at
          (digit (digit_place k) within) in
          sym (ap (hex_digit lower) (nibble-is (digit_place k) within ∙ ap value_of same)
          ∙ digit-back (slice_index word k) is_digit
          (all-at is_no_capital word k (rw count below) small))

-- what is read of a word, by its fields
abbrev swapped_if : List ℕ → Bool → Option (List ℕ)
swapped_if fields same = if same then Some (swap_fields fields) else None

pub identifier_in-lower : (word fields : List ℕ) → length word ≡ 36 → has_no_capitals word ≡ true
    → parsed word ≡ Some fields → identifier_in word ≡ Some (swap_fields fields)
identifier_in-lower word fields count small read =
    whole (has_hyphens word) refl (sym (by-length word count) ∙ read)
  where
    by-length : (word : List ℕ) → length word ≡ 36
        → parsed word ≡ (if has_hyphens word then parsed_simple (digits_of word) else None)
    by-length word count = rw count refl

    simple : (t : Bool) → list_all is_hex_digit (digits_of word) ≡ t → has_hyphens word ≡ true
        → (if t then Some (by_index 16 (byte_of_digits (digits_of word))) else None) ≡ Some fields
        → word ≡ hyphenated_text lower fields
    simple true digits hyphens e = written word count digits small hyphens
        ∙ ap (hyphenated_text lower) (some_same e)
    simple false digits hyphens e = absurd cc

    whole : (t : Bool) → has_hyphens word ≡ t
        → (if t then parsed_simple (digits_of word) else None) ≡ Some fields
        → identifier_in word ≡ Some (swap_fields fields)
    whole true hyphens e =
        let n : length (digits_of word) ≡ 32 = by_index_length 32 _ in
        let is = simple (list_all is_hex_digit (digits_of word)) refl hyphens (rw n at e) in
        ap (λ found. found >>= if_identifier word) read ∙ ap (swapped_if fields)
        ((bytes_eq-Decides (hyphenated_text lower fields) word).1 (sym is))
    whole false hyphens e = absurd cc

-- such a word is as long, and has no capital letter
digit-no-capital : (d : ℕ) → d < 16 → is_no_capital (hex_digit lower d) ≡ true
digit-no-capital d small = grind (arith, nat_tests)

identifier-lower : (bytes : List ℕ) → has_no_capitals (identifier_word bytes) ≡ true
identifier-lower bytes = all-listed is_no_capital 36 _ (λ k. go k (is_hyphen_place k))
  where
    fields : List ℕ
    fields = swap_fields bytes

    go : (k : ℕ) (t : Bool)
        → is_no_capital (if t then 45 else hex_digit lower (nibble fields (digit_place k))) ≡ true
    go k true = refl
    go k false = digit-no-capital (nibble fields (digit_place k))
        (nibble_small fields (digit_place k))

pub identifier_in-none : (word : List ℕ)
    → (length word ≡ 36 → has_no_capitals word ≡ true → ⊥) → identifier_in word ≡ None
identifier_in-none word none = go (identifier_in word) refl
  where
    go : (read : Option (List ℕ)) → identifier_in word ≡ read → read ≡ None
    go None e = refl
    go (Some bytes) e =
        let is = (is_identifier-word word bytes e).word_is in
        absurd (none (ap length is ∙ by_index_length 36 _)
        (ap has_no_capitals is ∙ identifier-lower bytes))
