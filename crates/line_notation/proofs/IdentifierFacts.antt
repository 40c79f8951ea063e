-- A word writes an identifier exactly where the identifier is read out of it.
use Rattle.std.proofs.Common.{◌≡◌, ℕ, zero, suc, ◌+◌, ◌-◌, ◌*◌, ◌<◌, ◌≤◌, Bool, true, false, ◌&&◌}
use Rattle.std.proofs.Common.{◌⊎◌, List, [], ◌∷◌, map, length, if◌then◌else◌, ◌==◌, slice_index}
use Rattle.std.proofs.Common.{Some, None, All, bytes_eq, sym, refl, ap, ◌∙◌, subst, inl, inr, arith}
use Rattle.std.proofs.Common.{le-ltb, lt-ltb, eqb-true}
use Rattle.std.proofs.lemmas.Bool.{and_parts, cases_lt, Decides.nat_tests}
use Rattle.std.proofs.lemmas.List.{get_or_default, get_or_past, Folds.list_all-append}
use Rattle.std.{proofs.lemmas.Slice.Eq.bytes_eq-Decides, specs.List.list_all}
use Rattle.{hex.specs.Hex.IsBytes, uuid.specs.Parts.swap_fields, line_notation.specs.Options.◌>>=◌}
use Rattle.uuid.proofs.RoundTrips.{parses_hyphenated, swap_twice}
use Rattle.uuid.proofs.TextLemmas.{by_index_at, by_index_length, nibble_small}
use Rattle.uuid.specs.Text.{by_index, byte_of_digits, digit_place, digits_of, has_hyphens}
use Rattle.uuid.specs.Text.{hex_digit, hyphenated_text, is_hex_digit, is_hyphen_place, lower}
use Rattle.uuid.specs.Text.{nibble, parsed, parsed_hyphenated, parsed_simple, value_of}
use Rattle.nbfx_values.specs.Scalars.{are_bytes, is_identifier}
use Rattle.line_notation.specs.Scalars.{identifier_in, identifier_word, if_identifier}
use Rattle.line_notation.proofs.{GatherFacts.some_same, HexFacts.bytes-each, TokenFacts.found}
use Rattle.line_notation.proofs.SpacedFacts.{is_solid, solid}

-- bytes, by their places
bytes-before : (b : ℕ) (bytes : List ℕ) → b < 256 → IsBytes bytes → IsBytes (b ∷ bytes)
bytes-before b bytes small h zero = small
bytes-before b bytes small h (suc i) = h i

bytes-none : IsBytes []
bytes-none i = omega arith

bytes-tested : (bytes : List ℕ) → IsBytes bytes → are_bytes bytes ≡ true
bytes-tested [] h = refl
bytes-tested (b ∷ bytes) h = rw (lt-ltb b 256 (h zero), bytes-tested bytes (λ i. h (suc i))) refl

places-bytes : (bytes : List ℕ) → IsBytes bytes → (places : List ℕ)
    → IsBytes (map (slice_index bytes) places)
places-bytes bytes h [] = bytes-none
places-bytes bytes h (k ∷ places) = bytes-before (slice_index bytes k)
    (map (slice_index bytes) places) (h k) (places-bytes bytes h places)

swapped-bytes : (bytes : List ℕ) → IsBytes bytes → IsBytes (swap_fields bytes)
swapped-bytes bytes h = places-bytes bytes h (3 ∷ 2 ∷ 1 ∷ 0 ∷ 5 ∷ 4 ∷ 7 ∷ 6 ∷ 8 ∷ 9 ∷ 10 ∷ 11 ∷ 12
    ∷ 13 ∷ 14 ∷ 15 ∷ [])

bytes-all : (bytes : List ℕ) → IsBytes bytes → All (λ b. b < 256) bytes
bytes-all bytes h k d below = subst (λ b. b < 256) (sym (get_or_default bytes k d 0 below)) (h k)

-- what is put is read
pub identifier_in-word : (bytes : List ℕ) → is_identifier bytes ≡ true
    → identifier_in (identifier_word bytes) ≡ Some bytes
identifier_in-word bytes h =
    let p = and_parts (length bytes == 16) (are_bytes bytes) h in
    let fields = swap_fields bytes in
    let word = hyphenated_text lower fields in
    let same : bytes_eq word word ≡ true = (bytes_eq-Decides word word).1 refl in
    ap (λ read. read >>= if_identifier word)
    (sym (parses_hyphenated lower fields (inl refl) refl
    (bytes-all fields (swapped-bytes bytes (bytes-each bytes p.1)))))
    ∙ ap (λ t. if t then Some (swap_fields fields) else None) same
    ∙ ap Some (swap_twice bytes (eqb-true (length bytes) 16 p.0))

-- the fields that are read are sixteen bytes
record AreFields (fields : List ℕ) : Type 0 where
  count : length fields ≡ 16
  bytes : IsBytes fields

pub all-at : (test : ℕ → Bool) (bytes : List ℕ) (k : ℕ) → k < length bytes
    → list_all test bytes ≡ true
    → test (slice_index bytes k) ≡ true
all-at test [] k below h = absurd (omega arith)
all-at test (b ∷ bytes) zero below h = (and_parts (test b) (list_all test bytes) h).0
all-at test (b ∷ bytes) (suc k) below h = all-at test bytes k (omega arith)
    (and_parts (test b) (list_all test bytes) h).1

pub digit-small : (c : ℕ) → is_hex_digit c ≡ true → value_of c < 16
digit-small c h = grind (arith, nat_tests)

byte-small : (high low : ℕ) → high < 16 → low < 16 → high * 16 + low < 256
byte-small high low h l = omega arith

digits-bytes : (hex : List ℕ) → length hex ≡ 32 → list_all is_hex_digit hex ≡ true
    → AreFields (by_index 16 (byte_of_digits hex))
digits-bytes hex count digits = record {
  count = by_index_length 16 (byte_of_digits hex);
  bytes =
      each;
}
  where
    byte : (k : ℕ) → k < 16 → byte_of_digits hex k < 256
    byte k below =
        byte-small _ _
        (digit-small (slice_index hex (2 * k))
        (all-at is_hex_digit hex (2 * k) (omega (arith, count)) digits))
        (digit-small (slice_index hex (2 * k + 1))
        (all-at is_hex_digit hex (2 * k + 1) (omega (arith, count)) digits))

    each : IsBytes (by_index 16 (byte_of_digits hex))
    each k = go (cases_lt k 16)
      where
        go : (k < 16) ⊎ (16 ≤ k) → slice_index (by_index 16 (byte_of_digits hex)) k < 256
        go (inl below) = subst (λ b. b < 256) (sym (by_index_at 16 (byte_of_digits hex) k 0 below))
            (byte k below)
        go (inr past) =
            let over : length (by_index 16 (byte_of_digits hex))
            ≤ k = rw (by_index_length 16 (byte_of_digits hex)) past in
            subst (λ b. b < 256) (sym (get_or_past (by_index 16 (byte_of_digits hex)) k 0 over))
            (omega arith)

simple-fields : (hex fields : List ℕ) → parsed_simple hex ≡ Some fields → AreFields fields
simple-fields hex fields e = go (length hex == 32) (list_all is_hex_digit hex) refl refl e
  where
    go : (s t : Bool) → (length hex == 32) ≡ s → list_all is_hex_digit hex ≡ t
        → (if s && t then Some (by_index 16 (byte_of_digits hex)) else None) ≡ Some fields
        → AreFields fields
    go true true f g e = subst AreFields (some_same e)
        (digits-bytes hex (eqb-true (length hex) 32 f) g)
    go true false f g e = absurd cc
    go false t f g e = absurd cc

hyphenated-fields : (word fields : List ℕ) → parsed_hyphenated word ≡ Some fields → AreFields fields
hyphenated-fields word fields e = go ((length word == 36) && has_hyphens word) e
  where
    go : (t : Bool) → (if t then parsed_simple (digits_of word) else None) ≡ Some fields
        → AreFields fields
    go true e = simple-fields (digits_of word) fields e
    go false e = absurd cc

parsed-fields : (word fields : List ℕ) → length word ≡ 36 → parsed word ≡ Some fields
    → AreFields fields
parsed-fields word fields count e = hyphenated-fields word fields (sym (by-length word count) ∙ e)
  where
    by-length : (word : List ℕ) → length word ≡ 36 → parsed word ≡ parsed_hyphenated word
    by-length word count = rw count refl

-- and what is read was put
pub record IsIdentifier (bytes word : List ℕ) : Type 0 where
  pub identifier : is_identifier bytes ≡ true
  pub word_is : word ≡ identifier_word bytes

pub is_identifier-word : (word bytes : List ℕ) → identifier_in word ≡ Some bytes
    → IsIdentifier bytes word
is_identifier-word word bytes e =
    let p = found (parsed word) (if_identifier word) bytes e in
    go p.value (bytes_eq (hyphenated_text lower p.value) word) refl p.read_is p.step_is
  where
    inner : (fields : List ℕ) → hyphenated_text lower fields ≡ word → AreFields fields
        → swap_fields fields ≡ bytes → IsIdentifier bytes word
    inner fields same f swapped =
        let tested : is_identifier (swap_fields fields) ≡ true = bytes-tested (swap_fields fields)
        (swapped-bytes fields f.bytes) in
        subst (λ b. IsIdentifier b word) swapped
        (record {
          identifier = tested;
          word_is = sym same ∙ ap (hyphenated_text lower)
              (sym (swap_twice fields f.count));
        })

    go : (fields : List ℕ) (t : Bool) → bytes_eq (hyphenated_text lower fields) word ≡ t
        → parsed word ≡ Some fields
        → (if t then Some (swap_fields fields) else None) ≡ Some bytes → IsIdentifier bytes word
    go fields true f read e =
        let same = (bytes_eq-Decides (hyphenated_text lower fields) word).0 f in
        let count : length word ≡ 36 = ap length (sym same) ∙ by_index_length 36 _ in
        inner fields same (parsed-fields word fields count read) (some_same e)
    go fields false f read e = absurd cc

-- the bytes of such a word
digit-solid : (d : ℕ) → d < 16 → is_solid (hex_digit lower d) ≡ true
digit-solid d small = go (cases_lt d 10)
  where
    go : (d < 10) ⊎ (10 ≤ d) → is_solid (hex_digit lower d) ≡ true
    go (inl low) = rw (lt-ltb d 10 low)
        (solid (48 + d) (omega arith) (omega arith) (λ e. omega (arith, e))
        (λ e. omega (arith, e, low)))
    go (inr high) =
        rw (le-ltb d 10 high) (solid (97 + d - 10) (omega arith) (omega arith)
        (λ e. omega (arith, e, high)) (λ e. omega (arith, e, high)))

pub all-listed : (test : ℕ → Bool) (n : ℕ) (f : ℕ → ℕ) → ((k : ℕ) → test (f k) ≡ true)
    → list_all test (by_index n f) ≡ true
unfolding by_index
all-listed test zero f h = refl
all-listed test (suc n) f h = list_all-append test (by_index n f) (f n ∷ []) ∙
    rw (all-listed test n f h, h n) refl

pub identifier-solid : (bytes : List ℕ) → list_all is_solid (identifier_word bytes) ≡ true
identifier-solid bytes = all-listed is_solid 36 _ (λ k. go k (is_hyphen_place k))
  where
    fields : List ℕ
    fields = swap_fields bytes

    go : (k : ℕ) (t : Bool)
        → is_solid (if t then 45 else hex_digit lower (nibble fields (digit_place k))) ≡ true
    go k true = refl
    go k false = digit-solid (nibble fields (digit_place k)) (nibble_small fields (digit_place k))
