-- Hexadecimal words.
use Rattle.std.proofs.Common.{◌≡◌, ℕ, zero, suc, ◌+◌, ◌-◌, ◌*◌, ◌/◌, ◌%◌, ◌^◌, ◌<◌, ◌≤◌, Bool, true}
use Rattle.std.proofs.Common.{false, ◌&&◌, ◌⊎◌, List, [], ◌∷◌, length, is_some, if◌then◌else◌}
use Rattle.std.proofs.Common.{nat_lt, ◌==◌, slice_index, Some, None, Ok, Err, All, Option, Result}
use Rattle.std.proofs.Common.{sym, refl, ap, ◌∙◌, subst, inl, inr, arith, w32, w64, ltb-true}
use Rattle.std.proofs.Common.{le-ltb, lt-ltb, le-leb}
use Rattle.std.proofs.lemmas.Bool.{and_parts, cases_lt, lt-leb}
use Rattle.std.proofs.lemmas.Nat.{be_bytes_4, be_bytes_8, from_be_bytes-to_be_bytes_4}
use Rattle.std.{proofs.lemmas.Nat.from_be_bytes-to_be_bytes_8, specs.Fmt.digit_glyph}
use Rattle.std.specs.Int.{Width, byte_at, bytes_high_first, from_be_bytes, to_be_bytes}
use Rattle.hex.proofs.HexLemmas.{decode_of-encode_lower, decode_sized-encode_lower, decode_sized-ok}
use Rattle.hex.proofs.{HexLemmas.length-encode_with, Pairs.cons_byte, Pairs.decode_pairs-ok_pair}
use Rattle.hex.specs.declared.error.FromHexError.{FromHexError}
use Rattle.hex.specs.declared.error.FromHexError.TheVariants.{InvalidStringLength, OddLength}
use Rattle.hex.specs.Hex.{decode_of, decode_pairs, decode_sized, encode_lower, encode_with}
use Rattle.hex.specs.Hex.{hex_digit_value, IsBytes, lower_digits, pair_value}
use Rattle.uuid.{proofs.TextLemmas.table_at, specs.Text.hex_digit, specs.Text.lower}
use Rattle.nbfx_values.specs.Scalars.{are_bytes, is_unsigned}
use Rattle.line_notation.specs.Numerals.{are_digits, bytes_in, bytes_sized, hexadecimal}
use Rattle.line_notation.specs.Numerals.{hexadecimal_in, ok}
use Rattle.line_notation.specs.{Options.◌>>=◌, Quoted.digit_in}
use Rattle.line_notation.proofs.{GatherFacts.some_same, HeldFacts.ok_same, TokenFacts.found}
use Rattle.line_notation.proofs.PiecesFacts.{digit_in-glyph, is_digit, IsDigit}

-- bytes, one by one
pub bytes-each : (bytes : List ℕ) → are_bytes bytes ≡ true → IsBytes bytes
bytes-each [] h i = omega arith
bytes-each (b ∷ bytes) h zero = ltb-true b 256 (and_parts (nat_lt b 256) (are_bytes bytes) h).0
bytes-each (b ∷ bytes) h (suc i) = bytes-each bytes (and_parts (nat_lt b 256) (are_bytes bytes) h).1
    i

pub bytes-all : (bytes : List ℕ) → are_bytes bytes ≡ true → All (λ b. b < 256) bytes
bytes-all [] h k d below = absurd (omega arith)
bytes-all (b ∷ bytes) h zero d below = ltb-true b 256
    (and_parts (nat_lt b 256) (are_bytes bytes) h).0
bytes-all (b ∷ bytes) h (suc k) d below = bytes-all bytes
    (and_parts (nat_lt b 256) (are_bytes bytes) h).1 k d (omega arith)

-- a digit of the table
pub table-glyph : (d : ℕ) → d < 16 → slice_index lower_digits d ≡ digit_glyph false d
table-glyph d small = table_at lower d 0 (inl refl) small ∙ go (cases_lt d 10)
  where
    go : (d < 10) ⊎ (10 ≤ d) → hex_digit lower d ≡ digit_glyph false d
    go (inl low) = rw (lt-ltb d 10 low) refl
    go (inr high) = let same : 97 + d - 10 ≡ 87 + d = omega arith in rw (le-ltb d 10 high) same

-- the digits of bytes are digits
pub encoded-digits : (bytes : List ℕ) → are_bytes bytes ≡ true → are_digits (encode_lower bytes)
    ≡ true
unfolding encode_with
encoded-digits [] h = refl
encoded-digits (b ∷ bytes) h =
    let p = and_parts (nat_lt b 256) (are_bytes bytes) h in
    let small = ltb-true b 256 p.0 in
    rw (
      table-glyph (b / 16) (omega (arith, small)),
      table-glyph (b % 16) (omega arith),
      digit_in-glyph (b / 16) (omega (arith, small)),
      digit_in-glyph (b % 16) (omega arith),
    )
    (encoded-digits bytes p.1)

-- digits that are read are those of the bytes
pub record AreOf (word bytes : List ℕ) : Type 0 where
  pub small : are_bytes bytes ≡ true
  pub word_is : word ≡ encode_lower bytes

value-same : (c d : ℕ) → digit_in c ≡ Some d → hex_digit_value c ≡ Some d
value-same c d e = let h = is_digit c d e in ap hex_digit_value h.glyph ∙ go h.small (cases_lt d 10)
  where
    go : d < 16 → (d < 10) ⊎ (10 ≤ d) → hex_digit_value (digit_glyph false d) ≡ Some d
    go small (inl low) =
        let same : 48 + d - 48 ≡ d = omega arith in
        rw (
          lt-ltb d 10 low,
          lt-leb 65 (48 + d) (omega arith),
          lt-leb 97 (48 + d) (omega arith),
          le-leb 48 (48 + d) (omega arith),
          le-leb (48 + d) 57 (omega arith),
        ) (ap Some same)
    go small (inr high) =
        let same : 87 + d - 87 ≡ d = omega arith in
        rw (
          le-ltb d 10 high,
          le-leb 65 (87 + d) (omega arith),
          lt-leb (87 + d) 70 (omega arith),
          le-leb 97 (87 + d) (omega arith),
          le-leb (87 + d) 102 (omega arith),
        ) (ap Some same)

pair-same : (c d h l i : ℕ) → digit_in c ≡ Some h → digit_in d ≡ Some l → pair_value c d i
    ≡ Ok (h * 16 + l)
pair-same c d h l i e f = rw (value-same c h e, value-same d l f) refl

-- a digit has a value
record HasValue (c : ℕ) : Type 0 where
  digit : ℕ
  is : digit_in c ≡ Some digit

has_value : (c : ℕ) → is_some (digit_in c) ≡ true → HasValue c
has_value c h = go (digit_in c) refl h
  where
    go : (read : Option ℕ) → digit_in c ≡ read → is_some read ≡ true → HasValue c
    go None e h = absurd cc
    go (Some d) e h = record { digit = d; is = e }

-- a byte in front
byte-before : (c d h l : ℕ) (rest more : List ℕ) → IsDigit c h → IsDigit d l → AreOf rest more
    → AreOf (c ∷ d ∷ rest) ((h * 16 + l) ∷ more)
unfolding encode_with
byte-before c d h l rest more p q are =
    let s = p.small in
    let t = q.small in
    let high : (h * 16 + l) / 16 ≡ h = omega arith in
    let low : (h * 16 + l) % 16 ≡ l = omega arith in
    let byte = lt-ltb (h * 16 + l) 256 (omega arith) in
    record {
      small = rw (byte, are.small) refl;
      word_is =
          rw (high, low, table-glyph h s, table-glyph l t)
          (ap (λ b. b ∷ d ∷ rest) p.glyph ∙ ap (λ b. digit_glyph false h ∷ b ∷ rest) q.glyph ∙
          ap (λ r. digit_glyph false h ∷ digit_glyph false l ∷ r) are.word_is);
    }

decoded-same : (i : ℕ) (word bytes : List ℕ) → are_digits word ≡ true → decode_pairs i word
    ≡ Ok bytes → AreOf word bytes
unfolding decode_pairs encode_with
decoded-same i [] bytes h e = subst (AreOf []) (ok_same e) (record { small = refl; word_is = refl })
decoded-same i (c ∷ []) bytes h e = absurd cc
decoded-same i (c ∷ d ∷ rest) bytes h e =
    let p = and_parts (is_some (digit_in c)) (is_some (digit_in d) && are_digits rest) h in
    let q = and_parts (is_some (digit_in d)) (are_digits rest) p.1 in
    let high = has_value c p.0 in
    let low = has_value d q.0 in
    let pair = decode_pairs-ok_pair i c d (high.digit * 16 + low.digit) rest
    (pair-same c d high.digit low.digit i high.is low.is) in
    go (high.digit) (low.digit) (is_digit c high.digit high.is) (is_digit d low.digit low.is)
    (decode_pairs (i + 2) rest) (λ more f. decoded-same (i + 2) rest more q.1 f) (sym pair ∙ e)
  where
    go : (h l : ℕ) → IsDigit c h → IsDigit d l → (r : Result (List ℕ) FromHexError)
        → ((more : List ℕ) → r ≡ Ok more → AreOf rest more)
        → cons_byte (h * 16 + l) r ≡ Ok bytes → AreOf (c ∷ d ∷ rest) bytes
    go h l p q (Err wrong) inner e = absurd cc
    go h l p q (Ok more) inner e = subst (AreOf (c ∷ d ∷ rest)) (ok_same e)
        (byte-before c d h l rest more p q (inner more refl))

-- bytes out of their digits, and back
ok-some : {A E : Type 0} (r : Result A E) (a : A) → ok r ≡ Some a → r ≡ Ok a
ok-some (Ok b) a e = ap Ok (some_same e)
ok-some (Err wrong) a e = absurd cc

pub bytes_in-encoded : (bytes : List ℕ) → are_bytes bytes ≡ true → bytes_in (encode_lower bytes)
    ≡ Some bytes
bytes_in-encoded bytes small = rw (encoded-digits bytes small)
    (ap ok (decode_of-encode_lower bytes (bytes-each bytes small)))

pub encoded-bytes_in : (word bytes : List ℕ) → bytes_in word ≡ Some bytes → AreOf word bytes
encoded-bytes_in word bytes e = go (are_digits word) refl e
  where
    inner : (t : Bool) → (length word % 2 == 1) ≡ t → are_digits word ≡ true
        → (if t then Err OddLength else decode_pairs 0 word) ≡ Ok bytes → AreOf word bytes
    inner true f h e = absurd cc
    inner false f h e = decoded-same 0 word bytes h e

    go : (t : Bool) → are_digits word ≡ t → (if t then ok (decode_of word) else None) ≡ Some bytes
        → AreOf word bytes
    go true f e = inner (length word % 2 == 1) refl f (ok-some (decode_of word) bytes e)
    go false f e = absurd cc

sized-encoded : (n : ℕ) (bytes : List ℕ) → are_bytes bytes ≡ true → length bytes ≡ n
    → bytes_sized n (encode_lower bytes) ≡ Some bytes
sized-encoded n bytes small count = rw (encoded-digits bytes small)
    (ap ok (decode_sized-encode_lower bytes n count (bytes-each bytes small)))

-- so many bytes
record AreSized (n : ℕ) (word bytes : List ℕ) : Type 0 where
  count : length bytes ≡ n
  are : AreOf word bytes

encoded-sized : (n : ℕ) (word bytes : List ℕ) → bytes_sized n word ≡ Some bytes → AreSized n word
    bytes
encoded-sized n word bytes e = go (are_digits word) refl e
  where
    counted : AreOf word bytes → length word ≡ 2 * n → length bytes ≡ n
    counted are twice = let e = ap length are.word_is ∙ length-encode_with lower_digits bytes in
        omega (arith, e, twice)

    inner : (s t : Bool) → decode_sized word n ≡ Ok bytes → are_digits word ≡ true
        → (if s then Err OddLength else if t then decode_pairs 0 word else Err InvalidStringLength)
        ≡ Ok bytes → AreSized n word bytes
    inner true t all h e = absurd cc
    inner false true all h e = let are = decoded-same 0 word bytes h e in record
        { count = counted are (decode_sized-ok word n bytes all); are = are }
    inner false false all h e = absurd cc

    go : (t : Bool) → are_digits word ≡ t → (if t then ok (decode_sized word n) else None)
        ≡ Some bytes → AreSized n word bytes
    go true f e = let all = ok-some (decode_sized word n) bytes e in inner (length word % 2 == 1)
        (length word / 2 == n) all f all
    go false f e = absurd cc

-- numbers of 32 and of 64 bits
pub high-bytes : (k n : ℕ) → are_bytes (bytes_high_first k n) ≡ true
high-bytes zero n = refl
high-bytes (suc k) n = rw (lt-ltb (byte_at k n) 256 (byte k)) (high-bytes k n)
  where
    small : (m : ℕ) → m % 256 < 256
    small m = omega arith

    byte : (k : ℕ) → byte_at k n < 256
    byte zero = small n
    byte (suc i) = small (n / 256 ^ suc i)

pub hexadecimal_in-32 : (n : ℕ) → is_unsigned 32 n ≡ true → hexadecimal_in w32 (hexadecimal w32 n)
    ≡ Some n
hexadecimal_in-32 n small =
    ap (λ read. read >>= λ bytes. Some (from_be_bytes w32 bytes))
    (sized-encoded 4 (to_be_bytes w32 n) (high-bytes 4 n) refl)
    ∙ ap Some (from_be_bytes-to_be_bytes_4 n (ltb-true n (2 ^ 32) small))

pub hexadecimal_in-64 : (n : ℕ) → is_unsigned 64 n ≡ true → hexadecimal_in w64 (hexadecimal w64 n)
    ≡ Some n
hexadecimal_in-64 n small =
    ap (λ read. read >>= λ bytes. Some (from_be_bytes w64 bytes))
    (sized-encoded 8 (to_be_bytes w64 n) (high-bytes 8 n) refl)
    ∙ ap Some (from_be_bytes-to_be_bytes_8 n (ltb-true n (2 ^ 64) small))

value-32 : (bytes : List ℕ) → IsBytes bytes → from_be_bytes w32 bytes < 2 ^ 32
value-32 bytes h = let a = h 0 in let b = h 1 in let c = h 2 in let d = h 3 in omega arith

value-64 : (bytes : List ℕ) → IsBytes bytes → from_be_bytes w64 bytes < 2 ^ 64
value-64 bytes h =
    let a = h 0 in let b = h 1 in let c = h 2 in let d = h 3 in
    let e = h 4 in let f = h 5 in let g = h 6 in let i = h 7 in
    omega arith

-- a word that writes a number in so many bits
pub record IsHexadecimal (w : Width) (bits n : ℕ) (word : List ℕ) : Type 0 where
  pub small : is_unsigned bits n ≡ true
  pub word_is : word ≡ hexadecimal w n

pub is_hexadecimal-32 : (n : ℕ) (word : List ℕ) → hexadecimal_in w32 word ≡ Some n
    → IsHexadecimal w32 32 n word
is_hexadecimal-32 n word e =
    let b = found (bytes_sized 4 word) (λ bytes. Some (from_be_bytes w32 bytes)) n e in
    let s = encoded-sized 4 word b.value b.read_is in
    let value = some_same b.step_is in
    let same : to_be_bytes w32 n ≡ b.value = be_bytes_4 b.value n s.count
    (bytes-each b.value s.are.small) (sym value) in
    record {
      small = lt-ltb n (2 ^ 32)
          (subst (λ m. m < 2 ^ 32) value (value-32 b.value (bytes-each b.value s.are.small)));
      word_is =
          s.are.word_is ∙ ap encode_lower (sym same);
    }

pub is_hexadecimal-64 : (n : ℕ) (word : List ℕ) → hexadecimal_in w64 word ≡ Some n
    → IsHexadecimal w64 64 n word
is_hexadecimal-64 n word e =
    let b = found (bytes_sized 8 word) (λ bytes. Some (from_be_bytes w64 bytes)) n e in
    let s = encoded-sized 8 word b.value b.read_is in
    let value = some_same b.step_is in
    let same : to_be_bytes w64 n ≡ b.value = be_bytes_8 b.value n s.count
    (bytes-each b.value s.are.small) (sym value) in
    record {
      small = lt-ltb n (2 ^ 64)
          (subst (λ m. m < 2 ^ 64) value (value-64 b.value (bytes-each b.value s.are.small)));
      word_is =
          s.are.word_is ∙ ap encode_lower (sym same);
    }
