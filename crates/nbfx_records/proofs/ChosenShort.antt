-- The text record that is chosen for a single value is no longer than another one of it, unless
-- that is in UTF-16.
use Rattle.std.proofs.Common.{◌≡◌, ℕ, zero, suc, ◌+◌, ◌*◌, ◌/◌, ◌^◌, ◌<◌, ◌≤◌, Bool, true, false}
use Rattle.std.proofs.Common.{List, [], ◌∷◌, length, drop, ℤ, pos, nat_lt, int_eq, sym, refl, ap}
use Rattle.std.proofs.Common.{◌∙◌, subst, inl, inr, arith, length-append, w8, w16, w32, w64}
use Rattle.std.proofs.{Common.ltb-false, Common.lt-ltb, Math.Nat.pow-suc}
use Rattle.std.proofs.lemmas.{Bool.cond_both, Nat.div_below}
use Rattle.std.specs.Int.{Width, byte_len, cast_signed, from_le_bytes}
use Rattle.multibyte_ints.proofs.Values.{value_of_below}
use Rattle.multibyte_ints.specs.Integer.{IsBytes, shortest, shortest_within, Spells}
use Rattle.nbfx_values.specs.{declared.scalars.Scalar.TheVariants.Number, Scalars.is_signed}
use Rattle.nbfx_records.specs.declared.kinds.{LengthForm.LengthForm, TextKind.TextKind}
use Rattle.nbfx_records.specs.declared.nodes.RawScalar.{RawScalar, TheVariants.Known}
use Rattle.nbfx_records.specs.Chosen.{chosen_number, chosen_scalar, chosen_text, counted_body}
use Rattle.nbfx_records.specs.Chosen.{least_form, TextRecord}
use Rattle.nbfx_records.specs.Records.{IsCounted, IsFixed, IsSixteen, SpellsAs}
use Rattle.nbfx_records.proofs.{NumberFacts.signed_true, ScalarBytes.decimal_size}
use Rattle.nbfx_records.proofs.ValidFacts.{below_16, below_32, below_8, bytes_front, in_16, in_32}
use Rattle.nbfx_records.proofs.ValidFacts.{in_8, number_below}
use Rattle.nbfx_records.specs.declared.kinds.TextKind.TheVariants as texts

-- the shortest spelling of an integer
within_shortest : (more j n : ℕ) → n < 128 ^ suc j → length (shortest_within more n) ≤ suc j
unfolding shortest_within
within_shortest zero j n lt = omega arith
within_shortest (suc more) zero n lt = rw (lt-ltb n 128 (omega (arith, lt))) (omega arith)
within_shortest (suc more) (suc j) n lt =
    let top : n < 128 ^ suc j * 128 = subst (λ (m : ℕ). n < m) (pow-suc 128 (suc j)) lt in
    let behind = within_shortest more j (n / 128) (div_below n 128 (128 ^ suc j) (omega arith) top)
    in
    cond_both (nat_lt n 128) _ _ (λ (b : List ℕ). length b ≤ suc (suc j)) (λ small. omega arith)
    (λ large. omega (arith, behind))

pub shortest_least : (n : ℕ) (b : List ℕ) → Spells n b → length (shortest n) ≤ length b
unfolding shortest
shortest_least n b h = by (length b) refl
  where
    by : (size : ℕ) → length b ≡ size → length (shortest_within 4 n) ≤ length b
    by zero e = absurd (omega (arith, h.some, e))
    by (suc j) e =
        let below : n < 128 ^ suc j = subst (λ (m : ℕ). n < 128 ^ m) e
        (subst (λ (m : ℕ). m < 128 ^ length b) (sym h.value) (value_of_below b)) in
        let short = within_shortest 4 j n below in
        omega (arith, short, e)

-- a number
abbrev OfLength : ℕ → TextRecord → Type 0
OfLength most it = length it.body ≤ most

number_8 : (z : ℤ) → is_signed 8 z ≡ true → OfLength 1 (chosen_number z)
number_8 z fits =
    let P : TextRecord → Type 0 = OfLength 1 in
    cond_both (int_eq z (pos 0)) _ _ P (λ e. omega arith) (λ not_zero.
    cond_both (int_eq z (pos 1)) _ _ P (λ e. omega arith) (λ not_one.
    cond_both (is_signed 8 z) _ _ P (λ e. omega arith) (λ wide. cc (fits, wide))))

number_16 : (z : ℤ) → is_signed 16 z ≡ true → OfLength 2 (chosen_number z)
number_16 z fits =
    let P : TextRecord → Type 0 = OfLength 2 in
    cond_both (int_eq z (pos 0)) _ _ P (λ e. omega arith) (λ not_zero.
    cond_both (int_eq z (pos 1)) _ _ P (λ e. omega arith) (λ not_one.
    cond_both (is_signed 8 z) _ _ P (λ e. omega arith) (λ wide.
    cond_both (is_signed 16 z) _ _ P (λ e. omega arith) (λ wider. cc (fits, wider)))))

number_32 : (z : ℤ) → is_signed 32 z ≡ true → OfLength 4 (chosen_number z)
number_32 z fits =
    let P : TextRecord → Type 0 = OfLength 4 in
    cond_both (int_eq z (pos 0)) _ _ P (λ e. omega arith) (λ not_zero.
    cond_both (int_eq z (pos 1)) _ _ P (λ e. omega arith) (λ not_one.
    cond_both (is_signed 8 z) _ _ P (λ e. omega arith) (λ wide.
    cond_both (is_signed 16 z) _ _ P (λ e. omega arith) (λ wider.
    cond_both (is_signed 32 z) _ _ P (λ e. omega arith) (λ widest. cc (fits, widest))))))

number_64 : (z : ℤ) → OfLength 8 (chosen_number z)
number_64 z =
    let P : TextRecord → Type 0 = OfLength 8 in
    cond_both (int_eq z (pos 0)) _ _ P (λ e. omega arith) (λ not_zero.
    cond_both (int_eq z (pos 1)) _ _ P (λ e. omega arith) (λ not_one.
    cond_both (is_signed 8 z) _ _ P (λ e. omega arith) (λ wide.
    cond_both (is_signed 16 z) _ _ P (λ e. omega arith) (λ wider.
    cond_both (is_signed 32 z) _ _ P (λ e. omega arith) (λ widest.
    cond_both (is_signed 64 z) _ _ P (λ e. omega arith) (λ unsigned. omega arith))))))

-- a length, and as many bytes
abbrev CountedIn : ℕ → List ℕ → LengthForm → Type 0
CountedIn most content form = length (counted_body form content) ≤ most + length content

counted_8 : (content : List ℕ) → length content < 2 ^ 8 → CountedIn 1 content
    (least_form (length content))
counted_8 content lt = cond_both (nat_lt (length content) (2 ^ 8)) _ _ (CountedIn 1 content)
    (λ e. omega arith) (λ e. absurd (omega (arith, lt, ltb-false (length content) (2 ^ 8) e)))

counted_16 : (content : List ℕ) → length content < 2 ^ 16 → CountedIn 2 content
    (least_form (length content))
counted_16 content lt =
    cond_both (nat_lt (length content) (2 ^ 8)) _ _ (CountedIn 2 content) (λ e. omega arith)
    (λ wide.
    cond_both (nat_lt (length content) (2 ^ 16)) _ _ (CountedIn 2 content) (λ e. omega arith)
    (λ e. absurd (omega (arith, lt, ltb-false (length content) (2 ^ 16) e))))

counted_32 : (content : List ℕ) → CountedIn 4 content (least_form (length content))
counted_32 content =
    cond_both (nat_lt (length content) (2 ^ 8)) _ _ (CountedIn 4 content) (λ e. omega arith)
    (λ wide.
    cond_both (nat_lt (length content) (2 ^ 16)) _ _ (CountedIn 4 content) (λ e. omega arith)
    (λ e. omega arith))

text_in : (most : ℕ) (s : List ℕ) → CountedIn most s (least_form (length s))
    → OfLength (most + length s) (chosen_text s)
text_in most [] h = omega arith
text_in most (c ∷ s) h = h

-- what a text record has behind its type byte
pub fixed_length : (byte : ℕ) (w : Width) (n : ℕ) (size : ℕ) (bytes : List ℕ) → byte_len w ≡ size
    → IsFixed byte w n bytes → length bytes ≡ suc size
fixed_length byte w n size bytes e (number, is, joined) = ap length joined ∙ ap suc (is.size ∙ e)

counted_length : (byte : ℕ) (w : Width) (size : ℕ) (content bytes : List ℕ) → byte_len w ≡ size
    → IsCounted byte w content bytes → length bytes ≡ suc (size + length content)
counted_length byte w size content bytes e is = ap length is.joined ∙ ap suc
    (length-append is.said content ∙ ap (λ n. n + length content) (is.is_length.size ∙ e))

said_below : (byte : ℕ) (w : Width) (top : ℕ) → ((b : List ℕ) → IsBytes b → from_le_bytes w b < top)
    → (content bytes : List ℕ) → IsBytes (drop 1 bytes) → IsCounted byte w content bytes
    → length content < top
said_below byte w top below content bytes are is =
    subst (λ (m : ℕ). m < top) is.is_length.value
    (below is.said (bytes_front is.said content (subst IsBytes (ap (drop 1) is.joined) are)))

pub sixteen_length : (byte : ℕ) (identifier bytes : List ℕ) → IsSixteen byte identifier bytes
    → length bytes ≡ 17
sixteen_length byte identifier bytes is = ap length is.1 ∙ ap suc is.0

abbrev pub BodyOf : RawScalar → ℕ
BodyOf value = length (chosen_scalar value).body

body_as : (value other : RawScalar) (most n : ℕ) → value ≡ other → BodyOf other ≤ most → n
    ≡ suc most → BodyOf value < n
body_as value other most n same le size = let is : BodyOf value
    ≡ BodyOf other = ap (λ (v : RawScalar). length (chosen_scalar v).body) same in omega
    (arith, is, le, size)

-- the kinds in UTF-16
abbrev pub of_utf16 : TextKind → Bool
of_utf16 texts.UnicodeChars8 = true
of_utf16 texts.UnicodeChars16 = true
of_utf16 texts.UnicodeChars32 = true
of_utf16 _ = false

pub spelled_long : (kind : TextKind) (value : RawScalar) (bytes : List ℕ) → of_utf16 kind ≡ false
    → IsBytes (drop 1 bytes) → SpellsAs kind value bytes → BodyOf value < length bytes
spelled_long texts.Zero value bytes plain are h = body_as value _ 0 (length bytes) h.0 (omega arith)
    (ap length h.1)
spelled_long texts.One value bytes plain are h = body_as value _ 0 (length bytes) h.0 (omega arith)
    (ap length h.1)
spelled_long texts.False value bytes plain are h = body_as value _ 0 (length bytes) h.0
    (omega arith) (ap length h.1)
spelled_long texts.True value bytes plain are h = body_as value _ 0 (length bytes) h.0 (omega arith)
    (ap length h.1)
spelled_long texts.Int8 value bytes plain are h =
    body_as value (Known (Number (cast_signed w8 h.0))) 1 (length bytes) h.1
    (number_8 (cast_signed w8 h.0)
    (signed_true w8 8 (cast_signed w8 h.0) refl
    (in_8 h.0 (number_below w8 (2 ^ 8) below_8 0x88 h.0 bytes are h.2))))
    (fixed_length 0x88 w8 h.0 1 bytes refl h.2)
spelled_long texts.Int16 value bytes plain are h =
    body_as value (Known (Number (cast_signed w16 h.0))) 2 (length bytes) h.1
    (number_16 (cast_signed w16 h.0)
    (signed_true w16 16 (cast_signed w16 h.0) refl
    (in_16 h.0 (number_below w16 (2 ^ 16) below_16 0x8a h.0 bytes are h.2))))
    (fixed_length 0x8a w16 h.0 2 bytes refl h.2)
spelled_long texts.Int32 value bytes plain are h =
    body_as value (Known (Number (cast_signed w32 h.0))) 4 (length bytes) h.1
    (number_32 (cast_signed w32 h.0)
    (signed_true w32 32 (cast_signed w32 h.0) refl
    (in_32 h.0 (number_below w32 (2 ^ 32) below_32 0x8c h.0 bytes are h.2))))
    (fixed_length 0x8c w32 h.0 4 bytes refl h.2)
spelled_long texts.Int64 value bytes plain are h = body_as value
    (Known (Number (cast_signed w64 h.0))) 8 (length bytes) h.1 (number_64 (cast_signed w64 h.0))
    (fixed_length 0x8e w64 h.0 8 bytes refl h.2)
spelled_long texts.Float value bytes plain are h = body_as value _ 4 (length bytes) h.1
    (omega arith) (fixed_length 0x90 w32 h.0 4 bytes refl h.2)
spelled_long texts.Double value bytes plain are h = body_as value _ 8 (length bytes) h.1
    (omega arith) (fixed_length 0x92 w64 h.0 8 bytes refl h.2)
spelled_long texts.Decimal value bytes plain are h =
    let is = h.3 in
    let known = h.2 ∙ ap Known is.is_value in
    body_as value _ 16 (length bytes) known (omega arith)
    (ap length h.4 ∙ ap suc (decimal_size h.0 h.1 is))
spelled_long texts.DateTime value bytes plain are h = body_as value _ 8 (length bytes) h.1
    (omega arith) (fixed_length 0x96 w64 h.0 8 bytes refl h.2)
spelled_long texts.Chars8 value bytes plain are h =
    body_as value _ (1 + length h.0) (length bytes) h.2
    (text_in 1 h.0 (counted_8 h.0 (said_below 0x98 w8 (2 ^ 8) below_8 h.0 bytes are h.3)))
    (counted_length 0x98 w8 1 h.0 bytes refl h.3)
spelled_long texts.Chars16 value bytes plain are h =
    body_as value _ (2 + length h.0) (length bytes) h.2
    (text_in 2 h.0 (counted_16 h.0 (said_below 0x9a w16 (2 ^ 16) below_16 h.0 bytes are h.3)))
    (counted_length 0x9a w16 2 h.0 bytes refl h.3)
spelled_long texts.Chars32 value bytes plain are h =
    body_as value _ (4 + length h.0.0) (length bytes) h.0.2 (text_in 4 h.0.0 (counted_32 h.0.0))
    (counted_length 0x9c w32 4 h.0.0 bytes refl h.0.3)
spelled_long texts.Bytes8 value bytes plain are h =
    body_as value _ (1 + length h.0) (length bytes) h.1
    (counted_8 h.0 (said_below 0x9e w8 (2 ^ 8) below_8 h.0 bytes are h.2))
    (counted_length 0x9e w8 1 h.0 bytes refl h.2)
spelled_long texts.Bytes16 value bytes plain are h =
    body_as value _ (2 + length h.0) (length bytes) h.1
    (counted_16 h.0 (said_below 0xa0 w16 (2 ^ 16) below_16 h.0 bytes are h.2))
    (counted_length 0xa0 w16 2 h.0 bytes refl h.2)
spelled_long texts.Bytes32 value bytes plain are h =
    body_as value _ (4 + length h.0.0) (length bytes) h.0.1 (counted_32 h.0.0)
    (counted_length 0xa2 w32 4 h.0.0 bytes refl h.0.2)
spelled_long texts.Empty value bytes plain are h = body_as value _ 0 (length bytes) h.0
    (omega arith) (ap length h.1)
spelled_long texts.Dictionary value bytes plain are h = body_as value _ (length h.1) (length bytes)
    h.2 (shortest_least h.0 h.1 h.3) (ap length h.4)
spelled_long texts.UniqueId value bytes plain are h = body_as value _ 16 (length bytes) h.1
    (omega (arith, h.2.0)) (sixteen_length 0xac h.0 bytes h.2)
spelled_long texts.TimeSpan value bytes plain are h = body_as value _ 8 (length bytes) h.1
    (omega arith) (fixed_length 0xae w64 h.0 8 bytes refl h.2)
spelled_long texts.Uuid value bytes plain are h = body_as value _ 16 (length bytes) h.1
    (omega (arith, h.2.0)) (sixteen_length 0xb0 h.0 bytes h.2)
spelled_long texts.UInt64 value bytes plain are h = body_as value (Known (Number (pos h.0))) 8
    (length bytes) h.1 (number_64 (pos h.0)) (fixed_length 0xb2 w64 h.0 8 bytes refl h.2)
spelled_long texts.Bool value bytes plain are (inl h) = body_as value _ 1 (length bytes) h.0
    (omega arith) (ap length h.1)
spelled_long texts.Bool value bytes plain are (inr h) = body_as value _ 1 (length bytes) h.0
    (omega arith) (ap length h.1)
spelled_long texts.UnicodeChars8 value bytes plain are h = cc plain
spelled_long texts.UnicodeChars16 value bytes plain are h = cc plain
spelled_long texts.UnicodeChars32 value bytes plain are h = cc plain
spelled_long texts.QNameDictionary value bytes plain are h =
    let short = shortest_least h.1 h.2 h.5 in
    body_as value _ (suc (length h.2)) (length bytes) h.4 (omega (arith, short)) (ap length h.6)
spelled_long texts.StartList value bytes plain are h = absurd h
spelled_long texts.EndList value bytes plain are h = absurd h
