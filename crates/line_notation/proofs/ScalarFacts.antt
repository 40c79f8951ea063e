-- Words write a value that is no list exactly where it is read out of them.
use Rattle.std.proofs.Common.{◌≡◌, ℕ, ◌+◌, ◌-◌, ◌<◌, ◌≤◌, Bool, true, false, ◌&&◌, List, [], ◌∷◌}
use Rattle.std.proofs.Common.{◌++◌, if◌then◌else◌, nat_lt, nat_le, Some, None, codes, Option, find}
use Rattle.std.proofs.Common.{bytes_eq, sym, refl, ap, ◌∙◌, subst, arith, w32, w64, ltb-true}
use Rattle.std.proofs.Common.{lt-ltb, le-leb, leb-true}
use Rattle.std.proofs.lemmas.{Bool.and_parts, Slice.Eq.bytes_eq-Decides}
use Rattle.{hex.specs.Hex.encode_lower, nbfx_values.specs.Scalars.are_bytes}
use Rattle.nbfx_values.specs.declared.scalars.{Dec.Dec, Scalar.Scalar}
use Rattle.nbfx_values.specs.declared.scalars.Scalar.TheVariants.{Bytes, DateTime, Decimal, Double}
use Rattle.nbfx_values.specs.declared.scalars.Scalar.TheVariants.{Float, Number, QName, Text}
use Rattle.nbfx_values.specs.declared.scalars.Scalar.TheVariants.{TimeSpan, Truth, UniqueId, Uuid}
use Rattle.line_notation.specs.{declared.scalars.ScalarKind.ScalarKind, Options.◌>>=◌}
use Rattle.line_notation.specs.Numerals.{bytes_in, hexadecimal, hexadecimal_in, integer_in}
use Rattle.line_notation.specs.{Numerals.natural_in, Quoted.between_quotes, Quoted.quoted_in}
use Rattle.line_notation.specs.Scalars.{bytes_in_quotes, decimal_at, decimal_of, digits_in_quotes}
use Rattle.line_notation.specs.Scalars.{identifier_in, identifier_word, IsScalar, letter_in}
use Rattle.line_notation.specs.Scalars.{letter_word, name_at, one_word, scalar_at, scalar_kind_in}
use Rattle.line_notation.specs.Scalars.{scalar_kind_word, scalar_kinds, sign_in, sign_word}
use Rattle.line_notation.specs.Scalars.{truth_in, truth_word, valued}
use Rattle.line_notation.specs.Values.{plain_at, scalar, Token, token_at}
use Rattle.line_notation.proofs.{GatherFacts.some_same, TokenFacts.found}
use Rattle.line_notation.proofs.HexFacts.{bytes_in-encoded, encoded-bytes_in, hexadecimal_in-32}
use Rattle.line_notation.proofs.HexFacts.{hexadecimal_in-64, is_hexadecimal-32, is_hexadecimal-64}
use Rattle.line_notation.proofs.IdentifierFacts.{identifier_in-word, is_identifier-word}
use Rattle.line_notation.proofs.NaturalFacts.{integer-integer_in, integer_in-integer}
use Rattle.line_notation.proofs.NaturalFacts.{natural-natural_in, natural_in-natural}
use Rattle.line_notation.proofs.PiecesFacts.{between-quoted, quoted-between, quoted-quoted_in}
use Rattle.line_notation.proofs.PiecesFacts.{quoted_in-quoted}
use Rattle.line_notation.specs.declared.scalars.ScalarKind.TheVariants as kinds

-- what one word writes
one-read : {A : Type 0} (read : List ℕ → Option A) (word : List ℕ) (rest : List (List ℕ)) (a : A)
    → read word ≡ Some a → one_word read (word ∷ rest) ≡ Some (a, rest)
one-read read word rest a e = rw e refl

valued-read : {A : Type 0} (make : A → Scalar) (read : List ℕ → Option A) (word : List ℕ)
    (rest : List (List ℕ)) (a : A) → read word ≡ Some a
    → valued make read (word ∷ rest) ≡ Some (make a, rest)
valued-read make read word rest a e = rw e refl

pub record HasWord {A : Type 0} (read : List ℕ → Option A) (words rest : List (List ℕ)) (a : A) :
    Type 0 where
  pub word : List ℕ
  pub words_are : words ≡ word ∷ rest
  pub read_is : read word ≡ Some a

pub has_word : {A : Type 0} (read : List ℕ → Option A) (words rest : List (List ℕ)) (a : A)
    → one_word read words ≡ Some (a, rest) → HasWord read words rest a
has_word read [] rest a e = absurd cc
has_word {A = A} read (word ∷ words) rest a e =
    let f = found (read word) (λ a. Some (a, words)) (a, rest) e in
    let same : (f.value, words) ≡ (a, rest) = some_same f.step_is in
    record {
      word = word;
      words_are = ap (λ (p : A × List (List ℕ)). word ∷ p.1) same;
      read_is =
          f.read_is ∙ ap (λ (p : A × List (List ℕ)). Some p.0) same;
    }

-- what a value of one word is made of
record IsMadeOf {A : Type 0} (make : A → Scalar) (read : List ℕ → Option A)
    (words rest : List (List ℕ)) (s : Scalar) : Type 0 where
  a : A
  word : HasWord read words rest a
  made : make a ≡ s

made_of : {A : Type 0} (make : A → Scalar) (read : List ℕ → Option A) (words rest : List (List ℕ))
    (s : Scalar) → valued make read words ≡ Some (s, rest) → IsMadeOf make read words rest s
made_of {A = A} make read words rest s e =
    let f = found (one_word read words) (λ one. Some (make one.0, one.1)) (s, rest) e in
    let same : (make f.value.0, f.value.1) ≡ (s, rest) = some_same f.step_is in
    let left : f.value.1 ≡ rest = ap (λ (p : Scalar × List (List ℕ)). p.1) same in
    record {
      a = f.value.0;
      word = has_word read words rest f.value.0 (f.read_is ∙ ap (λ l. Some (f.value.0, l)) left);
      made = ap (λ (p : Scalar × List (List ℕ)). p.0) same;
    }

-- the signs, truth values and letters
truth-read : (truth : Bool) → truth_in (truth_word truth) ≡ Some truth
truth-read true = refl
truth-read false = refl

sign-read : (negative : Bool) → sign_in (sign_word negative) ≡ Some negative
sign-read true = refl
sign-read false = refl

one-of-two : (word a b : List ℕ) (t : Bool)
    → (if bytes_eq word a then Some true else if bytes_eq word b then Some false else None) ≡ Some t
    → word ≡ (if t then a else b)
one-of-two word a b t e = go (bytes_eq word a) (bytes_eq word b) refl refl e
  where
    go : (x y : Bool) → bytes_eq word a ≡ x → bytes_eq word b ≡ y
        → (if x then Some true else if y then Some false else None) ≡ Some t → word
        ≡ (if t then a else b)
    go true y f g e = (bytes_eq-Decides word a).0 f ∙ ap (λ t. if t then a else b) (some_same e)
    go false true f g e = (bytes_eq-Decides word b).0 g ∙ ap (λ t. if t then a else b) (some_same e)
    go false false f g e = absurd cc

truth-is : (word : List ℕ) (truth : Bool) → truth_in word ≡ Some truth → word ≡ truth_word truth
truth-is word true e = one-of-two word (codes "true") (codes "false") true e
truth-is word false e = one-of-two word (codes "true") (codes "false") false e

sign-is : (word : List ℕ) (negative : Bool) → sign_in word ≡ Some negative → word
    ≡ sign_word negative
sign-is word true e = one-of-two word (codes "-") (codes "+") true e
sign-is word false e = one-of-two word (codes "-") (codes "+") false e

letter-read : (letter : ℕ) → letter ≤ 25 → letter_in (letter_word letter) ≡ Some letter
letter-read letter small =
    let same : 97 + letter - 97 ≡ letter = omega arith in
    rw (le-leb 97 (97 + letter) (omega arith), lt-ltb (97 + letter) 123 (omega arith))
    (ap Some same)

record IsLetter (letter : ℕ) (word : List ℕ) : Type 0 where
  small : letter ≤ 25
  word_is : word ≡ letter_word letter

letter-is : (word : List ℕ) (letter : ℕ) → letter_in word ≡ Some letter → IsLetter letter word
letter-is [] letter e = absurd cc
letter-is (c ∷ []) letter e = go (nat_le 97 c && nat_lt c 123) refl e
  where
    inner : 97 ≤ c → c < 123 → c - 97 ≡ letter → IsLetter letter (c ∷ [])
    inner least most e = let same : c ≡ 97 + letter = omega (arith, e) in record
        { small = omega (arith, e); word_is = ap (λ b. b ∷ []) same }

    go : (t : Bool) → (nat_le 97 c && nat_lt c 123) ≡ t → (if t then Some (c - 97) else None)
        ≡ Some letter → IsLetter letter (c ∷ [])
    go true f e = let p = and_parts (nat_le 97 c) (nat_lt c 123) f in inner (leb-true 97 c p.0)
        (ltb-true c 123 p.1) (some_same e)
    go false f e = absurd cc
letter-is (c ∷ d ∷ more) letter e = absurd cc

-- bytes in quotes
bytes-read : (bytes : List ℕ) → are_bytes bytes ≡ true → bytes_in_quotes (digits_in_quotes bytes)
    ≡ Some bytes
bytes-read bytes small = ap (λ read. read >>= bytes_in) (between-quoted (encode_lower bytes)) ∙
    bytes_in-encoded bytes small

record AreInQuotes (bytes word : List ℕ) : Type 0 where
  small : are_bytes bytes ≡ true
  word_is : word ≡ digits_in_quotes bytes

bytes-are : (word bytes : List ℕ) → bytes_in_quotes word ≡ Some bytes → AreInQuotes bytes word
bytes-are word bytes e =
    let b = found (between_quotes word) bytes_in bytes e in
    let are = encoded-bytes_in b.value bytes b.step_is in
    record {
      small = are.small;
      word_is = quoted-between word b.value b.read_is ∙
          ap (λ inner. 34 ∷ inner ++ 34 ∷ []) are.word_is;
    }

-- a value, behind the word that names its kind
token-named : (kind : ScalarKind) (words rest : List (List ℕ)) (s : Scalar) → scalar_at kind words
    ≡ Some (s, rest)
    → token_at (scalar_kind_word kind ∷ words) ≡ Some (scalar s, rest)
token-named kinds.Number words rest s e = ap (λ read. read >>= λ s. Some (scalar s.0, s.1)) e
token-named _ words rest s e = ap (λ read. read >>= λ s. Some (scalar s.0, s.1)) e

-- a value's words in front of others
decimal-read : (d : Dec) (scale magnitude : List ℕ) (rest : List (List ℕ)) → natural_in scale
    ≡ Some d.scale → natural_in magnitude ≡ Some d.magnitude
    → decimal_at (scale ∷ sign_word d.negative ∷ magnitude ∷ rest) ≡ Some (Decimal d, rest)
decimal-read d scale magnitude rest s m = rw (s, sign-read d.negative, m) refl

name-read : (letter : ℕ) (name word : List ℕ) (rest : List (List ℕ)) → letter ≤ 25 → quoted_in word
    ≡ Some name → name_at (letter_word letter ∷ word ∷ rest) ≡ Some (QName letter name, rest)
name-read letter name word rest small e =
    ap (λ read. read >>= λ l. one_word quoted_in l.1 >>= λ n. Some (QName l.0 n.0, n.1))
    (one-read letter_in (letter_word letter) (word ∷ rest) letter (letter-read letter small))
    ∙ ap (λ read. read >>= λ n. Some (QName letter n.0, n.1)) (one-read quoted_in word rest name e)

pub scalar-token : (s : Scalar) (own rest : List (List ℕ)) → IsScalar s own → token_at (own ++ rest)
    ≡ Some (scalar s, rest)
scalar-token (Number n) own rest (word, e, h) =
    ap (λ w. token_at (w ++ rest)) e ∙ token-named kinds.Number (word ∷ rest) rest (Number n)
    (valued-read Number integer_in word rest n (integer_in-integer n word h))
scalar-token (Truth truth) own rest e =
    ap (λ w. token_at (w ++ rest)) e
    ∙ token-named kinds.Truth (truth_word truth ∷ rest) rest (Truth truth)
    (valued-read Truth truth_in (truth_word truth) rest truth (truth-read truth))
scalar-token (Float bits) own rest (small, e) =
    ap (λ w. token_at (w ++ rest)) e
    ∙ token-named kinds.Float (hexadecimal w32 bits ∷ rest) rest (Float bits)
    (valued-read Float (hexadecimal_in w32) (hexadecimal w32 bits) rest bits
    (hexadecimal_in-32 bits small))
scalar-token (Double bits) own rest (small, e) =
    ap (λ w. token_at (w ++ rest)) e
    ∙ token-named kinds.Double (hexadecimal w64 bits ∷ rest) rest (Double bits)
    (valued-read Double (hexadecimal_in w64) (hexadecimal w64 bits) rest bits
    (hexadecimal_in-64 bits small))
scalar-token (Decimal d) own rest (scale, magnitude, e, s, m) =
    ap (λ w. token_at (w ++ rest)) e
    ∙ token-named kinds.Decimal (scale ∷ sign_word d.negative ∷ magnitude ∷ rest) rest (Decimal d)
    (decimal-read d scale magnitude rest (natural_in-natural d.scale scale s)
    (natural_in-natural d.magnitude magnitude m))
scalar-token (DateTime pattern) own rest (small, e) =
    ap (λ w. token_at (w ++ rest)) e
    ∙ token-named kinds.DateTime (hexadecimal w64 pattern ∷ rest) rest (DateTime pattern)
    (valued-read DateTime (hexadecimal_in w64) (hexadecimal w64 pattern) rest pattern
    (hexadecimal_in-64 pattern small))
scalar-token (TimeSpan span) own rest (word, e, h) =
    ap (λ w. token_at (w ++ rest)) e
    ∙ token-named kinds.TimeSpan (word ∷ rest) rest (TimeSpan span)
    (valued-read TimeSpan integer_in word rest span (integer_in-integer span word h))
scalar-token (Text text) own rest (word, e, h) =
    ap (λ w. token_at (w ++ rest)) e ∙ token-named kinds.Text (word ∷ rest) rest (Text text)
    (valued-read Text quoted_in word rest text (quoted_in-quoted text word h))
scalar-token (Bytes bytes) own rest (small, e) =
    ap (λ w. token_at (w ++ rest)) e
    ∙ token-named kinds.Bytes (digits_in_quotes bytes ∷ rest) rest (Bytes bytes)
    (valued-read Bytes bytes_in_quotes (digits_in_quotes bytes) rest bytes (bytes-read bytes small))
scalar-token (UniqueId bytes) own rest (valid, e) =
    ap (λ w. token_at (w ++ rest)) e
    ∙ token-named kinds.UniqueId (identifier_word bytes ∷ rest) rest (UniqueId bytes)
    (valued-read UniqueId identifier_in (identifier_word bytes) rest bytes
    (identifier_in-word bytes valid))
scalar-token (Uuid bytes) own rest (valid, e) =
    ap (λ w. token_at (w ++ rest)) e
    ∙ token-named kinds.Uuid (identifier_word bytes ∷ rest) rest (Uuid bytes)
    (valued-read Uuid identifier_in (identifier_word bytes) rest bytes
    (identifier_in-word bytes valid))
scalar-token (QName letter name) own rest (small, word, e, h) =
    ap (λ w. token_at (w ++ rest)) e
    ∙ token-named kinds.QName (letter_word letter ∷ word ∷ rest) rest (QName letter name)
    (name-read letter name word rest small (quoted_in-quoted name word h))

-- the words of a value that is read
pub record IsScalarOf (kind : ScalarKind) (words rest : List (List ℕ)) (s : Scalar) : Type 0 where
  pub own : List (List ℕ)
  pub words_are : words ≡ own ++ rest
  pub is : IsScalar s (scalar_kind_word kind ∷ own)

-- a value of one word
by-word : {A : Type 0} (kind : ScalarKind) (make : A → Scalar) (read : List ℕ → Option A)
    (words rest : List (List ℕ)) (s : Scalar)
    → ((a : A) (word : List ℕ) → read word ≡ Some a → IsScalar (make a)
    (scalar_kind_word kind ∷ word ∷ [])) → valued make read words ≡ Some (s, rest)
    → IsScalarOf kind words rest s
by-word kind make read words rest s each e =
    let m = made_of make read words rest s e in
    record {
      own = m.word.word ∷ [];
      words_are = m.word.words_are;
      is = subst (λ s. IsScalar s (scalar_kind_word kind ∷ m.word.word ∷ [])) m.made
          (each m.a m.word.word m.word.read_is);
    }

decimal-is : (words rest : List (List ℕ)) (s : Scalar) → decimal_at words ≡ Some (s, rest)
    → IsScalarOf kinds.Decimal words rest s
decimal-is words rest s e =
    let a = found (one_word natural_in words) _ (s, rest) e in
    let b = found (one_word sign_in a.value.1) _ (s, rest) a.step_is in
    let d = found (one_word natural_in b.value.1) _ (s, rest) b.step_is in
    inner a.value.0 b.value.0 d.value.0 (has_word natural_in words a.value.1 a.value.0 a.read_is)
    (has_word sign_in a.value.1 b.value.1 b.value.0 b.read_is)
    (has_word natural_in b.value.1 d.value.1 d.value.0 d.read_is) (some_same d.step_is)
  where
    inner : (scale : ℕ) (negative : Bool) (magnitude : ℕ) {left more behind : List (List ℕ)}
        → HasWord natural_in words left scale → HasWord sign_in left more negative
        → HasWord natural_in more behind magnitude → ◌≡◌ {A = Scalar × List (List ℕ)}
        (Decimal (decimal_of scale negative magnitude), behind) (s, rest) → IsScalarOf kinds.Decimal
        words rest s
    inner scale negative magnitude {left = left} {more = more} {behind = behind} a b d e =
        let made = ap (λ (p : Scalar × List (List ℕ)). p.0) e in
        let last = ap (λ (p : Scalar × List (List ℕ)). p.1) e in
        record {
          own = a.word ∷ b.word ∷ d.word ∷ [];
          words_are = a.words_are ∙ ap (λ l. a.word ∷ l)
              (b.words_are ∙ ap (λ l. b.word ∷ l) (d.words_are ∙ ap (λ l. d.word ∷ l) last));
          is = subst (λ s. IsScalar s (codes "decimal" ∷ a.word ∷ b.word ∷ d.word ∷ [])) made (
            a.word,
            d.word,
            ap (λ w. codes "decimal" ∷ a.word ∷ w ∷ d.word ∷ [])
                (sign-is b.word negative b.read_is),
            natural-natural_in scale a.word a.read_is,
            natural-natural_in magnitude d.word d.read_is,
          );
        }

name-is : (words rest : List (List ℕ)) (s : Scalar) → name_at words ≡ Some (s, rest)
    → IsScalarOf kinds.QName words rest s
name-is words rest s e =
    let a = found (one_word letter_in words) _ (s, rest) e in
    let b = found (one_word quoted_in a.value.1) _ (s, rest) a.step_is in
    inner a.value.0 b.value.0 (has_word letter_in words a.value.1 a.value.0 a.read_is)
    (has_word quoted_in a.value.1 b.value.1 b.value.0 b.read_is) (some_same b.step_is)
  where
    inner : (letter : ℕ) (name : List ℕ) {left behind : List (List ℕ)} → HasWord letter_in words
        left letter → HasWord quoted_in left behind name
        → ◌≡◌ {A = Scalar × List (List ℕ)} (QName letter name, behind) (s, rest)
        → IsScalarOf kinds.QName words rest s
    inner letter name {left = left} {behind = behind} a b e =
        let made = ap (λ (p : Scalar × List (List ℕ)). p.0) e in
        let last = ap (λ (p : Scalar × List (List ℕ)). p.1) e in
        let l = letter-is a.word letter a.read_is in
        record {
          own = a.word ∷ b.word ∷ [];
          words_are = a.words_are ∙ ap (λ l. a.word ∷ l) (b.words_are ∙ ap (λ l. b.word ∷ l) last);
          is = subst (λ s. IsScalar s (codes "qname" ∷ a.word ∷ b.word ∷ [])) made (
            l.small,
            b.word,
            ap (λ w. codes "qname" ∷ w ∷ b.word ∷ []) l.word_is,
            quoted-quoted_in name b.word b.read_is,
          );
        }

scalar-is : (kind : ScalarKind) (words rest : List (List ℕ)) (s : Scalar) → scalar_at kind words
    ≡ Some (s, rest) → IsScalarOf kind words rest s
scalar-is kinds.Number words rest s e = by-word kinds.Number Number integer_in words rest s
    (λ n word f. (word, refl, integer-integer_in n word f)) e
scalar-is kinds.Truth words rest s e = by-word kinds.Truth Truth truth_in words rest s
    (λ t word f. ap (λ w. codes "truth" ∷ w ∷ []) (truth-is word t f)) e
scalar-is kinds.Float words rest s e =
    by-word kinds.Float Float (hexadecimal_in w32) words rest s
    (λ n word f. let h = is_hexadecimal-32 n word f in
    (h.small, ap (λ w. codes "float" ∷ w ∷ []) h.word_is)) e
scalar-is kinds.Double words rest s e =
    by-word kinds.Double Double (hexadecimal_in w64) words rest s
    (λ n word f. let h = is_hexadecimal-64 n word f in
    (h.small, ap (λ w. codes "double" ∷ w ∷ []) h.word_is)) e
scalar-is kinds.Decimal words rest s e = decimal-is words rest s e
scalar-is kinds.DateTime words rest s e =
    by-word kinds.DateTime DateTime (hexadecimal_in w64) words rest s
    (λ n word f. let h = is_hexadecimal-64 n word f in
    (h.small, ap (λ w. codes "datetime" ∷ w ∷ []) h.word_is)) e
scalar-is kinds.TimeSpan words rest s e = by-word kinds.TimeSpan TimeSpan integer_in words rest s
    (λ n word f. (word, refl, integer-integer_in n word f)) e
scalar-is kinds.Text words rest s e = by-word kinds.Text Text quoted_in words rest s
    (λ text word f. (word, refl, quoted-quoted_in text word f)) e
scalar-is kinds.Bytes words rest s e =
    by-word kinds.Bytes Bytes bytes_in_quotes words rest s
    (λ bytes word f. let h = bytes-are word bytes f in
    (h.small, ap (λ w. codes "bytes" ∷ w ∷ []) h.word_is)) e
scalar-is kinds.UniqueId words rest s e =
    by-word kinds.UniqueId UniqueId identifier_in words rest s
    (λ bytes word f. let h = is_identifier-word word bytes f in
    (h.identifier, ap (λ w. codes "id" ∷ w ∷ []) h.word_is)) e
scalar-is kinds.Uuid words rest s e =
    by-word kinds.Uuid Uuid identifier_in words rest s
    (λ bytes word f. let h = is_identifier-word word bytes f in
    (h.identifier, ap (λ w. codes "uuid" ∷ w ∷ []) h.word_is)) e
scalar-is kinds.QName words rest s e = name-is words rest s e

-- a name that is found in a list is the word
pub named : {A : Type 0} (name : A → List ℕ) (word : List ℕ) (all : List A) (a : A)
    → find (λ a. bytes_eq (name a) word) all ≡ Some a → word ≡ name a
named name word [] a e = absurd cc
named name word (b ∷ all) a e = go (bytes_eq (name b) word) refl (λ f. named name word all a f) e
  where
    go : (t : Bool) → bytes_eq (name b) word ≡ t → (find (λ a. bytes_eq (name a) word) all ≡ Some a
        → word ≡ name a)
        → (if t then Some b else find (λ a. bytes_eq (name a) word) all) ≡ Some a → word ≡ name a
    go true f inner e = sym ((bytes_eq-Decides (name b) word).0 f) ∙ ap name (some_same e)
    go false f inner e = inner e

-- the words of a value that is read as a token
pub record IsScalarFront (words rest : List (List ℕ)) (s : Scalar) : Type 0 where
  pub own : List (List ℕ)
  pub words_are : words ≡ own ++ rest
  pub is : IsScalar s own

pub plain-is : (word : List ℕ) (words rest : List (List ℕ)) (t : Token) (s : Scalar) → t ≡ scalar s
    → plain_at word words ≡ Some (t, rest) → IsScalarFront (word ∷ words) rest s
plain-is word words rest t s same e =
    let k = found (scalar_kind_in word) _ (t, rest) e in
    let v = found (scalar_at k.value words) (λ s. Some (scalar s.0, s.1)) (t, rest) k.step_is in
    let is : (scalar v.value.0, v.value.1) ≡ (t, rest) = some_same v.step_is in
    let value : scalar v.value.0 ≡ scalar s = ap (λ (p : Token × List (List ℕ)). p.0) is ∙ same in
    let left : v.value.1 ≡ rest = ap (λ (p : Token × List (List ℕ)). p.1) is in
    inner k.value (named scalar_kind_word word scalar_kinds k.value k.read_is)
    (scalar-is k.value words rest s (v.read_is ∙ ap (λ l. Some (v.value.0, l)) left ∙
    ap (λ s. Some (s, rest)) (scalar-same value)))
  where
    scalar-same : {a b : Scalar} → scalar a ≡ scalar b → a ≡ b
    scalar-same e = cc

    inner : (kind : ScalarKind) → word ≡ scalar_kind_word kind → IsScalarOf kind words rest s
        → IsScalarFront (word ∷ words) rest s
    inner kind e h = record {
      own = scalar_kind_word kind ∷ h.own;
      words_are = ap (λ w. w ∷ words) e
          ∙ ap (λ l. scalar_kind_word kind ∷ l) h.words_are;
      is = h.is;
    }
