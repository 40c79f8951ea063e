-- Values read and judged at once.
use Rattle.std.proofs.Common.{◌≡◌, ℕ, ◌≤◌, Bool, true, false, ◌&&◌, List, [], ◌∷◌, if◌then◌else◌}
use Rattle.std.proofs.Common.{nat_le, Some, None, Ok, Err, Option, Result, refl, ap, le-leb}
use Rattle.{std.specs.Str.is_utf8, uuid.specs.Text.parsed}
use Rattle.nbfx_values.specs.declared.scalars.Scalar.{Scalar, TheVariants.QName, TheVariants.Text}
use Rattle.line_notation.specs.{declared.reader.LineKind.LineKind, Steps.Stops}
use Rattle.line_notation.specs.declared.reader.LineKind.TheVariants.{BadText, OutOfRange}
use Rattle.line_notation.specs.declared.words.Stop.{Stop, TheVariants.Memory, TheVariants.NotALine}
use Rattle.line_notation.specs.{Options.◌>>=◌, Quoted.quoted_in, Scalars.scalar_at, Scalars.valued}
use Rattle.line_notation.specs.Parts.{judged_at, judged_scalar, judged_text, judged_text_in, mapped}
use Rattle.line_notation.specs.Scalars.{identifier_in, if_identifier, letter_in, one_word}
use Rattle.line_notation.specs.declared.scalars.ScalarKind.TheVariants as kinds

pub identifier-none : (word : List ℕ) → ((u : List ℕ) → parsed word ≡ Some u → ⊥)
    → identifier_in word ≡ None
identifier-none word none = go (parsed word) refl
  where
    go : (read : Option (List ℕ)) → parsed word ≡ read → (read >>= if_identifier word) ≡ None
    go None e = refl
    go (Some u) e = absurd (none u e)

-- what is made of what was read
abbrev pub mapped_at : {A B : Type 0} → (A → B) → Option (Result A LineKind × List (List ℕ))
    → Option (Result B LineKind × List (List ℕ))
mapped_at make None = None
mapped_at make (Some (one, words)) = Some (mapped make one, words)

abbrev made_at : {A B : Type 0} → (A → B) → Option (A × List (List ℕ)) → Option (B × List (List ℕ))
made_at {A} {B} make read = ◌>>=◌ {A = A × List (List ℕ)} {B = B × List (List ℕ)} read
    (λ one. Some (make one.0, one.1))

-- a value of one word, judged as what the word writes
one_word-judged : {A : Type 0} (make : A → Scalar) (judge : A → Result A LineKind)
    → ((a : A) → judged_scalar (make a) ≡ mapped make (judge a))
    → (read : List ℕ → Option A) (words : List (List ℕ))
    → judged_at (valued make read words)
    ≡ mapped_at make (one_word (λ word. read word >>= λ a. Some (judge a)) words)
one_word-judged make judge same read [] = refl
one_word-judged {A = A} make judge same read (word ∷ words) = go (read word)
  where
    go : (found : Option A)
        → judged_at (made_at make (found >>= λ a. Some (a, words)))
        ≡ mapped_at make ((found >>= λ a. Some (judge a)) >>= λ a. Some (a, words))
    go None = refl
    go (Some a) = ap (λ s. Some (s, words)) (same a)

text-judged : (text : List ℕ) → judged_scalar (Text text) ≡ mapped Text (judged_text text)
text-judged text = go (is_utf8 text)
  where
    go : (t : Bool) → (if t then (if t then Ok (Text text) else Err OutOfRange) else Err BadText)
        ≡ mapped Text (if t then Ok text else Err BadText)
    go true = refl
    go false = refl

pub text_at-judged : (words : List (List ℕ)) → judged_at (scalar_at kinds.Text words)
    ≡ mapped_at Text (one_word judged_text_in words)
text_at-judged words = one_word-judged Text judged_text text-judged quoted_in words

name-judged : (letter : ℕ) → nat_le letter 25 ≡ true → (name : List ℕ)
    → judged_scalar (QName letter name) ≡ mapped (QName letter) (judged_text name)
name-judged letter small name = go (is_utf8 name)
  where
    go : (t : Bool)
        → (if t then (if nat_le letter 25 && t then Ok (QName letter name) else Err OutOfRange)
        else Err BadText) ≡ mapped (QName letter) (if t then Ok name else Err BadText)
    go true = rw small refl
    go false = refl

pub name_at-judged : (words rest : List (List ℕ)) (letter : ℕ) → one_word letter_in words
    ≡ Some (letter, rest) → letter ≤ 25
    → judged_at (scalar_at kinds.QName words) ≡ mapped_at (QName letter)
    (one_word judged_text_in rest)
name_at-judged words rest letter e small = rw e
    (one_word-judged (QName letter) judged_text (name-judged letter (le-leb letter 25 small))
    quoted_in rest)

-- where reading stops, what would be made of it isn't
pub stops-mapped : {A B : Type 0} (make : A → B) (stop : Stop)
    (read : Option (Result A LineKind × List (List ℕ))) → Stops stop read
    → Stops stop (mapped_at make read)
stops-mapped make NotALine read h = ap (mapped_at make) h
stops-mapped make Memory read h = tt
