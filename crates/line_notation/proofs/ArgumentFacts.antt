-- Texts in quotes that stand by themselves.
use Rattle.std.proofs.Common.{◌≡◌, ℕ, Bool, true, false, List, if◌then◌else◌, Some, None, Ok, Err}
use Rattle.std.proofs.Common.{Result, sym, refl, ap, ◌∙◌}
use Rattle.std.specs.Str.{is_utf8}
use Rattle.line_notation.specs.declared.reader.LineKind.{LineKind, TheVariants.BadText}
use Rattle.line_notation.specs.{Options.◌>>=◌, Parts.judged_text}
use Rattle.line_notation.specs.Quoted.{between_quotes, IsQuoted, quoted_in, unescaped}
use Rattle.line_notation.proofs.PiecesFacts.{quoted-quoted_in, quoted_in-quoted}

-- the pieces between quotes write a text
pub quoted-by : (word pieces text : List ℕ) → Some pieces ≡ between_quotes word
    → unescaped pieces ≡ Some text → IsQuoted text word
quoted-by word pieces text between read =
    quoted-quoted_in text word (ap (λ b. b >>= unescaped) (sym between) ∙ read)

-- pieces that aren't read write none
pub unquoted : (word pieces : List ℕ) → Some pieces ≡ between_quotes word
    → unescaped pieces ≡ None → (text : List ℕ) → ¬ IsQuoted text word
unquoted word pieces between none text is =
    let some = quoted_in-quoted text word is in
    let read : quoted_in word ≡ None = ap (λ b. b >>= unescaped) (sym between) ∙ none in
    cc

-- a text that is judged is the text itself, and is UTF-8
pub good-text : (text read : List ℕ) → Ok read ≡ judged_text text
    → (text ≡ read) × (is_utf8 text ≡ true)
good-text text read e = by_test (is_utf8 text) refl (sym e) where
  by_test : (v : Bool) → is_utf8 text ≡ v
      → ◌≡◌ {A = Result (List ℕ) LineKind} (if v then Ok text else Err BadText) (Ok read)
      → (text ≡ read) × (is_utf8 text ≡ true)
  by_test true is e = let same : text ≡ read = cc in (same, is)
  by_test false is e = cc

pub bad-text : (text : List ℕ) (kind : LineKind) → Err kind ≡ judged_text text
    → is_utf8 text ≡ false
bad-text text kind e = by_test (is_utf8 text) refl (sym e) where
  by_test : (v : Bool) → is_utf8 text ≡ v
      → ◌≡◌ {A = Result (List ℕ) LineKind} (if v then Ok text else Err BadText) (Err kind)
      → is_utf8 text ≡ false
  by_test true is e = cc
  by_test false is e = is
