-- Texts out of pieces.
use Rattle.std.proofs.Common.{◌≡◌, ℕ, suc, ◌+◌, ◌<◌, Bool, true, false, not, ◌&&◌, List, [], ◌∷◌}
use Rattle.std.proofs.Common.{◌++◌, length, take, drop, if◌then◌else◌, nat_lt, nat_le, ◌==◌, Some}
use Rattle.std.proofs.Common.{None, Ok, Err, IsUtf8, Option, take_while, sym, refl, ap, ◌∙◌}
use Rattle.std.proofs.Common.{append_assoc, arith}
use Rattle.std.proofs.lemmas.{Bool.and_parts, List.Folds.length-prefix_len}
use Rattle.std.proofs.lemmas.Str.{IsUtf8-from_is_utf8, is_utf8-from_IsUtf8}
use Rattle.std.specs.{List.prefix_len, Str.is_utf8}
use Rattle.line_notation.specs.{declared.reader.LineKind.TheVariants.BadText, Options.◌>>=◌}
use Rattle.line_notation.specs.Parts.{escape_at, judged_text}
use Rattle.line_notation.specs.Quoted.{is_plain, unescaped}

-- a text that is UTF-8, and one that isn't
pub judged-good : (text : List ℕ) → IsUtf8 text → judged_text text ≡ Ok text
judged-good text h = rw (is_utf8-from_IsUtf8 text h) refl

pub judged-bad : (text : List ℕ) → (IsUtf8 text → ⊥) → judged_text text ≡ Err BadText
judged-bad text h = go (is_utf8 text) refl
  where
    go : (t : Bool) → is_utf8 text ≡ t → (if t then Ok text else Err BadText) ≡ Err BadText
    go true e = absurd (h (IsUtf8-from_is_utf8 text e))
    go false e = refl

-- bytes before what is read
abbrev pub before : List ℕ → Option (List ℕ) → Option (List ℕ)
before front read = read >>= λ text. Some (front ++ text)

pub before-nothing : (read : Option (List ℕ)) → before [] read ≡ read
before-nothing None = refl
before-nothing (Some text) = refl

pub before-before : (a b : List ℕ) (read : Option (List ℕ)) → before a (before b read)
    ≡ before (a ++ b) read
before-before a b None = refl
before-before a b (Some text) = ap Some (sym (append_assoc a b text))

-- a plain byte is no backslash
plain-slash : (b : ℕ) → is_plain b ≡ true → (b == 92) ≡ false
plain-slash b h = negated (b == 92) (and_parts (nat_le 32 b && nat_lt b 127 && not (b == 34))
    (not (b == 92)) h).1
  where
    negated : (t : Bool) → not t ≡ true → t ≡ false
    negated true e = absurd cc
    negated false e = refl

-- a plain byte in front
pub unescaped-plain : (b : ℕ) (rest : List ℕ) → is_plain b ≡ true → unescaped (b ∷ rest)
    ≡ before (b ∷ []) (unescaped rest)
unescaped-plain b [] h = rw h refl
unescaped-plain b (c ∷ []) h = rw h refl
unescaped-plain b (c ∷ d ∷ rest) h = rw (h, plain-slash b h) refl

-- plain bytes in front
unescaped-plains : (bytes : List ℕ) → unescaped bytes ≡ before (take_while is_plain bytes)
    (unescaped (drop (prefix_len is_plain bytes) bytes))
unescaped-plains [] = refl
unescaped-plains (b ∷ bytes) = go (is_plain b) refl (unescaped-plains bytes)
  where
    go : (t : Bool) → is_plain b ≡ t → unescaped bytes ≡ before (take_while is_plain bytes)
        (unescaped (drop (prefix_len is_plain bytes) bytes))
        → unescaped (b ∷ bytes) ≡ before (take_while is_plain (b ∷ bytes))
        (unescaped (drop (prefix_len is_plain (b ∷ bytes)) (b ∷ bytes)))
    go true e h =
        let one : 1 + prefix_len is_plain bytes ≡ suc (prefix_len is_plain bytes) = omega arith in
        rw (e, one) (unescaped-plain b bytes e ∙ ap (before (b ∷ [])) h ∙ before-before (b ∷ [])
        (take_while is_plain bytes) _)
    go false e h = rw e (sym (before-nothing (unescaped (b ∷ bytes))))

pub unescaped-front : (bytes : List ℕ) (n : ℕ) → n ≡ length (take_while is_plain bytes)
    → unescaped bytes ≡ before (take n bytes) (unescaped (drop n bytes))
unescaped-front bytes n e =
    let same : n ≡ prefix_len is_plain bytes = e ∙ length-prefix_len is_plain bytes in
    rw same (unescaped-plains bytes)

-- none is plain in front
none_plain : (b : ℕ) (bytes : List ℕ) (t : Bool) → is_plain b ≡ t
    → length (take_while is_plain (b ∷ bytes)) ≡ 0 → is_plain b ≡ false
none_plain b bytes true e h = absurd (let f : 1 + prefix_len is_plain bytes
    ≡ 0 = rw e at (sym (length-prefix_len is_plain (b ∷ bytes)) ∙ h) in omega (arith, f))
none_plain b bytes false e h = e

-- then an escape is read, if there is one
unescaped-slash : (b c d : ℕ) (rest : List ℕ) → is_plain b ≡ false → unescaped (b ∷ c ∷ d ∷ rest)
    ≡ (escape_at (b ∷ c ∷ d ∷ rest) >>= λ byte. before (byte ∷ []) (unescaped rest))
unescaped-slash b c d rest h = go (b == 92) refl
  where
    go : (t : Bool) → (b == 92) ≡ t → unescaped (b ∷ c ∷ d ∷ rest)
        ≡ (escape_at (b ∷ c ∷ d ∷ rest) >>= λ byte. before (byte ∷ []) (unescaped rest))
    go true e = rw e refl
    go false e = rw (h, e) refl

pub unescaped-escape : (bytes : List ℕ) → 0 < length bytes → length (take_while is_plain bytes) ≡ 0
    → unescaped bytes ≡ (escape_at bytes >>= λ byte. before (byte ∷ []) (unescaped (drop 3 bytes)))
unescaped-escape [] some none = absurd (omega arith)
unescaped-escape (b ∷ []) some none = rw (none_plain b [] (is_plain b) refl none) refl
unescaped-escape (b ∷ c ∷ []) some none = rw (none_plain b (c ∷ []) (is_plain b) refl none) refl
unescaped-escape (b ∷ c ∷ d ∷ rest) some none = unescaped-slash b c d rest
    (none_plain b (c ∷ d ∷ rest) (is_plain b) refl none)

-- one escape more, and plain bytes more
pub before-escape : (text bytes : List ℕ) (byte : ℕ) → 0 < length bytes
    → length (take_while is_plain bytes) ≡ 0 → escape_at bytes ≡ Some byte
    → before text (unescaped bytes) ≡ before (text ++ byte ∷ []) (unescaped (drop 3 bytes))
before-escape text bytes byte some none e =
    ap (before text)
    (unescaped-escape bytes some none ∙
    ap (λ read. read >>= λ one. before (one ∷ []) (unescaped (drop 3 bytes))) e)
    ∙ before-before text (byte ∷ []) (unescaped (drop 3 bytes))

pub before-plain : (text bytes : List ℕ) (n : ℕ) → n ≡ length (take_while is_plain bytes)
    → before text (unescaped bytes) ≡ before (text ++ take n bytes) (unescaped (drop n bytes))
before-plain text bytes n e = ap (before text) (unescaped-front bytes n e) ∙ before-before text
    (take n bytes) (unescaped (drop n bytes))
