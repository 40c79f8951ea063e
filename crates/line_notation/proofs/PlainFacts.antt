-- A text that stands in the line itself: plain bytes in quotes.
use Rattle.std.proofs.Common.{◌≡◌, ℕ, zero, suc, ◌+◌, ◌-◌, ◌<◌, ◌≤◌, Bool, true, false, not, ◌&&◌}
use Rattle.std.proofs.Common.{List, [], ◌∷◌, ◌++◌, length, get_or, take, drop, nat_lt, nat_le, ◌==◌}
use Rattle.std.proofs.Common.{slice_index, Some, None, Ok, Err, IsUtf8, IsAscii, Option, Result}
use Rattle.std.proofs.Common.{take_while, sym, refl, ap, ◌∙◌, subst, append_assoc, arith}
use Rattle.std.proofs.Common.{take-append-drop, take_all, ltb-true}
use Rattle.std.proofs.lemmas.{Bool.and_parts, List.Folds.length-prefix_len, Str.IsUtf8-from_ascii}
use Rattle.std.specs.List.{list_all, prefix_len}
use Rattle.line_notation.specs.{declared.reader.LineKind.LineKind, Options.◌>>=◌, Scalars.one_word}
use Rattle.line_notation.specs.declared.words.Stop.{Stop, TheVariants.Memory, TheVariants.NotALine}
use Rattle.line_notation.specs.Parts.{judged_text, judged_text_in}
use Rattle.line_notation.specs.Quoted.{ArePieces, is_plain, IsQuoted}
use Rattle.line_notation.specs.Steps.{CutsShown, Finds, Gives, TakesShown}
use Rattle.line_notation.specs.Words.{words_left, words_of}
use Rattle.line_notation.proofs.PiecesFacts.{plain-pieces, quoted-closes, quoted_in-quoted}
use Rattle.line_notation.proofs.SpacedFacts.{closed-ends, closed-goes_on}

-- a plain byte is below 128
plain-below : (b : ℕ) → is_plain b ≡ true → b < 128
plain-below b h =
    let p = and_parts (nat_le 32 b && nat_lt b 127 && not (b == 34)) (not (b == 92)) h in
    let q = and_parts (nat_le 32 b && nat_lt b 127) (not (b == 34)) p.0 in
    let below = ltb-true b 127 (and_parts (nat_le 32 b) (nat_lt b 127) q.0).1 in
    omega (arith, below)

-- the plain bytes at the front are plain
front-plain : (bytes : List ℕ) → list_all is_plain (take_while is_plain bytes) ≡ true
front-plain [] = refl
front-plain (b ∷ bytes) = go (is_plain b) refl (front-plain bytes)
  where
    go : (t : Bool) → is_plain b ≡ t → list_all is_plain (take_while is_plain bytes) ≡ true
        → list_all is_plain (take_while is_plain (b ∷ bytes)) ≡ true
    go true e h = let one : 1 + prefix_len is_plain bytes ≡ suc (prefix_len is_plain bytes) = omega
        arith in rw (e, one) (rw e h)
    go false e h = rw e refl

count-plain : (bytes : List ℕ) (n : ℕ) → n ≡ length (take_while is_plain bytes) → list_all is_plain
    (take n bytes) ≡ true
count-plain bytes n e = rw (e ∙ length-prefix_len is_plain bytes) (front-plain bytes)

-- and ASCII, and so UTF-8
plain-ascii : (text : List ℕ) → list_all is_plain text ≡ true → IsAscii text
plain-ascii [] h i = omega arith
plain-ascii (b ∷ text) h i =
    let p = and_parts (is_plain b) (list_all is_plain text) h in
    go i (plain-below b p.0) (plain-ascii text p.1)
  where
    go : (i : ℕ) → b < 128 → IsAscii text → slice_index (b ∷ text) i < 128
    go zero first rest = first
    go (suc i) first rest = rest i

pub plain-utf8 : (text : List ℕ) → list_all is_plain text ≡ true → IsUtf8 text
plain-utf8 text h = IsUtf8-from_ascii text (plain-ascii text h)

-- plain bytes in quotes write themselves
plain-written : (text : List ℕ) → list_all is_plain text ≡ true → ArePieces text text
plain-written [] h = refl
plain-written (b ∷ text) h =
    let p = and_parts (is_plain b) (list_all is_plain text) h in
    plain-pieces b text text p.0 (plain-written text p.1)

plain-quoted : (text : List ℕ) → list_all is_plain text ≡ true
    → IsQuoted text (34 ∷ text ++ 34 ∷ [])
plain-quoted text h = (text, refl, plain-written text h)

-- what a line begins with: plain bytes in quotes, and no more, or a space behind them
quoted-alone : (shown : List ℕ) → list_all is_plain shown ≡ true → words_of (34 ∷ shown ++ 34 ∷ [])
    ≡ (34 ∷ shown ++ 34 ∷ []) ∷ []
quoted-alone shown h = closed-ends false (34 ∷ shown ++ 34 ∷ [])
    (quoted-closes shown _ (plain-quoted shown h))

quoted-first : (shown left : List ℕ) → list_all is_plain shown ≡ true
    → words_of (34 ∷ shown ++ 34 ∷ 32 ∷ left) ≡ (34 ∷ shown ++ 34 ∷ []) ∷ words_of left
quoted-first shown left h =
    ap (λ l. words_of (34 ∷ l)) (sym (append_assoc shown (34 ∷ []) (32 ∷ left)))
    ∙ closed-goes_on false (34 ∷ shown ++ 34 ∷ []) left
    (quoted-closes shown _ (plain-quoted shown h))

-- what stands behind the first byte, and behind so many bytes
abbrev behind : List ℕ → List ℕ
behind line = take (length line - 1) (drop 1 line)

quote-first : (line : List ℕ) → 1 ≤ length line → get_or line 0 0 ≡ 34 → line ≡ 34 ∷ behind line
quote-first [] some first = absurd (omega arith)
quote-first (b ∷ bytes) some first =
    ap (λ c. c ∷ bytes) first ∙ ap (λ l. 34 ∷ l)
    (sym (take_all (length (b ∷ bytes) - 1) bytes (omega arith)))

parted : (bytes : List ℕ) (n : ℕ) (closing : List ℕ) → drop n bytes ≡ closing → bytes ≡ take n bytes
    ++ closing
parted bytes n closing e = sym (take-append-drop n bytes) ∙ ap (λ l. take n bytes ++ l) e

-- a quote alone, and one with a space behind it
quote-alone : (closing : List ℕ) → 1 ≤ length closing → length closing < 2 → get_or closing 0 0 ≡ 34
    → closing ≡ 34 ∷ []
quote-alone [] least most quote = absurd (omega arith)
quote-alone (b ∷ []) least most quote = ap (λ c. c ∷ []) quote
quote-alone (b ∷ c ∷ closing) least most quote = absurd (omega arith)

quote-space : (closing : List ℕ) → 2 ≤ length closing → get_or closing 0 0 ≡ 34 → get_or closing 1 0
    ≡ 32 → closing ≡ 34 ∷ 32 ∷ take (length closing - 2) (drop 2 closing)
quote-space [] least quote space = absurd (omega arith)
quote-space (b ∷ []) least quote space = absurd (omega arith)
quote-space (b ∷ c ∷ left) least quote space =
    ap (λ d. d ∷ c ∷ left) quote ∙ ap (λ d. 34 ∷ d ∷ left) space
    ∙ ap (λ l. 34 ∷ 32 ∷ l) (sym (take_all (length (b ∷ c ∷ left) - 2) left (omega arith)))

-- a line with a quote in front and so many plain bytes behind it
pub record BeginsPlain (line shown closing : List ℕ) (n : ℕ) : Type 0 where
  pub some : 1 ≤ length line
  pub quote : get_or line 0 0 ≡ 34
  pub count : n ≡ length (take_while is_plain (take (length line - 1) (drop 1 line)))
  pub front : shown ≡ take n (take (length line - 1) (drop 1 line))
  pub back : closing ≡ drop n (take (length line - 1) (drop 1 line))

cuts : (line shown closing : List ℕ) (n : ℕ) (left : Option (List ℕ)) → BeginsPlain line shown
    closing n
    → words_of (34 ∷ take n (behind line) ++ closing) ≡ (34 ∷ take n (behind line) ++ 34 ∷ [])
    ∷ words_left left → CutsShown line shown left
cuts line shown closing n left b words =
    let line_is = quote-first line b.some b.quote ∙ ap (λ l. 34 ∷ l)
    (parted (behind line) n closing (sym b.back)) in
    subst (λ s. CutsShown line s left) (sym b.front) (record {
      plain = count-plain (behind line) n b.count;
      words = ap words_of line_is ∙ words;
    })

pub cuts-last : (line shown closing : List ℕ) (n : ℕ) → BeginsPlain line shown closing n → 1
    ≤ length closing → length closing < 2 → get_or closing 0 0 ≡ 34
    → CutsShown line shown None
cuts-last line shown closing n b least most quote =
    cuts line shown closing n None b
    (ap (λ l. words_of (34 ∷ take n (behind line) ++ l)) (quote-alone closing least most quote) ∙
    quoted-alone (take n (behind line)) (count-plain (behind line) n b.count))

pub cuts-first : (line shown closing : List ℕ) (n : ℕ) → BeginsPlain line shown closing n → 2
    ≤ length closing → get_or closing 0 0 ≡ 34 → get_or closing 1 0 ≡ 32
    → CutsShown line shown (Some (take (length closing - 2) (drop 2 closing)))
cuts-first line shown closing n b least quote space =
    let left = take (length closing - 2) (drop 2 closing) in
    cuts line shown closing n (Some left) b
    (ap (λ l. words_of (34 ∷ take n (behind line) ++ l)) (quote-space closing least quote space) ∙
    quoted-first (take n (behind line)) left (count-plain (behind line) n b.count))

-- a word of plain bytes in quotes is their text
text-shown : (shown : List ℕ) → list_all is_plain shown ≡ true
    → judged_text_in (34 ∷ shown ++ 34 ∷ []) ≡ Some (judged_text shown)
text-shown shown h = ap (λ read. read >>= λ text. Some (judged_text text))
    (quoted_in-quoted shown _ (plain-quoted shown h))

pub gives-shown : {X : Type 0} (view : X → Result (List ℕ) LineKind) (r : Result X Stop)
    (shown : List ℕ) (old new : List (List ℕ))
    → TakesShown shown old new → Finds view r (Some (judged_text shown)) → Gives view r new
    (one_word judged_text_in old)
gives-shown view (Ok x) shown old new t h =
    ap (one_word judged_text_in) t.words ∙ ap (λ read. read >>= λ text. Some (text, new))
    (text-shown shown t.plain ∙ h)
gives-shown view (Err NotALine) shown old new t h = absurd cc
gives-shown view (Err Memory) shown old new t h = tt
