-- Plain bytes in quotes.
use Rattle.std.proofs.Common.{◌≡◌, ℕ, zero, suc, ◌+◌, ◌<◌, ◌≤◌, Bool, true, false, List, [], ◌∷◌}
use Rattle.std.proofs.Common.{length, get_or, take, drop, if◌then◌else◌, take_while, flat_map, sym}
use Rattle.std.proofs.Common.{refl, ap, ◌∙◌, arith}
use Rattle.std.proofs.lemmas.{Bool.and_parts, List.Folds.length-prefix_len}
use Rattle.std.specs.List.{list_all, prefix_len}
use Rattle.line_notation.specs.Quoted.{escape, is_plain, quoted_byte}

-- a plain byte, and another one
pub quoted_byte-plain : (b : ℕ) → is_plain b ≡ true → quoted_byte b ≡ b ∷ []
quoted_byte-plain b h = ap (λ t. if t then b ∷ [] else escape b) h

pub quoted_byte-other : (b : ℕ) → is_plain b ≡ false → quoted_byte b ≡ escape b
quoted_byte-other b h = ap (λ t. if t then b ∷ [] else escape b) h

-- plain bytes are shown as they are
plain-shown : (bytes : List ℕ) → flat_map quoted_byte (take_while is_plain bytes)
    ≡ take_while is_plain bytes
plain-shown [] = refl
plain-shown (b ∷ bytes) = go (is_plain b) refl (plain-shown bytes)
  where
    go : (t : Bool) → is_plain b ≡ t → flat_map quoted_byte (take_while is_plain bytes)
        ≡ take_while is_plain bytes → flat_map quoted_byte (take_while is_plain (b ∷ bytes))
        ≡ take_while is_plain (b ∷ bytes)
    go true e h = let one : 1 + prefix_len is_plain bytes ≡ suc (prefix_len is_plain bytes) = omega
        arith in rw (e, one) (rw (quoted_byte-plain b e) (ap (λ l. b ∷ l) h))
    go false e h = rw e refl

-- so many at the front are plain
pub front-shown : (bytes : List ℕ) (n : ℕ) → n ≡ length (take_while is_plain bytes)
    → flat_map quoted_byte (take n bytes) ≡ take n bytes
front-shown bytes n e = rw (e ∙ length-prefix_len is_plain bytes) (plain-shown bytes)

-- all are plain
pub all-shown : (bytes : List ℕ) → list_all is_plain bytes ≡ true → flat_map quoted_byte bytes
    ≡ bytes
all-shown [] h = refl
all-shown (b ∷ bytes) h =
    let p = and_parts (is_plain b) (list_all is_plain bytes) h in
    rw (quoted_byte-plain b p.0) (ap (λ l. b ∷ l) (all-shown bytes p.1))

-- so many at the front are plain, and those behind them are counted
count-front : (n : ℕ) (bytes : List ℕ) → n ≤ length bytes → list_all is_plain (take n bytes) ≡ true
    → n + prefix_len is_plain (drop n bytes) ≡ prefix_len is_plain bytes
count-front zero bytes within h = omega arith
count-front (suc n) [] within h = absurd (omega arith)
count-front (suc n) (b ∷ bytes) within h =
    let p = and_parts (is_plain b) (list_all is_plain (take n bytes)) h in
    let more = count-front n bytes (omega arith) p.1 in
    rw p.0 (omega (arith, more))

pub plain-behind : (n : ℕ) (bytes : List ℕ) → n ≤ length bytes → list_all is_plain (take n bytes)
    ≡ true
    → n + length (take_while is_plain (drop n bytes)) ≡ length (take_while is_plain bytes)
plain-behind n bytes within h =
    ap (λ k. n + k) (length-prefix_len is_plain (drop n bytes)) ∙ count-front n bytes within h ∙ sym
    (length-prefix_len is_plain bytes)

-- so many more are plain
pub more-plain : (n m : ℕ) (bytes : List ℕ) → list_all is_plain (take n bytes) ≡ true
    → list_all is_plain (take m (drop n bytes)) ≡ true
    → list_all is_plain (take (n + m) bytes) ≡ true
more-plain zero m bytes h g = let e : 0 + m ≡ m = omega arith in rw e g
more-plain (suc n) m [] h g = let e : suc n + m ≡ suc (n + m) = omega arith in rw e refl
more-plain (suc n) m (b ∷ bytes) h g =
    let p = and_parts (is_plain b) (list_all is_plain (take n bytes)) h in
    let e : suc n + m ≡ suc (n + m) = omega arith in
    rw (e, p.0) (more-plain n m bytes p.1 g)
