-- A word writes a text exactly where the text is read out of it.
use Rattle.std.proofs.Common.{◌≡◌, ℕ, suc, ◌+◌, ◌-◌, ◌*◌, ◌/◌, ◌%◌, ◌<◌, ◌≤◌, Bool, true, false}
use Rattle.std.proofs.Common.{not, ◌&&◌, ◌⊎◌, List, [], ◌∷◌, ◌++◌, length, get_or, take}
use Rattle.std.proofs.Common.{if◌then◌else◌, nat_lt, nat_le, ◌==◌, slice_index, Some, None}
use Rattle.std.proofs.Common.{flat_map, sym, refl, ap, ◌∙◌, subst, inl, inr, append_assoc, arith}
use Rattle.std.proofs.Common.{length-append, take_all, ltb-true, le-ltb, lt-ltb, eq-eqb, eqb-true}
use Rattle.std.proofs.Common.{le-leb, leb-true}
use Rattle.std.proofs.Math.{Bool.and-false, Seq.get_or-append_seam, Seq.take-append_seam}
use Rattle.std.proofs.lemmas.{Bool.and_parts, Bool.cases_lt, Bool.not-true, List.take_more}
use Rattle.std.specs.{Fmt.digit_glyph, List.list_all}
use Rattle.line_notation.specs.{Options.◌>>=◌, Quoted.quoted_in, Quoted.unescaped}
use Rattle.line_notation.specs.Quoted.{ArePieces, between_quotes, digit_in, escape, is_in_quotes}
use Rattle.line_notation.specs.Quoted.{is_plain, IsPiece, IsQuoted, pair_in, quoted, quoted_byte}
use Rattle.line_notation.proofs.GatherFacts.{eqb-other, some_same}
use Rattle.line_notation.proofs.{SpacedFacts.closes, TokenFacts.found}
use Rattle.line_notation.proofs.TextsFacts.{before, unescaped-plain}

-- a digit and its value
pub digit_in-glyph : (d : ℕ) → d < 16 → digit_in (digit_glyph false d) ≡ Some d
digit_in-glyph d small = go (cases_lt d 10)
  where
    go : (d < 10) ⊎ (10 ≤ d) → digit_in (digit_glyph false d) ≡ Some d
    go (inl low) =
        let same : 48 + d - 48 ≡ d = omega arith in
        rw (lt-ltb d 10 low, le-leb 48 (48 + d) (omega arith), lt-ltb (48 + d) 58 (omega arith))
        (ap Some same)
    go (inr high) =
        let same : 87 + d - 87 ≡ d = omega arith in
        rw (
          le-ltb d 10 high,
          le-leb 48 (87 + d) (omega arith),
          le-ltb (87 + d) 58 (omega arith),
          le-leb 97 (87 + d) (omega arith),
          lt-ltb (87 + d) 103 (omega arith),
        )
        (ap Some same)

-- what a digit is that has a value
pub record IsDigit (c d : ℕ) : Type 0 where
  pub small : d < 16
  pub glyph : c ≡ digit_glyph false d

pub is_digit : (c d : ℕ) → digit_in c ≡ Some d → IsDigit c d
is_digit c d e = go (nat_le 48 c && nat_lt c 58) (nat_le 97 c && nat_lt c 103) refl refl e
  where
    low : (n : ℕ) → 48 ≤ c → c < 58 → c - 48 ≡ n → IsDigit c n
    low n least most e = record {
      small = omega arith;
      glyph = rw (lt-ltb n 10 (omega arith))
          (omega arith);
    }

    high : (n : ℕ) → 97 ≤ c → c < 103 → c - 87 ≡ n → IsDigit c n
    high n least most e = record {
      small = omega arith;
      glyph = rw (le-ltb n 10 (omega arith))
          (omega arith);
    }

    go : (s t : Bool) → (nat_le 48 c && nat_lt c 58) ≡ s → (nat_le 97 c && nat_lt c 103) ≡ t
        → (if s then Some (c - 48) else if t then Some (c - 87) else None) ≡ Some d → IsDigit c d
    go true t f g e = let p = and_parts (nat_le 48 c) (nat_lt c 58) f in low d (leb-true 48 c p.0)
        (ltb-true c 58 p.1) (some_same e)
    go false true f g e = let p = and_parts (nat_le 97 c) (nat_lt c 103) g in high d
        (leb-true 97 c p.0) (ltb-true c 103 p.1) (some_same e)
    go false false f g e = absurd cc

-- two digits and their byte
pub pair_in-escape : (b : ℕ) → b < 256 → pair_in (digit_glyph false (b / 16))
    (digit_glyph false (b % 16)) ≡ Some b
pair_in-escape b small =
    let h : b / 16 < 16 = omega arith in
    let l : b % 16 < 16 = omega arith in
    let same : b / 16 * 16 + b % 16 ≡ b = omega arith in
    rw (digit_in-glyph (b / 16) h, digit_in-glyph (b % 16) l) (ap Some same)

pub record ArePair (c d byte : ℕ) : Type 0 where
  pub small : byte < 256
  pub high : c ≡ digit_glyph false (byte / 16)
  pub low : d ≡ digit_glyph false (byte % 16)

pub are_pair : (c d byte : ℕ) → pair_in c d ≡ Some byte → ArePair c d byte
are_pair c d byte e =
    let h = found (digit_in c) _ byte e in
    let l = found (digit_in d) (λ low. Some (h.value * 16 + low)) byte h.step_is in
    go h.value l.value (is_digit c h.value h.read_is) (is_digit d l.value l.read_is)
    (some_same l.step_is)
  where
    go : (h l : ℕ) → IsDigit c h → IsDigit d l → h * 16 + l ≡ byte → ArePair c d byte
    go h l p q e =
        let s = p.small in
        let t = q.small in
        let high : h ≡ byte / 16 = omega arith in
        let low : l ≡ byte % 16 = omega arith in
        record {
          small = omega arith;
          high = p.glyph ∙ ap (digit_glyph false) high;
          low = q.glyph ∙
              ap (digit_glyph false) low;
        }

-- the text that pieces write is read out of them
unescaped-escape : (b : ℕ) (rest text : List ℕ) → b < 256 → unescaped rest ≡ Some text
    → unescaped (escape b ++ rest) ≡ Some (b ∷ text)
unescaped-escape b rest text small e = rw (pair_in-escape b small, e) refl

unescaped-pieces : (text pieces : List ℕ) → ArePieces text pieces → unescaped pieces ≡ Some text
unescaped-pieces [] pieces h = ap unescaped h
unescaped-pieces (b ∷ text) pieces (piece, rest, e, one, more) = ap unescaped e ∙ go one
    (unescaped-pieces text rest more)
  where
    go : IsPiece b piece → unescaped rest ≡ Some text → unescaped (piece ++ rest) ≡ Some (b ∷ text)
    go (inl (plain, shown)) inner = ap (λ p. unescaped (p ++ rest)) shown ∙ unescaped-plain b rest
        plain ∙ ap (before (b ∷ [])) inner
    go (inr (small, escaped)) inner = ap (λ p. unescaped (p ++ rest)) escaped ∙ unescaped-escape b
        rest text small inner

-- and what is read out of pieces they write
pub plain-pieces : (b : ℕ) (rest text : List ℕ) → is_plain b ≡ true → ArePieces text rest
    → ArePieces (b ∷ text) (b ∷ rest)
plain-pieces b rest text plain more = (b ∷ [], rest, refl, inl (plain, refl), more)

escape-pieces : (c d byte : ℕ) (rest text : List ℕ) → ArePair c d byte → ArePieces text rest
    → ArePieces (byte ∷ text) (92 ∷ c ∷ d ∷ rest)
escape-pieces c d byte rest text p more = (
  escape byte,
  rest,
  ap (λ h. 92 ∷ h ∷ d ∷ rest) p.high ∙
      ap (λ l. 92 ∷ digit_glyph false (byte / 16) ∷ l ∷ rest) p.low,
  inr (p.small, refl),
  more,
)

pieces-unescaped : (pieces text : List ℕ) → unescaped pieces ≡ Some text → ArePieces text pieces
pieces-unescaped [] text e = subst (λ t. ArePieces t []) (some_same e) refl
pieces-unescaped (b ∷ []) text e = go (is_plain b) refl e
  where
    go : (t : Bool) → is_plain b ≡ t → (if t then Some (b ∷ []) else None) ≡ Some text
        → ArePieces text (b ∷ [])
    go true f e = subst (λ t. ArePieces t (b ∷ [])) (some_same e) (plain-pieces b [] [] f refl)
    go false f e = absurd cc
pieces-unescaped (b ∷ c ∷ []) text e = go (is_plain b) refl (λ t h. pieces-unescaped (c ∷ []) t h) e
  where
    go : (t : Bool) → is_plain b ≡ t
        → ((u : List ℕ) → unescaped (c ∷ []) ≡ Some u → ArePieces u (c ∷ []))
        → (if t then before (b ∷ []) (unescaped (c ∷ [])) else None) ≡ Some text
        → ArePieces text (b ∷ c ∷ [])
    go true f inner e =
        let r = found (unescaped (c ∷ [])) (λ u. Some (b ∷ u)) text e in
        subst (λ t. ArePieces t (b ∷ c ∷ [])) (some_same r.step_is)
        (plain-pieces b (c ∷ []) r.value f (inner r.value r.read_is))
    go false f inner e = absurd cc
pieces-unescaped (b ∷ c ∷ d ∷ rest) text e = go (b == 92) (is_plain b) refl refl
    (λ t h. pieces-unescaped (c ∷ d ∷ rest) t h) (λ t h. pieces-unescaped rest t h) e
  where
    go : (s t : Bool) → (b == 92) ≡ s → is_plain b ≡ t
        → ((u : List ℕ) → unescaped (c ∷ d ∷ rest) ≡ Some u → ArePieces u (c ∷ d ∷ rest))
        → ((u : List ℕ) → unescaped rest ≡ Some u → ArePieces u rest)
        → (if s then (pair_in c d >>= λ byte. before (byte ∷ []) (unescaped rest)) else if t
        then before (b ∷ []) (unescaped (c ∷ d ∷ rest)) else None) ≡ Some text
        → ArePieces text (b ∷ c ∷ d ∷ rest)
    go true t f g one inner e =
        let p = found (pair_in c d) (λ byte. before (byte ∷ []) (unescaped rest)) text e in
        let r = found (unescaped rest) (λ u. Some (p.value ∷ u)) text p.step_is in
        let slash : b ≡ 92 = eqb-true b 92 f in
        subst (λ t. ArePieces t (b ∷ c ∷ d ∷ rest)) (some_same r.step_is)
        (subst (λ s. ArePieces (p.value ∷ r.value) (s ∷ c ∷ d ∷ rest)) (sym slash)
        (escape-pieces c d p.value rest r.value (are_pair c d p.value p.read_is)
        (inner r.value r.read_is)))
    go false true f g one inner e =
        let r = found (unescaped (c ∷ d ∷ rest)) (λ u. Some (b ∷ u)) text e in
        subst (λ t. ArePieces t (b ∷ c ∷ d ∷ rest)) (some_same r.step_is)
        (plain-pieces b (c ∷ d ∷ rest) r.value g (one r.value r.read_is))
    go false false f g one inner e = absurd cc

-- what stands between quotes
pub between-quoted : (pieces : List ℕ) → between_quotes (34 ∷ pieces ++ 34 ∷ []) ≡ Some pieces
between-quoted pieces =
    let word = 34 ∷ pieces ++ 34 ∷ [] in
    let count : length (pieces ++ 34 ∷ []) ≡ length pieces + 1 = length-append pieces (34 ∷ []) in
    let two : nat_le 2 (length word) ≡ true = le-leb 2 (length word) (omega (arith, count)) in
    let at : length word - 1 ≡ suc (length pieces) = omega (arith, count) in
    let last : (slice_index word (length word - 1) == 34) ≡ true =
    eq-eqb (slice_index word (length word - 1)) 34
    (ap (slice_index word) at ∙ get_or-append_seam pieces 34 [] 0) in
    let inner : length word - 2 ≡ length pieces = omega (arith, count) in
    ap (λ t. if t && true && (slice_index word (length word - 1) == 34) then Some
    (take (length word - 2) (pieces ++ 34 ∷ [])) else None) two
    ∙ ap (λ t. if t then Some (take (length word - 2) (pieces ++ 34 ∷ [])) else None) last
    ∙ ap (λ n. Some (take n (pieces ++ 34 ∷ []))) inner ∙ ap Some
    (take-append_seam pieces (34 ∷ []))

-- a list that ends with a byte
ends-with : (b : ℕ) (rest : List ℕ) (n : ℕ) → length rest ≡ n + 1 → get_or rest n 0 ≡ b → rest
    ≡ take n rest ++ b ∷ []
ends-with b rest n count last =
    sym (take_all (n + 1) rest (omega (arith, count))) ∙ take_more rest n 0 (omega (arith, count)) ∙
    ap (λ l. take n rest ++ l ∷ []) last

pub quoted-between : (word pieces : List ℕ) → between_quotes word ≡ Some pieces → word ≡ 34 ∷ pieces
    ++ 34 ∷ []
quoted-between [] pieces e = absurd cc
quoted-between (c ∷ rest) pieces e = go (is_in_quotes (c ∷ rest)) refl e
  where
    inner : (n : ℕ) → length rest ≡ n + 1 → c ≡ 34 → slice_index (c ∷ rest) (length (c ∷ rest) - 1)
        ≡ 34 → take (length (c ∷ rest) - 2) rest ≡ pieces → c ∷ rest ≡ 34 ∷ pieces ++ 34 ∷ []
    inner n count first last middle =
        let at : length (c ∷ rest) - 1 ≡ suc n = omega (arith, count) in
        let few : length (c ∷ rest) - 2 ≡ n = omega (arith, count) in
        ap (λ b. b ∷ rest) first
        ∙ ap (λ l. 34 ∷ l) (ends-with 34 rest n count (ap (slice_index (c ∷ rest)) (sym at) ∙ last)
        ∙ ap (λ l. l ++ 34 ∷ []) (ap (λ k. take k rest) (sym few) ∙ middle))

    go : (t : Bool) → is_in_quotes (c ∷ rest) ≡ t
        → (if t then Some (take (length (c ∷ rest) - 2) rest) else None) ≡ Some pieces → c ∷ rest
        ≡ 34 ∷ pieces ++ 34 ∷ []
    go true f e =
        let p = and_parts (nat_le 2 (length (c ∷ rest)) && (c == 34))
        (slice_index (c ∷ rest) (length (c ∷ rest) - 1) == 34) f in
        let q = and_parts (nat_le 2 (length (c ∷ rest))) (c == 34) p.0 in
        let two = leb-true 2 (length (c ∷ rest)) q.0 in
        inner (length rest - 1) (omega (arith, two)) (eqb-true c 34 q.1)
        (eqb-true (slice_index (c ∷ rest) (length (c ∷ rest) - 1)) 34 p.1) (some_same e)
    go false f e = absurd cc

-- a word that writes a text
pub quoted_in-quoted : (text word : List ℕ) → IsQuoted text word → quoted_in word ≡ Some text
quoted_in-quoted text word (pieces, e, h) =
    ap (λ w. between_quotes w >>= unescaped) e ∙ ap (λ read. read >>= unescaped)
    (between-quoted pieces) ∙ unescaped-pieces text pieces h

pub quoted-quoted_in : (text word : List ℕ) → quoted_in word ≡ Some text → IsQuoted text word
quoted-quoted_in text word e =
    let b = found (between_quotes word) unescaped text e in
    (b.value, quoted-between word b.value b.read_is, pieces-unescaped b.value text b.step_is)

-- a quoted word is closed
glyph-shown : (d : ℕ) → d < 16 → (rest : List ℕ) → closes true (digit_glyph false d ∷ rest)
    ≡ closes true rest
glyph-shown d small rest = go (cases_lt d 10)
  where
    shown : (b : ℕ) → 34 < b → closes true (b ∷ rest) ≡ closes true rest
    shown b over = rw (eqb-other b 34 (λ e. omega (arith, e, over)), and-false (b == 32)) refl

    go : (d < 10) ⊎ (10 ≤ d) → closes true (digit_glyph false d ∷ rest) ≡ closes true rest
    go (inl low) = rw (lt-ltb d 10 low) (shown (48 + d) (omega arith))
    go (inr high) = rw (le-ltb d 10 high) (shown (87 + d) (omega arith))

plain-shown : (b : ℕ) → is_plain b ≡ true → (rest : List ℕ) → closes true (b ∷ rest)
    ≡ closes true rest
plain-shown b plain rest =
    let p = and_parts (nat_le 32 b && nat_lt b 127 && not (b == 34)) (not (b == 92)) plain in
    let q = and_parts (nat_le 32 b && nat_lt b 127) (not (b == 34)) p.0 in
    rw (not-true (b == 34) q.1, and-false (b == 32)) refl

pieces-close : (text pieces : List ℕ) → ArePieces text pieces → closes true (pieces ++ 34 ∷ [])
    ≡ true
pieces-close [] pieces h = ap (λ p. closes true (p ++ 34 ∷ [])) h
pieces-close (b ∷ text) pieces (piece, rest, e, one, more) =
    ap (λ p. closes true (p ++ 34 ∷ [])) e ∙ ap (closes true) (append_assoc piece rest (34 ∷ [])) ∙
    go one ∙ pieces-close text rest more
  where
    go : IsPiece b piece → closes true (piece ++ (rest ++ 34 ∷ [])) ≡ closes true (rest ++ 34 ∷ [])
    go (inl (plain, shown)) = ap (λ p. closes true (p ++ (rest ++ 34 ∷ []))) shown ∙ plain-shown b
        plain (rest ++ 34 ∷ [])
    go (inr (small, escaped)) =
        ap (λ p. closes true (p ++ (rest ++ 34 ∷ []))) escaped
        ∙ glyph-shown (b / 16) (omega arith) (digit_glyph false (b % 16) ∷ rest ++ 34 ∷ [])
        ∙ glyph-shown (b % 16) (omega arith) (rest ++ 34 ∷ [])

pub quoted-closes : (text word : List ℕ) → IsQuoted text word → closes false word ≡ true
quoted-closes text word (pieces, e, h) = ap (closes false) e ∙ pieces-close text pieces h

-- a text's own pieces, where its bytes are bytes
pub quoted-quoted : (text : List ℕ) → list_all (λ b. nat_lt b 256) text ≡ true
    → IsQuoted text (quoted text)
unfolding quoted
quoted-quoted text bytes = (flat_map quoted_byte text, refl, pieces text bytes)
  where
    piece : (b : ℕ) → b < 256 → IsPiece b (quoted_byte b)
    piece b small = go (is_plain b) refl
      where
        go : (t : Bool) → is_plain b ≡ t → IsPiece b (if t then b ∷ [] else escape b)
        go true e = inl (e, refl)
        go false e = inr (small, refl)

    pieces : (text : List ℕ) → list_all (λ b. nat_lt b 256) text ≡ true
        → ArePieces text (flat_map quoted_byte text)
    pieces [] h = refl
    pieces (b ∷ text) h =
        let p = and_parts (nat_lt b 256) (list_all (λ b. nat_lt b 256) text) h in (
          quoted_byte b,
          flat_map quoted_byte text,
          refl,
          piece b (ltb-true b 256 p.0),
          pieces text
              p.1,
        )
