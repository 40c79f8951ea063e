-- No line of a form has a line feed in it, so that the text of lines is cut at its line feeds.
use Rattle.std.proofs.Common.{◌≡◌, ℕ, ◌/◌, ◌%◌, ◌<◌, Bool, true, false, not, ◌&&◌, List, [], ◌∷◌}
use Rattle.std.proofs.Common.{◌++◌, if◌then◌else◌, nat_lt, nat_le, ◌==◌, flat_map, refl, ap, ◌∙◌}
use Rattle.std.proofs.Common.{inl, inr, append_assoc, arith, leb-true}
use Rattle.std.proofs.lemmas.{Bool.and_parts, Bool.not-true, List.Folds.list_all-append}
use Rattle.std.specs.{Fmt.digit_glyph, List.list_all}
use Rattle.nbfx_values.specs.{declared.content.Item.Item, Items.is_valid_item}
use Rattle.line_notation.specs.{Forms.Form, Forms.IsLine, Lines.lines_of, Lines.with_line_feed}
use Rattle.line_notation.specs.Lines.{AreLines, cut, cut_before, forms_of, has_no_feed, items_text}
use Rattle.line_notation.specs.Quoted.{ArePieces, is_plain, IsPiece, IsQuoted}
use Rattle.line_notation.specs.Words.{behind_spaces, spaced}
use Rattle.line_notation.proofs.{GatherFacts.eqb-other, SpacedFacts.is_solid}
use Rattle.line_notation.proofs.LineWords.{AreWords, glyph-solid, IsWord, line-words}
use Rattle.line_notation.proofs.PutForms.{lines_of-lines}

-- a byte of 32 or above, and words of such bytes
abbrev is_shown : ℕ → Bool
is_shown b = nat_le 32 b

abbrev are_shown : List ℕ → Bool
are_shown = list_all is_shown

abbrev AreShown : List (List ℕ) → Type 0
AreShown words = list_all are_shown words ≡ true

plain-shown : (b : ℕ) → is_plain b ≡ true → is_shown b ≡ true
plain-shown b h =
    let p = and_parts (nat_le 32 b && nat_lt b 127 && not (b == 34)) (not (b == 92)) h in
    let q = and_parts (nat_le 32 b && nat_lt b 127) (not (b == 34)) p.0 in
    (and_parts (nat_le 32 b) (nat_lt b 127) q.0).0

solid-shown : (b : ℕ) → is_solid b ≡ true → is_shown b ≡ true
solid-shown b h = plain-shown b (and_parts (is_plain b) (not (b == 32)) h).0

solids-shown : (word : List ℕ) → list_all is_solid word ≡ true → are_shown word ≡ true
solids-shown [] h = refl
solids-shown (b ∷ word) h =
    let p = and_parts (is_solid b) (list_all is_solid word) h in
    rw (solid-shown b p.0, solids-shown word p.1) refl

-- a text in quotes
digit-shown : (d : ℕ) → d < 16 → is_shown (digit_glyph false d) ≡ true
digit-shown d small = solid-shown (digit_glyph false d) (glyph-solid d small)

piece-shown : (b : ℕ) (piece : List ℕ) → IsPiece b piece → are_shown piece ≡ true
piece-shown b piece (inl (plain, e)) = ap are_shown e ∙ rw (plain-shown b plain) refl
piece-shown b piece (inr (small, e)) = ap are_shown e ∙
    rw (digit-shown (b / 16) (omega arith), digit-shown (b % 16) (omega arith)) refl

pieces-shown : (bytes pieces : List ℕ) → ArePieces bytes pieces → are_shown pieces ≡ true
pieces-shown [] pieces h = ap are_shown h
pieces-shown (b ∷ bytes) pieces (piece, rest, e, is, more) =
    ap are_shown e ∙ list_all-append is_shown piece rest ∙
    rw (piece-shown b piece is, pieces-shown bytes rest more) refl

quoted-shown : (bytes word : List ℕ) → IsQuoted bytes word → are_shown word ≡ true
quoted-shown bytes word (pieces, e, h) = ap are_shown e ∙ list_all-append is_shown pieces (34 ∷ [])
    ∙ rw (pieces-shown bytes pieces h) refl

-- a line's words, and the line
words-shown : (words : List (List ℕ)) → AreWords words → AreShown words
words-shown [] h = refl
words-shown (word ∷ words) h = rw (shown h.0, words-shown words h.1) refl
  where
    shown : IsWord word → are_shown word ≡ true
    shown (inl solid) = solids-shown word solid
    shown (inr (bytes, q)) = quoted-shown bytes word q

behind-shown : (words : List (List ℕ)) → AreShown words → are_shown (behind_spaces words) ≡ true
behind-shown [] h = refl
behind-shown (word ∷ words) h =
    let p = and_parts (are_shown word) (list_all are_shown words) h in
    list_all-append is_shown word (behind_spaces words) ∙ rw (p.0, behind-shown words p.1) refl

spaced-shown : (words : List (List ℕ)) → AreShown words → are_shown (spaced words) ≡ true
spaced-shown [] h = refl
spaced-shown (word ∷ words) h =
    let p = and_parts (are_shown word) (list_all are_shown words) h in
    list_all-append is_shown word (behind_spaces words) ∙ rw (p.0, behind-shown words p.1) refl

shown-no_feed : (line : List ℕ) → are_shown line ≡ true → has_no_feed line ≡ true
shown-no_feed [] h = refl
shown-no_feed (b ∷ line) h =
    let p = and_parts (is_shown b) (are_shown line) h in
    let least = leb-true 32 b p.0 in
    rw (eqb-other b 10 (λ e. omega (arith, e, least)), shown-no_feed line p.1) refl

pub line-no_feed : (form : Form) (line : List ℕ) → IsLine form line → has_no_feed line ≡ true
line-no_feed form line (words, e, h) = ap has_no_feed e ∙ shown-no_feed (spaced words)
    (spaced-shown words (words-shown words (line-words form words h).are))

-- a text is cut behind its first line, and into all of its lines
abbrev Cut : Type 0
Cut = List (List ℕ) × List ℕ

cut-line : (line rest : List ℕ) → has_no_feed line ≡ true → ◌≡◌ {A = Cut} (cut (line ++ 10 ∷ rest))
    (line ∷ (cut rest).0, (cut rest).1)
cut-line [] rest h = refl
cut-line (b ∷ line) rest h =
    let p = and_parts (not (b == 10)) (has_no_feed line) h in
    ap (λ t. let more = cut (line ++ 10 ∷ rest) in if t then ([] ∷ more.0, more.1) else cut_before b
    more) (not-true (b == 10) p.0)
    ∙ ap (cut_before b) (cut-line line rest p.1)

cut-lines : (lines : List (List ℕ)) → list_all has_no_feed lines ≡ true
    → ◌≡◌ {A = Cut} (cut (flat_map with_line_feed lines)) (lines, [])
cut-lines [] h = refl
cut-lines (line ∷ lines) h =
    let p = and_parts (has_no_feed line) (list_all has_no_feed lines) h in
    ap cut (append_assoc line (10 ∷ []) (flat_map with_line_feed lines)) ∙ cut-line line
    (flat_map with_line_feed lines) p.0
    ∙ ap (λ (c : Cut). (line ∷ c.0, c.1)) (cut-lines lines p.1)

lines-no_feed : (forms : List Form) (lines : List (List ℕ)) → AreLines forms lines
    → list_all has_no_feed lines ≡ true
lines-no_feed [] lines h = ap (list_all has_no_feed) h
lines-no_feed (form ∷ forms) lines (line, rest, e, is, h) = ap (list_all has_no_feed) e ∙
    rw (line-no_feed form line is, lines-no_feed forms rest h) refl

pub text-cut : (items : List Item) → list_all is_valid_item items ≡ true
    → ◌≡◌ {A = Cut} (cut (items_text items)) (lines_of items, [])
unfolding items_text
text-cut items h = cut-lines (lines_of items) (lines-no_feed (forms_of items) (lines_of items)
    (lines_of-lines items h))
