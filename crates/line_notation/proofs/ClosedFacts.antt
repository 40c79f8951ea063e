-- The words of a line of a form have no space outside quotes, so that the line has just these
-- words.
use Rattle.std.proofs.Common.{◌≡◌, ℕ, ◌<◌, true, false, List, [], ◌∷◌, length, refl, inl, inr}
use Rattle.{std.proofs.Common.arith, line_notation.proofs.PiecesFacts.quoted-closes}
use Rattle.line_notation.specs.{Forms.Form, Forms.IsForm, Words.spaced, Words.words_of}
use Rattle.line_notation.proofs.LineWords.{AreWords, IsWord, line-words}
use Rattle.line_notation.proofs.SpacedFacts.{AreClosed, closes, solid-closes, words_of-spaced}

word-closes : (word : List ℕ) → IsWord word → closes false word ≡ true
word-closes word (inl h) = solid-closes word h
word-closes word (inr (bytes, q)) = quoted-closes bytes word q

words-closed : (words : List (List ℕ)) → AreWords words → AreClosed words
words-closed [] h = refl
words-closed (word ∷ words) h = rw (word-closes word h.0, words-closed words h.1) refl

some-words : (words : List (List ℕ)) → 0 < length words → AreClosed words → words_of (spaced words)
    ≡ words
some-words [] some h = absurd (omega arith)
some-words (word ∷ words) some h = words_of-spaced word words h

pub form-words : (form : Form) (words : List (List ℕ)) → IsForm form words → words_of (spaced words)
    ≡ words
form-words form words h = let w = line-words form words h in some-words words w.some
    (words-closed words w.are)
