-- Where what a line says leads.
use Rattle.std.proofs.Common.{◌≡◌, ℕ, false, List, [], ◌∷◌, Some, None, Ok, Err, Option, Result}
use Rattle.std.proofs.Common.{refl, ap, ◌∙◌}
use Rattle.nbfx_values.proofs.Walks.{document-position, position_of-document}
use Rattle.nbfx_values.specs.declared.content.{ArrayItem.ArrayItem, Item.Item}
use Rattle.nbfx_values.specs.{declared.position.Position.Position, Documents.IsDocument}
use Rattle.nbfx_values.specs.declared.position.Position.TheVariants.{After, Before, Within}
use Rattle.{nbfx_values.specs.Positions.position_of, line_notation.proofs.GatherFacts.some_same}
use Rattle.line_notation.specs.declared.{line.Keyword.Keyword, line.Line.Line, words.Stop.Stop}
use Rattle.line_notation.specs.declared.reader.LineKind.{LineKind, TheVariants.NotALine}
use Rattle.line_notation.specs.{BehindKeywords.judged_behind, Steps.Stops}
use Rattle.line_notation.specs.Forms.{Form, form_behind, form_in, form_of, keyword_in}
use Rattle.line_notation.specs.{Judging.judged as judge, Options.◌>>=◌}
use Rattle.line_notation.specs.LineReaderState.{ends, is_passed_over, kind_of, on, outcome}
use Rattle.line_notation.specs.LineReaderState.{outcome_of, placed_at}
use Rattle.line_notation.specs.Placing.{led_by, Places, stopped}
use Rattle.line_notation.specs.{Scalars.one_word, Words.words_of}
use Rattle.line_notation.specs.declared.words.Stop.TheVariants as stops

-- to the end of a document
pub place-ends : (items : List Item) → IsDocument items → placed_at (position_of items) items
    ≡ Ok (ends items)
place-ends items h = rw (document-position items h) refl

-- on
pub place-on : (items : List Item) → (position_of items ≡ None → ⊥) → (IsDocument items → ⊥)
    → placed_at (position_of items) items ≡ Ok (on items None)
place-on items some unfinished = go (position_of items) refl
  where
    go : (p : Option Position) → position_of items ≡ p → placed_at p items ≡ Ok (on items None)
    go None e = absurd (some e)
    go (Some Before) e = refl
    go (Some (Within inner attributes)) e = refl
    go (Some After) e = absurd (unfinished (position_of-document items e))

-- a line that isn't passed over is read
pub outcome-read : (items : List Item) (array : Option ArrayItem) (line : List ℕ)
    → is_passed_over items array line ≡ false → outcome items array line ≡ outcome_of items array
    (form_of line)
outcome-read [] None [] read = absurd cc
outcome-read [] None (b ∷ line) read = refl
outcome-read [] (Some a) line read = refl
outcome-read (item ∷ items) array line read = refl

-- a keyword, if there is one, and the words behind it
abbrev with_rest : Option Keyword → List (List ℕ) → Option (Keyword × List (List ℕ))
with_rest own rest = ◌>>=◌ {A = Keyword} {B = Keyword × List (List ℕ)} own (λ k. Some (k, rest))

-- by its keyword and the words behind it
pub outcome-behind : (items : List Item) (array : Option ArrayItem) (line : List ℕ)
    (keyword : Keyword) (words : List (List ℕ)) → is_passed_over items array line ≡ false
    → one_word keyword_in (words_of line) ≡ Some (keyword, words) → outcome items array line
    ≡ led_by items array (judged_behind (kind_of array) keyword words)
outcome-behind items array line keyword words read e = outcome-read items array line read
    ∙ ap (outcome_of items array) (go (words_of line) e) ∙ led-behind (form_behind keyword words)
  where
    first : (word : List ℕ) (rest : List (List ℕ)) (own : Option Keyword)
        → with_rest own rest ≡ Some (keyword, words)
        → (own >>= λ k. form_behind k rest) ≡ form_behind keyword words
    first word rest None e = absurd cc
    first word rest (Some k) e = ap (λ found. form_behind found.0 found.1) (some_same e)

    go : (all : List (List ℕ)) → one_word keyword_in all ≡ Some (keyword, words) → form_in all
        ≡ form_behind keyword words
    go [] e = absurd cc
    go (word ∷ rest) e = first word rest (keyword_in word) e

    led-behind : (form : Option Form) → outcome_of items array form
        ≡ led_by items array (form >>= λ f. Some (judge (kind_of array) f))
    led-behind None = refl
    led-behind (Some f) = refl

-- a line without a keyword
outcome-none : (items : List Item) (array : Option ArrayItem) (line : List ℕ)
    → is_passed_over items array line ≡ false → one_word keyword_in (words_of line) ≡ None
    → outcome items array line ≡ Err NotALine
outcome-none items array line read e = outcome-read items array line read
    ∙ ap (outcome_of items array) (go (words_of line) e)
  where
    first : (rest : List (List ℕ)) (own : Option Keyword) → with_rest own rest ≡ None
        → (own >>= λ k. form_behind k rest) ≡ None
    first rest None e = refl
    first rest (Some k) e = absurd cc

    go : (all : List (List ℕ)) → one_word keyword_in all ≡ None → form_in all ≡ None
    go [] e = refl
    go (word ∷ rest) e = first rest (keyword_in word) e

pub outcome-stops : (items : List Item) (array : Option ArrayItem) (line : List ℕ) (stop : Stop)
    → is_passed_over items array line ≡ false → Stops stop (one_word keyword_in (words_of line))
    → Places (Err (stopped stop)) (outcome items array line) items array
outcome-stops items array line stops.NotALine read h = outcome-none items array line read h
outcome-stops items array line stops.Memory read h = tt

-- words behind a keyword that are not read on
pub behind-stops : (items : List Item) (array : Option ArrayItem)
    (found : Option (Result Line LineKind)) (stop : Stop) → Stops stop found
    → Places (Err (stopped stop)) (led_by items array found) items array
behind-stops items array found stops.NotALine h = ap (led_by items array) h
behind-stops items array found stops.Memory h = tt
