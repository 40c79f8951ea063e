-- The words of a line.
use Rattle.std.proofs.Common.{◌≡◌, ℕ, suc, ◌+◌, ◌^◌, ◌<◌, ◌≤◌, Bool, true, false, not, ◌&&◌, ◌⊎◌}
use Rattle.std.proofs.Common.{◌↔◌, List, [], ◌∷◌, ◌++◌, length, get_or, take, drop, is_some}
use Rattle.std.proofs.Common.{if◌then◌else◌, IsTrue, ◌==◌, Some, None, Option, option_map}
use Rattle.std.proofs.Common.{take_while, sym, refl, ap, ◌∙◌, subst, inl, inr, append-nil, arith}
use Rattle.std.{proofs.Common.drop-cons, proofs.Common.eqb-true, specs.List.prefix_len}
use Rattle.std.proofs.lemmas.Bool.{and_parts, cases_lt, not-true}
use Rattle.std.proofs.lemmas.List.{drop_all, Folds.length-prefix_len}
use Rattle.std.proofs.lemmas.List.Sums.{prefix_len-le-length, prefix_len_stops}
use Rattle.line_notation.specs.{Steps.CutsWord, Steps.words_behind, Words.words_of}
use Rattle.line_notation.specs.Words.{goes_on_within, is_bare, onto_first, words_from, words_left}

-- bytes before the first word
abbrev pub prepended : List ℕ → List (List ℕ) → List (List ℕ)
prepended front [] = front ∷ []
prepended front (word ∷ words) = (front ++ word) ∷ words

-- the words of a line, of which so many bytes belong to the first one
pub record WithinWord (line : List ℕ) (within : Bool) (at : ℕ) : Type 0 where
  pub words : words_of line ≡ prepended (take at line) (words_from within (drop at line))

onto_first-prepended : (b : ℕ) (words : List (List ℕ)) → onto_first b words
    ≡ prepended [] (onto_first b words)
onto_first-prepended b [] = refl
onto_first-prepended b (word ∷ words) = refl

words_from-prepended : (within : Bool) (line : List ℕ) → words_from within line
    ≡ prepended [] (words_from within line)
words_from-prepended within [] = refl
words_from-prepended within (b ∷ line) = go (b == 32 && not within)
  where
    more : List (List ℕ)
    more = words_from (goes_on_within within b) line

    go : (t : Bool) → (if t then [] ∷ more else onto_first b more)
        ≡ prepended [] (if t then [] ∷ more else onto_first b more)
    go true = refl
    go false = onto_first-prepended b more

pub word-begins : (line : List ℕ) → WithinWord line false 0
word-begins line = record { words = words_from-prepended false line }

pub word-ends : (line : List ℕ) (within : Bool) (at : ℕ) → at < length line → get_or line at 0 ≡ 32
    → within ≡ false → WithinWord line within at → CutsWord line at
word-ends line within at below space out h = record {
  within = omega arith;
  words =
      let behind = drop (suc at) line in
      let shape : drop at line ≡ 32 ∷ behind = drop-cons line at 0 below ∙ ap (λ b. b ∷ behind)
      space in
      h.words ∙ ap (λ t. prepended (take at line) (words_from t (drop at line))) out
      ∙ ap (λ l. prepended (take at line) (words_from false l)) shape
      ∙ ap (λ l. l ∷ words_of behind) (append-nil (take at line))
      ∙ ap (λ l. take at line ∷ words_behind l) (sym shape);
}

pub line-ends : (line : List ℕ) (within : Bool) (at : ℕ) → at ≤ length line → length line ≤ at
    → WithinWord line within at → CutsWord line (length line)
line-ends line within at below end h = record {
  within = omega arith;
  words =
      let same : at ≡ length line = omega arith in
      let none : drop (length line) line ≡ [] = drop_all (length line) line (omega arith) in
      h.words ∙ ap (λ n. prepended (take n line) (words_from within (drop n line))) same
      ∙ ap (λ l. prepended (take (length line) line) (words_from within l)) none ∙ ap (λ l. l ∷ [])
      (append-nil (take (length line) line))
      ∙ ap (λ l. take (length line) line ∷ words_behind l) (sym none);
}

-- a line has a word, be it an empty one
words_of-some : (line : List ℕ) → words_of line ≡ [] → ⊥
words_of-some line none = absurd
    (prepended-some (words_of line) (sym (words_from-prepended false line) ∙ none))
  where
    prepended-some : (words : List (List ℕ)) → prepended [] words ≡ [] → ⊥
    prepended-some [] e = cc
    prepended-some (word ∷ words) e = cc

-- none is left exactly where the line is used up
pub words_left-none : {A : Type 0} (seen : A → List ℕ) (line : Option A) (r : Bool) → is_some line
    ≡ not r → IsTrue r ↔ (words_left (option_map seen line) ≡ [])
words_left-none seen None true h = (λ t. refl, λ e. refl)
words_left-none seen None false h = cc
words_left-none seen (Some line) true h = cc
words_left-none seen (Some line) false h = (
  λ t. absurd (let e : false ≡ true = t in cc),
  λ e.
      absurd (words_of-some (seen line) e),
)

-- a line has no more words than bytes and one
onto_first-length : (b : ℕ) (words : List (List ℕ)) (n : ℕ) → length words ≤ n + 1
    → length (onto_first b words) ≤ n + 1
onto_first-length b [] n h = omega arith
onto_first-length b (word ∷ words) n h = h

words_from-length : (within : Bool) (line : List ℕ) → length (words_from within line) ≤ length line
    + 1
words_from-length within [] = omega arith
words_from-length within (b ∷ line) = go (b == 32 && not within)
    (words_from (goes_on_within within b) line) (words_from-length (goes_on_within within b) line)
  where
    go : (t : Bool) (more : List (List ℕ)) → length more ≤ length line + 1
        → length (if t then [] ∷ more else onto_first b more) ≤ length (b ∷ line) + 1
    go true more h = omega arith
    go false more h = onto_first-length b more (length (b ∷ line)) (omega arith)

pub words_of-few : (line : List ℕ) → length line < 2 ^ 63 → length (words_of line) ≤ 2 ^ 63
words_of-few line few = omega (arith, words_from-length false line)

-- bytes in front that neither end the word nor open quotes belong to it
onto_first-within : (b : ℕ) (front : List ℕ) (words : List (List ℕ))
    → onto_first b (prepended front words) ≡ prepended (b ∷ front) words
onto_first-within b front [] = refl
onto_first-within b front (word ∷ words) = refl

bare-within : (line : List ℕ) → words_of line ≡ prepended (take_while is_bare line)
    (words_from false (drop (prefix_len is_bare line) line))
bare-within [] = refl
bare-within (b ∷ line) = go (is_bare b) refl (bare-within line)
  where
    go : (t : Bool) → is_bare b ≡ t → words_of line ≡ prepended (take_while is_bare line)
        (words_from false (drop (prefix_len is_bare line) line))
        → words_of (b ∷ line) ≡ prepended (take_while is_bare (b ∷ line))
        (words_from false (drop (prefix_len is_bare (b ∷ line)) (b ∷ line)))
    go true e h =
        let p = and_parts (not (b == 32)) (not (b == 34)) e in
        let one : 1 + prefix_len is_bare line ≡ suc (prefix_len is_bare line) = omega arith in
        rw (e, one) (rw (not-true (b == 32) p.0, not-true (b == 34) p.1)
        (ap (onto_first b) h ∙ onto_first-within b (take_while is_bare line) _))
    go false e h = rw e (words_from-prepended false (b ∷ line))

within-bare : (line : List ℕ) (n : ℕ) → n ≡ length (take_while is_bare line) → WithinWord line false
    n
within-bare line n e =
    let same : n ≡ prefix_len is_bare line = e ∙ length-prefix_len is_bare line in
    record { words = rw same (bare-within line) }

-- the first that isn't such is a quote or a space
space-or-quote : (b : ℕ) → is_bare b ≡ false → (b ≡ 34 → ⊥) → b ≡ 32
space-or-quote b bare quote = go (b == 32) (b == 34) refl refl bare
  where
    go : (s q : Bool) → (b == 32) ≡ s → (b == 34) ≡ q → (not s && not q) ≡ false → b ≡ 32
    go true q e f h = eqb-true b 32 e
    go false true e f h = absurd (quote (eqb-true b 34 f))
    go false false e f h = absurd cc

pub bare-ends : (line : List ℕ) (n : ℕ) → n ≡ length (take_while is_bare line)
    → (n < length line → get_or line n 0 ≡ 34 → ⊥) → CutsWord line n
bare-ends line n e other = go (cases_lt n (length line))
  where
    same : n ≡ prefix_len is_bare line
    same = e ∙ length-prefix_len is_bare line

    go : (n < length line) ⊎ (length line ≤ n) → CutsWord line n
    go (inl below) =
        let bare : is_bare (get_or line n 0) ≡ false = rw same
        (prefix_len_stops is_bare line 0 (let b = below in omega (arith, b, same))) in
        word-ends line false n below (space-or-quote (get_or line n 0) bare (other below)) refl
        (within-bare line n e)
    go (inr end) =
        let most : n ≤ length line = rw same (prefix_len-le-length is_bare line) in
        subst (CutsWord line) (let f : length line ≡ n = omega (arith, end, most) in f)
        (line-ends line false n most end (within-bare line n e))
