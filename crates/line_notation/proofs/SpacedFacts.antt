-- The words of a line that has these words, and the line of the words that a line has.
use Rattle.std.proofs.Common.{◌≡◌, ℕ, ◌<◌, ◌≤◌, Bool, true, false, not, ◌&&◌, List, [], ◌∷◌, ◌++◌}
use Rattle.std.proofs.Common.{if◌then◌else◌, nat_lt, nat_le, ◌==◌, sym, refl, ap, ◌∙◌, append-nil}
use Rattle.std.proofs.Common.{arith, lt-ltb, eqb-true, le-leb}
use Rattle.std.{proofs.lemmas.Bool.and_parts, proofs.lemmas.Bool.not-true, specs.List.list_all}
use Rattle.line_notation.{specs.Quoted.is_plain, specs.Words.words_of, proofs.GatherFacts.eqb-other}
use Rattle.line_notation.specs.Words.{behind_spaces, goes_on_within, onto_first, spaced, words_from}

-- a line has a first word
record HasFirst (words : List (List ℕ)) : Type 0 where
  word : List ℕ
  more : List (List ℕ)
  is : words ≡ word ∷ more

onto_first-first : (b : ℕ) (words : List (List ℕ)) → HasFirst (onto_first b words)
onto_first-first b [] = record { word = b ∷ []; more = []; is = refl }
onto_first-first b (word ∷ words) = record { word = b ∷ word; more = words; is = refl }

words_from-first : (within : Bool) (line : List ℕ) → HasFirst (words_from within line)
words_from-first within [] = record { word = []; more = []; is = refl }
words_from-first within (b ∷ line) = go (b == 32 && not within)
  where
    more : List (List ℕ)
    more = words_from (goes_on_within within b) line

    go : (t : Bool) → HasFirst (if t then [] ∷ more else onto_first b more)
    go true = record { word = []; more = more; is = refl }
    go false = onto_first-first b more

-- the line of the words that a line has
behind_spaces-first : (words : List (List ℕ)) → HasFirst words → behind_spaces words ≡ 32
    ∷ spaced words
behind_spaces-first words h = ap behind_spaces h.is ∙ ap (λ ws. 32 ∷ spaced ws) (sym h.is)

spaced-onto_first : (b : ℕ) (words : List (List ℕ)) → HasFirst words → spaced (onto_first b words)
    ≡ b ∷ spaced words
spaced-onto_first b words h = ap (λ ws. spaced (onto_first b ws)) h.is ∙ ap (λ ws. b ∷ spaced ws)
    (sym h.is)

spaced-words_from : (within : Bool) (line : List ℕ) → spaced (words_from within line) ≡ line
spaced-words_from within [] = refl
spaced-words_from within (b ∷ line) = go (b == 32 && not within) refl
    (spaced-words_from (goes_on_within within b) line)
  where
    more : List (List ℕ)
    more = words_from (goes_on_within within b) line

    first : HasFirst more
    first = words_from-first (goes_on_within within b) line

    go : (t : Bool) → (b == 32 && not within) ≡ t → spaced more ≡ line
        → spaced (if t then [] ∷ more else onto_first b more) ≡ b ∷ line
    go true e same =
        let space : b ≡ 32 = eqb-true b 32 (and_parts (b == 32) (not within) e).0 in
        behind_spaces-first more first ∙ ap (λ l. 32 ∷ l) same ∙ ap (λ c. c ∷ line) (sym space)
    go false e same = spaced-onto_first b more first ∙ ap (λ l. b ∷ l) same

pub spaced-words_of : (line : List ℕ) → spaced (words_of line) ≡ line
spaced-words_of line = spaced-words_from false line

-- whether no space stands outside quotes, and quotes are closed
abbrev pub closes : Bool → List ℕ → Bool
closes within [] = not within
closes within (b ∷ word) = not (b == 32 && not within) && closes (goes_on_within within b) word

-- a closed word in front
pub closed-ends : (within : Bool) (word : List ℕ) → closes within word ≡ true → words_from within
    word ≡ word ∷ []
closed-ends within [] h = refl
closed-ends within (b ∷ word) h =
    let p = and_parts (not (b == 32 && not within)) (closes (goes_on_within within b) word) h in
    ap (λ t. if t then [] ∷ words_from (goes_on_within within b) word else onto_first b
    (words_from (goes_on_within within b) word)) (negated (b == 32 && not within) p.0)
    ∙ ap (onto_first b) (closed-ends (goes_on_within within b) word p.1)
  where
    negated : (t : Bool) → not t ≡ true → t ≡ false
    negated true e = absurd cc
    negated false e = refl

pub closed-goes_on : (within : Bool) (word rest : List ℕ) → closes within word ≡ true
    → words_from within (word ++ 32 ∷ rest) ≡ word ∷ words_of rest
closed-goes_on true [] rest h = absurd cc
closed-goes_on false [] rest h = refl
closed-goes_on within (b ∷ word) rest h =
    let p = and_parts (not (b == 32 && not within)) (closes (goes_on_within within b) word) h in
    let more = words_from (goes_on_within within b) (word ++ 32 ∷ rest) in
    ap (λ t. if t then [] ∷ more else onto_first b more) (negated (b == 32 && not within) p.0)
    ∙ ap (onto_first b) (closed-goes_on (goes_on_within within b) word rest p.1)
  where
    negated : (t : Bool) → not t ≡ true → t ≡ false
    negated true e = absurd cc
    negated false e = refl

-- closed words
abbrev pub AreClosed : List (List ℕ) → Type 0
AreClosed words = list_all (closes false) words ≡ true

pub words_of-spaced : (word : List ℕ) (words : List (List ℕ)) → AreClosed (word ∷ words)
    → words_of (spaced (word ∷ words)) ≡ word ∷ words
words_of-spaced word [] h =
    ap words_of (append-nil word) ∙ closed-ends false word (and_parts (closes false word) true h).0
words_of-spaced word (next ∷ words) h =
    let p = and_parts (closes false word) (list_all (closes false) (next ∷ words)) h in
    closed-goes_on false word (spaced (next ∷ words)) p.0 ∙ ap (λ ws. word ∷ ws)
    (words_of-spaced next words p.1)

-- a byte that a word may have out of quotes
abbrev pub is_solid : ℕ → Bool
is_solid b = is_plain b && not (b == 32)

pub solid : (b : ℕ) → 33 ≤ b → b < 127 → (b ≡ 34 → ⊥) → (b ≡ 92 → ⊥) → is_solid b ≡ true
solid b least most quote slash =
    rw (
      le-leb 32 b (omega arith),
      lt-ltb b 127 most,
      eqb-other b 34 quote,
      eqb-other b 92 slash,
      eqb-other b 32 (λ e. omega (arith, e, least)),
    ) refl

-- a plain byte is no quote
pub plain-no_quote : (b : ℕ) → is_plain b ≡ true → (b == 34) ≡ false
plain-no_quote b plain =
    let p = and_parts (nat_le 32 b && nat_lt b 127 && not (b == 34)) (not (b == 92)) plain in
    not-true (b == 34) (and_parts (nat_le 32 b && nat_lt b 127) (not (b == 34)) p.0).1

pub solid-closes : (word : List ℕ) → list_all is_solid word ≡ true → closes false word ≡ true
solid-closes [] h = refl
solid-closes (b ∷ word) h =
    let p = and_parts (is_solid b) (list_all is_solid word) h in
    let q = and_parts (is_plain b) (not (b == 32)) p.0 in
    rw (not-true (b == 32) q.1, plain-no_quote b q.0) (solid-closes word p.1)
