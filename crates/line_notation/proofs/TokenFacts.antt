-- The tokens of values: each takes a word, and all of them take all words.
use Rattle.std.proofs.Common.{◌≡◌, ℕ, zero, suc, ◌^◌, ◌<◌, ◌≤◌, Bool, true, false, List, [], ◌∷◌}
use Rattle.std.proofs.Common.{length, if◌then◌else◌, nat_le, Some, None, codes, Option, bytes_eq}
use Rattle.std.proofs.Common.{sym, refl, ap, ◌∙◌, subst, arith, w32, w64}
use Rattle.nbfx_values.specs.declared.scalars.Scalar.{Scalar}
use Rattle.nbfx_values.specs.declared.scalars.Scalar.TheVariants.{Bytes, DateTime, Decimal, Double}
use Rattle.nbfx_values.specs.declared.scalars.Scalar.TheVariants.{Float, Number, QName, Text}
use Rattle.nbfx_values.specs.declared.scalars.Scalar.TheVariants.{TimeSpan, Truth, UniqueId, Uuid}
use Rattle.line_notation.specs.{declared.scalars.ScalarKind.ScalarKind, Options.◌>>=◌}
use Rattle.line_notation.specs.{declared.values.JudgedToken.JudgedToken, Quoted.quoted_in}
use Rattle.line_notation.specs.Numerals.{hexadecimal_in, integer_in, natural_in}
use Rattle.line_notation.specs.Parts.{judged_token, judged_token_at}
use Rattle.line_notation.specs.Scalars.{bytes_in_quotes, decimal_at, decimal_of, identifier_in}
use Rattle.line_notation.specs.Scalars.{letter_in, name_at, one_word, scalar_at, scalar_kind_in}
use Rattle.line_notation.specs.Scalars.{sign_in, truth_in, valued}
use Rattle.line_notation.specs.Values.{behind, count_at, first, gathered, how_many, list, listed}
use Rattle.line_notation.specs.Values.{one, plain_at, scalar, Token, token_at, tokens_within}
use Rattle.line_notation.specs.Values.{values_in, Written}
use Rattle.line_notation.proofs.GatherFacts.{Few, how_many-behind, put, some_same}
use Rattle.line_notation.specs.declared.scalars.ScalarKind.TheVariants as kinds

-- what a second step found
pub record Found {A B : Type 0} (read : Option A) (step : A → Option B) (b : B) : Type 0 where
  pub value : A
  pub read_is : read ≡ Some value
  pub step_is : step value ≡ Some b

pub found : {A B : Type 0} (read : Option A) (step : A → Option B) (b : B) → (read >>= step)
    ≡ Some b → Found read step b
found None step b e = absurd cc
found (Some a) step b e = record { value = a; read_is = refl; step_is = e }

-- words that are fewer behind what was read
unfoldable pub Shortens : {A : Type 0} → (List (List ℕ) → Option (A × List (List ℕ))) → Type 0
Shortens {A} read = (words : List (List ℕ)) (p : A × List (List ℕ)) → read words ≡ Some p
    → length p.1 < length words

-- as many as are left of what was found
left_same : {A : Type 0} (p q : A × List (List ℕ)) → Some p ≡ Some q → length p.1 ≡ length q.1
left_same p q e = ap (λ r. length r.1) (some_same e)

one_word-shortens : {A : Type 0} (read : List ℕ → Option A) → Shortens (one_word read)
unfolding Shortens
one_word-shortens read [] p e = absurd cc
one_word-shortens read (word ∷ words) p e =
    let f = found (read word) (λ a. Some (a, words)) p e in
    let same : length words ≡ length p.1 = left_same (f.value, words) p f.step_is in
    omega arith

valued-shortens : {A : Type 0} (make : A → Scalar) (read : List ℕ → Option A)
    → Shortens (valued make read)
unfolding Shortens
valued-shortens make read words p e =
    let f = found (one_word read words) (λ one. Some (make one.0, one.1)) p e in
    let same : length f.value.1 ≡ length p.1 = left_same (make f.value.0, f.value.1) p f.step_is in
    let h = one_word-shortens read words f.value f.read_is in
    omega arith

decimal_at-shortens : Shortens decimal_at
unfolding Shortens
decimal_at-shortens words p e =
    let a = found (one_word natural_in words) _ p e in
    let b = found (one_word sign_in a.value.1) _ p a.step_is in
    let d = found (one_word natural_in b.value.1) _ p b.step_is in
    let same : length d.value.1 ≡ length p.1 = left_same
    (Decimal (decimal_of a.value.0 b.value.0 d.value.0), d.value.1) p d.step_is in
    let i : length a.value.1 < length words = one_word-shortens natural_in words a.value a.read_is
    in
    let j : length b.value.1 < length a.value.1 = one_word-shortens sign_in a.value.1 b.value
    b.read_is in
    let k : length d.value.1 < length b.value.1 = one_word-shortens natural_in b.value.1 d.value
    d.read_is in
    chain _ _ _ _ _ same k j i
  where
    chain : (p d b a w : ℕ) → d ≡ p → d < b → b < a → a < w → p < w
    chain p d b a w e f g h = omega arith

name_at-shortens : Shortens name_at
unfolding Shortens
name_at-shortens words p e =
    let a = found (one_word letter_in words) _ p e in
    let b = found (one_word quoted_in a.value.1) _ p a.step_is in
    let same : length b.value.1 ≡ length p.1 = left_same (QName a.value.0 b.value.0, b.value.1) p
    b.step_is in
    let i : length a.value.1 < length words = one_word-shortens letter_in words a.value a.read_is in
    let j : length b.value.1 < length a.value.1 = one_word-shortens quoted_in a.value.1 b.value
    b.read_is in
    chain _ _ _ _ same j i
  where
    chain : (p b a w : ℕ) → b ≡ p → b < a → a < w → p < w
    chain p b a w e f g = omega arith

scalar_at-shortens : (kind : ScalarKind) → Shortens (scalar_at kind)
scalar_at-shortens kinds.Number = valued-shortens Number integer_in
scalar_at-shortens kinds.Truth = valued-shortens Truth truth_in
scalar_at-shortens kinds.Float = valued-shortens Float (hexadecimal_in w32)
scalar_at-shortens kinds.Double = valued-shortens Double (hexadecimal_in w64)
scalar_at-shortens kinds.Decimal = decimal_at-shortens
scalar_at-shortens kinds.DateTime = valued-shortens DateTime (hexadecimal_in w64)
scalar_at-shortens kinds.TimeSpan = valued-shortens TimeSpan integer_in
scalar_at-shortens kinds.Text = valued-shortens Text quoted_in
scalar_at-shortens kinds.Bytes = valued-shortens Bytes bytes_in_quotes
scalar_at-shortens kinds.UniqueId = valued-shortens UniqueId identifier_in
scalar_at-shortens kinds.Uuid = valued-shortens Uuid identifier_in
scalar_at-shortens kinds.QName = name_at-shortens

plain_at-shortens : (word : List ℕ) → Shortens (plain_at word)
unfolding Shortens
plain_at-shortens word words p e =
    let a = found (scalar_kind_in word) _ p e in
    let b = found (scalar_at a.value words) _ p a.step_is in
    let same : length b.value.1 ≡ length p.1 = left_same (scalar b.value.0, b.value.1) p b.step_is
    in
    let h : length b.value.1 < length words = scalar_at-shortens a.value words b.value b.read_is in
    chain _ _ _ same h
  where
    chain : (p b w : ℕ) → b ≡ p → b < w → p < w
    chain p b w e f = omega arith

count_at-shortens : Shortens count_at
unfolding Shortens
count_at-shortens [] p e = absurd cc
count_at-shortens (word ∷ words) p e =
    let a = found (natural_in word) (λ count. Some (listed count, words)) p e in
    let same : length words ≡ length p.1 = left_same (listed a.value, words) p a.step_is in
    omega arith

pub token_at-shortens : Shortens token_at
unfolding Shortens
token_at-shortens [] p e = absurd cc
token_at-shortens (word ∷ words) p e = go (bytes_eq word (codes "list")) e
  where
    go : (is_list : Bool) → (if is_list then count_at words else plain_at word words) ≡ Some p
        → length p.1 < suc (length words)
    go true h = let g = count_at-shortens words p h in omega arith
    go false h = let g = plain_at-shortens word words p h in omega arith

-- a token in front of others
abbrev with_more : Token → Option (List Token) → Option (List Token)
with_more t tokens = tokens >>= λ ts. Some (t ∷ ts)

-- tokens of words, however many there might be
tokens-enough : (n m : ℕ) (words : List (List ℕ)) → length words ≤ n → length words ≤ m
    → tokens_within n words ≡ tokens_within m words
unfolding tokens_within Shortens
tokens-enough n m [] h k = refl
tokens-enough zero m (word ∷ words) h k = absurd (omega arith)
tokens-enough (suc n) zero (word ∷ words) h k = absurd (omega arith)
tokens-enough (suc n) (suc m) (word ∷ words) h k = go (token_at (word ∷ words))
    (token_at-shortens (word ∷ words)) (λ rest a b. tokens-enough n m rest a b)
  where
    go : (read : Option (Token × List (List ℕ)))
        → ((p : Token × List (List ℕ)) → read ≡ Some p → length p.1 < length (word ∷ words))
        → ((rest : List (List ℕ)) → length rest ≤ n → length rest ≤ m → tokens_within n rest
        ≡ tokens_within m rest)
        → (read >>= λ t. with_more t.0 (tokens_within n t.1))
        ≡ (read >>= λ t. with_more t.0 (tokens_within m t.1))
    go None less same = refl
    go (Some t) less same =
        let few : length t.1 < length (word ∷ words) = less t refl in
        ap (with_more t.0) (same t.1 (omega arith) (omega arith))

-- the first token, and the values behind it
gathered-put : (t : Token) (tokens : Option (List Token)) → (with_more t tokens >>= gathered)
    ≡ ((tokens >>= gathered) >>= put t)
gathered-put t None = refl
gathered-put (scalar s) (Some tokens) = refl
gathered-put (listed n) (Some tokens) = refl

pub values_in-step : (word : List ℕ) (words : List (List ℕ)) → values_in (word ∷ words)
    ≡ (token_at (word ∷ words) >>= λ t. values_in t.1 >>= put t.0)
unfolding tokens_within Shortens
values_in-step word words = go (token_at (word ∷ words)) (token_at-shortens (word ∷ words))
  where
    go : (read : Option (Token × List (List ℕ)))
        → ((p : Token × List (List ℕ)) → read ≡ Some p → length p.1 < length (word ∷ words))
        → ((read >>= λ t. with_more t.0 (tokens_within (length words) t.1)) >>= gathered)
        ≡ (read >>= λ t. values_in t.1 >>= put t.0)
    go None less = refl
    go (Some t) less =
        let few : length t.1 < length (word ∷ words) = less t refl in
        gathered-put t.0 (tokens_within (length words) t.1)
        ∙ ap (λ tokens. (tokens >>= gathered) >>= put t.0)
        (tokens-enough (length words) (length t.1) t.1 (omega arith) (omega arith))

-- no more values than words
put-few : (t : Token) (more : Written) (written : Written) → put t more ≡ Some written
    → how_many written ≤ suc (how_many more)
put-few (scalar s) more written e = let h : one s more ≡ written = some_same e in subst
    (λ w. how_many w ≤ suc (how_many more)) h (omega arith)
put-few (listed n) more written e = go (nat_le n (how_many more)) e
  where
    go : (t : Bool) → (if t then Some (list (first n more) (behind n more)) else None)
        ≡ Some written → how_many written ≤ suc (how_many more)
    go true h = subst (λ w. how_many w ≤ suc (how_many more)) (some_same h)
        (let b = how_many-behind n more in omega arith)
    go false h = absurd cc

values-few : (n : ℕ) (words : List (List ℕ)) (written : Written) → length words ≤ n
    → values_in words ≡ Some written → how_many written ≤ length words
unfolding tokens_within Shortens
values-few n [] written h e = subst (λ w. how_many w ≤ 0) (some_same e) (omega arith)
values-few zero (word ∷ words) written h e = absurd (omega arith)
values-few (suc n) (word ∷ words) written h e =
    let f = found (token_at (word ∷ words)) (λ t. values_in t.1 >>= put t.0) written
    (sym (values_in-step word words) ∙ e) in
    let v = found (values_in f.value.1) (put f.value.0) written f.step_is in
    let less : length f.value.1 < length (word ∷ words) = token_at-shortens (word ∷ words) f.value
    f.read_is in
    let more : how_many v.value ≤ length f.value.1 = values-few n f.value.1 v.value (omega arith)
    v.read_is in
    let last : how_many written ≤ suc (how_many v.value) = put-few f.value.0 v.value written
    v.step_is in
    chain _ _ _ _ last more less
  where
    chain : (w v l m : ℕ) → w ≤ suc v → v ≤ l → l < m → w ≤ m
    chain w v l m a b c = omega arith

pub values_in-few : (words : List (List ℕ)) → length words ≤ 2 ^ 63 → Few (values_in words)
unfolding Few
values_in-few words small = go (values_in words) refl
  where
    go : (read : Option Written) → values_in words ≡ read → Few read
    go None e = tt
    go (Some written) e = let h = values-few (length words) words written (omega arith) e in omega
        arith

-- a token that is read and judged at once
pub record IsJudged (read : Option (Token × List (List ℕ))) (judged : JudgedToken)
    (rest : List (List ℕ)) : Type 0 where
  pub token : Token
  pub read_is : read ≡ Some (token, rest)
  pub judged_is : judged_token token ≡ judged

pub is_judged : (read : Option (Token × List (List ℕ))) (judged : JudgedToken)
    (rest : List (List ℕ)) → judged_token_at read ≡ Some (judged, rest) → IsJudged read judged rest
is_judged None judged rest e = absurd cc
is_judged (Some t) judged rest e =
    let same : (judged_token t.0, t.1) ≡ (judged, rest) = some_same e in
    let last : t.1 ≡ rest = ap (λ p. p.1) same in
    record { token = t.0; read_is = ap (λ l. Some (t.0, l)) last; judged_is = ap (λ p. p.0) same }

pub not_judged : (read : Option (Token × List (List ℕ))) → judged_token_at read ≡ None → read ≡ None
not_judged None e = refl
not_judged (Some t) e = absurd cc
