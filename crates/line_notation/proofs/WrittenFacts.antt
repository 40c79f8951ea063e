-- Words write values exactly where these are read out of them.
use Rattle.std.proofs.Common.{◌≡◌, ℕ, zero, suc, ◌<◌, ◌≤◌, Bool, true, false, List, [], ◌∷◌, ◌++◌}
use Rattle.std.proofs.Common.{length, if◌then◌else◌, nat_lt, nat_le, ◌==◌, Some, None, codes}
use Rattle.std.proofs.Common.{bytes_eq, sym, refl, ap, ◌∙◌, subst, append_assoc, append-nil, arith}
use Rattle.std.proofs.Common.{ltb-true, lt-ltb, eq-eqb, eqb-true, le-leb, leb-true}
use Rattle.std.proofs.lemmas.Slice.Eq.{bytes_eq-Decides}
use Rattle.nbfx_values.specs.declared.scalars.Scalar.{Scalar}
use Rattle.line_notation.specs.Numerals.{IsNatural, natural_in}
use Rattle.line_notation.specs.{Options.◌>>=◌, Scalars.scalar_at, Scalars.scalar_kind_in}
use Rattle.line_notation.specs.Values.{AreSomeValues, AreValues, behind, count_at, first, how_many}
use Rattle.line_notation.specs.Values.{if_one, if_some, IsOneValue, list, listed, no_more, one}
use Rattle.line_notation.specs.Values.{plain_at, scalar, taken, Token, token_at, tokens_within}
use Rattle.line_notation.specs.Values.{value_in, values_in, Written}
use Rattle.line_notation.proofs.GatherFacts.{put, some_same}
use Rattle.line_notation.proofs.NaturalFacts.{natural-natural_in, natural_in-natural}
use Rattle.line_notation.proofs.ScalarFacts.{IsScalarFront, plain-is, scalar-token}
use Rattle.line_notation.proofs.TokenFacts.{found, Shortens, token_at-shortens, values_in-step}

-- values in front of others
abbrev appended : Written → Written → Written
appended no_more more = more
appended (one s rest) more = one s (appended rest more)
appended (list within rest) more = list within (appended rest more)

appended-none : (written : Written) → appended written no_more ≡ written
appended-none no_more = refl
appended-none (one s rest) = ap (one s) (appended-none rest)
appended-none (list within rest) = ap (list within) (appended-none rest)

first-appended : (written more : Written) → first (how_many written) (appended written more)
    ≡ written
first-appended no_more more = refl
first-appended (one s rest) more = ap (one s) (first-appended rest more)
first-appended (list within rest) more = ap (list within) (first-appended rest more)

behind-appended : (written more : Written) → behind (how_many written) (appended written more)
    ≡ more
behind-appended no_more more = refl
behind-appended (one s rest) more = behind-appended rest more
behind-appended (list within rest) more = behind-appended rest more

how_many-appended : (written more : Written) → how_many written ≤ how_many (appended written more)
how_many-appended no_more more = omega arith
how_many-appended (one s rest) more = omega (arith, how_many-appended rest more)
how_many-appended (list within rest) more = omega (arith, how_many-appended rest more)

taken-appended : (written more : Written) → taken (how_many written) (appended written more)
    ≡ Some (list written more)
taken-appended written more =
    rw (
      le-leb (how_many written) (how_many (appended written more))
          (how_many-appended written more),
      first-appended written more,
      behind-appended written more,
    )
    refl

-- the values behind a token
values-behind : (words rest : List (List ℕ)) (t : Token) (more : Written) → token_at words
    ≡ Some (t, rest) → values_in rest ≡ Some more → values_in words ≡ put t more
values-behind [] rest t more e f = absurd cc
values-behind (word ∷ words) rest t more e f =
    values_in-step word words ∙ ap (λ read. read >>= λ t. values_in t.1 >>= put t.0) e ∙
    ap (λ read. read >>= put t) f

count-token : (n : ℕ) (count : List ℕ) (rest : List (List ℕ)) → IsNatural n count
    → token_at (codes "list" ∷ count ∷ rest) ≡ Some (listed n, rest)
count-token n count rest h = ap (λ read. read >>= λ n. Some (listed n, rest))
    (natural_in-natural n count h)

-- what words write is read out of them
values-read : (written : Written) (words rest : List (List ℕ)) (more : Written) → AreValues written
    words → values_in rest ≡ Some more
    → values_in (words ++ rest) ≡ Some (appended written more)
values-read no_more words rest more h e = ap (λ w. values_in (w ++ rest)) h ∙ e
values-read (one s others) words rest more (own, left, e, is, h) f =
    ap (λ w. values_in (w ++ rest)) e ∙ ap values_in (append_assoc own left rest)
    ∙ values-behind (own ++ (left ++ rest)) (left ++ rest) (scalar s) (appended others more)
    (scalar-token s own (left ++ rest) is) (values-read others left rest more h f)
values-read (list within others) words rest more (count, own, left, e, n, h, k) f =
    ap (λ w. values_in (w ++ rest)) e ∙ ap (λ w. values_in (codes "list" ∷ count ∷ w))
    (append_assoc own left rest)
    ∙ values-behind (codes "list" ∷ count ∷ own ++ (left ++ rest)) (own ++ (left ++ rest))
    (listed (how_many within)) (appended within (appended others more))
    (count-token (how_many within) count (own ++ (left ++ rest)) n)
    (values-read within own (left ++ rest) (appended others more) h
    (values-read others left rest more k f))
    ∙ taken-appended within (appended others more)

pub written-read : (written : Written) (words : List (List ℕ)) → AreValues written words
    → values_in words ≡ Some written
unfolding tokens_within
written-read written words h =
    ap values_in (sym (append-nil words)) ∙ values-read written words [] no_more h refl ∙ ap Some
    (appended-none written)

-- the words of the first values, and of those behind them
record AreSplit (n : ℕ) (written : Written) (words : List (List ℕ)) : Type 0 where
  own : List (List ℕ)
  rest : List (List ℕ)
  words_are : words ≡ own ++ rest
  first_are : AreValues (first n written) own
  behind_are : AreValues (behind n written) rest

split : (n : ℕ) (written : Written) (words : List (List ℕ)) → AreValues written words
    → AreSplit n written words
split zero written words h = record {
  own = [];
  rest = words;
  words_are = refl;
  first_are = refl;
  behind_are = h;
}
split (suc n) no_more words h = record {
  own = [];
  rest = words;
  words_are = refl;
  first_are = refl;
  behind_are = h;
}
split (suc n) (one s more) words (own, left, e, is, h) =
    let r = split n more left h in
    record {
      own = own ++ r.own;
      rest = r.rest;
      words_are = e ∙ ap (λ l. own ++ l) r.words_are ∙ sym (append_assoc own r.own r.rest);
      first_are = (own, r.own, refl, is, r.first_are);
      behind_are = r.behind_are;
    }
split (suc n) (list within more) words (count, own, left, e, k, h, m) =
    let r = split n more left m in
    let front = codes "list" ∷ count ∷ own in
    record {
      own = front ++ r.own;
      rest = r.rest;
      words_are = e ∙ ap (λ l. front ++ l) r.words_are ∙ sym (append_assoc front r.own r.rest);
      first_are = (count, own, r.own, refl, k, h, r.first_are);
      behind_are = r.behind_are;
    }

first-count : (n : ℕ) (written : Written) → n ≤ how_many written → how_many (first n written) ≡ n
first-count zero written h = refl
first-count (suc n) no_more h = absurd (omega arith)
first-count (suc n) (one s more) h = ap suc (first-count n more (omega arith))
first-count (suc n) (list within more) h = ap suc (first-count n more (omega arith))

-- the number of a list's values
record IsCount (t : Token) (words rest : List (List ℕ)) : Type 0 where
  n : ℕ
  word : List ℕ
  words_are : words ≡ word ∷ rest
  natural : IsNatural n word
  token_is : t ≡ listed n

is_count : (words rest : List (List ℕ)) (t : Token) → count_at words ≡ Some (t, rest)
    → IsCount t words rest
is_count [] rest t e = absurd cc
is_count (word ∷ words) rest t e =
    let f = found (natural_in word) (λ n. Some (listed n, words)) (t, rest) e in
    let same : (listed f.value, words) ≡ (t, rest) = some_same f.step_is in
    record {
      n = f.value;
      word = word;
      words_are = ap (λ (p : Token × List (List ℕ)). word ∷ p.1) same;
      natural = natural-natural_in f.value word f.read_is;
      token_is = ap (λ (p : Token × List (List ℕ)). p.0) (sym same);
    }

-- a value that is no list is no count
plain-no_list : (word : List ℕ) (words rest : List (List ℕ)) (n : ℕ) → plain_at word words
    ≡ Some (listed n, rest) → ⊥
plain-no_list word words rest n e =
    let k = found (scalar_kind_in word) _ (listed n, rest) e in
    let v = found (scalar_at k.value words) (λ s. Some (scalar s.0, s.1)) (listed n, rest) k.step_is
    in
    other (v.value.0) (ap (λ (p : Token × List (List ℕ)). p.0) (some_same v.step_is))
  where
    other : (s : Scalar) → scalar s ≡ listed n → ⊥
    other s e = cc

-- a token and the values behind it
abbrev WriteToken : Token → Type 0
WriteToken t =
    (word : List ℕ) (words rest : List (List ℕ)) (more written : Written) → token_at (word ∷ words)
    ≡ Some (t, rest) → AreValues more rest → put t more ≡ Some written
    → AreValues written (word ∷ words)

scalar-written : (s : Scalar) → WriteToken (scalar s)
scalar-written s word words rest more written e h p = go (bytes_eq word (codes "list")) e
  where
    plain : IsScalarFront (word ∷ words) rest s → AreValues written (word ∷ words)
    plain f = subst (λ w. AreValues w (word ∷ words)) (some_same p)
        (f.own, rest, f.words_are, f.is, h)

    go : (is_list : Bool) → (if is_list then count_at words else plain_at word words)
        ≡ Some (scalar s, rest) → AreValues written (word ∷ words)
    go true e = let c = is_count words rest (scalar s) e in absurd (let t = c.token_is in cc)
    go false e = plain (plain-is word words rest (scalar s) s refl e)

list-written : (n : ℕ) → WriteToken (listed n)
list-written n word words rest more written e h p = go (bytes_eq word (codes "list")) refl e
  where
    listed-same : {a b : ℕ} → listed a ≡ listed b → a ≡ b
    listed-same e = cc

    inner : word ≡ codes "list" → IsCount (listed n) words rest → n ≤ how_many more
        → list (first n more) (behind n more) ≡ written → AreValues written (word ∷ words)
    inner is c enough w =
        let r = split n more rest h in
        let front : word ∷ words ≡ codes "list" ∷ c.word ∷ r.own ++ r.rest =
        ap (λ w. w ∷ words) is ∙ ap (λ l. codes "list" ∷ l)
        (c.words_are ∙ ap (λ l. c.word ∷ l) r.words_are) in
        let count : IsNatural (how_many (first n more)) c.word =
        subst (λ m. IsNatural m c.word)
        (sym (listed-same c.token_is) ∙ sym (first-count n more enough)) c.natural in
        subst (λ w. AreValues w (word ∷ words)) w (
          c.word,
          r.own,
          r.rest,
          front,
          count,
          r.first_are,
          r.behind_are,
        )

    enough : word ≡ codes "list" → IsCount (listed n) words rest → (t : Bool)
        → nat_le n (how_many more) ≡ t
        → (if t then Some (list (first n more) (behind n more)) else None) ≡ Some written
        → AreValues written (word ∷ words)
    enough is c true f w = inner is c (leb-true n (how_many more) f) (some_same w)
    enough is c false f w = absurd cc

    go : (is_list : Bool) → bytes_eq word (codes "list") ≡ is_list
        → (if is_list then count_at words else plain_at word words) ≡ Some (listed n, rest)
        → AreValues written (word ∷ words)
    go true f e = enough ((bytes_eq-Decides word (codes "list")).0 f)
        (is_count words rest (listed n) e) (nat_le n (how_many more)) refl p
    go false f e = absurd (plain-no_list word words rest n e)

token-written : (t : Token) → WriteToken t
token-written (scalar s) = scalar-written s
token-written (listed n) = list-written n

-- and words write what is read out of them
read-written-within : (n : ℕ) (words : List (List ℕ)) (written : Written) → length words ≤ n
    → values_in words ≡ Some written → AreValues written words
unfolding tokens_within Shortens
read-written-within n [] written h e = subst (λ w. AreValues w []) (some_same e) refl
read-written-within zero (word ∷ words) written h e = absurd (omega arith)
read-written-within (suc n) (word ∷ words) written h e =
    let f = found (token_at (word ∷ words)) (λ t. values_in t.1 >>= put t.0) written
    (sym (values_in-step word words) ∙ e) in
    let v = found (values_in f.value.1) (put f.value.0) written f.step_is in
    let less : length f.value.1 < length (word ∷ words) = token_at-shortens (word ∷ words) f.value
    f.read_is in
    let more : AreValues v.value f.value.1 = read-written-within n f.value.1 v.value (omega arith)
    v.read_is in
    token-written f.value.0 word words f.value.1 v.value written f.read_is more v.step_is

pub read-written : (words : List (List ℕ)) (written : Written) → values_in words ≡ Some written
    → AreValues written words
read-written words written e = read-written-within (length words) words written (omega arith) e

-- the same of one value, and of one or more
pub one-value-read : (written : Written) (words : List (List ℕ)) → IsOneValue written words
    → value_in words ≡ Some written
one-value-read written words h =
    ap (λ read. read >>= if_one) (written-read written words h.values) ∙
    ap (λ t. if t then Some written else None) (eq-eqb (how_many written) 1 h.one)

pub read-one-value : (words : List (List ℕ)) (written : Written) → value_in words ≡ Some written
    → IsOneValue written words
read-one-value words written e =
    let f = found (values_in words) if_one written e in
    go f.value (how_many f.value == 1) refl f.read_is f.step_is
  where
    go : (w : Written) (t : Bool) → (how_many w == 1) ≡ t → values_in words ≡ Some w
        → (if t then Some w else None) ≡ Some written → IsOneValue written words
    go w true f read e = subst (λ w. IsOneValue w words) (some_same e)
        (record { one = eqb-true (how_many w) 1 f; values = read-written words w read })
    go w false f read e = absurd cc

pub some-values-read : (written : Written) (words : List (List ℕ)) → AreSomeValues written words
    → (values_in words >>= if_some) ≡ Some written
some-values-read written words h =
    ap (λ read. read >>= if_some) (written-read written words h.values) ∙
    ap (λ t. if t then Some written else None) (lt-ltb 0 (how_many written) h.some)

pub read-some-values : (words : List (List ℕ)) (written : Written) → (values_in words >>= if_some)
    ≡ Some written → AreSomeValues written words
read-some-values words written e =
    let f = found (values_in words) if_some written e in
    go f.value (nat_lt 0 (how_many f.value)) refl f.read_is f.step_is
  where
    go : (w : Written) (t : Bool) → nat_lt 0 (how_many w) ≡ t → values_in words ≡ Some w
        → (if t then Some w else None) ≡ Some written → AreSomeValues written words
    go w true f read e = subst (λ w. AreSomeValues w words) (some_same e)
        (record { some = ltb-true 0 (how_many w) f; values = read-written words w read })
    go w false f read e = absurd cc
