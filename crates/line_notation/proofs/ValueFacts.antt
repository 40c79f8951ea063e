-- One value, by its first token and all that is behind it.
use Rattle.std.proofs.Common.{◌≡◌, ℕ, suc, ◌-◌, ◌^◌, ◌<◌, ◌≤◌, Bool, true, false, ◌&&◌, ◌⊎◌, List}
use Rattle.std.proofs.Common.{[], ◌∷◌, length, if◌then◌else◌, nat_le, ◌==◌, Some, None, Ok, Err}
use Rattle.std.proofs.Common.{Option, Result, ok_or, refl, ap, ◌∙◌, subst, inl, inr, arith, eq-eqb}
use Rattle.std.proofs.{Common.le-leb, lemmas.Bool.cases_lt, lemmas.Bool.lt-leb}
use Rattle.nbfx_values.specs.declared.scalars.{Scalar.Scalar, Value.Value}
use Rattle.nbfx_values.specs.declared.scalars.Value.TheVariants.{List as ListOf, One}
use Rattle.{nbfx_values.specs.Scalars.is_valid_scalar, line_notation.proofs.GatherSteps.fewer-left}
use Rattle.line_notation.specs.declared.{reader.LineKind.LineKind, values.JudgedToken.JudgedToken}
use Rattle.line_notation.specs.declared.reader.LineKind.TheVariants.{BadText, OutOfRange}
use Rattle.line_notation.specs.declared.words.Stop.{Stop, TheVariants.Memory, TheVariants.NotALine}
use Rattle.line_notation.specs.Judging.{are_scalars, has_good_text, have_good_texts, scalars_of}
use Rattle.line_notation.specs.{Options.◌>>=◌, Steps.Finds, Steps.Stops, Values.Written}
use Rattle.line_notation.specs.Parts.{gathered_in, judged_scalar, judged_scalars, judged_token}
use Rattle.line_notation.specs.Parts.{judged_token_at, judged_value, judged_value_in, kept, mapped}
use Rattle.line_notation.specs.Parts.{value_behind, value_from}
use Rattle.line_notation.specs.Values.{behind, first, how_many, if_one, list, listed, no_more, one}
use Rattle.line_notation.specs.Values.{scalar, taken, Token, token_at, tokens_within, values_in}
use Rattle.line_notation.proofs.GatherFacts.{eqb-other, Few, how_many-behind, put}
use Rattle.line_notation.proofs.TokenFacts.{is_judged, not_judged, values_in-few, values_in-step}
use Rattle.line_notation.specs.declared.values.Holder.TheVariants as holders
use Rattle.line_notation.specs.declared.values.JudgedToken.TheVariants as tokens

-- where all are taken
first-all : (more : Written) → first (how_many more) more ≡ more
first-all no_more = refl
first-all (one s more) = ap (one s) (first-all more)
first-all (list within more) = ap (list within) (first-all more)

behind-all : (more : Written) → behind (how_many more) more ≡ no_more
behind-all no_more = refl
behind-all (one s more) = behind-all more
behind-all (list within more) = behind-all more

-- the one value of a token and those behind it
abbrev one_of : Option Written → Option (Result Value LineKind)
one_of read = (read >>= if_one) >>= λ written. Some (judged_value written)

one-judged : (s : Scalar) → judged_value (one s no_more) ≡ mapped One (judged_scalar s)
one-judged s = go (has_good_text s) (is_valid_scalar s)
  where
    go : (good valid : Bool)
        → (if good && true then (if valid && true then Ok (One s) else Err OutOfRange) else Err
        BadText) ≡ mapped One (if good then (if valid then Ok s else Err OutOfRange) else Err
        BadText)
    go true true = refl
    go true false = refl
    go false valid = refl

list-judged : (within : Written) → judged_value (list within no_more)
    ≡ mapped ListOf (judged_scalars holders.List within)
list-judged within = go (have_good_texts within) (are_scalars is_valid_scalar within)
  where
    go : (good valid : Bool)
        → (if good && true then (if valid && true then Ok (ListOf (scalars_of within)) else Err
        OutOfRange) else Err BadText)
        ≡ mapped ListOf (if good then (if valid then Ok (scalars_of within) else Err OutOfRange)
        else Err BadText)
    go true true = refl
    go true false = refl
    go false valid = refl

put-scalar : (s : Scalar) (more : Written) → one_of (Some (one s more))
    ≡ value_from (tokens.Scalar (judged_scalar s)) (how_many more)
    (judged_scalars holders.List more)
put-scalar s no_more = ap Some (one-judged s)
put-scalar s (one t more) = rw (
  eqb-other (suc (suc (how_many more))) 1 (λ e. omega (arith, e)),
  eqb-other (suc (how_many more)) 0 (λ e. omega (arith, e)),
) refl
put-scalar s (list within more) =
    rw (
      eqb-other (suc (suc (how_many more))) 1 (λ e. omega (arith, e)),
      eqb-other
          (suc (how_many more)) 0 (λ e. omega (arith, e)),
    ) refl

-- a list that takes fewer than all, all, or more than there are
put-fewer : (n : ℕ) (more : Written) → n < how_many more → (values : Result (List Scalar) LineKind)
    → one_of (taken n more)
    ≡ value_from (tokens.Count (kept OutOfRange (λ n. nat_le n (2 ^ 64 - 1)) n)) (how_many more)
    values
put-fewer n more less values = go (nat_le n (2 ^ 64 - 1))
  where
    other : (suc (how_many (behind n more)) == 1) ≡ false
    other = eqb-other (suc (how_many (behind n more))) 1
        (λ e. let h = how_many-behind n more in omega (arith, e, h, less))

    go : (small : Bool) → one_of (taken n more)
        ≡ value_from (tokens.Count (if small then Ok n else Err OutOfRange)) (how_many more) values
    go true = rw (
      le-leb n (how_many more) (omega arith),
      other,
      eqb-other (how_many more) n
          (λ e. omega (arith, e)),
    ) refl
    go false = rw (le-leb n (how_many more) (omega arith), other) refl

put-all : (more : Written) → how_many more < 2 ^ 64
    → one_of (taken (how_many more) more)
    ≡ value_from (tokens.Count (kept OutOfRange (λ n. nat_le n (2 ^ 64 - 1)) (how_many more)))
    (how_many more) (judged_scalars holders.List more)
put-all more few =
    rw (
      le-leb (how_many more) (how_many more) (omega arith),
      le-leb (how_many more) (2 ^ 64 - 1)
          (omega arith),
      first-all more,
      behind-all more,
      eq-eqb (how_many more) (how_many more) refl,
    )
    (ap Some (list-judged more))

put-too_many : (n : ℕ) (more : Written) → how_many more < n
    → (values : Result (List Scalar) LineKind)
    → one_of (taken n more)
    ≡ value_from (tokens.Count (kept OutOfRange (λ n. nat_le n (2 ^ 64 - 1)) n)) (how_many more)
    values
put-too_many n more less values = go (nat_le n (2 ^ 64 - 1))
  where
    go : (small : Bool) → one_of (taken n more)
        ≡ value_from (tokens.Count (if small then Ok n else Err OutOfRange)) (how_many more) values
    go true = rw (
      lt-leb n (how_many more) less,
      eqb-other (how_many more) n
          (λ e. omega (arith, e)),
    ) refl
    go false = rw (lt-leb n (how_many more) less) refl

put-list : (n : ℕ) (more : Written) → how_many more < 2 ^ 64
    → one_of (taken n more)
    ≡ value_from (tokens.Count (kept OutOfRange (λ n. nat_le n (2 ^ 64 - 1)) n)) (how_many more)
    (judged_scalars holders.List more)
put-list n more few = go (cases_lt n (how_many more)) (cases_lt (how_many more) n)
  where
    claim : ℕ → Type 0
    claim n = one_of (taken n more)
        ≡ value_from (tokens.Count (kept OutOfRange (λ n. nat_le n (2 ^ 64 - 1)) n)) (how_many more)
        (judged_scalars holders.List more)

    go : (n < how_many more) ⊎ (how_many more ≤ n) → (how_many more < n) ⊎ (n ≤ how_many more)
        → claim n
    go (inl less) other = put-fewer n more less (judged_scalars holders.List more)
    go (inr enough) (inl over) = put-too_many n more over (judged_scalars holders.List more)
    go (inr enough) (inr within) = subst claim (equal _ _ enough within) (put-all more few)
      where
        equal : (a b : ℕ) → a ≤ b → b ≤ a → a ≡ b
        equal a b f g = omega arith

put-one : (t : Token) (more : Written) → how_many more < 2 ^ 64 → one_of (put t more)
    ≡ value_from (judged_token t) (how_many more) (judged_scalars holders.List more)
put-one (scalar s) more few = put-scalar s more
put-one (listed n) more few = put-list n more few

abbrev counted : Option Written → Option (ℕ × Result (List Scalar) LineKind)
counted read = read >>= λ written. Some (how_many written, judged_scalars holders.List written)

put-one_of : (t : Token) (read : Option Written) → Few read → one_of (read >>= put t)
    ≡ (counted read >>= λ all. value_from (judged_token t) all.0 all.1)
unfolding Few
put-one_of t None few = refl
put-one_of t (Some more) few = put-one t more few

-- the token in front, and all values behind it
pub value-step : (words rest : List (List ℕ)) (token : JudgedToken) → judged_token_at
    (token_at words) ≡ Some (token, rest) → length words ≤ 2 ^ 63
    → judged_value_in words ≡ value_behind token rest
value-step [] rest token e few = absurd cc
value-step (word ∷ words) rest token e few =
    let j = is_judged (token_at (word ∷ words)) token rest e in
    let fewer = fewer-left (word ∷ words) rest token e in
    ap one_of (values_in-step word words)
    ∙ ap (λ read. one_of (read >>= λ t. values_in t.1 >>= put t.0)) j.read_is
    ∙ put-one_of j.token (values_in rest) (values_in-few rest (chain _ _ fewer few))
    ∙ ap (λ t. gathered_in holders.List rest >>= λ all. value_from t all.0 all.1) j.judged_is
  where
    chain : (l w : ℕ) → l < w → w ≤ 2 ^ 63 → l ≤ 2 ^ 63
    chain l w a b = omega arith

value-none : (words : List (List ℕ)) → judged_token_at (token_at words) ≡ None → judged_value_in
    words ≡ None
unfolding tokens_within
value-none [] e = refl
value-none (word ∷ words) e =
    ap one_of (values_in-step word words)
    ∙ ap (λ read. one_of (read >>= λ t. values_in t.1 >>= put t.0))
    (not_judged (token_at (word ∷ words)) e)

-- where a step stops
pub value-stops : (stop : Stop) (words : List (List ℕ))
    → Stops stop (judged_token_at (token_at words)) → Stops stop (judged_value_in words)
value-stops NotALine words h = value-none words h
value-stops Memory words h = tt

pub values-stop : (stop : Stop) (token : JudgedToken) (rest : List (List ℕ))
    → Stops stop (gathered_in holders.List rest) → Stops stop (value_behind token rest)
values-stop NotALine token rest h = ap (λ read. read >>= λ all. value_from token all.0 all.1) h
values-stop Memory token rest h = tt

-- a value that is no list, behind which there are no words
pub value-alone : (words rest : List (List ℕ)) (s : Result Scalar LineKind) → judged_token_at
    (token_at words) ≡ Some (tokens.Scalar s, rest) → length words ≤ 2 ^ 63
    → rest ≡ [] → judged_value_in words ≡ Some (mapped One s)
unfolding tokens_within
value-alone words rest s e few none = value-step words rest (tokens.Scalar s) e few ∙
    ap (value_behind (tokens.Scalar s)) none

-- what is found, or else no line
pub finds-ok_or : {X : Type 0} (found read : Option X) → read ≡ found
    → Finds (λ x. x) (ok_or found NotALine) read
finds-ok_or None read e = e
finds-ok_or (Some x) read e = e
