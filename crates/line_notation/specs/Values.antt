-- The words of values, among which are lists.
use Rattle.std.specs.Prelude.{◌≡◌, ℕ, zero, suc, ◌<◌, List, [], ◌∷◌, ◌++◌, length, if◌then◌else◌}
use Rattle.std.specs.Prelude.{nat_lt, nat_le, ◌==◌, Some, None, codes, Option, bytes_eq}
use Rattle.nbfx_values.specs.declared.scalars.{Scalar.Scalar, Value.Value}
use Rattle.nbfx_values.specs.declared.scalars.Value.TheVariants.{List as ListOf, One}
use Rattle.line_notation.specs.Numerals.{count_digits, IsNatural, natural_in}
use Rattle.line_notation.specs.{Options.◌>>=◌, Words.next_in}
use Rattle.line_notation.specs.Scalars.{IsScalar, scalar_at, scalar_kind_in, scalar_words}

-- values as they are written, each with what comes behind it. A list may stand in a list
pub data Written : Type 0 where
  no_more : Written
  one : Scalar → Written → Written
  list : (within more : Written) → Written

abbrev pub how_many : Written → ℕ
how_many no_more = 0
how_many (one s more) = suc (how_many more)
how_many (list within more) = suc (how_many more)

-- the words as they may be written
abbrev pub AreValues : Written → List (List ℕ) → Type 0
AreValues no_more words = words ≡ []
AreValues (one s more) words =
    (own rest : List (List ℕ)) × (words ≡ own ++ rest) × IsScalar s own × AreValues more rest
AreValues (list within more) words =
    (count : List ℕ) × (own rest : List (List ℕ)) × (words ≡ codes "list" ∷ count ∷ own ++ rest)
    × IsNatural (how_many within) count
    × AreValues within own × AreValues more rest

pub record IsOneValue (written : Written) (words : List (List ℕ)) : Type 0 where
  pub one : how_many written ≡ 1
  pub values : AreValues written words

pub record AreSomeValues (written : Written) (words : List (List ℕ)) : Type 0 where
  pub some : 0 < how_many written
  pub values : AreValues written words

-- the words as they are put
abbrev pub value_words : Written → List (List ℕ)
value_words no_more = []
value_words (one s more) = scalar_words s ++ value_words more
value_words (list within more) =
    codes "list" ∷ count_digits (how_many within) ∷ value_words within ++ value_words more

-- values without a list among them, and a value that a record can hold
abbrev pub written_scalars : List Scalar → Written
written_scalars [] = no_more
written_scalars (s ∷ ss) = one s (written_scalars ss)

abbrev pub written_value : Value → Written
written_value (One s) = one s no_more
written_value (ListOf ss) = list (written_scalars ss) no_more

-- a value that is no list, or how many values a list has
pub data Token : Type 0 where
  scalar : Scalar → Token
  listed : ℕ → Token

-- the token in front of words, and the words behind it
abbrev pub count_at : List (List ℕ) → Option (Token × List (List ℕ))
count_at words = do
  next ← next_in words
  count ← natural_in next.0
  Some (listed count, next.1)

abbrev pub plain_at : List ℕ → List (List ℕ) → Option (Token × List (List ℕ))
plain_at word words = do
  kind ← scalar_kind_in word
  s ← scalar_at kind words
  Some (scalar s.0, s.1)

abbrev pub token_at : List (List ℕ) → Option (Token × List (List ℕ))
token_at words = do
  next ← next_in words
  if bytes_eq next.0 (codes "list") then count_at next.1 else plain_at next.0 next.1

-- all words as tokens, of which there are at most so many
unfoldable pub tokens_within : ℕ → List (List ℕ) → Option (List Token)
tokens_within n [] = Some []
tokens_within zero (word ∷ words) = None
tokens_within (suc n) (word ∷ words) = do
  token ← token_at (word ∷ words)
  tokens ← tokens_within n token.1
  Some (token.0 ∷ tokens)

abbrev pub tokens_in : List (List ℕ) → Option (List Token)
tokens_in words = tokens_within (length words) words

-- the first values, and those behind them
abbrev pub first : ℕ → Written → Written
first zero written = no_more
first (suc n) no_more = no_more
first (suc n) (one s more) = one s (first n more)
first (suc n) (list within more) = list within (first n more)

abbrev pub behind : ℕ → Written → Written
behind zero written = written
behind (suc n) no_more = no_more
behind (suc n) (one s more) = behind n more
behind (suc n) (list within more) = behind n more

-- a list takes as many as it says of the values behind it
abbrev pub taken : ℕ → Written → Option Written
taken n more = if nat_le n (how_many more) then Some (list (first n more) (behind n more)) else None

abbrev pub gathered : List Token → Option Written
gathered [] = Some no_more
gathered (scalar s ∷ tokens) = gathered tokens >>= λ more. Some (one s more)
gathered (listed n ∷ tokens) = gathered tokens >>= taken n

abbrev pub values_in : List (List ℕ) → Option Written
values_in words = tokens_in words >>= gathered

abbrev pub if_one : Written → Option Written
if_one written = if how_many written == 1 then Some written else None

abbrev pub if_some : Written → Option Written
if_some written = if nat_lt 0 (how_many written) then Some written else None

abbrev pub value_in : List (List ℕ) → Option Written
value_in words = values_in words >>= if_one
