-- The parts of a line, read and judged at once, for private calls.
use Rattle.std.specs.Prelude.{ℕ, zero, suc, ◌+◌, ◌-◌, ◌^◌, ◌≤◌, Bool, true, false, not, ◌&&◌, List}
use Rattle.std.specs.Prelude.{[], ◌∷◌, ◌++◌, ℤ, pos, if◌then◌else◌, nat_le, ◌==◌, Some, None, Ok}
use Rattle.std.specs.{Prelude.Err, Prelude.Option, Prelude.Result, List.list_all, Str.is_utf8}
use Rattle.nbfx_values.specs.{declared.content.ArrayKind.ArrayKind, Items.fits_kind}
use Rattle.nbfx_values.specs.declared.scalars.{Scalar.Scalar, Value.Value}
use Rattle.nbfx_values.specs.declared.scalars.Value.TheVariants.{List as ListOf, One}
use Rattle.nbfx_values.specs.Scalars.{is_between, is_valid_scalar, least_signed}
use Rattle.line_notation.specs.{declared.reader.LineKind.LineKind, Options.◌>>=◌, Scalars.one_word}
use Rattle.line_notation.specs.declared.reader.LineKind.TheVariants.{BadText, OutOfRange}
use Rattle.line_notation.specs.declared.values.{Gathering.Gathering, Tally.Tally}
use Rattle.line_notation.specs.declared.values.{Holder.Holder, JudgedToken.JudgedToken}
use Rattle.line_notation.specs.Judging.{are_in_range, are_scalars, has_good_text, have_good_texts}
use Rattle.line_notation.specs.Judging.{scalars_of, value_said}
use Rattle.line_notation.specs.Numerals.{integer_in, natural_in}
use Rattle.line_notation.specs.Quoted.{pair_in, quoted_in}
use Rattle.line_notation.specs.Values.{how_many, list, listed, no_more, one, scalar, Token}
use Rattle.line_notation.specs.Values.{value_in, values_in, Written}
use Rattle.line_notation.specs.declared.values.Holder.TheVariants as holders
use Rattle.line_notation.specs.declared.values.JudgedToken.TheVariants as tokens

-- a value, where a test holds of it
abbrev pub kept : {A : Type 0} → LineKind → (A → Bool) → A → Result A LineKind
kept kind test a = if test a then Ok a else Err kind

abbrev pub natural_up_to : ℕ → List ℕ → Option (Result ℕ LineKind)
natural_up_to most word = natural_in word >>= λ n. Some (kept OutOfRange (λ n. nat_le n most) n)

abbrev pub integer_up_to : ℕ → List ℕ → Option (Result ℤ LineKind)
integer_up_to most word =
    integer_in word >>= λ n. Some (kept OutOfRange (is_between (least_signed 64) (pos most)) n)

-- a byte that is no capital letter, and bytes that are none
abbrev pub is_no_capital : ℕ → Bool
is_no_capital c = not (nat_le 65 c && nat_le c 90)

abbrev pub has_no_capitals : List ℕ → Bool
has_no_capitals = list_all is_no_capital

-- the byte that an escape in front of pieces writes
abbrev pub escape_at : List ℕ → Option ℕ
escape_at [] = None
escape_at (b ∷ []) = None
escape_at (b ∷ c ∷ []) = None
escape_at (b ∷ c ∷ d ∷ rest) = if b == 92 then pair_in c d else None

abbrev pub judged_text : List ℕ → Result (List ℕ) LineKind
judged_text = kept BadText is_utf8

abbrev pub judged_text_in : List ℕ → Option (Result (List ℕ) LineKind)
judged_text_in word = quoted_in word >>= λ text. Some (judged_text text)

abbrev pub judged_scalar : Scalar → Result Scalar LineKind
judged_scalar s = if has_good_text s then kept OutOfRange is_valid_scalar s else Err BadText

abbrev pub judged_at : Option (Scalar × List (List ℕ))
    → Option (Result Scalar LineKind × List (List ℕ))
judged_at read = read >>= λ one. Some (judged_scalar one.0, one.1)

-- of two refusals the one that goes first: a text's
abbrev pub first_of : LineKind → LineKind → LineKind
first_of kind BadText = BadText
first_of kind other = kind

-- both, unless the line is refused for one of them
abbrev pub both : {A B : Type 0} → Result A LineKind → Result B LineKind → Result (A × B) LineKind
both (Ok a) (Ok b) = Ok (a, b)
both (Ok a) (Err kind) = Err kind
both (Err kind) (Ok b) = Err kind
both (Err kind) (Err other) = Err (first_of kind other)

-- what is made of a value that isn't refused
abbrev pub mapped : {A B : Type 0} → (A → B) → Result A LineKind → Result B LineKind
mapped make (Ok a) = Ok (make a)
mapped make (Err kind) = Err kind

-- two texts in front of words
abbrev pub judged_texts_at : List (List ℕ)
    → Option (Result (List ℕ × List ℕ) LineKind × List (List ℕ))
judged_texts_at words = do
  a ← one_word judged_text_in words
  b ← one_word judged_text_in a.1
  Some (both a.0 b.0, b.1)

-- a value that is no list, or how many values a list has, if that isn't too much
abbrev pub judged_token : Token → JudgedToken
judged_token (scalar s) = tokens.Scalar (judged_scalar s)
judged_token (listed n) = tokens.Count (kept OutOfRange (λ n. nat_le n (2 ^ 64 - 1)) n)

abbrev pub judged_token_at : Option (Token × List (List ℕ)) → Option (JudgedToken × List (List ℕ))
judged_token_at read = read >>= λ token. Some (judged_token token.0, token.1)

-- a value that is no list, as a token
abbrev pub as_token : Option (Result Scalar LineKind × List (List ℕ))
    → Option (JudgedToken × List (List ℕ))
as_token None = None
as_token (Some (s, words)) = Some (tokens.Scalar s, words)

-- what the values of a line stand in, by the array that is open
abbrev pub holder_of : Option ArrayKind → Holder
holder_of None = holders.Nothing
holder_of (Some kind) = holders.Array kind

-- a value that is no list and may stand there
abbrev pub fits : Holder → Scalar → Bool
fits holders.List = is_valid_scalar
fits (holders.Array kind) = fits_kind kind
fits holders.Nothing = is_valid_scalar

-- values that records can hold, of which the first so many stand in a list
abbrev pub are_held : ℕ → Written → Bool
are_held n no_more = true
are_held zero (one s more) = is_valid_scalar s && are_held zero more
are_held (suc n) (one s more) = is_valid_scalar s && are_held n more
are_held zero (list within more) = are_scalars is_valid_scalar within && are_held zero more
are_held (suc n) (list within more) = false

-- values that may stand there, of which the first so many stand in a list there
abbrev pub are_taken : Holder → ℕ → Written → Bool
are_taken holders.List due = are_scalars is_valid_scalar
are_taken (holders.Array kind) due = are_scalars (fits_kind kind)
are_taken holders.Nothing due = are_held due

-- values, by whether their texts are good, and whether they may stand there
abbrev pub judged_by : (good taken : Bool) → List Scalar → Result (List Scalar) LineKind
judged_by good taken ss = if good then (if taken then Ok ss else Err OutOfRange) else Err BadText

abbrev pub judged_due : Holder → ℕ → Written → Result (List Scalar) LineKind
judged_due holder due written =
    judged_by (have_good_texts written) (are_taken holder due written) (scalars_of written)

-- an array's values, or a list's, or those where no array is open
abbrev pub judged_scalars : Holder → Written → Result (List Scalar) LineKind
judged_scalars holder = judged_due holder 0

abbrev pub judged_value : Written → Result Value LineKind
judged_value written =
    if have_good_texts written
    then (if are_in_range written then Ok (value_said written) else Err OutOfRange)
    else Err BadText

-- one value more, with so many due in it
abbrev pub tallied : Tally → ℕ → Tally
tallied t n =
    if t.due == 0 then record { count = t.count + 1; due = n }
    else record { count = t.count; due = t.due - 1 + n }

-- one value more in front of what is left
abbrev pub with_scalar : Result (List Scalar) LineKind → Result Scalar LineKind
    → Result (List Scalar) LineKind
with_scalar values s = mapped (λ p. p.0 ++ p.1 ∷ []) (both values s)

-- whether a list may come where so many values are due in lists
abbrev pub may_hold_a_list : Holder → ℕ → Bool
may_hold_a_list holders.List due = false
may_hold_a_list (holders.Array kind) due = false
may_hold_a_list holders.Nothing due = due == 0

abbrev pub with_list : Bool → Result (List Scalar) LineKind → Result (List Scalar) LineKind
with_list true values = values
with_list false (Ok values) = Err OutOfRange
with_list false (Err kind) = Err (first_of kind OutOfRange)

-- a value that can be held, where it fits an array too
abbrev pub refit : Holder → Result Scalar LineKind → Result Scalar LineKind
refit holders.List s = s
refit (holders.Array kind) (Ok s) = kept OutOfRange (fits_kind kind) s
refit (holders.Array kind) (Err refusal) = Err refusal
refit holders.Nothing s = s

-- nothing has come
abbrev pub no_values : Gathering
no_values = record { tally = record { count = 0; due = 0 }; values = Ok [] }

-- a token more
abbrev pub with_token : Holder → Gathering → JudgedToken → Option Gathering
with_token holder g (tokens.Scalar s) =
    Some (record { tally = tallied g.tally 0; values = with_scalar g.values (refit holder s) })
with_token holder g (tokens.Count (Ok n)) =
    let may_come = may_hold_a_list holder g.tally.due in
    Some (record { tally = tallied g.tally n; values = with_list may_come g.values })
with_token holder g (tokens.Count (Err refusal)) = None

-- no value can have come, or too many are due
abbrev pub IsTooMuch : Option Gathering → Type 0
IsTooMuch None = Unit {0}
IsTooMuch (Some g) = 2 ^ 64 ≤ g.tally.due

-- all values in words, judged
abbrev pub gathered_in : Holder → List (List ℕ) → Option (ℕ × Result (List Scalar) LineKind)
gathered_in holder words =
    values_in words >>= λ written. Some (how_many written, judged_scalars holder written)

-- a value, by its first token and all that is behind it
abbrev pub value_from : JudgedToken → ℕ → Result (List Scalar) LineKind
    → Option (Result Value LineKind)
value_from (tokens.Scalar s) n values = if n == 0 then Some (mapped One s) else None
value_from (tokens.Count (Ok m)) n values = if n == m then Some (mapped ListOf values) else None
value_from (tokens.Count (Err refusal)) n values = None

-- the same by the words behind the token
abbrev pub value_behind : JudgedToken → List (List ℕ) → Option (Result Value LineKind)
value_behind token words =
    gathered_in holders.List words >>= λ all. value_from token all.0 all.1

abbrev pub judged_value_in : List (List ℕ) → Option (Result Value LineKind)
judged_value_in words = value_in words >>= λ written. Some (judged_value written)
