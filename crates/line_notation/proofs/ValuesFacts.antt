-- Values out of words.
use Rattle.std.proofs.Common.{◌≡◌, ℕ, List, ◌∷◌, Some, None, Option, Result, refl, ap, ◌∙◌}
use Rattle.nbfx_values.specs.declared.scalars.Scalar.{Scalar}
use Rattle.line_notation.specs.declared.{reader.LineKind.LineKind, scalars.ScalarKind.ScalarKind}
use Rattle.line_notation.specs.declared.words.Stop.{Stop, TheVariants.Memory, TheVariants.NotALine}
use Rattle.line_notation.specs.{Options.◌>>=◌, Steps.Stops}
use Rattle.line_notation.specs.Parts.{as_token, judged_at, judged_token_at}
use Rattle.line_notation.specs.Scalars.{scalar_at, scalar_kind_in, scalar_kind_word}
use Rattle.line_notation.specs.Values.{plain_at, scalar, token_at}
use Rattle.line_notation.specs.declared.scalars.ScalarKind.TheVariants as kinds

token-judged : (read : Option (Scalar × List (List ℕ))) → judged_token_at
    (read >>= λ s. Some (scalar s.0, s.1)) ≡ as_token (judged_at read)
token-judged None = refl
token-judged (Some s) = refl

pub plain_at-judged : (word : List ℕ) (kind : ScalarKind) (words : List (List ℕ))
    → scalar_kind_in word ≡ Some kind
    → judged_token_at (plain_at word words) ≡ as_token (judged_at (scalar_at kind words))
plain_at-judged word kind words e =
    ap (λ found. judged_token_at (found >>= λ k. scalar_at k words >>= λ s. Some (scalar s.0, s.1)))
    e ∙ token-judged (scalar_at kind words)

-- behind the word that names its kind
pub kind-judged : (kind : ScalarKind) (words : List (List ℕ))
    → judged_token_at (token_at (scalar_kind_word kind ∷ words))
    ≡ as_token (judged_at (scalar_at kind words))
kind-judged kinds.Number words = token-judged (scalar_at kinds.Number words)
kind-judged kind words = token-judged (scalar_at kind words)

pub stops-token : (stop : Stop) (read : Option (Result Scalar LineKind × List (List ℕ)))
    → Stops stop read → Stops stop (as_token read)
stops-token NotALine read h = ap as_token h
stops-token Memory read h = tt
