-- What is owed for literal connections, by computation alone.
use Rattle.std.proofs.Common.{◌≡◌, ℕ, List, [], ◌∷◌, ◌++◌, map, None, refl}
use Rattle.std.specs.Prelude.{⊤}
use Rattle.unit_streams.specs.{Judging.refusal_at, Tellers.report, Tellers.state_behind}
use Rattle.unit_streams.specs.Tellers.{told_along}
use Rattle.nbfx_values.specs.Limits.{usual_limits}
use Rattle.stream_reader.proofs.OnLiterals.{streams_on_literals}
use Rattle.action_dispatch.specs.Services.{echoed}
use Rattle.duplex_server.specs.ServerStream.{answering_within}
use Rattle.session_pool.specs.OwedTurns.{behind_end, owed_turns}

-- how many sessions may be, what a connection carries, and what is owed for it
abbrev Row : Type 0
Row = ℕ × List ℕ × List ℕ

abbrev AreOwed : List Row → Type 0
AreOwed rows = map (λ (r : Row). owed_turns
    (answering_within echoed [] usual_limits usual_limits) None r.0 r.1) rows
    ≡ map (λ (r : Row). r.2) rows

-- the preamble of a duplex session with an empty Via
abbrev preamble : List ℕ
preamble = 0 ∷ 1 ∷ 0 ∷ 1 ∷ 2 ∷ 2 ∷ 0 ∷ 3 ∷ 8 ∷ 12 ∷ []

abbrev session : List ℕ
session = preamble ++ 7 ∷ []

unfoldable turns_on_literals : ⊤
unfolding streams_on_literals refusal_at report told_along state_behind owed_turns behind_end
turns_on_literals = tt

-- nothing, and one session
one : AreOwed ((2, [], []) ∷ (2, session, 11 ∷ 7 ∷ []) ∷ [])
unfolding turns_on_literals
one = refl

-- two of them
two : AreOwed ((2, session ++ session, 11 ∷ 7 ∷ 11 ∷ 7 ∷ []) ∷ [])
unfolding turns_on_literals
two = refl

-- only one that may be
most : AreOwed ((1, session ++ session, 11 ∷ 7 ∷ []) ∷ [])
unfolding turns_on_literals
most = refl

-- one that breaks off behind another
broken : AreOwed ((3, session ++ preamble, 11 ∷ 7 ∷ 11 ∷ []) ∷ [])
unfolding turns_on_literals
broken = refl

-- one that is refused, behind which nothing is owed
refused : AreOwed ((3, session ++ 13 ∷ session, 11 ∷ 7 ∷ []) ∷ [])
unfolding turns_on_literals
refused = refl
