-- Small streams (specs/Toy) and their reports, by computation alone.
use Rattle.std.proofs.Common.{◌≡◌, ℕ, Bool, List, [], ◌∷◌, map, Some, None, Option, refl}
use Rattle.unit_streams.specs.Grammar.{Grammar, peel, peeled, standing}
use Rattle.unit_streams.specs.Judging.{ending_at, event_at, events, history, history_from, offence}
use Rattle.unit_streams.specs.Judging.{refusal_at}
use Rattle.unit_streams.specs.Tellers.{report, state_behind, Teller, told_along}
use Rattle.stream_loop.specs.{Reported.last_state, Toy.bytes_and_count, Toy.bytes_to_0}

-- a stream, the number of its refusal, its report, and what is remembered after it
abbrev Row : Type 0
Row = List ℕ × (Option ℕ × (List ℕ × ℕ))

-- 1 is for the byte 255, 2 for a stream that is cut, 3 for one that is too long
abbrev g : Grammar Bool ℕ ℕ ℕ
g = bytes_to_0 1 2 3

abbrev t : Teller ℕ ℕ ℕ
t = bytes_and_count

abbrev AreReported : List Row → Type 0
AreReported rows =
    map (λ (r : Row). (offence g r.0, (report g t r.0, last_state g t r.0))) rows
    ≡ map (λ (r : Row). r.1) rows

reports : AreReported (
    (97 ∷ 98 ∷ 0 ∷ [], (None, (97 ∷ 98 ∷ 0 ∷ 3 ∷ [], 3))) ∷
    (97 ∷ 98 ∷ 0 ∷ 99 ∷ 0 ∷ [], (None, (97 ∷ 98 ∷ 0 ∷ 3 ∷ [], 3))) ∷
    (97 ∷ 98 ∷ [], (Some 2, (97 ∷ 98 ∷ 63 ∷ 2 ∷ [], 2))) ∷
    ([], (Some 2, (63 ∷ 0 ∷ [], 0))) ∷
    (97 ∷ 255 ∷ 98 ∷ 0 ∷ [], (Some 1, (97 ∷ 63 ∷ 1 ∷ [], 1))) ∷ [])
unfolding report told_along state_behind events offence history history_from event_at refusal_at
    ending_at standing peel peeled
reports = refl
