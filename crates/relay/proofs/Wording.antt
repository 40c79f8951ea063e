-- The line of a connection that was relayed, by what is put of it.
use Rattle.std.proofs.Common.{◌≡◌, ℕ, List, [], ◌∷◌, ◌++◌, codes, decimal, append_assoc}
use Rattle.line_notation.specs.{Lines.with_line_feed, Words.spaced}
use Rattle.relay.specs.declared.outcome.RelayOutcome.{RelayOutcome}
use Rattle.relay.specs.Lines.{relay_line, word_of}

line_parts : (number to_back forward to_front backward : List ℕ)
    → with_line_feed (spaced (codes "relay" ∷ number ∷ codes "forward" ∷ to_back ∷ forward
    ∷ codes "backward" ∷ to_front ∷ backward ∷ []))
    ≡ ((codes "relay " ++ (number ++ (codes " forward " ++ (to_back ++ codes " ")))) ++ forward)
    ++ ((codes " backward " ++ (to_front ++ codes " ")) ++ (backward ++ codes "\n"))
line_parts number to_back forward to_front backward = simp append_assoc

pub line_is : (number : ℕ) (outcome : RelayOutcome) → relay_line number outcome
    ≡ ((codes "relay " ++ (decimal number ++ (codes " forward "
    ++ (decimal outcome.forward.documents ++ codes " ")))) ++ word_of outcome.forward)
    ++ ((codes " backward " ++ (decimal outcome.backward.documents ++ codes " "))
    ++ (word_of outcome.backward ++ codes "\n"))
unfolding relay_line
line_is number outcome = line_parts (decimal number) (decimal outcome.forward.documents)
    (word_of outcome.forward) (decimal outcome.backward.documents) (word_of outcome.backward)
