-- The line of a connection, by what is put of it.
use Rattle.std.proofs.Common.{◌≡◌, ℕ, List, [], ◌∷◌, ◌++◌, codes, decimal, append_assoc}
use Rattle.line_notation.specs.{Lines.with_line_feed, Words.spaced}
use Rattle.duplex_server.specs.declared.outcome.Outcome.{Outcome}
use Rattle.duplex_server.specs.Lines.{connection_line, inbound_word, outbound_word}

line_parts : (number messages answers inbound outbound : List ℕ)
    → with_line_feed (spaced (codes "connection" ∷ number ∷ codes "messages" ∷ messages
    ∷ codes "answers" ∷ answers ∷ codes "in" ∷ inbound ∷ codes "out" ∷ outbound ∷ []))
    ≡ (codes "connection " ++ (number ++ (codes " messages " ++ (messages ++ (codes " answers "
    ++ (answers ++ codes " in ")))))) ++ (inbound ++ (codes " out " ++ (outbound ++ codes "\n")))
line_parts number messages answers inbound outbound = simp append_assoc

pub line_is : (number : ℕ) (outcome : Outcome) → connection_line number outcome
    ≡ (codes "connection " ++ (decimal number ++ (codes " messages " ++ (decimal outcome.messages
    ++ (codes " answers " ++ (decimal outcome.answers ++ codes " in "))))))
    ++ (inbound_word outcome.inbound ++ (codes " out "
    ++ (outbound_word outcome.outbound ++ codes "\n")))
unfolding connection_line
line_is number outcome = line_parts (decimal number) (decimal outcome.messages)
    (decimal outcome.answers) (inbound_word outcome.inbound) (outbound_word outcome.outbound)
