use Rattle.std.proofs.Common.{◌≡◌, ℕ, ◌-◌, ◌≤◌, List, length}
use Rattle.std.specs.List.{concat}
use Rattle.stream_reader.{specs.Runs.chunks_of, proofs.RunFacts.IsLeft}
use Rattle.stream_reader.proofs.runs.place_in.Given as goal

abbrev pub invariant-loop-left : goal.invariant-loop-left
invariant-loop-left l = record {
  left : (contents : List (List ℕ)) → l.run ≡ chunks_of contents
      → l.content ≤ length (concat contents) → IsLeft l.run l.at l.left contents l.content;
}

abbrev pub decreases-loop-left : goal.decreases-loop-left
decreases-loop-left l = length l.run - l.at
