use Rattle.std.proofs.Common.{ℕ, ◌<◌, String, slice_index_or, string_bytes}
use Rattle.command_words.specs.WordAnswers.{IsReadable}
use Rattle.command_words.proofs.parsed.are_readable.Given as goal

abbrev pub invariant-loop-word : goal.invariant-loop-word
invariant-loop-word l = (k : ℕ) (d : String _) → k < l.word-index
    → IsReadable (string_bytes (slice_index_or l.words k d))
