use Rattle.std.proofs.Common.{◌≢◌, ◌<◌, ℕ, [], Some, slice_index_or}
use Rattle.command_words.specs.declared.option_name.OptionName.{OptionName}
use Rattle.command_words.specs.WordAnswers.{found_values}
use Rattle.command_words.proofs.parsed.have_values.Given as goal

abbrev pub invariant-loop-option : goal.invariant-loop-option
invariant-loop-option l = (k : ℕ) (d : OptionName) → k < l.option-index
    → found_values l.matches (slice_index_or l.option-items k d) ≢ Some []
