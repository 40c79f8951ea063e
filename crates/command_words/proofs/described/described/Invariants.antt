use Rattle.std.proofs.Common.{◌≡◌, take, fold}
use Rattle.clap.specs.Simple.{app_of}
use Rattle.command_words.specs.Commands.{options_of, word_of}
use Rattle.command_words.specs.WordAnswers.{app_without_options, with_option}
use Rattle.command_words.proofs.described.described.Given as goal

abbrev pub invariant-loop-option : goal.invariant-loop-option
invariant-loop-option l = record {
  items : l.option-items ≡ options_of l.fn.action;
  told : app_of l.command ≡ fold with_option (app_without_options (word_of l.fn.action))
      (take l.option-index (options_of l.fn.action));
}
