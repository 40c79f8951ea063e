use Rattle.std.proofs.Common.{◌<◌, ◌∙◌, ap, ap₂, length, slice_index_or, subst, sym}
use Rattle.std.proofs.lemmas.List.Sums.{fold_more}
use Rattle.command_words.specs.declared.option_name.OptionName.TheVariants.{Static}
use Rattle.command_words.specs.Commands.{options_of, word_of}
use Rattle.command_words.specs.WordAnswers.{app_without_options, with_option}
use Rattle.command_words.proofs.described.described.Goals as goal

pub loop-option-preserved : goal.loop-option-preserved
loop-option-preserved c =
    let at = c.loop-option.option-index in
    let before = c.loop-option.invariant in
    let in_range : at < length (options_of c.args.action) = subst (λ options. at < length options)
    before.items c.loop-option-test.true in
    record {
      items = before.items;
      told = c.in_ok-command.ensures ∙ ap₂ with_option before.told
          (ap (λ options. slice_index_or options at Static) before.items)
          ∙ sym (fold_more with_option (app_without_options (word_of c.args.action))
          (options_of c.args.action) at Static in_range);
    }
