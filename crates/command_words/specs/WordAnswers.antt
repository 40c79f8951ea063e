-- What the parts of a reader of words answer.
use Rattle.std.specs.Prelude.{◌≡◌, Bool, true, false, ◌&&◌, ◌≢◌, ◌⊎◌, List, [], ◌∷◌, nat_lt, nat_le}
use Rattle.std.specs.Prelude.{Some, codes, IsUtf8, fold, Option}
use Rattle.std.specs.Char.{is_ascii_digit}
use Rattle.clap.specs.{declared.parser.matches.ArgMatches.ArgMatches, Walk.Rule}
use Rattle.clap.specs.Matches.{first_value, found_of}
use Rattle.clap.specs.Simple.{App, new_app, new_rule, on_top, with_rule}
use Rattle.command_words.specs.declared.{action.Action.Action, option_name.OptionName.OptionName}
use Rattle.command_words.specs.Commands.{options_of, word_of}
use Rattle.command_words.specs.Options.{Given, given_for, IsOnce, option_text, SpellOptions, Text}
use Rattle.command_words.specs.Requests.{AreOptionsOf, GiveOptions, QuotaValues}
use Rattle.command_words.specs.{declared.quotas.QuotaValues.QuotaValues as QuotaValuesTaken, Values.text_behind}

-- ---- words that are given to clap

-- a single or double hyphen that stands alone
abbrev pub IsLoneHyphens : Text → Type 0
IsLoneHyphens word = (word ≡ codes "-") ⊎ (word ≡ codes "--")

-- any other text
pub record IsReadable (word : Text) : Type 0 where
  pub not_one : word ≢ codes "-"
  pub not_two : word ≢ codes "--"
  pub utf8 : IsUtf8 word

-- the text begins as a number does, with a digit, which is the zero only where it is alone
abbrev pub begins_plain : Text → Bool
begins_plain [] = false
begins_plain (digit ∷ []) = is_ascii_digit digit
begins_plain (digit ∷ next ∷ rest) = nat_lt 48 digit && nat_le digit 57

-- ---- what clap is told

-- an option, which takes one value as text
abbrev pub option_rule : OptionName → Rule
option_rule option = record (new_rule (option_text option)) { long = Some (option_text option) }

abbrev pub with_option : App → OptionName → App
with_option app option = with_rule app (option_rule option)

-- a command without options; it is given the words after the command, and answers no request for
-- help
abbrev pub app_without_options : Text → App
app_without_options name = on_top (λ shape. record shape {
  no_binary_name = true;
  disable_help_flag = true;
}) (new_app name)

abbrev pub app_with : Text → List OptionName → App
app_with name options = fold with_option (app_without_options name) options

abbrev pub app_for : Action → App
app_for action = app_with (word_of action) (options_of action)

-- ---- what clap finds

-- the value of each option that a parse found
abbrev pub found_values : ArgMatches → OptionName → Option Text
found_values matches option = first_value (found_of matches) (option_text option)

-- the values of the options of quotas, as texts
abbrev pub values_of : QuotaValuesTaken → QuotaValues
values_of taken = record {
  payload = text_behind taken.payload;
  depth = text_behind taken.depth;
  dictionary = text_behind taken.dictionary;
  content = text_behind taken.content;
  session = text_behind taken.session;
}

-- the words spell options of the command, with the values that a parse found, which may be empty
pub record HasTaken (action : Action) (words : List Text) (matches : ArgMatches) : Type 0 where
  pub given : List Given
  pub spelled : SpellOptions words given
  pub known : AreOptionsOf action given
  pub once : IsOnce given
  pub values : (option : OptionName) → found_values matches option ≡ given_for given option

-- the words give options, with the values that a parse found
pub record HasFound (action : Action) (words : List Text) (matches : ArgMatches) : Type 0 where
  pub given : List Given
  pub gives : GiveOptions action words given
  pub values : (option : OptionName) → found_values matches option ≡ given_for given option
