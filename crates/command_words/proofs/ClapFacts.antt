-- What a parse of clap tells of the words.
use Rattle.std.proofs.Common.{◌≡◌, true, false, List, [], sym, refl, ap, ◌∙◌, subst, ap₂, inl, inr}
use Rattle.std.specs.List.{AllByRecursion}
use Rattle.clap.proofs.{FaultLemmas.leaf_fault, WalkLemmas.both, WalkLemmas.first_value-rows}
use Rattle.clap.specs.declared.error.{Error.Error, kind.ErrorKind.TheVariants.OutOfMemory}
use Rattle.clap.specs.{declared.parser.matches.ArgMatches.ArgMatches, Values.kind_of}
use Rattle.clap.specs.Faults.{built_fault, fault_of, is_simple_and_free, settle_fault, walk_fault}
use Rattle.clap.specs.{Kinds.HasKind, Kinds.or_else, Matches.found_of}
use Rattle.clap.specs.Simple.{App, argument_words, HasMatchesOf, is_simple, matches_of, names_of}
use Rattle.clap.specs.Walk.{first_of, nothing_held, rows_after}
use Rattle.command_words.specs.declared.{action.Action.Action, option_name.OptionName.OptionName}
use Rattle.command_words.specs.{Commands.options_of, Commands.word_of, Requests.GiveOptions}
use Rattle.command_words.specs.Options.{Given, given_for, IsOnce, option_text, SpellOptions, Text}
use Rattle.command_words.specs.WordAnswers.{app_for, app_with, found_values, HasTaken, IsReadable}
use Rattle.command_words.proofs.OptionFacts.{new-from_once, once-from_new}
use Rattle.command_words.proofs.ReadingFacts.{are_known, held_behind, Passes, reading-complete}
use Rattle.command_words.proofs.ReadingFacts.{reading-sound, rows_behind}
use Rattle.command_words.proofs.RuleFacts.{app_with-is, built-app_with, built_app, built_rules}
use Rattle.command_words.proofs.RuleFacts.{check-none, defaults-none, first_of-given}
use Rattle.command_words.proofs.RuleFacts.{is_simple_and_free-app_with, shape, with_default-none}
use Rattle.command_words.proofs.WalkFacts.{or_else-empty, or_else-nil, resting, walk_at}

module _ (name : Text) (options : List OptionName) (words : List Text) where
  words-given : argument_words (app_with name options) words ≡ words
  words-given = ap (λ app. argument_words app words) (app_with-is name options)

  -- the faults of the walk, and of what is held at its end
  fault_of-is : fault_of (app_with name options) words
      ≡ or_else (walk_fault (shape name options) [] (walk_at [] resting) words)
      (settle_fault (built_rules options) false (held_behind options (walk_at [] resting) words))
  fault_of-is =
      ap₂ (λ app given. built_fault app nothing_held given) (built-app_with name options)
      words-given
      ∙ leaf_fault (built_app name options) nothing_held words refl
      ∙ rw (defaults-none _ options, check-none name options _)
      (ap (or_else (walk_fault (shape name options) [] (walk_at [] resting) words)) (or_else-nil _))

  passes-from_fault : fault_of (app_with name options) words ≡ [] → Passes name options
      (walk_at [] resting) words
  passes-from_fault e = or_else-empty (walk_fault (shape name options) [] (walk_at [] resting)
      words) _ (sym fault_of-is ∙ e)

  fault-from_passes : Passes name options (walk_at [] resting) words
      → fault_of (app_with name options) words ≡ []
  fault-from_passes passes = fault_of-is ∙ rw (passes.0, passes.1) refl

  matches_of-is : matches_of (app_with name options) words ≡ rows_behind options
      (walk_at [] resting) words
  matches_of-is =
      ap₂ (λ (app : App) given. rows_after app.top.rules (names_of app) given)
      (built-app_with name options) words-given
      ∙ with_default-none (rows_behind options (walk_at [] resting) words) options

  -- words that a parse takes
  pub parse-takes : (matches : ArgMatches) → AllByRecursion IsReadable words
      → fault_of (app_with name options) words ≡ []
      → HasMatchesOf (app_with name options) words matches
      → (given : List Given) × SpellOptions words given × (are_known options given ≡ true)
      × IsOnce given
      × ((option : OptionName) → found_values matches option ≡ given_for given option)
  parse-takes matches readable none has =
      let told = reading-sound name options words [] resting tt readable (passes-from_fault none) in
      let simple =
      (both (is_simple (app_with name options)) _ (is_simple_and_free-app_with name options)).0 in (
        told.given,
        told.spelled,
        told.known,
        once-from_new told.given told.new,
        λ option. first_value-rows (found_of matches) (option_text option)
            ∙ ap (first_of (option_text option)) ((has simple).0 ∙ matches_of-is ∙ told.leads) ∙
            first_of-given told.given option,
      )

  -- words that spell options, none of them twice, have no fault
  pub spelled-takes : (given : List Given) → SpellOptions words given → are_known options given
      ≡ true → IsOnce given → fault_of (app_with name options) words ≡ []
  spelled-takes given spelled known once =
      fault-from_passes (reading-complete name options given words [] resting tt tt spelled known
      (new-from_once given once))

-- ---- of a command of this program

module _ (action : Action) (words : List Text) (app : App) (is : app ≡ app_for action) where
  simple_and_free : is_simple_and_free app ≡ true
  simple_and_free = ap is_simple_and_free is ∙ is_simple_and_free-app_with (word_of action)
      (options_of action)

  pub taken-from_parse : (matches : ArgMatches) → AllByRecursion IsReadable words
      → (is_simple_and_free app ≡ true → fault_of app words ≡ [])
      → HasMatchesOf app words matches → HasTaken action words matches
  taken-from_parse matches readable kinds has =
      let fault : fault_of (app_for action) words ≡ [] =
      ap (λ a. fault_of a words) (sym is) ∙ kinds simple_and_free in
      let found = parse-takes (word_of action) (options_of action) words matches readable fault
      (subst (λ a. HasMatchesOf a words matches) is has) in
      record {
        given = found.0;
        spelled = found.1;
        known = found.2;
        once = found.3;
        values = found.4;
      }

  pub refused-by_parse : (error : Error)
      → (is_simple_and_free app ≡ true → HasKind (fault_of app words) error)
      → (kind_of error ≡ OutOfMemory → ⊥)
      → (given : List Given) → GiveOptions action words given → ⊥
  refused-by_parse error kinds not_memory given gives =
      let none : fault_of app words ≡ [] = ap (λ a. fault_of a words) is ∙ spelled-takes
      (word_of action) (options_of action) words given gives.spelled gives.known gives.once in
      elim (subst (λ ks. HasKind ks error) none (kinds simple_and_free)) [
        | inl memory ↦ not_memory memory
        | inr among ↦ among
      ]
