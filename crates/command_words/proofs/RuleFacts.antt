-- What clap holds of a command with options, and the rows that it finds for the values of options.
use Rattle.std.proofs.Common.{◌≡◌, ℕ, Bool, true, false, ◌||◌, ◌⊎◌, List, [], ◌∷◌, ◌++◌, map}
use Rattle.std.proofs.Common.{is_some, Some, None, fold, count_by, bytes_eq, sym, refl, ap, ◌∙◌}
use Rattle.std.proofs.Common.{inl, inr, append_assoc, append-nil}
use Rattle.std.proofs.lemmas.{Bool.cases_Bool, List.map-append, Slice.Eq.bytes_eq-Decides}
use Rattle.std.specs.List.{list_all, list_any}
use Rattle.clap.specs.declared.parser.matches.ValueSource.TheVariants.{CommandLine}
use Rattle.clap.specs.Faults.{check_fault, defaults_fault, is_free_app, is_simple_and_free}
use Rattle.clap.specs.Simple.{App, built, filled, filled_from, is_buildable, is_ready}
use Rattle.clap.specs.{Simple.is_ready_leaf, Simple.on_top, Simple.Shape, Walk.with_values}
use Rattle.clap.specs.Walk.{arg_by_id, arg_by_index, arg_by_long, arg_by_short, at_row, first_of}
use Rattle.clap.specs.Walk.{has_row, is_early_multiple, more_values, Row, Rule, used, with_default}
use Rattle.command_words.specs.declared.option_name.OptionName.{OptionName}
use Rattle.command_words.specs.Options.{Given, given_for, is_option, option_text, Text}
use Rattle.command_words.specs.WordAnswers.{app_with, app_without_options, option_rule, with_option}
use Rattle.command_words.proofs.OptionFacts.{is_option-flips, is_option-same, same-is_option}
use Rattle.clap.specs.declared.builder.value_parser.Reading.TheVariants as reading

-- ---- the command as clap builds it

-- an option as clap fills it in
abbrev pub built_rule : OptionName → Rule
built_rule option = filled (option_rule option)

abbrev pub built_rules : List OptionName → List Rule
built_rules options = map built_rule options

abbrev pub shape : Text → List OptionName → Shape
shape name options = record (app_without_options name).top {
  rules = built_rules options;
  disable_help_subcommand = true;
  is_built = true;
}

abbrev pub built_app : Text → List OptionName → App
built_app name options = record { top = shape name options; subs = [] }

app_with-rules : (app : App) (options : List OptionName)
    → fold with_option app options
    ≡ on_top (λ (s : Shape). record s { rules = s.rules ++ map option_rule options }) app
app_with-rules app [] = sym (ap (λ rs. on_top (λ (s : Shape). record s { rules = rs }) app)
    (append-nil app.top.rules))
app_with-rules app (option ∷ options) =
    app_with-rules (with_option app option) options
    ∙ ap (λ rs. on_top (λ (s : Shape). record s { rules = rs }) app)
    (append_assoc app.top.rules (option_rule option ∷ []) (map option_rule options))

filled_from-options : (i : ℕ) (options : List OptionName) → filled_from i (map option_rule options)
    ≡ built_rules options
filled_from-options i [] = refl
filled_from-options i (option ∷ options) = ap (λ rest. built_rule option ∷ rest)
    (filled_from-options i options)

pub app_with-is : (name : Text) (options : List OptionName)
    → app_with name options ≡ on_top (λ (s : Shape). record s { rules = map option_rule options })
    (app_without_options name)
app_with-is name options = app_with-rules (app_without_options name) options

pub built-app_with : (name : Text) (options : List OptionName) → built (app_with name options)
    ≡ built_app name options
built-app_with name options =
    ap built (app_with-is name options)
    ∙ ap (λ rs. record (built_app name options) {
      top = record (shape name options) { rules = rs };
    }) (filled_from-options 1 options)

-- a test that each option passes, and one that none does
each_passes : (p : Rule → Bool) (rule : OptionName → Rule) (options : List OptionName)
    → ((option : OptionName) → p (rule option) ≡ true) → list_all p (map rule options) ≡ true
each_passes p rule [] passes = refl
each_passes p rule (option ∷ options) passes = rw (passes option)
    (each_passes p rule options passes)

none_passes : (p : Rule → Bool) (options : List OptionName)
    → ((option : OptionName) → p (built_rule option) ≡ false) → list_any p (built_rules options)
    ≡ false
none_passes p [] fails = refl
none_passes p (option ∷ options) fails = rw (fails option) (none_passes p options fails)

-- ---- looking options up

pub arg_by_id-known : (options : List OptionName) (option : OptionName)
    → list_any (is_option option) options ≡ true
    → arg_by_id (built_rules options) (option_text option) ≡ Some (built_rule option)
arg_by_id-known [] option known = cc known
arg_by_id-known (one ∷ options) option known =
    elim (cases_Bool (is_option one option)) [
      | inl same ↦ rw same (ap (λ x. Some (built_rule x)) (same-is_option one option same))
      | inr other ↦ rw other
          (arg_by_id-known options option (rw (is_option-flips one option other) at known))
    ]

pub arg_by_long-known : (options : List OptionName) (option : OptionName)
    → list_any (is_option option) options ≡ true
    → arg_by_long (built_rules options) (option_text option) ≡ Some (built_rule option)
arg_by_long-known [] option known = cc known
arg_by_long-known (one ∷ options) option known =
    elim (cases_Bool (is_option one option)) [
      | inl same ↦ rw same (ap (λ x. Some (built_rule x)) (same-is_option one option same))
      | inr other ↦ rw other
          (arg_by_long-known options option (rw (is_option-flips one option other) at known))
    ]

or_right : (a b : Bool) → b ≡ true → (a || b) ≡ true
or_right true b e = refl
or_right false b e = e

-- the name is one of the options, or clap knows none by it
pub arg_by_long-is : (options : List OptionName) (name : Text)
    → (arg_by_long (built_rules options) name ≡ None)
    ⊎ ((option : OptionName) × (name ≡ option_text option)
    × (list_any (is_option option) options ≡ true))
arg_by_long-is [] name = inl refl
arg_by_long-is (one ∷ options) name =
    elim (cases_Bool (bytes_eq (option_text one) name)) [
      | inl same ↦ inr (
        one,
        sym ((bytes_eq-Decides (option_text one) name).0 same),
        rw (is_option-same one) refl,
      )
      | inr other ↦ elim (arg_by_long-is options name) [
        | inl none ↦ inl (rw other none)
        | inr found ↦ inr (found.0, found.1, or_right (is_option found.0 one) _ found.2)
      ]
    ]

pub arg_by_short-none : (options : List OptionName) (flag : ℕ) → arg_by_short (built_rules options)
    flag ≡ None
arg_by_short-none [] flag = refl
arg_by_short-none (one ∷ options) flag = arg_by_short-none options flag

pub arg_by_index-none : (options : List OptionName) (i : ℕ) → arg_by_index (built_rules options) i
    ≡ None
arg_by_index-none [] i = refl
arg_by_index-none (one ∷ options) i = arg_by_index-none options i

-- ---- rows

-- what clap finds of an option
abbrev pub row_for : Given → Row
row_for given = record {
  id = option_text given.0;
  values = given.1 ∷ [];
  count = None;
  source = Some CommandLine;
  reading = reading.AsWritten;
}

pub has_row-given : (seen : List Given) (option : OptionName) → has_row (option_text option)
    (map row_for seen) ≡ is_some (given_for seen option)
has_row-given [] option = refl
has_row-given (given ∷ seen) option =
    elim (cases_Bool (is_option given.0 option)) [
      | inl same ↦ rw same refl
      | inr other ↦ rw other (has_row-given seen option)
    ]

pub first_of-given : (given : List Given) (option : OptionName) → first_of (option_text option)
    (map row_for given) ≡ given_for given option
first_of-given [] option = refl
first_of-given (one ∷ given) option =
    elim (cases_Bool (is_option one.0 option)) [
      | inl same ↦ rw same refl
      | inr other ↦ rw other (first_of-given given option)
    ]

-- a row that is new stands at the end
at_row-new : (id : Text) (change : Row → List Row) (missing rows : List Row) → has_row id rows
    ≡ false → at_row id change missing rows ≡ rows ++ missing
at_row-new id change missing [] none = refl
at_row-new id change missing (row ∷ rows) none =
    elim (cases_Bool (bytes_eq row.id id)) [
      | inl same ↦ cc (rw same at none)
      | inr other ↦ rw other
          (ap (λ rest. row ∷ rest) (at_row-new id change missing rows (rw other at none)))
    ]

-- an option that is used for the first time
pub used-new : (seen : List Given) (given : Given) → given_for seen given.0 ≡ None
    → used (built_rule given.0) (given.1 ∷ []) (map row_for seen) ≡ map row_for (seen ++ given ∷ [])
used-new seen given new =
    let none : has_row (option_text given.0) (map row_for seen) ≡ false = has_row-given seen given.0
    ∙ ap is_some new in
    ap (with_values (option_text given.0) reading.AsWritten CommandLine (given.1 ∷ []))
    (at_row-new (option_text given.0) (λ _. []) [] (map row_for seen) none ∙ append-nil
    (map row_for seen))
    ∙ at_row-new (option_text given.0) (more_values CommandLine (given.1 ∷ [])) (row_for given ∷ [])
    (map row_for seen) none
    ∙ sym (map-append row_for seen (given ∷ []))

-- ---- after the words

-- no option has a default, and none is required
pub defaults-none : (seen : List Row) (options : List OptionName) → defaults_fault seen
    (built_rules options) ≡ []
unfolding defaults_fault
defaults-none seen [] = refl
defaults-none seen (option ∷ options) =
    elim (cases_Bool (has_row (option_text option) seen)) [
      | inl there ↦ rw there (defaults-none seen options)
      | inr missing ↦ rw missing (defaults-none seen options)
    ]

without_default : (rows : List Row) (option : OptionName) → with_default rows (built_rule option)
    ≡ rows
without_default rows option =
    elim (cases_Bool (has_row (option_text option) rows)) [
      | inl there ↦ rw there refl
      | inr missing ↦ rw missing refl
    ]

pub with_default-none : (rows : List Row) (options : List OptionName) → fold with_default rows
    (built_rules options) ≡ rows
with_default-none rows [] = refl
with_default-none rows (option ∷ options) =
    ap (λ left. fold with_default left (built_rules options)) (without_default rows option) ∙
    with_default-none rows options

pub check-none : (name : Text) (options : List OptionName) (rows : List Row)
    → check_fault (shape name options) rows false ≡ []
check-none name options rows = rw (none_passes _ options (λ option. refl)) refl

free_by_parts : (app as_built : App) → built app ≡ as_built → is_buildable app ≡ true
    → is_ready as_built.top ≡ true → list_all is_ready_leaf as_built.subs ≡ true
    → is_free_app as_built ≡ true → is_simple_and_free app ≡ true
free_by_parts app as_built is buildable ready leaves free = rw (is, buildable, ready, leaves, free)
    refl

is_buildable-app_with : (name : Text) (options : List OptionName)
    → is_buildable (app_with name options) ≡ true
is_buildable-app_with name options =
    ap is_buildable (app_with-is name options) ∙
    rw (each_passes (λ rule. rule.is_simple) option_rule options (λ option. refl)) refl

pub is_simple_and_free-app_with : (name : Text) (options : List OptionName) → is_simple_and_free
    (app_with name options) ≡ true
is_simple_and_free-app_with name options =
    let ready : is_ready (shape name options) ≡ true =
    rw (
      each_passes (λ rule. rule.is_simple) built_rule options (λ option. refl),
      none_passes
          (is_early_multiple (count_by (λ rule. is_some rule.index) (built_rules options))) options
          (λ option. refl),
    ) refl in
    let free : is_free_app (built_app name options)
    ≡ true = rw (each_passes (λ rule. rule.is_free) built_rule options (λ option. refl)) refl in
    free_by_parts (app_with name options) (built_app name options) (built-app_with name options)
    (is_buildable-app_with name options) ready refl free
