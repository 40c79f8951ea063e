-- How clap goes over the words of options.
use Rattle.std.proofs.Common.{◌≡◌, true, false, List, [], ◌∷◌, ◌++◌, map, is_some, Some, None}
use Rattle.std.proofs.Common.{Option, sym, refl, ap, ◌∙◌, inl, inr}
use Rattle.std.{proofs.lemmas.Bool.cases_Bool, specs.List.list_any}
use Rattle.clap.specs.{Faults.settle_fault, Kinds.Kinds, Kinds.or_else}
use Rattle.clap.specs.Walk.{has_row, Held, idle, option, Row, settled_rows, Waiting, Walk}
use Rattle.command_words.specs.declared.option_name.OptionName.{OptionName}
use Rattle.command_words.specs.Options.{begins_with_hyphen, Given, given_for, is_option}
use Rattle.command_words.{specs.Options.option_text, specs.Options.Text, proofs.RuleFacts.used-new}
use Rattle.command_words.proofs.RuleFacts.{arg_by_id-known, built_rules, has_row-given, row_for}

-- ---- kinds of errors

pub or_else-empty : (first next : Kinds) → or_else first next ≡ [] → (first ≡ []) × (next ≡ [])
or_else-empty [] next e = (refl, e)
or_else-empty (kind ∷ kinds) next e = cc e

pub or_else-nil : (kinds : Kinds) → or_else kinds [] ≡ kinds
or_else-nil [] = refl
or_else-nil (kind ∷ kinds) = refl

-- ---- where clap stands between two words

-- no option is open, one has its value and isn't settled, or one wants its value
pub data State : Type 0 where
  resting : State
  holding : Given → State
  naming : OptionName → State

abbrev pub pending_of : State → Option (Text × List Text)
pending_of resting = None
pending_of (holding given) = Some (option_text given.0, given.1 ∷ [])
pending_of (naming name) = Some (option_text name, [])

abbrev pub waiting_of : State → Waiting
waiting_of resting = idle
waiting_of (holding given) = idle
waiting_of (naming name) = option (option_text name)

abbrev pub held_with : List Row → Option (Text × List Text) → Held
held_with rows pending = record { rows = rows; pending = pending; skip = 0 }

abbrev pub held_at : List Given → State → Held
held_at seen state = held_with (map row_for seen) (pending_of state)

abbrev pub walk_with : Held → Waiting → Walk
walk_with held waiting = record {
  held = held;
  waiting = waiting;
  position = 1;
  is_trailing = false;
  stopped = None;
}

abbrev pub walk_at : List Given → State → Walk
walk_at seen state = walk_with (held_at seen state) (waiting_of state)

-- the options that were given
abbrev pub whole : List Given → State → List Given
whole seen resting = seen
whole seen (holding given) = seen ++ given ∷ []
whole seen (naming name) = seen

-- the next option may come
abbrev pub Rests : List Given → State → Type 0
Rests seen resting = Unit {0}
Rests seen (holding given) = given_for seen given.0 ≡ None
Rests seen (naming name) = ⊥

-- the state is that of known options
abbrev pub Fits : List OptionName → State → Type 0
Fits options resting = Unit {0}
Fits options (holding given) = (list_any (is_option given.0) options ≡ true)
    × (begins_with_hyphen given.1 ≡ false)
Fits options (naming name) = list_any (is_option name) options ≡ true

pub none-from_is_some : (value : Option Text) → is_some value ≡ false → value ≡ None
none-from_is_some None e = refl
none-from_is_some (Some text) e = cc e

module _ (options : List OptionName) where
  -- ---- settling

  pub settle-rests : (seen : List Given) (state : State) → Fits options state
      → settle_fault (built_rules options) false (held_at seen state) ≡ [] → Rests seen state
  settle-rests seen resting fits e = tt
  settle-rests seen (holding given) fits e =
      let used = rw (arg_by_id-known options given.0 fits.0) at e in
      elim (cases_Bool (has_row (option_text given.0) (map row_for seen))) [
        | inl there ↦ cc (rw there at used)
        | inr missing ↦ none-from_is_some (given_for seen given.0)
            (sym (has_row-given seen given.0) ∙ missing)
      ]
  settle-rests seen (naming name) fits e = cc (rw (arg_by_id-known options name fits) at e)

  pub missing_row : (seen : List Given) (name : OptionName) → given_for seen name ≡ None
      → has_row (option_text name) (map row_for seen) ≡ false
  missing_row seen name new = has_row-given seen name ∙ ap is_some new

  pub rests-settle : (seen : List Given) (state : State) → Fits options state → Rests seen state
      → settle_fault (built_rules options) false (held_at seen state) ≡ []
  rests-settle seen resting fits rests = refl
  rests-settle seen (holding given) fits rests =
      rw (arg_by_id-known options given.0 fits.0, missing_row seen given.0 rests) refl
  rests-settle seen (naming name) fits rests = absurd rests

  pub settled_rows-whole : (seen : List Given) (state : State) → Fits options state
      → Rests seen state
      → settled_rows (built_rules options) (pending_of state) (map row_for seen)
      ≡ map row_for (whole seen state)
  settled_rows-whole seen resting fits rests = refl
  settled_rows-whole seen (holding given) fits rests = rw (arg_by_id-known options given.0 fits.0)
      (used-new seen given rests)
  settled_rows-whole seen (naming name) fits rests = absurd rests
