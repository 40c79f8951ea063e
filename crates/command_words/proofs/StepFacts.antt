-- What clap makes of one word more.
use Rattle.std.proofs.Common.{◌≡◌, ℕ, ◌<◌, true, false, List, [], ◌∷◌, ◌++◌, map, length, slice_get}
use Rattle.std.proofs.Common.{Some, None, codes, Option, chars, bytes_eq, sym, refl, ap, ◌∙◌, inl}
use Rattle.std.proofs.{Common.inr, Common.arith, lemmas.Bool.cases_Bool}
use Rattle.{std.specs.List.list_any, command_words.specs.declared.option_name.OptionName.OptionName}
use Rattle.clap.specs.Faults.{flags_fault, settle_fault, turn_fault, use_fault}
use Rattle.clap.specs.{Kinds.or_else, Lexer.long_of, Lexer.short_of}
use Rattle.clap.specs.Walk.{arg_by_long, has_row, Held, idle, option, positional, settled_rows}
use Rattle.clap.specs.Walk.{subcommand_met, used, Waiting, walked}
use Rattle.command_words.specs.Options.{Given, given_for, is_option, option_text, Text}
use Rattle.command_words.proofs.{OptionFacts.bytes_eq-same, WordFacts.long-not_pair}
use Rattle.command_words.proofs.RuleFacts.{arg_by_id-known, arg_by_index-none, arg_by_long-known}
use Rattle.command_words.proofs.RuleFacts.{arg_by_short-none, built_rule, built_rules}
use Rattle.command_words.proofs.RuleFacts.{has_row-given, row_for, shape, used-new}
use Rattle.command_words.proofs.WalkFacts.{Fits, held_at, held_with, holding, missing_row, naming}
use Rattle.command_words.proofs.WalkFacts.{none-from_is_some, or_else-empty, or_else-nil}
use Rattle.command_words.proofs.WalkFacts.{pending_of, resting, Rests, rests-settle, settle-rests}
use Rattle.command_words.proofs.WalkFacts.{settled_rows-whole, State, waiting_of, walk_at}
use Rattle.command_words.proofs.WalkFacts.{walk_with, whole}

no_subcommand : (waiting : Waiting) (word : Text) → subcommand_met [] waiting word ≡ None
no_subcommand idle word = refl
no_subcommand (option name) word = refl
no_subcommand positional word = refl

-- a letter behind a hyphen is no option
flags-refused : (options : List OptionName) (flags : Text) (x : ℕ) → slice_get (chars flags) 0
    ≡ Some x → 0 < length flags → (held : Held)
    → flags_fault (built_rules options) false (length flags) flags 0 held ≡ [] → ⊥
unfolding flags_fault
flags-refused options [] x first some held e = absurd (omega arith)
flags-refused options (flag ∷ rest) x first some held e = cc
    (rw (first, arg_by_short-none options x) at e)

module _ (name : Text) (options : List OptionName) (seen : List Given) (state : State) (word : Text)
  where
    -- ---- a word with two hyphens in front

    module _ (text : Text) (value : Option Text) (is_long : long_of word ≡ Some (text, value)) where
      not_pair : bytes_eq word (codes "--") ≡ false
      not_pair = long-not_pair word (text, value) is_long

      pub unknown-refused : arg_by_long (built_rules options) text ≡ None
          → turn_fault (shape name options) [] (walk_at seen state) word ≡ [] → ⊥
      unknown-refused unknown e = cc
          (rw (no_subcommand (waiting_of state) word, not_pair, is_long, unknown) at e)

    module _ (name_is : OptionName) (known : list_any (is_option name_is) options ≡ true) where
      -- `--name`
      pub named-fault : long_of word ≡ Some (option_text name_is, None)
          → turn_fault (shape name options) [] (walk_at seen state) word
          ≡ settle_fault (built_rules options) false (held_at seen state)
      named-fault is_long =
          rw (
            no_subcommand (waiting_of state) word,
            not_pair (option_text name_is) None is_long,
            is_long,
            arg_by_long-known options name_is known,
          )
          (or_else-nil (settle_fault (built_rules options) false (held_at seen state)))

      named-walked : long_of word ≡ Some (option_text name_is, None) → walked (built_rules options)
          []
          (walk_at seen state) word
          ≡ walk_with
          (held_with (settled_rows (built_rules options) (pending_of state) (map row_for seen))
          (Some (option_text name_is, []))) (option (option_text name_is))
      unfolding walked
      named-walked is_long =
          rw (
            no_subcommand (waiting_of state) word,
            not_pair (option_text name_is) None is_long,
            is_long,
            arg_by_long-known options name_is known,
          ) refl

      pub named-walks : long_of word ≡ Some (option_text name_is, None) → Fits options state
          → Rests seen state
          → walked (built_rules options) [] (walk_at seen state) word ≡ walk_at (whole seen state)
          (naming name_is)
      named-walks is_long fits rests =
          named-walked is_long
          ∙ ap (λ rows. walk_with (held_with rows (Some (option_text name_is, [])))
          (option (option_text name_is))) (settled_rows-whole options seen state fits rests)

    module _ (given : Given) (known : list_any (is_option given.0) options ≡ true)
        (is_long : long_of word ≡ Some (option_text given.0, Some given.1)) where
      -- `--name=value`
      joined-fault : turn_fault (shape name options) [] (walk_at seen state) word
          ≡ or_else (settle_fault (built_rules options) false (held_at seen state))
          (use_fault false (built_rule given.0) (given.1 ∷ [])
          (settled_rows (built_rules options) (pending_of state) (map row_for seen)))
      joined-fault = rw (
        no_subcommand (waiting_of state) word,
        not_pair (option_text given.0)
            (Some given.1) is_long,
        is_long,
        arg_by_long-known options given.0 known,
      ) (or_else-nil _)

      settled-use : Fits options state → Rests seen state
          → use_fault false (built_rule given.0) (given.1 ∷ [])
          (settled_rows (built_rules options) (pending_of state) (map row_for seen))
          ≡ use_fault false (built_rule given.0) (given.1 ∷ []) (map row_for (whole seen state))
      settled-use fits rests = ap (use_fault false (built_rule given.0) (given.1 ∷ []))
          (settled_rows-whole options seen state fits rests)

      pub joined-tells : Fits options state → turn_fault (shape name options) []
          (walk_at seen state)
          word ≡ []
          → Rests seen state × (given_for (whole seen state) given.0 ≡ None)
      joined-tells fits e =
          let parts = or_else-empty (settle_fault (built_rules options) false (held_at seen state))
          _
          (sym joined-fault ∙ e) in
          let rests = settle-rests options seen state fits parts.0 in
          let once = sym (settled-use fits rests) ∙ parts.1 in
          elim (cases_Bool (has_row (option_text given.0) (map row_for (whole seen state)))) [
            | inl there ↦ cc (rw there at once)
            | inr missing ↦ (
              rests,
              none-from_is_some (given_for (whole seen state) given.0)
                  (sym (has_row-given (whole seen state) given.0) ∙ missing),
            )
          ]

      pub joined-passes : Fits options state → Rests seen state → given_for (whole seen state)
          given.0
          ≡ None
          → turn_fault (shape name options) [] (walk_at seen state) word ≡ []
      joined-passes fits rests new =
          joined-fault
          ∙ ap (λ kinds. or_else kinds (use_fault false (built_rule given.0) (given.1 ∷ [])
          (settled_rows (built_rules options) (pending_of state) (map row_for seen))))
          (rests-settle options seen state fits rests)
          ∙ settled-use fits rests
          ∙ rw (missing_row options (whole seen state) given.0 new) refl

      joined-walked : walked (built_rules options) [] (walk_at seen state) word
          ≡ walk_with
          (held_with
          (used (built_rule given.0) (given.1 ∷ [])
          (settled_rows (built_rules options) (pending_of state) (map row_for seen))) None) idle
      unfolding walked
      joined-walked = rw (
        no_subcommand (waiting_of state) word,
        not_pair (option_text given.0)
            (Some given.1) is_long,
        is_long,
        arg_by_long-known options given.0 known,
      ) refl

      pub joined-walks : Fits options state → Rests seen state
          → given_for (whole seen state) given.0 ≡ None
          → walked (built_rules options) [] (walk_at seen state) word
          ≡ walk_at (whole seen state ++ given ∷ []) resting
      joined-walks fits rests new =
          joined-walked
          ∙ ap (λ rows. walk_with (held_with (used (built_rule given.0) (given.1 ∷ []) rows) None)
          idle) (settled_rows-whole options seen state fits rests)
          ∙ ap (λ rows. walk_with (held_with rows None) idle)
          (used-new (whole seen state) given new)

    -- ---- a word with one hyphen in front

    module _ (flags : Text) (no_long : long_of word ≡ None) (is_short : short_of word ≡ Some flags)
        (not_pair : bytes_eq word (codes "--") ≡ false) where
      pub short-refused : (x : ℕ) → slice_get (chars flags) 0 ≡ Some x → 0 < length flags
          → turn_fault (shape name options) [] (walk_at seen state) word ≡ [] → ⊥
      short-refused x first some e =
          let parts = or_else-empty (flags_fault (built_rules options) false (length flags) flags 0
          (held_at seen state)) _
          (rw (no_subcommand (waiting_of state) word, not_pair, no_long, is_short) at e) in
          flags-refused options flags x first some (held_at seen state) parts.0

-- ---- a word with none

module _ (name : Text) (options : List OptionName) (seen : List Given) (word : Text)
    (no_long : long_of word ≡ None) (no_short : short_of word ≡ None)
    (not_pair : bytes_eq word (codes "--") ≡ false) where
  pub plain-refused : turn_fault (shape name options) [] (walk_at seen resting) word ≡ [] → ⊥
  plain-refused e = cc (rw (not_pair, no_long, no_short, arg_by_index-none options 1) at e)

  pub plain-refused_behind : (given : Given) → turn_fault (shape name options) []
      (walk_at seen (holding given)) word ≡ [] → ⊥
  plain-refused_behind given e = cc (rw (not_pair, no_long, no_short, arg_by_index-none options 1)
      at e)

  module _ (name_is : OptionName) (known : list_any (is_option name_is) options ≡ true) where
    pub value-passes : turn_fault (shape name options) [] (walk_at seen (naming name_is)) word ≡ []
    value-passes = rw (not_pair, no_long, no_short) refl

    pub value-walks : walked (built_rules options) [] (walk_at seen (naming name_is)) word
        ≡ walk_at seen (holding (name_is, word))
    unfolding walked
    value-walks = rw (
      not_pair,
      no_long,
      no_short,
      arg_by_id-known options name_is known,
      bytes_eq-same (option_text name_is),
    ) refl
