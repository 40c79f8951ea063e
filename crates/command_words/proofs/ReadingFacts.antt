-- The options that clap takes are those that the words spell, none of them twice.
use Rattle.std.proofs.Common.{◌≡◌, Bool, true, false, ◌⊎◌, List, [], ◌∷◌, ◌++◌, map, Some, None}
use Rattle.std.proofs.Common.{codes, IsUtf8, fold, Option, bytes_eq, sym, refl, ap, ◌∙◌, subst, inl}
use Rattle.std.proofs.Common.{inr, append_assoc, append-nil}
use Rattle.std.proofs.lemmas.{Bool.false_from_ne_true, Slice.Eq.bytes_eq-Decides}
use Rattle.std.specs.List.{AllByRecursion, list_all, list_any}
use Rattle.clap.{proofs.WalkLemmas.both, specs.Lexer.long_of, specs.Lexer.short_of}
use Rattle.clap.specs.Faults.{settle_fault, turn_fault, walk_fault}
use Rattle.clap.specs.Walk.{Held, Row, settled_rows, Walk, walked}
use Rattle.command_words.specs.{declared.option_name.OptionName.OptionName, WordAnswers.IsReadable}
use Rattle.command_words.specs.Options.{begins_with_hyphen, BeginsApart, BeginsJoined, dashed, Text}
use Rattle.command_words.specs.Options.{Given, given_for, is_option, option_text, SpellOptions}
use Rattle.command_words.proofs.OptionFacts.{IsNew, IsNew-cons, IsNew-head, IsNew-nil, IsNew-tail}
use Rattle.command_words.proofs.RuleFacts.{arg_by_long-is, built_rules, row_for, shape}
use Rattle.command_words.proofs.StepFacts.{joined-passes, joined-tells, joined-walks, named-fault}
use Rattle.command_words.proofs.StepFacts.{named-walks, plain-refused, plain-refused_behind}
use Rattle.command_words.proofs.StepFacts.{short-refused, unknown-refused, value-passes}
use Rattle.command_words.proofs.{StepFacts.value-walks, WalkFacts.walk_at, WalkFacts.whole}
use Rattle.command_words.proofs.WalkFacts.{Fits, holding, naming, or_else-empty, resting, Rests}
use Rattle.command_words.proofs.WalkFacts.{rests-settle, settle-rests, settled_rows-whole, State}
use Rattle.command_words.proofs.WordFacts.{first_flag, IsLong, long, long_of-dashed, long_of-joined}
use Rattle.command_words.proofs.WordFacts.{look, plain, plain-looks, short}

-- each option that is given is known
abbrev pub are_known : List OptionName → List Given → Bool
are_known options given = list_all (λ one. list_any (is_option one.0) options) given

-- the words of the option that is open
abbrev pub open_words : State → List Text
open_words resting = []
open_words (holding given) = dashed given.0 ∷ given.1 ∷ []
open_words (naming name) = dashed name ∷ []

-- the words from a state on are options, which lead to these rows
pub record LeadToRows (options : List OptionName) (seen : List Given) (state : State)
    (words : List Text) (rows : List Row) : Type 0 where
  pub given : List Given
  pub spelled : SpellOptions (open_words state ++ words) given
  pub known : are_known options given ≡ true
  pub new : IsNew seen given
  pub leads : rows ≡ map row_for (seen ++ given)

-- what is held behind words
abbrev pub held_behind : List OptionName → Walk → List Text → Held
held_behind options walk words = (fold (walked (built_rules options) []) walk words).held

abbrev pub rows_behind : List OptionName → Walk → List Text → List Row
rows_behind options walk words = settled_rows (built_rules options)
    (held_behind options walk words).pending (held_behind options walk words).rows

abbrev pub Passes : Text → List OptionName → Walk → List Text → Type 0
Passes name options walk words = (walk_fault (shape name options) [] walk words ≡ [])
    × (settle_fault (built_rules options) false (held_behind options walk words) ≡ [])

-- words that pass are options
abbrev pub Sound : Text → List OptionName → List Text → Type 0
Sound name options words = (seen : List Given) (state : State) → Fits options state
    → AllByRecursion IsReadable words
    → Passes name options (walk_at seen state) words → LeadToRows options seen state words
    (rows_behind options (walk_at seen state) words)

-- what the words behind an open option are, with it
told-behind : (options : List OptionName) (seen : List Given) (state : State) (words : List Text)
    (rows : List Row) (given : List Given)
    → Fits options state → Rests seen state → SpellOptions words given → are_known options given
    ≡ true → IsNew (whole seen state) given
    → rows ≡ map row_for (whole seen state ++ given) → LeadToRows options seen state words rows
told-behind options seen resting words rows given fits rests spelled known new leads = record {
  given = given;
  spelled = spelled;
  known = known;
  new = new;
  leads = leads;
}
told-behind options seen (holding one) words rows given fits rests spelled known new leads =
    record {
      given = one ∷ given;
      spelled = (words, inl (refl, fits.1), spelled);
      known = rw (fits.0, known) refl;
      new = IsNew-cons seen one given rests new;
      leads = leads ∙ ap (map row_for) (append_assoc seen (one ∷ []) given);
    }
told-behind options seen (naming name) words rows given fits rests spelled known new leads = absurd
    rests

readable-not_pair : (word : Text) → IsReadable word → bytes_eq word (codes "--") ≡ false
readable-not_pair word readable = false_from_ne_true (bytes_eq word (codes "--"))
    (λ same. readable.not_two ((bytes_eq-Decides word (codes "--")).0 same))

module _ (name : Text) (options : List OptionName) where
  -- the state after a word
  go_on : (words : List Text) → Sound name options words → (walk : Walk) (seen : List Given)
      (state : State) → walk ≡ walk_at seen state → Fits options state
      → AllByRecursion IsReadable words → Passes name options walk words → LeadToRows options seen
      state words (rows_behind options walk words)
  go_on words sound walk seen state at fits readable =
      subst (λ (w : Walk). Passes name options w words → LeadToRows options seen state words
      (rows_behind options w words)) (sym at) (sound seen state fits readable)

  module _ (word : Text) (words : List Text) (sound : Sound name options words)
      (readable : AllByRecursion IsReadable words) (seen : List Given) (state : State)
      (fits : Fits options state)
      (turned : turn_fault (shape name options) [] (walk_at seen state) word ≡ [])
      (passes : Passes name options (walked (built_rules options) [] (walk_at seen state) word)
      words) where
    sound-named : (option : OptionName) → list_any (is_option option) options ≡ true → long_of word
        ≡ Some (option_text option, None) → word ≡ dashed option
        → LeadToRows options seen state (word ∷ words)
        (rows_behind options (walk_at seen state) (word ∷ words))
    sound-named option known is_long is =
        let rests = settle-rests options seen state fits
        (sym (named-fault name options seen state word option known is_long) ∙ turned) in
        let told = go_on words sound (walked (built_rules options) [] (walk_at seen state) word)
        (whole seen state) (naming option)
        (named-walks name options seen state word option known is_long fits rests) known readable
        passes in
        told-behind options seen state (word ∷ words) _ told.given fits rests
        (subst (λ w. SpellOptions (w ∷ words) told.given) (sym is) told.spelled) told.known told.new
        told.leads

    sound-joined : (option : OptionName) (value : Text) → list_any (is_option option) options ≡ true
        → long_of word ≡ Some (option_text option, Some value)
        → word ≡ dashed option ++ (codes "=" ++ value) → LeadToRows options seen state
        (word ∷ words) (rows_behind options (walk_at seen state) (word ∷ words))
    sound-joined option value known is_long is =
        let given : Given = (option, value) in
        let rests = joined-tells name options seen state word given known is_long fits turned in
        let told = go_on words sound (walked (built_rules options) [] (walk_at seen state) word)
        (whole seen state ++ given ∷ []) resting
        (joined-walks name options seen state word given known is_long fits rests.0 rests.1) tt
        readable passes in
        told-behind options seen state (word ∷ words) _ (given ∷ told.given) fits rests.0
        (words, inr (ap (λ w. w ∷ words) is), told.spelled)
        (rw (known, told.known) refl) (IsNew-cons (whole seen state) given told.given rests.1
        told.new)
        (told.leads ∙ ap (map row_for) (append_assoc (whole seen state) (given ∷ []) told.given))

    sound-long : (text : Text) (value : Option Text) → long_of word ≡ Some (text, value)
        → IsLong word text value
        → LeadToRows options seen state (word ∷ words)
        (rows_behind options (walk_at seen state) (word ∷ words))
    sound-long text None is_long is =
        elim (arg_by_long-is options text) [
          | inl unknown ↦ absurd (unknown-refused name options seen state word text None is_long
              unknown turned)
          | inr found ↦ sound-named found.0 found.2 (is_long ∙ ap (λ t. Some (t, None)) found.1)
              (is ∙ ap (λ t. codes "--" ++ t) found.1)
        ]
    sound-long text (Some value) is_long is =
        elim (arg_by_long-is options text) [
          | inl unknown ↦ absurd (unknown-refused name options seen state word text (Some value)
              is_long unknown turned)
          | inr found ↦ sound-joined found.0 value found.2
              (is_long ∙ ap (λ t. Some (t, Some value)) found.1)
              (is ∙ ap (λ t. codes "--" ++ (t ++ 61 ∷ value)) found.1)
        ]

  sound-plain : (word : Text) (words : List Text) → Sound name options words → IsReadable word
      → AllByRecursion IsReadable words → (seen : List Given) (state : State) → Fits options state
      → turn_fault (shape name options) [] (walk_at seen state) word ≡ [] → Passes name options
      (walked (built_rules options) [] (walk_at seen state) word) words
      → long_of word ≡ None → short_of word ≡ None → begins_with_hyphen word ≡ false
      → LeadToRows options seen state (word ∷ words)
      (rows_behind options (walk_at seen state) (word ∷ words))
  sound-plain word words sound read readable seen resting fits turned passes no_long no_short
      no_hyphen =
      absurd (plain-refused name options seen word no_long no_short (readable-not_pair word read)
      turned)
  sound-plain word words sound read readable seen (holding given) fits turned passes no_long
      no_short no_hyphen =
      absurd (plain-refused_behind name options seen word no_long no_short
      (readable-not_pair word read) given turned)
  sound-plain word words sound read readable seen (naming option) fits turned passes no_long
      no_short no_hyphen =
      let told = go_on words sound (walked (built_rules options) [] (walk_at seen (naming option))
      word) seen (holding (option, word))
      (value-walks name options seen word no_long no_short (readable-not_pair word read) option
      fits) (fits, no_hyphen) readable passes in
      record {
        given = told.given;
        spelled = told.spelled;
        known = told.known;
        new = told.new;
        leads = told.leads;
      }

  sound-word : (word : Text) (words : List Text) → Sound name options words → Sound name options
      (word ∷ words)
  unfolding walk_fault
  sound-word word words sound seen state fits readable passes =
      let parts = or_else-empty (turn_fault (shape name options) [] (walk_at seen state) word) _
      passes.0 in
      elim (look word readable.0) [
        | long text value is_long is ↦ sound-long word words sound readable.1 seen state fits
            parts.0 (parts.1, passes.1) text value is_long is
        | short flags no_long is_short is some ↦
            let first = first_flag flags (subst IsUtf8 is readable.0.utf8) some in
            absurd (short-refused name options seen state word flags no_long is_short
            (readable-not_pair word readable.0) first.0 first.1 some parts.0)
        | plain no_long no_short no_hyphen ↦ sound-plain word words sound readable.0 readable.1 seen
            state fits parts.0 (parts.1, passes.1) no_long no_short no_hyphen
      ]

  sound-end : Sound name options []
  sound-end seen resting fits readable passes = record {
    given = [];
    spelled = refl;
    known = refl;
    new = IsNew-nil seen;
    leads = ap (map row_for)
        (sym (append-nil seen));
  }
  sound-end seen (holding given) fits readable passes =
      let rests = settle-rests options seen (holding given) fits passes.1 in
      record {
        given = given ∷ [];
        spelled = ([], inl (refl, fits.1), refl);
        known = rw fits.0 refl;
        new = IsNew-cons seen given [] rests (IsNew-nil (seen ++ given ∷ []));
        leads = settled_rows-whole options seen (holding given) fits rests;
      }
  sound-end seen (naming option) fits readable passes = absurd
      (settle-rests options seen (naming option) fits passes.1)

  pub reading-sound : (words : List Text) → Sound name options words
  reading-sound [] = sound-end
  reading-sound (word ∷ words) = sound-word word words (reading-sound words)

  -- ---- words that spell options pass

  passes-cons : (walk after : Walk) (word : Text) (words : List Text)
      → turn_fault (shape name options) [] walk word ≡ [] → walked (built_rules options) [] walk
      word ≡ after
      → Passes name options after words → Passes name options walk (word ∷ words)
  unfolding walk_fault
  passes-cons walk after word words turned walks passes =
      let behind : Passes name options (walked (built_rules options) [] walk word) words = subst
      (λ (w : Walk). Passes name options w words) (sym walks) passes in
      (rw turned behind.0, behind.1)

  passes-nil : (seen : List Given) (state : State) → Fits options state → Rests seen state
      → Passes name options (walk_at seen state) []
  unfolding walk_fault
  passes-nil seen state fits rests = (refl, rests-settle options seen state fits rests)

  -- an option that is known and new, however it is spelled
  passes-given : (seen : List Given) (state : State) (words rest : List Text) (given : Given)
      → Fits options state → Rests seen state
      → list_any (is_option given.0) options ≡ true → given_for (whole seen state) given.0 ≡ None
      → BeginsApart words given rest ⊎ BeginsJoined words given rest
      → (begins_with_hyphen given.1 ≡ false → Passes name options
      (walk_at (whole seen state) (holding given)) rest)
      → Passes name options (walk_at (whole seen state ++ given ∷ []) resting) rest
      → Passes name options (walk_at seen state) words
  passes-given seen state words rest given fits rests known new (inl (is, no_hyphen)) behind_apart
      behind_joined =
      let looks = plain-looks given.1 no_hyphen in
      let is_long = long_of-dashed given.0 in
      let first = walk_at (whole seen state) (naming given.0) in
      let second = walk_at (whole seen state) (holding given) in
      subst (Passes name options (walk_at seen state)) (sym is)
      (passes-cons (walk_at seen state) first (dashed given.0) (given.1 ∷ rest)
      (named-fault name options seen state (dashed given.0) given.0 known is_long ∙ rests-settle
      options seen state fits rests)
      (named-walks name options seen state (dashed given.0) given.0 known is_long fits rests)
      (passes-cons first second given.1 rest
      (value-passes name options (whole seen state) given.1 looks.0 looks.1 looks.2 given.0 known)
      (value-walks name options (whole seen state) given.1 looks.0 looks.1 looks.2 given.0 known)
      (behind_apart no_hyphen)))
  passes-given seen state words rest given fits rests known new (inr is) behind_apart
      behind_joined =
      let word = dashed given.0 ++ (codes "=" ++ given.1) in
      let is_long = long_of-joined given.0 given.1 in
      subst (Passes name options (walk_at seen state)) (sym is)
      (passes-cons (walk_at seen state) (walk_at (whole seen state ++ given ∷ []) resting) word rest
      (joined-passes name options seen state word given known is_long fits rests new)
      (joined-walks name options seen state word given known is_long fits rests new) behind_joined)

  pub reading-complete : (given : List Given) (words : List Text) (seen : List Given)
      (state : State) → Fits options state → Rests seen state → SpellOptions words given
      → are_known options given ≡ true → IsNew (whole seen state) given → Passes name options
      (walk_at seen state) words
  reading-complete [] words seen state fits rests spelled known new =
      subst (Passes name options (walk_at seen state)) (sym spelled)
      (passes-nil seen state fits rests)
  reading-complete (one ∷ given) words seen state fits rests (rest, begins, spelled) known new =
      let parts = both _ _ known in
      let first = IsNew-head (whole seen state) one given new in
      let later = IsNew-tail (whole seen state) one given new in
      passes-given seen state words rest one fits rests parts.0 first begins
      (λ no_hyphen. reading-complete given rest (whole seen state) (holding one)
      (parts.0, no_hyphen) first spelled parts.1 later)
      (reading-complete given rest (whole seen state ++ one ∷ []) resting tt tt spelled parts.1
      later)
