-- Words that may be given to clap, and what it makes of them.
use Rattle.std.proofs.Common.{◌≡◌, ℕ, zero, suc, ◌+◌, ◌-◌, ◌<◌, ◌≤◌, false, ◌≢◌, List, [], ◌∷◌}
use Rattle.std.proofs.Common.{◌++◌, map, length, take, drop, slice_index_or, Some, string_bytes}
use Rattle.std.proofs.Common.{codes, All, Option, String, Any, sym, ap, ◌∙◌, subst, inl, inr, arith}
use Rattle.std.proofs.{Common.take_all, lemmas.Bool.cases_lt, lemmas.List.get_or_default}
use Rattle.std.specs.List.{AllByRecursion}
use Rattle.clap.specs.{declared.parser.matches.ArgMatches.ArgMatches, Lexer.long_of}
use Rattle.command_words.specs.{declared.action.Action.Action, Options.Text, WordAnswers.IsReadable}
use Rattle.command_words.specs.declared.words.WordsFault.TheVariants.{Memory, NotUnderstood}
use Rattle.command_words.specs.Commands.{options_of, word_of}
use Rattle.command_words.specs.Options.{begins_with_hyphen, dashed, Given, given_for, SpellOptions}
use Rattle.command_words.specs.Requests.{Asked, AskFor, GiveOptions, IsRequest, Values}
use Rattle.command_words.specs.WordAnswers.{found_values, HasFound, HasTaken, IsLoneHyphens}
use Rattle.command_words.proofs.OptionFacts.{among, full-from_values, full-no_empty}
use Rattle.command_words.proofs.{RequestFacts.word_of-injective, SpellFacts.spells-one}
use Rattle.command_words.proofs.WordFacts.{long_of-dashed, long_of-joined}

module _ {A : Type 0} where
  -- strings that may each be read
  pub readable-words : (words : List (String A)) → All (λ word. IsReadable (string_bytes word))
      words → AllByRecursion IsReadable (map string_bytes words)
  readable-words [] readable = tt
  readable-words (word ∷ words) readable = (
    readable 0 word (omega arith),
    readable-words words
        (λ k d lt. readable (suc k) d (omega arith)),
  )

  -- one string more
  pub readable-more : (words : List (String A)) (i : ℕ) (word : String A)
      → ((k : ℕ) (d : String A) → k < i → IsReadable (string_bytes (slice_index_or words k d)))
      → i < length words → word ≡ slice_index_or words i word → IsReadable (string_bytes word)
      → (k : ℕ) (d : String A) → k < i + 1 → IsReadable (string_bytes (slice_index_or words k d))
  readable-more words i word before lt at readable k d below =
      elim (cases_lt k i) [
        | inl under ↦ before k d under
        | inr over ↦
            let here : k ≡ i = omega arith in
            let is : slice_index_or words k d ≡ word = ap (λ n. slice_index_or words n d) here ∙
            get_or_default words i d word lt ∙ sym at in
            subst (λ w. IsReadable (string_bytes w)) (sym is) readable
      ]

  none-of : (words : List (String A)) (k : ℕ) (word : String A) → k < length words
      → slice_index_or words k word ≡ word → IsLoneHyphens (string_bytes word)
      → AllByRecursion (λ w. ¬ IsLoneHyphens w) (map string_bytes words) → ⊥
  none-of [] k word lt at lone none = absurd (omega arith)
  none-of (one ∷ words) zero word lt at lone none = none.0
      (subst (λ w. IsLoneHyphens (string_bytes w)) (sym at) lone)
  none-of (one ∷ words) (suc k) word lt at lone none = none-of words k word (omega arith) at lone
      none.1

-- a word with a name isn't hyphens alone
long-not_lone : (word : Text) (long : Text × Option Text) → long_of word ≡ Some long
    → ¬ IsLoneHyphens word
long-not_lone word long is (inl one) = cc (rw one at is)
long-not_lone word long is (inr two) = cc (rw two at is)

plain-not_lone : (word : Text) → begins_with_hyphen word ≡ false → ¬ IsLoneHyphens word
plain-not_lone word plain (inl one) = cc (rw one at plain)
plain-not_lone word plain (inr two) = cc (rw two at plain)

spelled-not_lone : (given : List Given) (words : List Text) → SpellOptions words given
    → AllByRecursion (λ w. ¬ IsLoneHyphens w) words
spelled-not_lone [] words none = subst (AllByRecursion (λ w. ¬ IsLoneHyphens w)) (sym none) tt
spelled-not_lone (one ∷ given) words (rest, inl (is, plain), spelled) =
    subst (AllByRecursion (λ w. ¬ IsLoneHyphens w)) (sym is) (
      long-not_lone (dashed one.0) _ (long_of-dashed one.0),
      (plain-not_lone one.1 plain, spelled-not_lone given rest spelled),
    )
spelled-not_lone (one ∷ given) words (rest, inr is, spelled) =
    subst (AllByRecursion (λ w. ¬ IsLoneHyphens w)) (sym is) (
      long-not_lone (dashed one.0 ++ (codes "=" ++ one.1)) _ (long_of-joined one.0 one.1),
      spelled-not_lone given rest spelled,
    )

-- words among which one is hyphens alone spell no options
pub lone-refused : {A : Type 0} (words : List (String A)) (given : List Given)
    → Any (λ word. IsLoneHyphens (string_bytes word)) words → SpellOptions (map string_bytes words)
    given → ⊥
lone-refused words given (k, word, lt, at, lone) spelled = none-of words k word lt at lone
    (spelled-not_lone given (map string_bytes words) spelled)

pub memory≢not_understood : Memory ≡ NotUnderstood → ⊥
memory≢not_understood e = cc e

-- ---- the command and its options

-- words with a program's name and a command
pub words-cut : {A : Type 0} (words : List (String A)) (command : String A) → 2 ≤ length words
    → command ≡ slice_index_or words 1 command
    → (program : Text) × (map string_bytes words ≡ program ∷ string_bytes command ∷ map string_bytes
    (take (length words - 2) (drop 2 words)))
words-cut [] command some at = absurd (omega arith)
words-cut (first ∷ []) command some at = absurd (omega arith)
words-cut (first ∷ second ∷ rest) command some at =
    let all : length (first ∷ second ∷ rest) - 2 ≡ length rest = omega arith in
    let whole : take (length (first ∷ second ∷ rest) - 2) rest ≡ rest = ap (λ n. take n rest) all ∙
    take_all (length rest) rest (omega arith) in (
      string_bytes first,
      (λ i. string_bytes first ∷ string_bytes (sym at i) ∷ map string_bytes
          (sym whole i)),
    )

-- options of which none has an empty value
pub found-from_taken : (action : Action) (words : List Text) (matches : ArgMatches)
    → HasTaken action words matches
    → All (λ option. found_values matches option ≢ Some []) (options_of action)
    → HasFound action words matches
found-from_taken action words matches taken some = record {
  given = taken.given;
  gives = record {
    spelled = taken.spelled;
    known = taken.known;
    once = taken.once;
    full = full-from_values (options_of action) taken.given taken.once taken.known
        (λ option known e.
        among (λ o. found_values matches o ≢ Some []) (options_of action) option some known
        (taken.values option ∙ e));
  };
  values = taken.values;
}

-- options of which one has an empty value
pub empty-refused : (action : Action) (words : List Text) (matches : ArgMatches)
    → HasTaken action words matches
    → Any (λ option. found_values matches option ≡ Some []) (options_of action)
    → (given : List Given) → ¬ GiveOptions action words given
empty-refused action words matches taken (k, option, lt, at, empty) given gives =
    let same = spells-one given taken.given words gives.spelled taken.spelled in
    full-no_empty given option gives.full
    (ap (λ g. given_for g option) same ∙ sym (taken.values option) ∙ empty)

-- the options that were found, as those of a request
values-same : (action : Action) (words : List Text) (matches : ArgMatches)
    (found : HasFound action words matches)
    → ◌≡◌ {A = Values} (given_for found.given) (found_values matches)
values-same action words matches found = λ i option. sym (found.values option) i

pub request-from_found : (words options : List Text) (program : Text) (action : Action)
    (matches : ArgMatches) (asked : Asked) → words ≡ program ∷ word_of action ∷ options
    → HasFound action options matches → AskFor action (found_values matches) asked
    → IsRequest words asked
request-from_found words options program action matches asked is found meant = record {
  program = program;
  action = action;
  options = options;
  given = found.given;
  command = is;
  gives = found.gives;
  meant = subst (λ value. AskFor action value asked)
      (sym (values-same action options matches found)) meant;
}

-- the words of a request give the options that were found
pub request-asks : (words options : List Text) (program : Text) (action : Action)
    (matches : ArgMatches) (asked : Asked) → words ≡ program ∷ word_of action ∷ options
    → HasFound action options matches → IsRequest words asked
    → AskFor action (found_values matches) asked
request-asks words options program action matches asked is found request =
    let same : program ∷ word_of action ∷ options
    ≡ request.program ∷ word_of request.action ∷ request.options = sym is ∙ request.command in
    let same_options : request.options ≡ options = cc same in
    let spelled = subst (λ ws. SpellOptions ws request.given) same_options request.gives.spelled in
    let given = spells-one request.given found.given options spelled found.gives.spelled in
    let values = ap given_for given ∙ values-same action options matches found in
    let same_action : request.action ≡ action =
    word_of-injective request.action action (cc same) in
    let meant = subst (λ a. AskFor a (given_for request.given) asked) same_action request.meant in
    subst (λ value. AskFor action value asked) values meant
