-- The request that words are, computed, and that they are one request at most.
use Rattle.std.proofs.Common.{◌≡◌, Bool, true, not, ◌&&◌, List, [], ◌∷◌, is_some, if◌then◌else◌}
use Rattle.std.proofs.Common.{Some, None, codes, Option, option_and_then, bytes_eq, sym, refl, ap}
use Rattle.std.proofs.Common.{◌∙◌, subst, inl, inr}
use Rattle.std.proofs.lemmas.{Bool.cases_Bool, Option.option_and_then_some}
use Rattle.std.{proofs.lemmas.Slice.Eq.bytes_eq-Decides, specs.List.list_all, specs.List.list_any}
use Rattle.{clap.proofs.WalkLemmas.both, command_words.proofs.OptionFacts.bytes_eq-same}
use Rattle.command_words.specs.{declared.action.Action.Action, Requests.Asked, Requests.IsRequest}
use Rattle.command_words.specs.declared.action.Action.TheVariants.{Build, Call, Check, Dump, Gen}
use Rattle.command_words.specs.declared.action.Action.TheVariants.{Pool, Rehearse, Relay, Replay, Serve}
use Rattle.command_words.specs.Commands.{options_of, word_of}
use Rattle.command_words.specs.Options.{Given, given_for, is_empty, is_option, IsOnce, Text}
use Rattle.command_words.proofs.AskingFacts.{asked-complete, asked-sound, asked_in}
use Rattle.command_words.proofs.SpellFacts.{given_in, given_in-complete, given_in-sound}

-- ---- commands

-- the command that has a word
abbrev named : Text → Action
named text =
    if bytes_eq text (codes "check") then Check
    else if bytes_eq text (codes "dump") then Dump
    else if bytes_eq text (codes "build") then Build
    else if bytes_eq text (codes "replay") then Replay
    else if bytes_eq text (codes "serve") then Serve
    else if bytes_eq text (codes "call") then Call
    else if bytes_eq text (codes "relay") then Relay
    else if bytes_eq text (codes "pool") then Pool
    else if bytes_eq text (codes "gen") then Gen else Rehearse

named-word_of : (action : Action) → named (word_of action) ≡ action
named-word_of Check = refl
named-word_of Dump = refl
named-word_of Build = refl
named-word_of Replay = refl
named-word_of Serve = refl
named-word_of Call = refl
named-word_of Relay = refl
named-word_of Pool = refl
named-word_of Gen = refl
named-word_of Rehearse = refl

pub word_of-injective : (one other : Action) → word_of one ≡ word_of other → one ≡ other
word_of-injective one other e =
    sym (named-word_of one) ∙ ap named e ∙ named-word_of other

abbrev action_in : Text → Option Action
action_in word = if bytes_eq word (word_of (named word)) then Some (named word) else None

action-sound : (word : Text) (action : Action) → action_in word ≡ Some action
    → word ≡ word_of action
action-sound word action e =
    elim (cases_Bool (bytes_eq word (word_of (named word)))) [
      | inl same ↦
          let is : named word ≡ action = cc (rw same at e) in
          (bytes_eq-Decides word (word_of (named word))).0 same ∙ ap word_of is
      | inr other ↦ cc (rw other at e)
    ]

action-complete : (action : Action) → action_in (word_of action) ≡ Some action
action-complete action =
    ap (λ a. if bytes_eq (word_of action) (word_of a) then Some a else None) (named-word_of action)
    ∙ rw (bytes_eq-same (word_of action)) refl

-- ---- options

abbrev is_once : List Given → Bool
is_once [] = true
is_once (given ∷ more) = not (is_some (given_for more given.0)) && is_once more

none-once : (value : Option Text) → not (is_some value) ≡ true → value ≡ None
none-once None e = refl
none-once (Some text) e = cc e

once-sound : (given : List Given) → is_once given ≡ true → IsOnce given
once-sound [] e = tt
once-sound (one ∷ given) e =
    let parts = both _ _ e in
    (none-once (given_for given one.0) parts.0, once-sound given parts.1)

once-complete : (given : List Given) → IsOnce given → is_once given ≡ true
once-complete [] once = refl
once-complete (one ∷ given) once = rw (once.0, once-complete given once.1) refl

abbrev are_given : Action → List Given → Bool
are_given action given = list_all (λ one. list_any (is_option one.0) (options_of action)) given
    && (is_once given && list_all (λ one. not (is_empty one.1)) given)

abbrev request_of : Action → List Given → Option Asked
request_of action given =
    if are_given action given then asked_in action (given_for given) else None

-- ---- requests

abbrev pub request_in : List Text → Option Asked
request_in [] = None
request_in (program ∷ []) = None
request_in (program ∷ word ∷ options) =
    option_and_then (λ action. option_and_then (request_of action) (given_in options None))
    (action_in word)

pub request-complete : (words : List Text) (asked : Asked) → IsRequest words asked
    → request_in words ≡ Some asked
request-complete words asked is =
    let gives = is.gives in
    let passes : are_given is.action is.given ≡ true =
    rw (gives.known, once-complete is.given gives.once, gives.full) refl in
    ap request_in is.command
    ∙ rw (action-complete is.action, given_in-complete is.given is.options gives.spelled, passes)
    (asked-complete is.action (given_for is.given) asked is.meant)

request_of-sound : (program : Text) (action : Action) (options : List Text) (given : List Given)
    (asked : Asked) → given_in options None ≡ Some given → request_of action given ≡ Some asked
    → IsRequest (program ∷ word_of action ∷ options) asked
request_of-sound program action options given asked spelled e =
    elim (cases_Bool (are_given action given)) [
      | inr fails ↦ cc (rw fails at e)
      | inl passes ↦
          let known = both _ _ passes in
          let once = both _ _ known.1 in
          record {
            program = program;
            action = action;
            options = options;
            given = given;
            command = refl;
            gives = record {
              spelled = given_in-sound options None given spelled;
              known = known.0;
              once = once-sound given once.0;
              full = once.1;
            };
            meant = asked-sound action (given_for given) asked (rw passes at e);
          }
    ]

pub request-sound : (words : List Text) (asked : Asked) → request_in words ≡ Some asked
    → IsRequest words asked
request-sound [] asked e = cc e
request-sound (program ∷ []) asked e = cc e
request-sound (program ∷ word ∷ options) asked e =
    option_and_then_some _ _ asked e (λ action is_action e.
    option_and_then_some _ _ asked e (λ given is_given e.
    subst (λ w. IsRequest (program ∷ w ∷ options) asked) (sym (action-sound word action is_action))
    (request_of-sound program action options given asked is_given e)))

pub request-one : (words : List Text) (one other : Asked) → IsRequest words one
    → IsRequest words other → one ≡ other
request-one words one other is is_other =
    let same : Some one ≡ Some other =
    sym (request-complete words one is) ∙ request-complete words other is_other in
    cc same
