-- Facts about options and the values that they are given.
use Rattle.std.proofs.Common.{◌≡◌, suc, true, false, not, ◌≢◌, ◌⊎◌, List, [], ◌∷◌, ◌++◌}
use Rattle.std.proofs.Common.{if◌then◌else◌, Some, None, codes, All, bytes_eq, sym, refl, ap, ◌∙◌}
use Rattle.std.proofs.Common.{subst, inl, inr, true≢false, arith}
use Rattle.std.proofs.lemmas.{Bool.cases_Bool, Slice.Eq.bytes_eq-Decides}
use Rattle.{std.specs.List.list_all, std.specs.List.list_any, clap.proofs.WalkLemmas.both}
use Rattle.command_words.specs.{declared.option_name.OptionName.OptionName, Options.Text}
use Rattle.command_words.specs.declared.option_name.OptionName.TheVariants.{Actions, Connect}
use Rattle.command_words.specs.declared.option_name.OptionName.TheVariants.{Connections, Content}
use Rattle.command_words.specs.declared.option_name.OptionName.TheVariants.{Count, Depth}
use Rattle.command_words.specs.declared.option_name.OptionName.TheVariants.{Dictionary, Encoding}
use Rattle.command_words.specs.declared.option_name.OptionName.TheVariants.{Endpoint, Id, Listen, Mode}
use Rattle.command_words.specs.declared.option_name.OptionName.TheVariants.{Payload, Replies}
use Rattle.command_words.specs.declared.option_name.OptionName.TheVariants.{BackStatic, Sessions}
use Rattle.command_words.specs.declared.option_name.OptionName.TheVariants.{ReplyContent, ReplyDepth}
use Rattle.command_words.specs.declared.option_name.OptionName.TheVariants.{ReplyDictionary, ReplyPayload}
use Rattle.command_words.specs.declared.option_name.OptionName.TheVariants.{Second, Seed, Session}
use Rattle.command_words.specs.declared.option_name.OptionName.TheVariants.{Static, Via, Window}
use Rattle.command_words.specs.Options.{Given, given_for, is_empty, is_option, IsOnce, option_text}

-- ---- options by their texts

-- the option that has a text
abbrev pub named : Text → OptionName
named text =
    if bytes_eq text (codes "static") then Static
    else if bytes_eq text (codes "replies") then Replies
    else if bytes_eq text (codes "via") then Via
    else if bytes_eq text (codes "mode") then Mode
    else if bytes_eq text (codes "encoding") then Encoding
    else if bytes_eq text (codes "listen") then Listen
    else if bytes_eq text (codes "connections") then Connections
    else if bytes_eq text (codes "connect") then Connect
    else if bytes_eq text (codes "second") then Second
    else if bytes_eq text (codes "back-static") then BackStatic
    else if bytes_eq text (codes "sessions") then Sessions
    else if bytes_eq text (codes "seed") then Seed
    else if bytes_eq text (codes "count") then Count
    else if bytes_eq text (codes "id") then Id
    else if bytes_eq text (codes "window") then Window
    else if bytes_eq text (codes "endpoint") then Endpoint
    else if bytes_eq text (codes "actions") then Actions
    else if bytes_eq text (codes "payload") then Payload
    else if bytes_eq text (codes "depth") then Depth
    else if bytes_eq text (codes "dictionary") then Dictionary
    else if bytes_eq text (codes "content") then Content
    else if bytes_eq text (codes "session") then Session
    else if bytes_eq text (codes "reply-payload") then ReplyPayload
    else if bytes_eq text (codes "reply-depth") then ReplyDepth
    else if bytes_eq text (codes "reply-dictionary") then ReplyDictionary
    else ReplyContent

pub named-option_text : (option : OptionName) → named (option_text option) ≡ option
named-option_text Static = refl
named-option_text Replies = refl
named-option_text Via = refl
named-option_text Mode = refl
named-option_text Encoding = refl
named-option_text Listen = refl
named-option_text Connections = refl
named-option_text Connect = refl
named-option_text Second = refl
named-option_text BackStatic = refl
named-option_text Sessions = refl
named-option_text Seed = refl
named-option_text Count = refl
named-option_text Id = refl
named-option_text Window = refl
named-option_text Endpoint = refl
named-option_text Actions = refl
named-option_text Payload = refl
named-option_text Depth = refl
named-option_text Dictionary = refl
named-option_text Content = refl
named-option_text Session = refl
named-option_text ReplyPayload = refl
named-option_text ReplyDepth = refl
named-option_text ReplyDictionary = refl
named-option_text ReplyContent = refl

pub option_text-injective : (one other : OptionName) → option_text one ≡ option_text other → one
    ≡ other
option_text-injective one other e = sym (named-option_text one) ∙ ap named e ∙ named-option_text
    other

pub bytes_eq-same : (text : Text) → bytes_eq text text ≡ true
bytes_eq-same text = (bytes_eq-Decides text text).1 refl

pub is_option-same : (option : OptionName) → is_option option option ≡ true
is_option-same option = bytes_eq-same (option_text option)

pub same-is_option : (one other : OptionName) → is_option one other ≡ true → one ≡ other
same-is_option one other e = option_text-injective one other
    ((bytes_eq-Decides (option_text one) (option_text other)).0 e)

pub is_option-flips : (one other : OptionName) → is_option one other ≡ false → is_option other one
    ≡ false
is_option-flips one other e = go (cases_Bool (is_option other one))
  where
    go : (is_option other one ≡ true) ⊎ (is_option other one ≡ false) → is_option other one ≡ false
    go (inr different) = different
    go (inl same) =
        let back : one ≡ other = sym (same-is_option other one same) in
        absurd (true≢false (sym (is_option-same one) ∙ ap (is_option one) back ∙ e))

-- ---- values that are given

-- the options of `given` come one after the other behind `seen`, each for the first time
pub IsNew : List Given → List Given → Type 0
IsNew seen [] = Unit {0}
IsNew seen (given ∷ more) = (given_for seen given.0 ≡ None) × IsNew (seen ++ given ∷ []) more

pub IsNew-head : (seen : List Given) (given : Given) (more : List Given) → IsNew seen (given ∷ more)
    → given_for seen given.0 ≡ None
unfolding IsNew
IsNew-head seen given more new = new.0

pub IsNew-tail : (seen : List Given) (given : Given) (more : List Given) → IsNew seen (given ∷ more)
    → IsNew (seen ++ given ∷ []) more
unfolding IsNew
IsNew-tail seen given more new = new.1

pub IsNew-cons : (seen : List Given) (given : Given) (more : List Given) → given_for seen given.0
    ≡ None → IsNew (seen ++ given ∷ []) more → IsNew seen (given ∷ more)
unfolding IsNew
IsNew-cons seen given more first rest = (first, rest)

pub IsNew-nil : (seen : List Given) → IsNew seen []
unfolding IsNew
IsNew-nil seen = tt

-- one more option leaves no value to another
given_for-push : (seen : List Given) (given : Given) (option : OptionName) → given_for seen option
    ≡ None → is_option given.0 option ≡ false
    → given_for (seen ++ given ∷ []) option ≡ None
given_for-push [] given option none other = rw other refl
given_for-push (one ∷ seen) given option none other =
    elim (cases_Bool (is_option one.0 option)) [
      | inl same ↦ cc (rw same at none)
      | inr different ↦ rw different (given_for-push seen given option (rw different at none) other)
    ]

given_for-front : (seen : List Given) (given : Given) (option : OptionName)
    → given_for (seen ++ given ∷ []) option ≡ None
    → (given_for seen option ≡ None) × (is_option given.0 option ≡ false)
given_for-front [] given option none =
    elim (cases_Bool (is_option given.0 option)) [
      | inl same ↦ cc (rw same at none)
      | inr different ↦ (refl, different)
    ]
given_for-front (one ∷ seen) given option none =
    elim (cases_Bool (is_option one.0 option)) [
      | inl same ↦ cc (rw same at none)
      | inr different ↦
          let rest = given_for-front seen given option (rw different at none) in
          (rw different rest.0, rest.1)
    ]

-- none of the options has a value in `seen`
AreAbsent : List Given → List Given → Type 0
AreAbsent seen [] = Unit {0}
AreAbsent seen (given ∷ more) = (given_for seen given.0 ≡ None) × AreAbsent seen more

absent-nil : (given : List Given) → AreAbsent [] given
unfolding AreAbsent
absent-nil [] = tt
absent-nil (one ∷ given) = (refl, absent-nil given)

absent-push : (seen : List Given) (one : Given) (given : List Given) → AreAbsent seen given
    → given_for given one.0 ≡ None → AreAbsent (seen ++ one ∷ []) given
unfolding AreAbsent
absent-push seen one [] absent none = tt
absent-push seen one (other ∷ given) absent none =
    elim (cases_Bool (is_option other.0 one.0)) [
      | inl same ↦ cc (rw same at none)
      | inr different ↦ (
        given_for-push seen one other.0 absent.0 (is_option-flips other.0 one.0 different),
        absent-push seen one given absent.1 (rw different at none),
      )
    ]

absent-front : (seen : List Given) (one : Given) (given : List Given) → AreAbsent (seen ++ one ∷ [])
    given → AreAbsent seen given × (given_for given one.0 ≡ None)
unfolding AreAbsent
absent-front seen one [] absent = (tt, refl)
absent-front seen one (other ∷ given) absent =
    let here = given_for-front seen one other.0 absent.0 in
    let rest = absent-front seen one given absent.1 in
    ((here.0, rest.0), rw (is_option-flips one.0 other.0 here.1) rest.1)

new-once : (seen given : List Given) → AreAbsent seen given → IsOnce given → IsNew seen given
unfolding AreAbsent IsNew
new-once seen [] absent once = tt
new-once seen (one ∷ given) absent once = (
  absent.0,
  new-once (seen ++ one ∷ []) given (absent-push seen one given absent.1 once.0)
      once.1,
)

once-new : (seen given : List Given) → IsNew seen given → AreAbsent seen given × IsOnce given
unfolding AreAbsent IsNew
once-new seen [] new = (tt, tt)
once-new seen (one ∷ given) new =
    let rest = once-new (seen ++ one ∷ []) given new.1 in
    let front = absent-front seen one given rest.0 in
    ((new.0, front.0), (front.1, rest.1))

-- options come each for the first time where none is given twice
pub new-from_once : (given : List Given) → IsOnce given → IsNew [] given
new-from_once given once = new-once [] given (absent-nil given) once

pub once-from_new : (given : List Given) → IsNew [] given → IsOnce given
once-from_new given new = (once-new [] given new).1

-- ---- values that are not empty

not_empty : (text : Text) → text ≢ [] → not (is_empty text) ≡ true
not_empty [] some = absurd (some refl)
not_empty (byte ∷ rest) some = refl

-- options whose values aren't empty
pub full-from_values : (options : List OptionName) (given : List Given) → IsOnce given
    → list_all (λ one. list_any (is_option one.0) options) given ≡ true
    → ((option : OptionName) → list_any (is_option option) options ≡ true
    → given_for given option ≢ Some [])
    → list_all (λ one. not (is_empty one.1)) given ≡ true
full-from_values options [] once known full = refl
full-from_values options (one ∷ given) once known full =
    let parts = both _ _ known in
    let first : not (is_empty one.1) ≡ true = not_empty one.1 (λ e.
    full one.0 parts.0 (rw (is_option-same one.0) (ap Some e))) in
    let rest = full-from_values options given once.1 parts.1 (λ option is_known e.
    elim (cases_Bool (is_option one.0 option)) [
      | inl same ↦
          let is : one.0 ≡ option = same-is_option one.0 option same in
          cc (sym once.0 ∙ ap (given_for given) is ∙ e)
      | inr other ↦ full option is_known (rw other e)
    ]) in
    rw (first, rest) refl

pub full-no_empty : (given : List Given) (option : OptionName)
    → list_all (λ one. not (is_empty one.1)) given ≡ true → given_for given option ≢ Some []
full-no_empty [] option full e = cc e
full-no_empty (one ∷ given) option full e =
    let parts = both (not (is_empty one.1)) _ full in
    elim (cases_Bool (is_option one.0 option)) [
      | inl same ↦
          let is : one.1 ≡ [] = cc (rw same at e) in
          cc (rw is at parts.0)
      | inr other ↦ full-no_empty given option parts.1 (rw other at e)
    ]

-- what holds of each of the options, of one of them
pub among : (P : OptionName → Type 0) (options : List OptionName) (option : OptionName)
    → All P options → list_any (is_option option) options ≡ true → P option
among P [] option all known = cc known
among P (one ∷ options) option all known =
    elim (cases_Bool (is_option option one)) [
      | inl same ↦ subst P (sym (same-is_option option one same)) (all 0 one (omega arith))
      | inr other ↦
          among P options option (λ k d lt. all (suc k) d (omega arith)) (rw other at known)
    ]
