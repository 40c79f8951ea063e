-- The options, the values that they are given, and how they are spelled. A word is the list of its
-- bytes.
use Rattle.std.specs.Prelude.{◌≡◌, ℕ, Bool, true, false, not, ◌⊎◌, List, [], ◌∷◌, ◌++◌}
use Rattle.std.specs.Prelude.{if◌then◌else◌, IsTrue, ◌==◌, Some, None, codes, Option, bytes_eq, ⊤}
use Rattle.{std.specs.List.list_all, command_words.specs.declared.option_name.OptionName.OptionName}
use Rattle.command_words.specs.declared.option_name.OptionName.TheVariants.{Actions, Connect}
use Rattle.command_words.specs.declared.option_name.OptionName.TheVariants.{Connections, Content}
use Rattle.command_words.specs.declared.option_name.OptionName.TheVariants.{Count, Depth}
use Rattle.command_words.specs.declared.option_name.OptionName.TheVariants.{Dictionary, Encoding}
use Rattle.command_words.specs.declared.option_name.OptionName.TheVariants.{Endpoint, Id, Listen, Mode}
use Rattle.command_words.specs.declared.option_name.OptionName.TheVariants.{Payload, Replies}
use Rattle.command_words.specs.declared.option_name.OptionName.TheVariants.{BackStatic, Sessions}
use Rattle.command_words.specs.declared.option_name.OptionName.TheVariants.{ReplyContent, ReplyDepth}
use Rattle.command_words.specs.declared.option_name.OptionName.TheVariants.{ReplyDictionary, ReplyPayload}
use Rattle.command_words.specs.declared.option_name.OptionName.TheVariants.{Second, Seed, Session}
use Rattle.command_words.specs.declared.option_name.OptionName.TheVariants.{Static, Via, Window}

abbrev pub Text : Type 0
Text = List ℕ

-- what stands after the two hyphens of each option
abbrev pub option_text : OptionName → Text
option_text Static = codes "static"
option_text Replies = codes "replies"
option_text Via = codes "via"
option_text Mode = codes "mode"
option_text Encoding = codes "encoding"
option_text Listen = codes "listen"
option_text Connections = codes "connections"
option_text Connect = codes "connect"
option_text Second = codes "second"
option_text BackStatic = codes "back-static"
option_text Sessions = codes "sessions"
option_text Seed = codes "seed"
option_text Count = codes "count"
option_text Id = codes "id"
option_text Window = codes "window"
option_text Endpoint = codes "endpoint"
option_text Actions = codes "actions"
option_text Payload = codes "payload"
option_text Depth = codes "depth"
option_text Dictionary = codes "dictionary"
option_text Content = codes "content"
option_text Session = codes "session"
option_text ReplyPayload = codes "reply-payload"
option_text ReplyDepth = codes "reply-depth"
option_text ReplyDictionary = codes "reply-dictionary"
option_text ReplyContent = codes "reply-content"

abbrev pub is_option : OptionName → OptionName → Bool
is_option one other = bytes_eq (option_text one) (option_text other)

-- `--name`
abbrev pub dashed : OptionName → Text
dashed option = codes "--" ++ option_text option

-- ---- options that are given

-- an option, and the value that it is given
abbrev pub Given : Type 0
Given = OptionName × Text

-- the value that an option is given first
abbrev pub given_for : List Given → OptionName → Option Text
given_for [] option = None
given_for (given ∷ more) option =
    if is_option given.0 option then Some given.1 else given_for more option

-- no option is given twice
abbrev pub IsOnce : List Given → Type 0
IsOnce [] = ⊤
IsOnce (given ∷ more) = (given_for more given.0 ≡ None) × IsOnce more

abbrev pub is_empty : Text → Bool
is_empty [] = true
is_empty (byte ∷ rest) = false

-- no value is empty
abbrev pub HaveValues : List Given → Type 0
HaveValues given = IsTrue (list_all (λ one. not (is_empty one.1)) given)

-- ---- how they are spelled

abbrev pub begins_with_hyphen : Text → Bool
begins_with_hyphen [] = false
begins_with_hyphen (byte ∷ rest) = byte == 45

-- the words begin with an option as two words, `--name value`, whose second doesn't begin with a
-- hyphen
abbrev pub BeginsApart : List Text → Given → List Text → Type 0
BeginsApart words given rest =
    (words ≡ dashed given.0 ∷ given.1 ∷ rest) × (begins_with_hyphen given.1 ≡ false)

-- the words begin with an option as one word, `--name=value`
abbrev pub BeginsJoined : List Text → Given → List Text → Type 0
BeginsJoined words given rest = words ≡ (dashed given.0 ++ (codes "=" ++ given.1)) ∷ rest

-- the words are these options with their values, in this order
abbrev pub SpellOptions : List Text → List Given → Type 0
SpellOptions words [] = words ≡ []
SpellOptions words (given ∷ more) = (rest : List Text)
    × (BeginsApart words given rest ⊎ BeginsJoined words given rest) × SpellOptions rest more
