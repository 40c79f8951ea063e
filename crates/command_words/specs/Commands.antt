-- The commands: the word of each, and its options.
use Rattle.std.specs.Prelude.{List, [], ◌∷◌, codes}
use Rattle.command_words.specs.declared.{action.Action.Action, option_name.OptionName.OptionName}
use Rattle.command_words.specs.declared.action.Action.TheVariants.{Build, Call, Check, Dump, Gen}
use Rattle.command_words.specs.declared.action.Action.TheVariants.{Pool, Rehearse, Relay, Replay, Serve}
use Rattle.command_words.specs.declared.option_name.OptionName.TheVariants.{Actions, Connect}
use Rattle.command_words.specs.declared.option_name.OptionName.TheVariants.{Connections, Content}
use Rattle.command_words.specs.declared.option_name.OptionName.TheVariants.{Count, Depth}
use Rattle.command_words.specs.declared.option_name.OptionName.TheVariants.{Dictionary, Encoding}
use Rattle.command_words.specs.declared.option_name.OptionName.TheVariants.{Endpoint, Id, Listen, Mode}
use Rattle.command_words.specs.declared.option_name.OptionName.TheVariants.{Payload, Replies}
use Rattle.command_words.specs.declared.option_name.OptionName.TheVariants.{BackStatic, Sessions}
use Rattle.command_words.specs.declared.option_name.OptionName.TheVariants.{ReplyContent, ReplyDepth}
use Rattle.command_words.specs.declared.option_name.OptionName.TheVariants.{ReplyDictionary, ReplyPayload}
use Rattle.command_words.specs.declared.option_name.OptionName.TheVariants.{Second, Seed, Session}
use Rattle.command_words.specs.declared.option_name.OptionName.TheVariants.{Static, Via, Window}
use Rattle.command_words.specs.Options.{Text}

abbrev pub word_of : Action → Text
word_of Check = codes "check"
word_of Dump = codes "dump"
word_of Build = codes "build"
word_of Replay = codes "replay"
word_of Serve = codes "serve"
word_of Call = codes "call"
word_of Relay = codes "relay"
word_of Pool = codes "pool"
word_of Gen = codes "gen"
word_of Rehearse = codes "rehearse"

-- the options of every command on sessions
abbrev pub common_options : List OptionName
common_options = Static ∷ Payload ∷ Depth ∷ Dictionary ∷ Content ∷ Session ∷ []

-- and those of a command on what both ends of a session send
abbrev pub two_way_options : List OptionName
two_way_options = ReplyPayload ∷ ReplyDepth ∷ ReplyDictionary ∷ ReplyContent ∷ common_options

abbrev pub options_of : Action → List OptionName
options_of Check = Replies ∷ Encoding ∷ two_way_options
options_of Dump = Replies ∷ Encoding ∷ two_way_options
options_of Build = Via ∷ Mode ∷ Encoding ∷ common_options
options_of Replay = Endpoint ∷ Actions ∷ two_way_options
options_of Serve = Listen ∷ Connections ∷ Endpoint ∷ Actions ∷ two_way_options
options_of Call = Connect ∷ Via ∷ Mode ∷ Encoding ∷ Second ∷ two_way_options
options_of Relay =
    Listen ∷ Connect ∷ Via ∷ BackStatic ∷ Connections ∷ Endpoint ∷ two_way_options
options_of Pool = Listen ∷ Connections ∷ Sessions ∷ Endpoint ∷ Actions ∷ two_way_options
options_of Gen = Seed ∷ Count ∷ common_options
options_of Rehearse = Id ∷ Window ∷ []
