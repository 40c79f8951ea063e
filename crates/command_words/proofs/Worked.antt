-- Words that are requests, with what they ask for, and words that are none. Each line has the words
-- with a space between each two.
use Rattle.std.proofs.Common.{◌≡◌, ℕ, List, [], ◌∷◌, ◌++◌, map, if◌then◌else◌, ◌==◌, Some, None}
use Rattle.std.proofs.Common.{codes, Option, sym, refl, ◌∙◌}
use Rattle.std.specs.{Fmt.digits, List.AllByRecursion}
use Rattle.nbfx_values.specs.declared.session.Encoding.{Encoding, TheVariants.Extensible}
use Rattle.nbfx_values.specs.declared.session.Encoding.TheVariants.{Known}
use Rattle.nbfx_values.specs.declared.session.Kind.TheVariants.{Plain, Session}
use Rattle.nbfx_values.specs.declared.session.Mode.{Mode}
use Rattle.nbfx_values.specs.declared.session.Mode.TheVariants.{Duplex, Simplex, Singleton}
use Rattle.nbfx_values.specs.Limits.{Limits, limits, usual_limits}
use Rattle.command_words.specs.declared.task.Detail.{Detail, TheVariants.Summary, TheVariants.Whole}
use Rattle.command_words.specs.{declared.task.Origin.Origin, Options.Text}
use Rattle.command_words.specs.declared.task.Origin.TheVariants.{Initiator, Receiver}
use Rattle.command_words.specs.{Requests.Asked, Requests.IsRequest, Tasks.Serving, Tasks.Task}
use Rattle.command_words.specs.Requests.{of_sessions, rehearsal, TwoLimits}
use Rattle.command_words.specs.Tasks.{build, call, generate, Opening, pool, relay, replay, report}
use Rattle.command_words.specs.Tasks.{serve}
use Rattle.command_words.proofs.RequestFacts.{request-complete, request-sound, request_in}

-- the words of a line, the first of which has begun
abbrev words_from : Text → Text → List Text
words_from word [] = word ∷ []
words_from word (byte ∷ rest) =
    if byte == 32 then word ∷ words_from [] rest else words_from (word ++ byte ∷ []) rest

abbrev words : Text → List Text
words line = words_from [] line

-- a line of words, and what they ask for
abbrev Row : Type 0
Row = Text × Asked

abbrev AreRequests : List Row → Type 0
AreRequests rows = AllByRecursion (λ (row : Row). IsRequest (words row.0) row.1) rows

abbrev AreRefused : List Text → Type 0
AreRefused lines = AllByRecursion (λ line. (asked : Asked) → ¬ IsRequest (words line) asked) lines

are-requests : (rows : List Row)
    → map (λ (row : Row). request_in (words row.0)) rows ≡ map (λ (row : Row). Some row.1) rows
    → AreRequests rows
are-requests [] same = tt
are-requests (row ∷ rows) same =
    (request-sound (words row.0) row.1 (cc same), are-requests rows (cc same))

some≢none : (asked : Asked) → Some asked ≡ None → ⊥
some≢none asked e = cc e

are-refused : (lines : List Text)
    → map (λ line. request_in (words line)) lines ≡ map (λ (line : Text). None) lines
    → AreRefused lines
are-refused [] same = tt
are-refused (line ∷ lines) same =
    let none : request_in (words line) ≡ None = cc same in (
      λ asked is. some≢none asked (sym (request-complete (words line) asked is) ∙ none),
      are-refused lines (cc same),
    )

-- ---- requests

abbrev asks : Text → TwoLimits → Task → Asked
asks statics limits task =
    of_sessions (record { statics = statics; limits = limits; task = task })

-- one set of limits for both directions
abbrev twice : Limits → TwoLimits
twice limits = record { forward = limits; back = limits }

abbrev usual_two : TwoLimits
usual_two = twice usual_limits

-- with the static strings of the file S
abbrev within : Limits → Detail → Origin → Asked
within limits detail origin = asks (codes "S") (twice limits) (report detail origin)

abbrev usual : Detail → Origin → Asked
usual = within usual_limits

-- options as one word or two, in any order
abbrev spelled : List Row
spelled =
    (codes "nettcp check --static S", usual Summary Initiator) ∷
    (codes " check --static=S", usual Summary Initiator) ∷
    (codes "nettcp dump --static=S", usual Whole Initiator) ∷
    (codes "x dump --static=a=b", asks (codes "a=b") usual_two (report Whole Initiator)) ∷
    (codes "x dump --static=-x", asks (codes "-x") usual_two (report Whole Initiator)) ∷
    (codes "x dump --static=--", asks (codes "--") usual_two (report Whole Initiator)) ∷ (
      codes "x check --session 1 --static S",
      within (limits 65536 32 2048 262144 2048 1) Summary Initiator,
    ) ∷ (
      codes "x check --content=9000 --depth 8 --static S --dictionary 1000 --payload=8192",
      within (limits 8192 8 1000 9000 2048 281474976710656) Summary Initiator,
    ) ∷
    []

are_spelled : AreRequests spelled
unfolding digits
are_spelled = are-requests spelled refl

-- quotas at their least and greatest, and the content that goes with a payload
abbrev numbers : List Row
numbers = (
  codes "x check --static S --payload 4096",
  within (limits 4096 32 2048 262144 2048 281474976710656) Summary Initiator,
) ∷ (
  codes "x check --static S --payload 65537",
  within (limits 65537 32 2048 262148 2048 281474976710656) Summary Initiator,
) ∷ (
  codes "x check --static S --payload 16777216",
  within (limits 16777216 32 2048 67108864 2048 281474976710656) Summary Initiator,
) ∷ (
  codes "x check --static S --depth 4",
  within (limits 65536 4 2048 262144 2048 281474976710656) Summary Initiator,
) ∷ (
  codes "x check --static S --depth 1024",
  within (limits 65536 1024 2048 262144 2048 281474976710656) Summary Initiator,
) ∷ (
  codes "x check --static S --dictionary 0",
  within (limits 65536 32 0 262144 2048 281474976710656) Summary Initiator,
) ∷ (
  codes "x check --static S --dictionary 65536",
  within (limits 65536 32 65536 262144 2048 281474976710656) Summary Initiator,
) ∷ (
  codes "x check --static S --payload 1048577 --dictionary 1048576",
  within (limits 1048577 32 1048576 4194308 2048 281474976710656) Summary Initiator,
) ∷ (
  codes "x check --static S --content 65536",
  within (limits 65536 32 2048 65536 2048 281474976710656) Summary Initiator,
) ∷ (
  codes "x check --static S --content 67108864",
  within (limits 65536 32 2048 67108864 2048 281474976710656) Summary Initiator,
) ∷
    (codes "x check --static S --session 281474976710656", usual Summary Initiator) ∷
    []

are_numbers : AreRequests numbers
unfolding digits
are_numbers = are-requests numbers refl

-- quotas of replies, which are those of the other direction where they aren't given
abbrev both_ways : Limits → Limits → Asked
both_ways forward back =
    asks (codes "S") (record { forward = forward; back = back }) (replay (record {
      endpoint = None;
      actions = None;
    }))

abbrev reply_numbers : List Row
reply_numbers = (
  codes "x replay --static S --reply-payload 4096",
  both_ways usual_limits (limits 4096 32 2048 262144 2048 281474976710656),
) ∷ (
  codes "x replay --static S --reply-payload=16777216 --payload=4096",
  both_ways (limits 4096 32 2048 262144 2048 281474976710656)
      (limits 16777216 32 2048 67108864 2048 281474976710656),
) ∷ (
  codes "x replay --static S --reply-depth 1024 --session 9",
  both_ways (limits 65536 32 2048 262144 2048 9) (limits 65536 1024 2048 262144 2048 9),
) ∷ (
  codes "x replay --reply-dictionary 0 --static S --depth 8",
  both_ways (limits 65536 8 2048 262144 2048 281474976710656)
      (limits 65536 8 0 262144 2048 281474976710656),
) ∷ (
  codes "x replay --static S --reply-content=65536 --payload 4096 --content 5000 --reply-payload 4097",
  both_ways (limits 4096 32 2048 5000 2048 281474976710656)
      (limits 4097 32 2048 65536 2048 281474976710656),
) ∷ (
  codes "x replay --static S --payload 131072",
  both_ways (limits 131072 32 2048 524288 2048 281474976710656)
      (limits 131072 32 2048 524288 2048 281474976710656),
) ∷ (
  codes "x replay --static S --content 70000 --reply-dictionary 1",
  both_ways (limits 65536 32 2048 70000 2048 281474976710656)
      (limits 65536 32 1 70000 2048 281474976710656),
) ∷
    []

are_reply_numbers : AreRequests reply_numbers
unfolding digits
are_reply_numbers = are-requests reply_numbers refl

-- whose stream it is
abbrev replies : List Row
replies =
    (codes "x check --static S --replies duplex", usual Summary (Receiver Duplex Session)) ∷
    (codes "x dump --static S --replies=simplex", usual Whole (Receiver Simplex Session)) ∷
    (codes "x dump --replies singleton --static S", usual Whole (Receiver Singleton Session)) ∷ (
      codes "x check --encoding 7 --replies duplex --static S",
      usual Summary (Receiver Duplex Plain),
    ) ∷ (
      codes "x check --static S --replies singleton --encoding=8",
      usual Summary (Receiver Singleton Session),
    ) ∷ (
      codes "x dump --static S --replies duplex --encoding msbin1",
      usual Whole (Receiver Duplex Plain),
    ) ∷ (
      codes "x check --encoding=msbinsession1 --static S --replies simplex",
      usual Summary (Receiver Simplex Session),
    ) ∷
    (codes "x check --static S --encoding 7", usual Summary Initiator) ∷
    (codes "x dump --static S --encoding 8", usual Whole Initiator) ∷
    []

are_replies : AreRequests replies
unfolding digits
are_replies = are-requests replies refl

-- the session that documents are written as
abbrev opening : Text → Mode → Encoding → Opening
opening via mode encoding = record { via = via; mode = mode; encoding = encoding }

abbrev written : Text → Mode → Encoding → Asked
written via mode encoding = asks (codes "S") usual_two (build (opening via mode encoding))

abbrev builds : List Row
builds = (
  codes "x build --static S --via net.tcp://h/e",
  written (codes "net.tcp://h/e") Duplex (Known Session),
) ∷
    (codes "x build --via=a=b --mode simplex --static=S", written (codes "a=b") Simplex (Known Session)) ∷ (
      codes "x build --encoding 7 --static S --mode=singleton --via V",
      written (codes "V") Singleton (Known Plain),
    ) ∷ (
      codes "x build --encoding=8 --via=- --mode=duplex --static S",
      written (codes "-") Duplex (Known Session),
    ) ∷ (
      codes "x build --static S --via V --encoding msbin1",
      written (codes "V") Duplex (Extensible Plain),
    ) ∷ (
      codes "x build --encoding=msbinsession1 --via V --static S --mode singleton",
      written (codes "V") Singleton (Extensible Session),
    ) ∷
    []

are_builds : AreRequests builds
unfolding digits
are_builds = are-requests builds refl

-- what sessions are served with
abbrev serving : Option Text → Option Text → Serving
serving endpoint actions = record { endpoint = endpoint; actions = actions }

abbrev replayed : Option Text → Option Text → Asked
replayed endpoint actions = asks (codes "S") usual_two (replay (serving endpoint actions))

abbrev replays : List Row
replays =
    (codes "x replay --static S", replayed None None) ∷ (
      codes "x replay --endpoint net.tcp://h/e --static=S",
      replayed (Some (codes "net.tcp://h/e")) None,
    ) ∷
    (codes "x replay --static S --actions A", replayed None (Some (codes "A"))) ∷ (
      codes "x replay --actions=A --static S --endpoint=V",
      replayed (Some (codes "V")) (Some (codes "A")),
    ) ∷
    []

are_replays : AreRequests replays
unfolding digits
are_replays = are-requests replays refl

-- how many connections are answered, at the place P
abbrev served : ℕ → Option Text → Option Text → Asked
served connections endpoint actions =
    asks (codes "S") usual_two (serve (codes "P") connections (serving endpoint actions))

abbrev serves : List Row
serves =
    (codes "x serve --static S --listen P", served 1000000 None None) ∷
    (codes "x serve --connections 1 --listen=P --static=S", served 1 None None) ∷
    (codes "x serve --static S --listen P --connections=1000000", served 1000000 None None) ∷ (
      codes "x serve --static S --listen P --endpoint V --actions A --connections 20",
      served 20 (Some (codes "V")) (Some (codes "A")),
    ) ∷
    []

are_serves : AreRequests serves
unfolding digits
are_serves = are-requests serves refl

-- a server that is called at the place P
abbrev called : Text → Mode → Encoding → Option Text → Asked
called via mode encoding second =
    asks (codes "S") usual_two (call (codes "P") (opening via mode encoding) second)

abbrev calls : List Row
calls =
    (codes "x call --static S --connect P --via V", called (codes "V") Duplex (Known Session) None) ∷ (
      codes "x call --via=V --second=B --connect=P --static=S",
      called (codes "V") Duplex (Known Session) (Some (codes "B")),
    ) ∷ (
      codes "x call --static S --connect P --via V --mode singleton --encoding 7",
      called (codes "V") Singleton (Known Plain) None,
    ) ∷ (
      codes "x call --mode=simplex --static S --second B --encoding=8 --connect P --via V",
      called (codes "V") Simplex (Known Session) (Some (codes "B")),
    ) ∷ (
      codes "x call --encoding msbinsession1 --static S --connect P --via V",
      called (codes "V") Duplex (Extensible Session) None,
    ) ∷
    []

are_calls : AreRequests calls
unfolding digits
are_calls = are-requests calls refl

-- sessions that are joined with those of the server at the place C
abbrev joined : Text → Option Text → ℕ → Option Text → Asked
joined via back_statics connections endpoint = asks (codes "S") usual_two (relay (record {
  listen = codes "P";
  connect = codes "C";
  via = via;
  back_statics = back_statics;
  connections = connections;
  endpoint = endpoint;
}))

abbrev joins : List Row
joins = (
  codes "x relay --static S --listen P --connect C --via V",
  joined (codes "V") None 1000000 None,
) ∷ (
  codes "x relay --via=V --back-static=T --connect=C --listen=P --static=S --connections=1",
  joined (codes "V") (Some (codes "T")) 1 None,
) ∷ (
  codes "x relay --static S --endpoint E --connections 1000000 --listen P --connect C --via V",
  joined (codes "V") None 1000000 (Some (codes "E")),
) ∷
    []

are_joins : AreRequests joins
unfolding digits
are_joins = are-requests joins refl

-- connections that are answered at once
abbrev pooled : ℕ → ℕ → Option Text → Option Text → Asked
pooled connections sessions endpoint actions = asks (codes "S") usual_two
    (pool (codes "P") connections sessions (serving endpoint actions))

abbrev pools : List Row
pools =
    (codes "x pool --static S --listen P", pooled 1024 1024 None None) ∷
    (codes "x pool --sessions=1 --static=S --connections 1 --listen=P", pooled 1 1 None None) ∷ (
      codes "x pool --static S --listen P --actions A --endpoint V --sessions 1024 --connections 64",
      pooled 64 1024 (Some (codes "V")) (Some (codes "A")),
    ) ∷
    []

are_pools : AreRequests pools
unfolding digits
are_pools = are-requests pools refl

-- documents that are made
abbrev made : ℕ → ℕ → Asked
made seed count = asks (codes "S") usual_two (generate seed count)

abbrev makes : List Row
makes =
    (codes "x gen --static S --seed 0 --count 0", made 0 0) ∷ (
      codes "x gen --count=1000000 --seed=18446744073709551615 --static=S",
      made 18446744073709551615 1000000,
    ) ∷
    (codes "x gen --seed 7 --static S --count 20", made 7 20) ∷
    []

are_makes : AreRequests makes
unfolding digits
are_makes = are-requests makes refl

-- the history of a sequence
abbrev played : Text → ℕ → Asked
played id window = rehearsal (record { id = id; window = window })

abbrev plays : List Row
plays =
    (codes "x rehearse --id u", played (codes "u") 32) ∷
    (codes "x rehearse --window 1 --id=--window", played (codes "--window") 1) ∷
    (codes "x rehearse --id=urn:a --window=1024", played (codes "urn:a") 1024) ∷
    (codes "x rehearse --id \t.", played (codes "\t.") 32) ∷
    []

are_plays : AreRequests plays
unfolding digits
are_plays = are-requests plays refl

-- ---- none

-- no command, or another word in its place
abbrev no_command : List Text
no_command =
    codes "nettcp" ∷
    codes "nettcp Check --static S" ∷
    codes "nettcp  --static S" ∷
    codes "nettcp --static S check" ∷
    codes "nettcp --help" ∷
    codes "nettcp help" ∷
    []

no_command_is : AreRefused no_command
no_command_is = are-refused no_command refl

no_words : (asked : Asked) → ¬ IsRequest [] asked
no_words asked is = some≢none asked (sym (request-complete [] asked is))

-- a word that is no option of the command, or an option without a value or with an empty one
abbrev not_spelled : List Text
not_spelled =
    codes "x check --static S more" ∷
    codes "x check --static S " ∷
    codes "x check --static S -" ∷
    codes "x check --static S --" ∷
    codes "x check -- --static=S" ∷
    codes "x check --static S -h" ∷
    codes "x check --static S --help" ∷
    codes "x check --static S --version" ∷
    codes "x check -s S" ∷
    codes "x check --stat S" ∷
    codes "x check --STATIC S" ∷
    codes "x check --static S --=" ∷
    codes "x check --static S --=4" ∷
    codes "x check --static" ∷
    codes "x check --static=" ∷
    codes "x check --static " ∷
    codes "x check --static -x" ∷
    codes "x check --static -" ∷
    codes "x check --static --" ∷
    codes "x check --static S --depth" ∷
    codes "x check --static S --depth=" ∷
    codes "x check --static S --replies=" ∷
    codes "x check --static S --encoding " ∷
    []

are_not_spelled : AreRefused not_spelled
unfolding digits
are_not_spelled = are-refused not_spelled refl

-- the file's name isn't there, or an option is given twice
abbrev missing_or_twice : List Text
missing_or_twice =
    codes "x check" ∷
    codes "x check --depth 8" ∷
    codes "x dump --replies duplex" ∷
    codes "x check --static S --static S" ∷
    codes "x check --static S --static=T" ∷
    codes "x check --static S --depth 8 --depth=8" ∷
    codes "x dump --replies duplex --static S --replies=duplex" ∷
    []

are_missing_or_twice : AreRefused missing_or_twice
unfolding digits
are_missing_or_twice = are-refused missing_or_twice refl

-- no number, or none that is good
abbrev no_good_number : List Text
no_good_number =
    codes "x check --static S --payload 4095" ∷
    codes "x check --static S --payload 16777217" ∷
    codes "x check --static S --depth 3" ∷
    codes "x check --static S --depth 1025" ∷
    codes "x check --static S --dictionary 65537" ∷
    codes "x check --static S --content 65535" ∷
    codes "x check --static S --payload 2097152 --dictionary 1048577" ∷
    codes "x check --static S --content 67108865" ∷
    codes "x check --static S --session 0" ∷
    codes "x check --static S --session 281474976710657" ∷
    codes "x check --static S --session 18446744073709551617" ∷
    codes "x check --static S --depth 4294967300" ∷
    codes "x check --static S --depth 04" ∷
    codes "x check --static S --depth +4" ∷
    codes "x check --static S --depth=-4" ∷
    codes "x check --static S --depth 4x" ∷
    codes "x check --static S --depth 0x8" ∷
    []

no_good_number_is : AreRefused no_good_number
unfolding digits
no_good_number_is = are-refused no_good_number refl

-- the quotas of replies aren't good, or the command has none
abbrev no_reply_number : List Text
no_reply_number =
    codes "x replay --static S --reply-payload 4095" ∷
    codes "x replay --static S --reply-payload 16777217" ∷
    codes "x replay --static S --reply-depth 1025" ∷
    codes "x replay --static S --dictionary 8192 --reply-payload 4096" ∷
    codes "x replay --static S --reply-content 65535" ∷
    codes "x replay --static S --content 70000 --payload 65537 --reply-content 65536" ∷
    codes "x check --static S --reply-payload=" ∷
    codes "x call --static S --connect P --via V --reply-dictionary 65537" ∷
    codes "x serve --static S --listen P --reply-session 1" ∷
    codes "x build --static S --via V --reply-payload 65536" ∷
    codes "x gen --static S --seed 0 --count 1 --reply-depth 8" ∷
    codes "x rehearse --id u --reply-content 65536" ∷
    []

no_reply_number_is : AreRefused no_reply_number
unfolding digits
no_reply_number_is = are-refused no_reply_number refl

-- no mode, or no encoding
abbrev no_mode_or_encoding : List Text
no_mode_or_encoding =
    codes "x check --static S --replies Duplex" ∷
    codes "x check --static S --replies 2" ∷
    codes "x check --static S --replies duplexx" ∷
    codes "x check --static S --replies duplex --encoding 9" ∷
    codes "x check --static S --replies duplex --encoding 07" ∷
    codes "x check --static S --encoding 9" ∷
    codes "x check --static S --encoding 78" ∷
    codes "x check --static S --encoding MSBIN1" ∷
    codes "x check --static S --encoding msbin1+gzip" ∷
    codes "x build --static S --via V --encoding application/soap+msbin1" ∷
    []

no_mode_or_encoding_is : AreRefused no_mode_or_encoding
unfolding digits
no_mode_or_encoding_is = are-refused no_mode_or_encoding refl

-- documents can't be written so
abbrev no_builds : List Text
no_builds =
    codes "x build --static S" ∷
    codes "x build --via V" ∷
    codes "x build --static S --via=" ∷
    codes "x build --static S --via -" ∷
    codes "x build --static S --via V --via=V" ∷
    codes "x build --static S --via V --mode full" ∷
    codes "x build --static S --via V --mode=" ∷
    codes "x build --static S --via V --encoding 3" ∷
    codes "x build --static S --via V --replies duplex" ∷
    codes "x check --static S --via V" ∷
    codes "x dump --static S --mode duplex" ∷
    []

no_builds_is : AreRefused no_builds
unfolding digits
no_builds_is = are-refused no_builds refl

-- a stream can't be answered so
abbrev no_replays : List Text
no_replays =
    codes "x replay" ∷
    codes "x replay --static S --endpoint" ∷
    codes "x replay --static S --endpoint=" ∷
    codes "x replay --static S --actions=" ∷
    codes "x replay --static S --actions -" ∷
    codes "x replay --static S --endpoint V --endpoint V" ∷
    codes "x replay --static S --via V" ∷
    codes "x replay --static S --encoding 8" ∷
    codes "x check --static S --endpoint V" ∷
    codes "x build --static S --via V --actions A" ∷
    []

no_replays_is : AreRefused no_replays
unfolding digits
no_replays_is = are-refused no_replays refl

-- connections can't be answered so
abbrev no_serves : List Text
no_serves =
    codes "x serve --static S" ∷
    codes "x serve --listen P" ∷
    codes "x serve --static S --listen=" ∷
    codes "x serve --static S --listen P --connections 0" ∷
    codes "x serve --static S --listen P --connections 1000001" ∷
    codes "x serve --static S --listen P --connections 4294967297" ∷
    codes "x serve --static S --listen P --connections 01" ∷
    codes "x serve --static S --listen P --connections all" ∷
    codes "x serve --static S --listen P --listen P" ∷
    codes "x serve --static S --listen P --via V" ∷
    codes "x replay --static S --listen P" ∷
    []

no_serves_is : AreRefused no_serves
unfolding digits
no_serves_is = are-refused no_serves refl

-- a server can't be called so
abbrev no_calls : List Text
no_calls =
    codes "x call --static S --via V" ∷
    codes "x call --static S --connect P" ∷
    codes "x call --connect P --via V" ∷
    codes "x call --static S --connect= --via V" ∷
    codes "x call --static S --connect P --via V --second=" ∷
    codes "x call --static S --connect P --via V --second -" ∷
    codes "x call --static S --connect P --via V --mode two" ∷
    codes "x call --static S --connect P --via V --encoding 4" ∷
    codes "x call --static S --connect P --via V --connect P" ∷
    codes "x call --static S --connect P --via V --endpoint V" ∷
    codes "x build --static S --via V --connect P" ∷
    []

no_calls_is : AreRefused no_calls
unfolding digits
no_calls_is = are-refused no_calls refl

-- sessions can't be joined so, and connections can't be answered at once so
abbrev no_joins_or_pools : List Text
no_joins_or_pools =
    codes "x relay --static S --listen P --connect C" ∷
    codes "x relay --static S --listen P --via V" ∷
    codes "x relay --static S --connect C --via V" ∷
    codes "x relay --listen P --connect C --via V" ∷
    codes "x relay --static S --listen P --connect C --via V --back-static=" ∷
    codes "x relay --static S --listen P --connect C --via V --connections 0" ∷
    codes "x relay --static S --listen P --connect C --via V --connections 1000001" ∷
    codes "x relay --static S --listen P --connect C --via V --actions A" ∷
    codes "x relay --static S --listen P --connect C --via V --mode duplex" ∷
    codes "x serve --static S --listen P --back-static T" ∷
    codes "x pool --static S" ∷
    codes "x pool --listen P" ∷
    codes "x pool --static S --listen P --connections 0" ∷
    codes "x pool --static S --listen P --connections 1025" ∷
    codes "x pool --static S --listen P --sessions 0" ∷
    codes "x pool --static S --listen P --sessions 1025" ∷
    codes "x pool --static S --listen P --via V" ∷
    codes "x serve --static S --listen P --sessions 2" ∷
    []

no_joins_or_pools_are : AreRefused no_joins_or_pools
unfolding digits
no_joins_or_pools_are = are-refused no_joins_or_pools refl

-- documents can't be made so
abbrev no_makes : List Text
no_makes =
    codes "x gen --static S --seed 0" ∷
    codes "x gen --static S --count 1" ∷
    codes "x gen --seed 0 --count 1" ∷
    codes "x gen --static S --seed 18446744073709551616 --count 1" ∷
    codes "x gen --static S --seed 0 --count 1000001" ∷
    codes "x gen --static S --seed 00 --count 1" ∷
    codes "x gen --static S --seed= --count 1" ∷
    codes "x gen --static S --seed -1 --count 1" ∷
    codes "x gen --static S --seed 0 --count 4294967296" ∷
    codes "x gen --static S --seed 0 --count one" ∷
    codes "x gen --static S --seed 0 --seed 0 --count 1" ∷
    codes "x gen --static S --seed 0 --count 1 --via V" ∷
    codes "x dump --static S --count 1" ∷
    []

no_makes_is : AreRefused no_makes
unfolding digits
no_makes_is = are-refused no_makes refl

-- a history can't be played so
abbrev no_plays : List Text
no_plays =
    codes "x rehearse" ∷
    codes "x rehearse --window 32" ∷
    codes "x rehearse --id" ∷
    codes "x rehearse --id=" ∷
    codes "x rehearse --id \t" ∷
    codes "x rehearse --id=\t\r\n" ∷
    codes "x rehearse --id u --window 0" ∷
    codes "x rehearse --id u --window 1025" ∷
    codes "x rehearse --id u --window 01" ∷
    codes "x rehearse --id u --window 4294967328" ∷
    codes "x rehearse --id u --window=" ∷
    codes "x rehearse --id u --id=u" ∷
    codes "x rehearse --id u --static S" ∷
    codes "x rehearse --id u --payload 65536" ∷
    codes "x gen --static S --seed 0 --count 0 --id u" ∷
    codes "x check --static S --window 32" ∷
    []

no_plays_is : AreRefused no_plays
unfolding digits
no_plays_is = are-refused no_plays refl
