use Rattle.std.proofs.Common.{◌≡◌, ◌∙◌, map, string_bytes, sym}
use Rattle.clap.specs.Simple.{app_of}
use Rattle.command_words.specs.declared.words.WordsFault.TheVariants.{NotUnderstood}
use Rattle.command_words.proofs.ClapFacts.{taken-from_parse, refused-by_parse}
use Rattle.command_words.proofs.ParsedFacts.{lone-refused, memory≢not_understood, readable-words}
use Rattle.command_words.proofs.parsed.taken.Goals as goal

pub returns-then-not-are_readable-clause-refused : goal.returns-then-not-are_readable-clause-refused
returns-then-not-are_readable-clause-refused c is given gives =
    lone-refused c.args.words.now given c.if-not-are_readable.ensures.lone gives.spelled

pub returns-in-Ok-try_get_matches_from-clause-taken :
    goal.returns-in-Ok-try_get_matches_from-clause-taken
returns-in-Ok-try_get_matches_from-clause-taken c =
    let command = c.in-Ok in
    let parse = c.in-Ok-try_get_matches_from in
    let readable = readable-words c.args.words.now c.if-not-are_readable.ensures.readable in
    taken-from_parse c.args.action (map string_bytes c.args.words.now) (app_of command.command)
    command.ensures parse.matches readable parse.ensures.kinds parse.ensures.matches

pub returns-in-Err-clause-refused : goal.returns-in-Err-clause-refused
returns-in-Err-clause-refused c is given gives =
    let command = c.in-Ok in
    let same : c.fault_of.result ≡ NotUnderstood = cc is in
    refused-by_parse c.args.action (map string_bytes c.args.words.now) (app_of command.command)
    command.ensures c.in-Err.error c.in-Err.ensures.kinds
    (λ memory. memory≢not_understood (sym (c.fault_of.ensures.1 memory) ∙ same)) given gives
