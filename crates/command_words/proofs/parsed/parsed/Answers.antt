use Rattle.std.proofs.Common.{map, string_bytes}
use Rattle.command_words.proofs.ParsedFacts.{empty-refused, found-from_taken}
use Rattle.command_words.proofs.parsed.parsed.Goals as goal

pub returns-then-not-have_values-clause-refused : goal.returns-then-not-have_values-clause-refused
returns-then-not-have_values-clause-refused c is =
    let taken = c.in_ok-matches in
    empty-refused c.args.action (map string_bytes c.args.words.now) taken.matches
    taken.ensures.taken c.if-not-have_values.ensures.empty

pub returns-clause-found : goal.returns-clause-found
returns-clause-found c =
    let taken = c.in_ok-matches in
    found-from_taken c.args.action (map string_bytes c.args.words.now) taken.matches
    taken.ensures.taken c.if-not-have_values.ensures.full
