use Rattle.std.proofs.Common.{◌∷◌, ◌-◌, ◌∙◌, ap, drop, length, map, string_bytes, sym, take}
use Rattle.command_words.specs.Asking.{asked_of}
use Rattle.command_words.proofs.ParsedFacts.{request-asks, request-from_found, words-cut}
use Rattle.command_words.proofs.words.read.Goals as goal

pub returns-in-Some-judged-clause-understood : goal.returns-in-Some-judged-clause-understood
returns-in-Some-judged-clause-understood c =
    let words = c.args.words.now in
    let options = map string_bytes (take (length words - 2) (drop 2 words)) in
    let cut = words-cut words c.command-item.result c.in-len2-up.len_at_least c.command-item.is in
    let begins = cut.1 ∙ ap (λ word. cut.0 ∷ word ∷ options)
    (sym c.as_str.ensures.value ∙ c.in-Some.ensures.named) in
    request-from_found (map string_bytes words) options cut.0 c.in-Some.action
    c.in_ok-matches.matches (asked_of c.in-Some-judged.request) begins
    c.in_ok-matches.ensures.found c.in-Some-judged.ensures.meant

pub returns-clause-refused : goal.returns-clause-refused
returns-clause-refused c is asked request =
    let words = c.args.words.now in
    let options = map string_bytes (take (length words - 2) (drop 2 words)) in
    let cut = words-cut words c.command-item.result c.in-len2-up.len_at_least c.command-item.is in
    let begins = cut.1 ∙ ap (λ word. cut.0 ∷ word ∷ options)
    (sym c.as_str.ensures.value ∙ c.in-Some.ensures.named) in
    c.in-None.ensures.none asked
    (request-asks (map string_bytes words) options cut.0 c.in-Some.action c.in_ok-matches.matches
    asked begins c.in_ok-matches.ensures.found request)
