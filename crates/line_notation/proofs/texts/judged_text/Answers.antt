use Rattle.std.proofs.Common.{◌≡◌, ap, sym, string_bytes}
use Rattle.std.proofs.lemmas.Str.{IsUtf8-string_bytes}
use Rattle.line_notation.proofs.TextsFacts.{judged-good, judged-bad}
use Rattle.line_notation.proofs.texts.judged_text.Goals as goal

pub returns-in-Ok : goal.returns-in-Ok
returns-in-Ok c =
    let same : string_bytes c.in-Ok.text ≡ c.args.bytes.items = ap (λ v. v.items) c.in-Ok.ensures.ok
    in
    rw (c.from.ensures, ← same)
    (sym (judged-good (string_bytes c.in-Ok.text) (IsUtf8-string_bytes c.in-Ok.text)))

pub returns : goal.returns
returns c = sym (judged-bad c.args.bytes.items (λ h. let e = c.in-Err.ensures.succeeds h in cc))
