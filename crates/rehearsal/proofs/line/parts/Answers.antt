use Rattle.std.proofs.Common.{◌-◌, length, take, drop, Some, sym, ap, ◌∙◌}
use Rattle.rehearsal.proofs.Words.{behind-space, parts-none, parts-some}
use Rattle.rehearsal.proofs.line.parts.Goals as goal

pub returns-in-Some : goal.returns-in-Some
returns-in-Some c =
    let line = c.args.line.now in
    let k = c.in-Some.at in
    let back = c.split_at.result.1.now in
    ap (λ word. (word, Some (take (length back - 1) (drop 1 back)))) c.split_at.ensures.front
    ∙ ap (λ rest. (take k line, Some rest)) (behind-space k line back c.split_at.ensures.back)
    ∙ sym (parts-some line k c.in-Some.ensures.0 c.in-Some.ensures.1)

pub returns-in-None : goal.returns-in-None
returns-in-None c = sym (parts-none c.args.line.now c.in-None.ensures)
