use Rattle.std.proofs.Common.{◌+◌, ◌-◌, ◌≤◌, length, take, ap, ◌∙◌, arith}
use Rattle.{std.proofs.lemmas.List.drop-take, soap_envelope.specs.Body.behind_head}
use Rattle.soap_envelope.proofs.Suffixes.{content-from_end, content-shorter}
use Rattle.soap_envelope.proofs.taking.content_places.Goals as goal

pub overflow_sub-first : goal.overflow_sub-first
overflow_sub-first c =
    let items = c.args.items.now in
    let content = c.behind_head-content.result.now in
    content-shorter items content c.args.at
    (c.behind_head-content.ensures ∙ ap behind_head c.behind.ensures)

pub overflow_add-result : goal.overflow_add-result
overflow_add-result c =
    let items = c.args.items.now in
    let content = c.behind_head-content.result.now in
    let shorter =
    content-shorter items content c.args.at
    (c.behind_head-content.ensures ∙ ap behind_head c.behind.ensures) in
    omega (arith, shorter, c.content_len.ensures.within)

pub returns : goal.returns
returns c =
    let items = c.args.items.now in
    let content = c.behind_head-content.result.now in
    let is = c.behind_head-content.ensures ∙ ap behind_head c.behind.ensures in
    let first = content-from_end items content c.args.at is in
    let count = c.content_len.result in
    let start = length items - length content in
    let shorter = content-shorter items content c.args.at is in
    let fewer = c.content_len.ensures.within in
    let before : start ≤ start + count = omega arith in
    let inside : start + count ≤ length items = omega (arith, shorter, fewer) in
    record {
      within = (before, inside);
      first = first ∙ is;
      both = drop-take start count items
          ∙ ap (take count) first
          ∙ rw (← is) c.content_len.ensures.content;
    }
