use Rattle.nbfx_records.{specs.Views.attribute_seen, proofs.PartsFacts.parts_unstopped}
use Rattle.nbfx_records.proofs.PartsFacts.{next_part, next_parts, next_shorter, parts_end}
use Rattle.nbfx_records.proofs.building.next_part.Goals as goal

pub returns-in-Ok-Part-default-clause-part : goal.returns-in-Ok-Part-default-clause-part
returns-in-Ok-Part-default-clause-part c =
    let read = rw c.in-Ok-Part-default.field-0-0-is at c.in-Ok-Part-default.ensures.tells in
    next_part c.args.parts.now c.requires (attribute_seen c.in-Ok-Part-default.part)
    c.in-Ok-Part-default.to read.told

pub returns-in-Ok-Part-default-clause-rest : goal.returns-in-Ok-Part-default-clause-rest
returns-in-Ok-Part-default-clause-rest c =
    let read = rw c.in-Ok-Part-default.field-0-0-is at c.in-Ok-Part-default.ensures.tells in
    next_parts c.args.parts.now c.requires (attribute_seen c.in-Ok-Part-default.part)
    c.in-Ok-Part-default.to read.told

pub returns-in-Ok-Part-default-clause-shorter : goal.returns-in-Ok-Part-default-clause-shorter
returns-in-Ok-Part-default-clause-shorter c =
    let read = rw c.in-Ok-Part-default.field-0-0-is at c.in-Ok-Part-default.ensures.tells in
    next_shorter c.args.parts.now c.requires (attribute_seen c.in-Ok-Part-default.part)
    c.in-Ok-Part-default.to read.told

pub returns-in-Ok-End-default-clause-none : goal.returns-in-Ok-End-default-clause-none
returns-in-Ok-End-default-clause-none c =
    let read = rw c.in-Ok-End-default.field-0-0-is at c.in-Ok-End-default.ensures.tells in
    parts_end c.args.parts.now c.requires tt c.in-Ok-End-default.field-0-1 read.told

pub returns-in-Err-clause-none : goal.returns-in-Err-clause-none
returns-in-Err-clause-none c = absurd (parts_unstopped c.args.parts.now c.requires c.in-Err.field-0
    c.in-Err.ensures.tells.told)
