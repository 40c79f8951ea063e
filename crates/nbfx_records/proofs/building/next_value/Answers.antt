use Rattle.nbfx_records.{specs.Views.scalar_seen, proofs.ListFacts.next_value}
use Rattle.nbfx_records.proofs.ListFacts.{list_ends, list_unstopped, next_list, next_shorter}
use Rattle.nbfx_records.proofs.building.next_value.Goals as goal

pub returns-in-Ok-Value-default-clause-value : goal.returns-in-Ok-Value-default-clause-value
returns-in-Ok-Value-default-clause-value c =
    let read = rw c.in-Ok-Value-default.field-0-0-is at c.in-Ok-Value-default.ensures in
    next_value c.args.list.now c.requires (scalar_seen c.in-Ok-Value-default.part)
    c.in-Ok-Value-default.to read.told

pub returns-in-Ok-Value-default-clause-rest : goal.returns-in-Ok-Value-default-clause-rest
returns-in-Ok-Value-default-clause-rest c =
    let read = rw c.in-Ok-Value-default.field-0-0-is at c.in-Ok-Value-default.ensures in
    next_list c.args.list.now c.requires (scalar_seen c.in-Ok-Value-default.part)
    c.in-Ok-Value-default.to read.told

pub returns-in-Ok-Value-default-clause-shorter : goal.returns-in-Ok-Value-default-clause-shorter
returns-in-Ok-Value-default-clause-shorter c =
    let read = rw c.in-Ok-Value-default.field-0-0-is at c.in-Ok-Value-default.ensures in
    next_shorter c.args.list.now c.requires (scalar_seen c.in-Ok-Value-default.part)
    c.in-Ok-Value-default.to read.told

pub returns-in-Ok-End-default-clause-none : goal.returns-in-Ok-End-default-clause-none
returns-in-Ok-End-default-clause-none c =
    let read = rw c.in-Ok-End-default.field-0-0-is at c.in-Ok-End-default.ensures in
    list_ends c.args.list.now c.requires c.in-Ok-End-default.field-0-0-0
    c.in-Ok-End-default.field-0-1 read.told

pub returns-in-Err-clause-none : goal.returns-in-Err-clause-none
returns-in-Err-clause-none c = absurd (list_unstopped c.args.list.now c.requires c.in-Err.field-0
    c.in-Err.ensures.told)
