use Rattle.nbfx_records.proofs.BegunFacts.{none_begun}
use Rattle.nbfx_records.proofs.begun.kind_at.Goals as goal

pub returns-clause-none : goal.returns-clause-none
returns-clause-none c = none_begun c.args.bytes.now c.in_ok-first.field-0.now
    c.in_ok-first.ensures.value c.record_kind.result c.record_kind.ensures
