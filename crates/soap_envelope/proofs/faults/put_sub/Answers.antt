use Rattle.soap_envelope.proofs.faults.put_sub.Goals as goal

pub returns-in-HeaderRequired : goal.returns-in-HeaderRequired
returns-in-HeaderRequired c = rw c.in-HeaderRequired.is c.put_subcode.ensures

pub returns-in-OnlyAnonymous : goal.returns-in-OnlyAnonymous
returns-in-OnlyAnonymous c = rw c.in-OnlyAnonymous.is c.put_nested.ensures

pub returns-in-InvalidCardinality : goal.returns-in-InvalidCardinality
returns-in-InvalidCardinality c = rw c.in-InvalidCardinality.is
    c.put_nested-in-InvalidCardinality.ensures
