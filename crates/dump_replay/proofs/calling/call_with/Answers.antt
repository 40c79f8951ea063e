use Rattle.std.proofs.Common.{◌++◌, ap, ◌∙◌, inl}
use Rattle.dump_replay.proofs.CallLeaves.{calls_out, calls_wire}
use Rattle.dump_replay.proofs.calling.call_with.Goals as goal

pub returns-clause-calls : goal.returns-clause-calls
returns-clause-calls g c =
    let e = c.in-Ok.ensures in
    let p = c.call_place-called in
    let same = e.2 ∙ ap (λ l. l ++ e.0) c.new.ensures in
    let m = rw same at p.ensures in
    inl (record {
      first = e.0;
      taken = e.1;
      called = p.result.0;
      order = m.order;
      all = m.all;
      calls = m.calls;
      status_is = c.status.ensures;
      says = (c.note_called.ensures.notes, c.note_called.ensures.none);
    })

pub returns-clause-wire_fault : goal.returns-clause-wire_fault
returns-clause-wire_fault g c =
    calls_wire _ _ _ _ _ _ _ _ _ _ _ _ _ _ (returns-clause-calls g c)

pub returns-clause-out : goal.returns-clause-out
returns-clause-out g c = calls_out _ _ _ _ _ _ _ _ _ _ _ _ _ _ (returns-clause-calls g c)
