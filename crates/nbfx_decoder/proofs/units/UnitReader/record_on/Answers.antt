use Rattle.{std.proofs.Common.subst, nbfx_decoder.proofs.Saying.reads_stopped}
use Rattle.nbfx_records.specs.{declared.nodes.NodePlace.NodePlace, Cursor.IsWhole}
use Rattle.nbfx_records.specs.{Shapes.shape_at, Views.record_seen}
use Rattle.nbfx_decoder.proofs.units.UnitReader.record_on.Goals as goal

pub pass_record-requires-clause-stands : goal.pass_record-requires-clause-stands
pass_record-requires-clause-stands c = record {
  bytes = c.args.begun.now;
  are = c.parts.ensures.bytes;
  few = c.requires.few;
  has = record {
    whole = subst (λ (p : NodePlace). IsWhole (shape_at p) c.args.begun.now 0
        (record_seen c.in-Ok.part) c.in-Ok.used) c.place-place.ensures c.in-Ok.ensures.tells.told;
  };
}

pub returns-in-Ok-clause-reads : goal.returns-in-Ok-clause-reads
returns-in-Ok-clause-reads c =
    c.pass_record.ensures c.args.begun.now
    (record {
      whole = subst (λ (p : NodePlace). IsWhole (shape_at p) c.args.begun.now 0
          (record_seen c.in-Ok.part) c.in-Ok.used) c.place-place.ensures c.in-Ok.ensures.tells.told;
    })

pub returns-in-Err-clause-reads : goal.returns-in-Err-clause-reads
returns-in-Err-clause-reads c =
    rw c.stopped.ensures
    (reads_stopped c.args.self.now c.args.begun.now c.requires.here c.place-place.result
    c.place-place.ensures c.in-Err.stop c.in-Err.ensures.tells.told)
