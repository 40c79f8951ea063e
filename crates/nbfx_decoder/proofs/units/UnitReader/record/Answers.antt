use Rattle.{std.proofs.Common.subst, nbfx_decoder.proofs.Saying.reads_stopped}
use Rattle.nbfx_records.specs.{declared.nodes.NodePlace.NodePlace, Cursor.IsWhole}
use Rattle.nbfx_records.specs.{Shapes.shape_at, Views.record_seen}
use Rattle.nbfx_decoder.proofs.units.UnitReader.record.Goals as goal

pub pass_record-requires-clause-stands : goal.pass_record-requires-clause-stands
pass_record-requires-clause-stands c = record {
  bytes = c.args.bytes.now;
  are = λ i. (c.type_inv.bytes i).fits;
  few = c.requires.few;
  has = record {
    whole =
        subst
        (λ (p : NodePlace).
        IsWhole (shape_at p) c.args.bytes.now 0 (record_seen c.in-Ok.part) c.in-Ok.used)
        c.place.ensures c.in-Ok.ensures.tells.told;
  };
}

pub returns-in-Ok : goal.returns-in-Ok
returns-in-Ok c =
    c.pass_record.ensures c.args.bytes.now (record {
      whole =
          subst
          (λ (p : NodePlace).
          IsWhole (shape_at p) c.args.bytes.now 0 (record_seen c.in-Ok.part) c.in-Ok.used)
          c.place.ensures c.in-Ok.ensures.tells.told;
    })

pub returns-in-Err : goal.returns-in-Err
returns-in-Err c =
    rw c.stopped.ensures
    (reads_stopped c.args.self.now c.args.bytes.now c.requires.here c.place.result c.place.ensures
    c.in-Err.stop c.in-Err.ensures.tells.told)
