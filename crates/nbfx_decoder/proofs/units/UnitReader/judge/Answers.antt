use Rattle.{std.proofs.Common.refl, nbfx_records.specs.Views.record_seen}
use Rattle.nbfx_decoder.specs.Meant.{table_of}
use Rattle.nbfx_decoder.proofs.Saying.{judged_room, judged_too_much, judged_unfit, judged_unnamed}
use Rattle.nbfx_decoder.proofs.units.UnitReader.judge.Goals as goal

pub returns-in-Err : goal.returns-in-Err
returns-in-Err c = rw c.unmade.ensures (judged_unfit c.args.self.now (table_of c.names.result)
    c.names.ensures (record_seen c.args.part.now) c.args.used c.in-Err.why c.in-Err.ensures.told)

pub returns-in_default : goal.returns-in_default
returns-in_default c = rw c.refused.ensures
    (judged_unnamed c.args.self.now (table_of c.names.result) c.names.ensures
    (record_seen c.args.part.now) c.args.used c.in-Ok.size c.in_default.is c.in-Ok.ensures.told)

pub returns-then-has_room : goal.returns-then-has_room
returns-then-has_room c =
    judged_room c.args.self.now (table_of c.names.result) c.names.ensures
    (record_seen c.args.part.now) c.args.used c.in-Ok.size c.in-Some.size c.in-Some.is
    c.in-Ok.ensures.told (c.if-has_room.ensures.room refl)

pub returns-else-has_room : goal.returns-else-has_room
returns-else-has_room c =
    rw c.refused-else-has_room.ensures
    (judged_too_much c.args.self.now (table_of c.names.result) c.names.ensures
    (record_seen c.args.part.now) c.args.used c.in-Ok.size c.in-Some.size c.in-Some.is
    c.in-Ok.ensures.told (c.if-has_room.ensures.no_room refl))
