use Rattle.std.proofs.Common.{◌≡◌, Err, ap}
use Rattle.stream_reader.specs.declared.reader.ReadRefusal.TheVariants.{Offence as Refused}
use Rattle.stream_reader.proofs.EndTold.{ends_well, ends_refused}
use Rattle.initiator_machine.specs.InitiatorState.{reader_of}
use Rattle.initiator_machine.proofs.initiator.Initiator.end_of_input.Goals as goal

pub unreachable-requires : goal.unreachable-requires
unfolding reader_of
unreachable-requires c = c.requires
    (c.in-Err-Memory.ensures.wanted (ap Err c.in-Err-Memory.field-0-is))

pub returns-in-Ok : goal.returns-in-Ok
unfolding reader_of
returns-in-Ok c = record {
  answers = λ p stands. ends_well _ (c.in-Ok.ensures.answers p stands);
  repeated = λ o e. let told = c.in-Ok.ensures.repeated (Refused o) e in cc;
  unchanged = c.in-Ok.ensures.unchanged;
  failed = λ p stands. tt;
  refused = tt;
  kept = c.in-Ok.ensures.kept;
  settings = c.in-Ok.ensures.settings;
}

pub returns-in-Err-Offence : goal.returns-in-Err-Offence
unfolding reader_of
returns-in-Err-Offence c = record {
  answers = λ p stands. ends_refused _ c.in-Err-Offence.offence
      (rw c.in-Err-Offence.field-0-is at (c.in-Err-Offence.ensures.answers p stands));
  repeated = λ o e.
      let told = rw c.in-Err-Offence.field-0-is at (c.in-Err-Offence.ensures.repeated (Refused o) e)
      in let same : Refused c.in-Err-Offence.offence ≡ Refused o = cc
      in let is : c.in-Err-Offence.offence ≡ o = cc in ap Err is;
  unchanged = c.in-Err-Offence.ensures.unchanged;
  failed = λ p stands.
      rw c.in-Err-Offence.field-0-is at (c.in-Err-Offence.ensures.failed p stands);
  refused = rw c.in-Err-Offence.field-0-is at c.in-Err-Offence.ensures.refused;
  kept = tt;
  settings = c.in-Err-Offence.ensures.settings;
}
