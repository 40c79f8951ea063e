-- Worked lines, by computation.
use Rattle.std.proofs.Common.{◌≡◌, [], ◌∷◌, ◌++◌, codes, refl}
use Rattle.{std.specs.Fmt.digits, duplex_server.specs.declared.outcome.Outcome.Outcome}
use Rattle.nbfx_values.specs.declared.refusals.{Place.TheVariants.Frame, Reason.TheVariants.BadMode}
use Rattle.duplex_server.specs.Lines.{connection_line, lines_from}
use Rattle.stream_loop.specs.declared.outbound.Outbound.TheVariants as outbounds
use Rattle.duplex_server.specs.declared.outcome.Inbound.TheVariants as inbounds

answered : Outcome
answered = record {
  messages = 2;
  answers = 2;
  inbound = inbounds.Ended;
  outbound = outbounds.Done;
}

refused : Outcome
refused = record {
  messages = 0;
  answers = 0;
  inbound = inbounds.Offended (record { place = Frame 3; reason = BadMode });
  outbound = outbounds.WriteFault;
}

broken : Outcome
broken = record {
  messages = 10;
  answers = 9;
  inbound = inbounds.ReadFault;
  outbound = outbounds.Memory;
}

starved : Outcome
starved = record {
  messages = 0;
  answers = 0;
  inbound = inbounds.Memory;
  outbound = outbounds.Memory;
}

four_lines : lines_from 8 (answered ∷ refused ∷ broken ∷ starved ∷ [])
    ≡ codes "connection 8 messages 2 answers 2 in ended out done\n"
    ++ codes "connection 9 messages 0 answers 0 in offence-5 out write-fault\n"
    ++ codes "connection 10 messages 10 answers 9 in read-fault out memory\n"
    ++ codes "connection 11 messages 0 answers 0 in memory out memory\n"
unfolding connection_line lines_from digits answered refused broken starved
four_lines = refl
