use Rattle.session_report.proofs.Streams.{ends_within}
use Rattle.stream_loop.proofs.LoopSteps.{first_pending}
use Rattle.stream_loop.specs.Edges.{Input, input_at}
use Rattle.stream_reader.specs.Stream.{ends, stream}
use Rattle.nbfx_encoder.specs.declared.sender.Side.TheVariants.{Initiator}
use Rattle.relay.specs.{Opening.relay_by, Relayed.front_of}
use Rattle.relay.proofs.Reading.{ends_unbegun, never_accepted}
use Rattle.relay.proofs.opening.begin_front.{Given.Over}
use Rattle.relay.proofs.opening.begin_front.Goals as goal

module _ (g : Over) where
  abbrev input_of : g.row.S.Denot → Input
  input_of source = input_at g.S.Source.left g.S.Source.taken g.S.Source.faults
      g.S.Source.empty_takes source

pub returns-in_default-clause-ended : goal.returns-in_default-clause-ended
returns-in_default-clause-ended g c =
    let y = front_of (relay_by c.args.settings) in
    ends_unbegun y (input_of g c.args.source.now) Initiator
    (first_pending (stream y) ends y.limits.session
    (ends_within y c.args.settings.quotas.now.forward.good))

pub begin-requires : goal.begin-requires
begin-requires g c =
    let i = input_of g c.args.source.now in
    (front_of (relay_by c.args.settings), i, c.in-Ok.ensures.comes i)

pub returns-in-Ok-Opened-clause-begun : goal.returns-in-Ok-Opened-clause-begun
returns-in-Ok-Opened-clause-begun g c =
    let i = input_of g c.args.source.now in
    rw c.in-Ok-Opened.field-0-is at (c.in-Ok-Opened.ensures.begun
    (front_of (relay_by c.args.settings)) i (c.in-Ok.ensures.comes i))

pub returns-clause-ended : goal.returns-clause-ended
returns-clause-ended g c =
    let i = input_of g c.args.source.now in
    c.in-Err.ensures.ended (front_of (relay_by c.args.settings)) i (c.in-Ok.ensures.comes i)

pub unreachable-requires : goal.unreachable-requires
unreachable-requires g c =
    let i = input_of g c.args.source.now in
    let b = rw c.in-Ok-Accepted.field-0-is at (c.in-Ok-Accepted.ensures.begun
    (front_of (relay_by c.args.settings)) i (c.in-Ok.ensures.comes i)) in
    never_accepted b.begins_so.event b.begins_so.begins_so
