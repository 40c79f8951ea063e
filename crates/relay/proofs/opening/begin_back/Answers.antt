use Rattle.std.proofs.Common.{refl}
use Rattle.session_report.proofs.Streams.{ends_within}
use Rattle.stream_loop.proofs.LoopSteps.{first_pending}
use Rattle.stream_loop.specs.Edges.{Input, input_at}
use Rattle.stream_reader.specs.Stream.{ends, stream}
use Rattle.nbfx_encoder.specs.declared.sender.Side.TheVariants.{Receiver}
use Rattle.relay.specs.{Opening.relay_by, Relayed.back_by}
use Rattle.relay.proofs.{Accepting.ends_unaccepted, Reading.ends_unbegun}
use Rattle.relay.proofs.Reading.{never_opened}
use Rattle.relay.proofs.opening.begin_back.{Given.Over}
use Rattle.relay.proofs.opening.begin_back.Goals as goal

module _ (g : Over) where
  abbrev input_of : g.row.A.Denot → Input
  input_of source = input_at g.A.Source.left g.A.Source.taken g.A.Source.faults
      g.A.Source.empty_takes source

pub returns-in_default-clause-ended : goal.returns-in_default-clause-ended
returns-in_default-clause-ended g c =
    let y = back_by (relay_by c.args.settings) c.args.mode c.args.kind in
    ends_unbegun y (input_of g c.args.source.now) Receiver
    (first_pending (stream y) ends y.limits.session
    (ends_within y c.args.settings.quotas.now.back.good))

pub begin-requires : goal.begin-requires
begin-requires g c =
    let i = input_of g c.args.source.now in
    (back_by (relay_by c.args.settings) c.args.mode c.args.kind, i, c.in-Ok.ensures.comes i)

pub returns-in-Ok-Accepted-clause-begun : goal.returns-in-Ok-Accepted-clause-begun
returns-in-Ok-Accepted-clause-begun g c =
    let i = input_of g c.args.source.now in
    rw c.in-Ok-Accepted.field-0-is at (c.in-Ok-Accepted.ensures.begun
    (back_by (relay_by c.args.settings) c.args.mode c.args.kind) i (c.in-Ok.ensures.comes i))

pub returns-clause-ended : goal.returns-clause-ended
returns-clause-ended g c =
    let i = input_of g c.args.source.now in
    c.in-Err.ensures.ended (back_by (relay_by c.args.settings) c.args.mode c.args.kind) i
    (c.in-Ok.ensures.comes i)

pub returns-clause-refused : goal.returns-clause-refused
returns-clause-refused g c =
    let i = input_of g c.args.source.now in
    let y = back_by (relay_by c.args.settings) c.args.mode c.args.kind in
    ends_unaccepted y c.args.settings.quotas.now.back.good c.args.mode c.args.kind refl i
    (input_of g c.begin.new.source) c.in-Err.read
    (c.in-Err.ensures.ended y i (c.in-Ok.ensures.comes i)) c.in-Err.ensures.opened

pub unreachable-requires : goal.unreachable-requires
unreachable-requires g c =
    let i = input_of g c.args.source.now in
    let y = back_by (relay_by c.args.settings) c.args.mode c.args.kind in
    let b = rw c.in-Ok-Opened.field-0-is at (c.in-Ok-Opened.ensures.begun y i
    (c.in-Ok.ensures.comes i)) in
    never_opened b.begins_so.event _ _ b.begins_so.begins_so
