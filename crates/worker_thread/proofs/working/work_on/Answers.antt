use Rattle.std.proofs.Common.{ap, sym, ◌∙◌}
use Rattle.crossbeam_channel.specs.Claims.{view}
use Rattle.worker_thread.proofs.Steps.{begun, one-more, the-last}
use Rattle.worker_thread.proofs.working.work_on.Goals as goal

pub loop-init : goal.loop-init
loop-init g c =
    let b = begun g.W.Worker.is_last (λ jobs. g.W.Worker.did c.args.worker jobs c.args.worker)
    (view c.args.pass) c.requires.seat.1 c.requires.begins in
    (c.requires.seat.0, b.0, b.1, b.2)

pub loop-preserved-else-is_last : goal.loop-preserved-else-is_last
loop-preserved-else-is_last g c =
    let b = one-more g.W.Worker.is_last (λ jobs. g.W.Worker.did c.args.worker jobs c.work.new.self)
    (view c.loop.pass) (view c.next_job.new.pass) c.in-Some-next_job.job c.loop.invariant.1
    c.loop.invariant.2 (sym c.if-is_last.ensures) c.in-Some-next_job.ensures.taken
    (c.work.ensures.did _ _ c.loop.invariant.2 (c.next_job.ensures.did _ _ c.loop.invariant.2
    c.loop.invariant.3)) in
    (c.next_job.ensures.seat, b.0, b.1, b.2)
