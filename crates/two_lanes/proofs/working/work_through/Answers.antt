use Rattle.std.proofs.Common.{◌≡◌, ◌++◌, ◌∷◌, ◌+◌, suc, [], append-nil, append_assoc, subst, arith, sym}
use Rattle.two_lanes.specs.declared.jobs.LaneJob.TheVariants.{Send}
use Rattle.two_lanes.specs.Jobs.{first_jobs}
use Rattle.two_lanes.proofs.working.work_through.Goals as goal

pub loop-number-init : goal.loop-number-init
loop-number-init g c = (
  λ first jobs did. subst (λ l. g.W.LaneWorker.did first l c.args.worker.now)
      (sym (append-nil jobs)) did,
  omega arith,
)

pub loop-number-preserved : goal.loop-number-preserved
loop-number-preserved g c =
    let next : suc c.loop-number.number ≡ c.loop-number.number + 1 = omega arith in (
      λ first jobs did. subst
          (λ n. g.W.LaneWorker.did first (jobs ++ first_jobs c.args.lane n) c.work.new.self) next
          (subst (λ l. g.W.LaneWorker.did first l c.work.new.self)
          (append_assoc jobs (first_jobs c.args.lane c.loop-number.number)
          (Send c.args.lane c.loop-number.number ∷ []))
          (c.work.ensures.did first _ (c.loop-number.invariant.0 first jobs did))),
      omega (arith, c.loop-number-test.true),
    )

pub returns : goal.returns
returns g c = λ first jobs did.
    let same : c.loop-number.number ≡ c.args.count = omega
    (arith, c.loop-number.invariant.1, c.loop-number-test.false) in
    subst (λ n. g.W.LaneWorker.did first (jobs ++ first_jobs c.args.lane n) c.loop-number.worker)
    same (c.loop-number.invariant.0 first jobs did)
