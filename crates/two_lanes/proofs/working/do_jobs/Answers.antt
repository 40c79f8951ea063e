use Rattle.std.proofs.Common.{◌++◌, List, take, take_all, append-nil, append_assoc, sym}
use Rattle.std.proofs.Common.{ap, ◌∙◌, subst}
use Rattle.std.proofs.lemmas.List.{take_more}
use Rattle.two_lanes.specs.declared.jobs.LaneJob.{LaneJob}
use Rattle.two_lanes.specs.Numbers.{IsOver}
use Rattle.two_lanes.proofs.working.do_jobs.Goals as goal

pub loop-job-init : goal.loop-job-init
loop-job-init g c = (
  λ first done did. subst (λ l. g.W.LaneWorker.did first l c.args.worker.now)
      (sym (append-nil done)) did,
  λ done over. subst (IsOver c.args.before) (sym (append-nil done)) over,
)

pub loop-job-preserved : goal.loop-job-preserved
loop-job-preserved g c =
    let i = c.loop-job.job-index in
    let jobs : List LaneJob = c.args.jobs.now in
    let more = take_more jobs i _ c.loop-job-test.true in (
      λ first done did. subst (λ l. g.W.LaneWorker.did first l c.work.new.self)
          (append_assoc done (take i jobs) _ ∙ ap (λ l. done ++ l) (sym more))
          (c.work.ensures.did first _ (c.loop-job.invariant.0 first done did)),
      λ done over. subst (IsOver c.over_after-over.result)
          (append_assoc done (take i jobs) _ ∙ ap (λ l. done ++ l) (sym more))
          (c.over_after-over.ensures _ (c.loop-job.invariant.1 done over)),
    )

pub returns : goal.returns
returns g c =
    let all = take_all c.loop-job.job-index c.args.jobs.now c.loop-job-test.false in record {
      did = λ first done did. subst (λ l. g.W.LaneWorker.did first (done ++ l) c.loop-job.worker)
          all (c.loop-job.invariant.0 first done did);
      over = λ done over. subst (λ l. IsOver c.loop-job.over (done ++ l)) all
          (c.loop-job.invariant.1 done over);
    }
