use Rattle.std.proofs.Common.{◌∙◌, ap, refl}
use Rattle.two_lanes.specs.declared.jobs.LaneJob.TheVariants.{Last}
use Rattle.two_lanes.proofs.Taking.{over_a, over_b, over_back, over_still}
use Rattle.two_lanes.proofs.working.over_after.Goals as goal

pub returns-in-Last-A : goal.returns-in-Last-A
returns-in-Last-A c = λ jobs o.
    let lane = rw c.in-Last-A.is at c.in-Last-A.field-0-is in
    rw (c.in-Last-A.is ∙ ap Last lane) (over_a c.args.over _ jobs o refl refl refl)

pub returns-in-Last-B : goal.returns-in-Last-B
returns-in-Last-B c = λ jobs o.
    let lane = rw c.in-Last-B.is at c.in-Last-B.field-0-is in
    rw (c.in-Last-B.is ∙ ap Last lane) (over_b c.args.over _ jobs o refl refl refl)

pub returns-in-Back : goal.returns-in-Back
returns-in-Back c = λ jobs o. rw c.in-Back.is (over_back c.args.over _ jobs o refl refl refl)

pub returns-in-Send : goal.returns-in-Send
returns-in-Send c = λ jobs o. rw c.in-Send.is (over_still c.args.over jobs _ _ o)
