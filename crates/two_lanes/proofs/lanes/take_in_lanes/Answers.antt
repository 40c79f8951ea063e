use Rattle.std.proofs.Common.{ap, ◌∙◌, sym}
use Rattle.crossbeam_channel.specs.Claims.{view}
use Rattle.two_lanes.specs.Jobs.{known}
use Rattle.two_lanes.proofs.Joining.{lanes_taken}
use Rattle.two_lanes.proofs.lanes.take_in_lanes.Goals as goal

pub returns-clause-all : goal.returns-clause-all
returns-clause-all c =
    (lanes_taken c.args.a c.args.b (known (view c.args.theirs).got) c.take_in.ensures.0
    (sym (ap (λ v. known v.a) c.requires.sent) ∙ c.take_in.ensures.1)
    (sym (ap (λ v. known v.b) c.requires.sent) ∙ c.take_in.ensures.2) c.requires.ended).0

pub returns-clause-wanted : goal.returns-clause-wanted
returns-clause-wanted c =
    (lanes_taken c.args.a c.args.b (known (view c.args.theirs).got) c.take_in.ensures.0
    (sym (ap (λ v. known v.a) c.requires.sent) ∙ c.take_in.ensures.1)
    (sym (ap (λ v. known v.b) c.requires.sent) ∙ c.take_in.ensures.2) c.requires.ended).1
