use Rattle.std.proofs.Common.{ap, ◌∙◌, sym}
use Rattle.crossbeam_channel.specs.Claims.{view}
use Rattle.two_lanes.specs.Jobs.{known}
use Rattle.two_lanes.proofs.Joining.{back_alone}
use Rattle.two_lanes.proofs.lanes.take_in_back.Goals as goal

pub returns : goal.returns
returns c =
    back_alone (known (view c.args.theirs).got) c.take_in.ensures.0
    (sym (ap (λ v. known v.a) c.requires.sent) ∙ c.take_in.ensures.1)
    (sym (ap (λ v. known v.b) c.requires.sent) ∙ c.take_in.ensures.2) c.requires.ended
