use Rattle.std.proofs.Common.{ap, ◌∙◌}
use Rattle.crossbeam_channel.specs.Claims.{view}
use Rattle.two_lanes.specs.Jobs.{is_known, known}
use Rattle.two_lanes.proofs.Rule.{merges_working, totals}
use Rattle.two_lanes.proofs.Joining.{told_both}
use Rattle.two_lanes.proofs.lanes.take_in.Goals as goal

pub absorb-requires-clause-rule : goal.absorb-requires-clause-rule
absorb-requires-clause-rule c = merges_working _ _ _ _ (ap (λ v. is_known v.got) c.requires.got)

pub learn_as-requires-clause-rule : goal.learn_as-requires-clause-rule
learn_as-requires-clause-rule c =
    totals _ _ (ap (λ v. is_known v.a) c.absorb.ensures.rule
    ∙ ap (λ v. is_known v.a) c.requires.sent)
    (ap (λ v. is_known v.b) c.absorb.ensures.rule ∙ ap (λ v. is_known v.b) c.requires.sent)
    (ap (λ v. is_known v.got) c.absorb.ensures.rule ∙ ap (λ v. is_known v.got) c.requires.got)

pub returns : goal.returns
returns c =
    let both = told_both (view c.args.pass) (view c.args.theirs) (view c.absorb.new.pass)
    (known (view c.args.pass).a) (known (view c.args.pass).b) c.requires.sent c.requires.got
    c.absorb.ensures.rule c.learn_as.ensures.rule.0 c.learn_as.ensures.rule.1 in
    (c.learn_as.ensures.rule.0, both.0, both.1)
