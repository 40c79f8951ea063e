use Rattle.std.proofs.Common.{sym, subst, ap, ◌∙◌}
use Rattle.soap_envelope.specs.{Fitting.counted, Scopes.declared_on}
use Rattle.soap_envelope.proofs.ChildFacts.{array_left, IsLeft, start_left}
use Rattle.soap_envelope.proofs.fitting.left_by_child.Goals as goal
use Rattle.soap_envelope.proofs.fitting.left_by_child.Goals.{in-Start+in_ok-own-in-Start}
use Rattle.soap_envelope.proofs.fitting.left_by_child.Goals.{in-Array+in_ok-own-in-Array}

pub returns : goal.returns
returns c =
    let m = c.args.measure in
    let needs = counted c.args.needs.now in
    let more = c.args.more.now in
    let own = c.match-item.own in
    let left = c.args.left in
    let behind = c.in-Some.left in
    elim c.match-item.branch [
      | in-Start+in_ok-own-in-Start w ↦
          c.left_by_missing.ensures
          ∙ subst (IsLeft m left behind needs own more) (sym w.in-Start.is)
          (start_left m left behind needs own more _ _
          (w.own-is ∙ w.in_ok-own-in-Start.ensures)) c.in-Some.ensures
      | in-Array+in_ok-own-in-Array w ↦
          c.left_by_missing.ensures
          ∙ subst (IsLeft m left behind needs own more) (sym w.in-Array.is)
          (array_left m left behind needs own more _
          (w.own-is ∙ w.in_ok-own-in-Array.ensures ∙ ap declared_on w.as_slice.ensures))
          c.in-Some.ensures
    ]
