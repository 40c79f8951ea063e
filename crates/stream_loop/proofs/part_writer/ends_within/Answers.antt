use Rattle.std.proofs.Common.{get_or, take, sym, refl, ap, ◌∙◌, le-leb}
use Rattle.std.proofs.lemmas.{Bool.lt-leb, List.take_more}
use Rattle.{io_edges.specs.Faults.one_more, stream_loop.specs.Parts.ends_within}
use Rattle.stream_loop.proofs.Within.{within_in, within_out}
use Rattle.stream_loop.proofs.part_writer.ends_within.Goals.{else-end-put, then-end-put}
use Rattle.stream_loop.proofs.part_writer.ends_within.Goals as goal

pub loop-end-init : goal.loop-end-init
unfolding ends_within
loop-end-init c = refl

pub loop-end-preserved : goal.loop-end-preserved
loop-end-preserved c =
    let n = c.args.put in
    let before = c.args.before in
    let ends = c.args.ends.now in
    let i = c.loop-end.end-index in
    let end = get_or ends i 0 in
    let more = ap (λ l. ends_within n l before)
    (sym (take_more ends i 0 c.loop-end-test.true)) in
    elim c.if-end-put.branch [
      | then-end-put w ↦ w.count-is ∙ w.saturating_add-count.ensures
          ∙ ap one_more c.loop-end.invariant
          ∙ sym (within_in n (take i ends) end before (le-leb end n w.if-end-put.true)) ∙ more
      | else-end-put w ↦ w.count-is ∙ c.loop-end.invariant
          ∙ sym (within_out n (take i ends) end before (lt-leb end n w.if-end-put.false)) ∙ more
    ]
