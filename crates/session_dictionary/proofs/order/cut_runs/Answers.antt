use Rattle.std.proofs.Common.{◌≡◌, ◌<◌, ◌≤◌, length, refl, ◌∙◌, arith, rules}
use Rattle.std.{proofs.lemmas.Fn.answers_by, specs.List.Sorted.IsPartitionedBy}
use Rattle.session_dictionary.proofs.CutFacts.{below, cut_here, cut_nowhere, cuts_kept, cuts_parted}
use Rattle.session_dictionary.proofs.CutFacts.{cuts_whole}
use Rattle.session_dictionary.proofs.order.cut_runs.Goals as goal

pub returns-then-kept-len-clause-cuts : goal.returns-then-kept-len-clause-cuts
returns-then-kept-len-clause-cuts c =
    let a = c.args in
    let cuts = a.cuts.now.items in
    let kept = c.partition_point-kept.result in
    let parted : IsPartitionedBy (below a.bound) c.deref.result.now =
    rw c.deref.ensures.value (cuts_parted a.bound cuts c.requires.order.rises) in
    let point =
    c.partition_point-kept.ensures.partitioned (below a.bound)
    (answers_by _ _ (λ f. f.0.now ≡ a.bound) (λ f x r g k same. search rules) _ refl) parted in
    let at = rw c.deref.ensures.value at point in
    c.truncate-then-kept-len.ensures.items
    ∙ cuts_kept a.texts.now a.positions.now.items cuts a.bound kept c.requires.there
    c.requires.order at

pub returns-then-kept-len-clause-positions : goal.returns-then-kept-len-clause-positions
returns-then-kept-len-clause-positions c =
    let a = c.args in
    let cuts = a.cuts.now.items in
    let kept = c.partition_point-kept.result in
    let parted : IsPartitionedBy (below a.bound) c.deref.result.now =
    rw c.deref.ensures.value (cuts_parted a.bound cuts c.requires.order.rises) in
    let point =
    c.partition_point-kept.ensures.partitioned (below a.bound)
    (answers_by _ _ (λ f. f.0.now ≡ a.bound) (λ f x r g k same. search rules) _ refl) parted in
    let at = rw c.deref.ensures.value at point in
    let there : kept < length cuts = omega (arith, c.if-kept-len.true, c.len.ensures) in
    rw (c.truncate-then-kept-len.ensures.items, c.truncate.ensures.items)
    (cut_here a.texts.now a.positions.now.items cuts a.bound kept c.requires.there
    c.requires.order at c.index.result.now there c.index.ensures)

pub returns-else-kept-len-clause-cuts : goal.returns-else-kept-len-clause-cuts
returns-else-kept-len-clause-cuts c =
    let a = c.args in
    let cuts = a.cuts.now.items in
    let kept = c.partition_point-kept.result in
    let parted : IsPartitionedBy (below a.bound) c.deref.result.now =
    rw c.deref.ensures.value (cuts_parted a.bound cuts c.requires.order.rises) in
    let point =
    c.partition_point-kept.ensures.partitioned (below a.bound)
    (answers_by _ _ (λ f. f.0.now ≡ a.bound) (λ f x r g k same. search rules) _ refl) parted in
    let at = rw c.deref.ensures.value at point in
    let past : length cuts ≤ kept = omega (arith, c.if-kept-len.false, c.len.ensures) in
    cuts_whole a.texts.now a.positions.now.items cuts a.bound kept c.requires.there
    c.requires.order at past

pub returns-else-kept-len-clause-positions : goal.returns-else-kept-len-clause-positions
returns-else-kept-len-clause-positions c =
    let a = c.args in
    let cuts = a.cuts.now.items in
    cut_nowhere a.texts.now a.positions.now.items cuts a.bound c.requires.order
