use Rattle.std.proofs.Common.{[], ◌∷◌, ap, arith}
use Rattle.{std.proofs.lemmas.List.Sums.sum_by-append, nbfx_values.proofs.Heights.most_open-append}
use Rattle.nbfx_values.specs.Measures.{item_content, most_open}
use Rattle.nbfx_values.proofs.measures.Measures.with.Goals as goal

pub returns : goal.returns
returns c items e m =
    let item = c.args.item.now in
    let reached = ap (λ n. most_open n (item ∷ [])) e in
    let depth = most_open-append 0 items (item ∷ []) in
    let content = sum_by-append item_content items (item ∷ []) in
    record {
      depth = omega (arith, reached, depth, m.depth);
      content = omega (arith, content, m.content);
    }
