use Rattle.std.proofs.Common.{[], ◌∷◌, ◌++◌, Some, sum_by, refl, ap, arith}
use Rattle.std.proofs.lemmas.List.Sums.{sum_by-append}
use Rattle.nbfx_values.specs.Measures.{capped, scalar_content}
use Rattle.nbfx_records.proofs.CellFacts.{all_done, step_left, step_wrong}
use Rattle.nbfx_records.specs.{Contents.cells_judged, Views.cells_seen}
use Rattle.nbfx_decoder.proofs.MeasureFacts.{leaves, unmeasured}
use Rattle.nbfx_decoder.proofs.meaning.Lookup.cells_size.Goals as goal

pub returns-in_err-value : goal.returns-in_err-value
returns-in_err-value c =
    let here = c.loop-place.invariant in
    leaves _ c.from_residual.ensures.1
    (unmeasured (cells_judged (cells_seen c.args.part.now))
    (λ values. Some (capped (sum_by scalar_content values))) _
    (step_wrong (cells_seen c.args.part.now) c.loop-place._place c.loop-place.rest.now here.0 here.1
    c.loop-place-test.true c.width-width.result c.text_kind_in-kind.result _ _
    c.width-width.ensures.is c.text_kind_in-kind.ensures c.split_at.ensures.front
    c.split_at.ensures.back c.in_err-value.field-0.0 c.in_err-value.ensures).made)

pub loop-place-preserved : goal.loop-place-preserved
loop-place-preserved c =
    let here = c.loop-place.invariant in
    let value = c.in_ok-value.value in
    let sum = sum_by-append scalar_content here.0 (value ∷ []) in
    let content = c.content.ensures in
    let more = c.saturating_add-content.ensures in (
      here.0 ++ value ∷ [],
      step_left (cells_seen c.args.part.now) c.loop-place._place c.loop-place.rest.now here.0 here.1
          c.loop-place-test.true c.width-width.result c.text_kind_in-kind.result _ _
          c.width-width.ensures.is c.text_kind_in-kind.ensures c.split_at.ensures.front
          c.split_at.ensures.back value (here.0 ++ value ∷ []) c.in_ok-value.ensures.made refl,
      omega (arith, sum, content, more, here.2),
    )

pub returns : goal.returns
returns c =
    let here = c.loop-place.invariant in
    record {
      told = (
        here.0,
        all_done (cells_seen c.args.part.now) c.loop-place._place
            c.loop-place.rest.now here.0 here.1 c.loop-place-test.false,
        ap (λ n. Some n) here.2,
      );
    }
