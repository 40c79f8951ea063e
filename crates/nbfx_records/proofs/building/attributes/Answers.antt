use Rattle.std.proofs.Common.{◌∙◌, ap, sym}
use Rattle.nbfx_records.specs.Contents.{attribute_is_text, attribute_value, attributes_judged, led}
use Rattle.nbfx_records.specs.Views.{attribute_seen, parts_of}
use Rattle.nbfx_records.proofs.JudgedFacts.{exit, judged_more, unmade}
use Rattle.nbfx_records.proofs.building.attributes.Goals as goal

pub returns-in_err-attribute_before : goal.returns-in_err-attribute_before
returns-in_err-attribute_before c =
    exit c.from_residual.ensures.1
    (unmade attribute_is_text attribute_value (parts_of c.args.parts.now)
    (parts_of c.loop-part.rest.now) (attribute_seen c.in-Some.part) (parts_of c.in-Some.behind.now)
    c.loop-part.nodes
    c.loop-part.invariant.same c.in-Some.ensures.part c.in_err-attribute_before.field-0.0
    c.in_err-attribute_before.ensures)

pub loop-part-preserved : goal.loop-part-preserved
loop-part-preserved c =
    record {
      are = c.in-Some.ensures.rest;
      same = judged_more attribute_is_text attribute_value (parts_of c.args.parts.now)
          (parts_of c.loop-part.rest.now) (attribute_seen c.in-Some.part)
          (parts_of c.in-Some.behind.now) c.loop-part.nodes
          c.loop-part.invariant.same c.in-Some.ensures.part c.in_ok-attribute_before.field-0
          c.in_ok-attribute_before.ensures.made
          ∙ ap (λ nodes. led nodes (attributes_judged (parts_of c.in-Some.behind.now)))
          (sym c.in_ok-push.ensures.pushed);
    }
