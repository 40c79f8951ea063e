use Rattle.std.proofs.Common.{sym, refl, ap, ◌∙◌, arith}
use Rattle.nbfx_values.specs.Measures.{capped, content_of}
use Rattle.{nbfx_records.specs.Meaning.items_of, nbfx_decoder.specs.Meant.items_in}
use Rattle.nbfx_decoder.proofs.UnitSteps.{behind_node, unrefused}
use Rattle.nbfx_decoder.proofs.units.UnitReader.add_quickly.Goals as goal

pub returns-in-Ok-push-clause-answers : goal.returns-in-Ok-push-clause-answers
returns-in-Ok-push-clause-answers c done x z from at =
    let small = c.args.self.now.quotas.good.content_most in
    let more = items_in c.in-Ok.meant in
    let pushed = c.in-Ok-push.ensures.pushed in
    let found = ap (λ t. items_of t c.args.node) (sym c.names.ensures) ∙ c.in-Ok.ensures.found in
    let document = c.push.new.document in
    record {
      unrefused = unrefused c.args.self.now x z from at c.args.node _ refl more found document
          pushed.0 (capped (content_of document)) refl pushed.1 (omega (arith, small));
      at = behind_node c.args.self.now x z from at c.args.node _ refl more found document pushed.0
          (capped (content_of document)) refl pushed.1 (omega (arith, small)) _ refl refl refl refl
          refl refl refl;
    }
