use Rattle.std.proofs.Common.{Err, refl, ap, arith}
use Rattle.nbfx_values.specs.Measures.{capped, content_of}
use Rattle.nbfx_decoder.{specs.Meant.items_in, proofs.Saying.never_too_much}
use Rattle.nbfx_decoder.proofs.UnitSteps.{behind_node, leads_somewhere, unrefused}
use Rattle.nbfx_decoder.proofs.units.UnitReader.add.Goals as goal

pub returns-in-Ok-clause-answers : goal.returns-in-Ok-clause-answers
returns-in-Ok-clause-answers c x z from n at means =
    let small = c.args.self.now.quotas.good.content_most in
    let more = items_in c.args.meant in
    let pushed = c.in-Ok.ensures.pushed in
    let document = c.push.new.document in
    record {
      unrefused = unrefused c.args.self.now x z from at n _ refl more means document pushed.0
          (capped (content_of document)) refl pushed.1 (omega (arith, small));
      at = behind_node c.args.self.now x z from at n _ refl more means document pushed.0
          (capped (content_of document)) refl pushed.1 (omega (arith, small)) _ refl refl refl refl
          refl refl refl;
    }

pub unreachable-requires : goal.unreachable-requires
unreachable-requires c =
    leads_somewhere _ c.args.self.now.quotas.depth c.args.self.now.document c.requires.follows.made
    (items_in c.args.meant) c.requires.follows.stands c.requires.follows.means c.requires.valid
    (c.in-Err-OutOfPlace.ensures.out_of_place (ap Err c.in-Err-OutOfPlace.field-0-is))

pub unreachable-requires-in-Err-TooMuchContent : goal.unreachable-requires-in-Err-TooMuchContent
unreachable-requires-in-Err-TooMuchContent c =
    never_too_much c.args.self.now c.requires.follows.made (items_in c.args.meant)
    c.requires.follows.fits c.requires.follows.means
    (c.in-Err-TooMuchContent.ensures.too_much (ap Err c.in-Err-TooMuchContent.field-0-is))
