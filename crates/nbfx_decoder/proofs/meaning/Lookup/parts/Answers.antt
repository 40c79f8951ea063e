use Rattle.std.proofs.Common.{List, [], ◌∷◌, ◌++◌, length, sym, subst}
use Rattle.std.proofs.lemmas.Iterator.{Adapters.YieldsList-from_vec, Consumers.YieldsList-turn}
use Rattle.nbfx_values.specs.{declared.content.AttrItem.AttrItem, Items.is_valid_attribute}
use Rattle.nbfx_records.specs.{Contents.each, Meaning.meant_part, Valid.is_valid_part}
use Rattle.nbfx_decoder.specs.Meant.{table_of}
use Rattle.nbfx_decoder.proofs.MeaningFacts.{AreFound, each_none, handed_on, one_more}
use Rattle.nbfx_decoder.proofs.meaning.Lookup.parts.Goals as goal

pub returns-in_err-part-clause-found : goal.returns-in_err-part-clause-found
returns-in_err-part-clause-found c =
    let f = meant_part (table_of c.args.self.now) in
    let turn = YieldsList-turn (YieldsList-from_vec c.args.raw (cc) (cc)) c.loop-part.yielded
    c.loop-part.part-iterator c.loop-part.yielded_by c.next.result c.next.new.self c.in-Some.part
    c.in-Some.is c.next.ensures.steps in
    handed_on (each f c.args.raw) (f c.in-Some.part) c.in_err-part.field-0.0 c.from_residual.result
    c.from_residual.ensures.1 c.in_err-part.ensures.found
    (each_none f c.args.raw (length c.loop-part.yielded) c.in-Some.part turn.0 turn.1)

pub loop-part-preserved : goal.loop-part-preserved
loop-part-preserved c =
    let f = meant_part (table_of c.args.self.now) in
    let more = one_more f is_valid_part is_valid_attribute c.loop-part.yielded c.loop-part.parts
    c.in-Some.part c.in_ok-part.field-0 c.loop-part.invariant c.in_ok-part.ensures.found
    c.in_ok-part.ensures.valid in
    subst (λ (ys : List AttrItem). AreFound f is_valid_part is_valid_attribute
    (c.loop-part.yielded ++ c.in-Some.part ∷ []) ys) (sym c.in_ok-push.ensures.pushed) more
