use Rattle.std.proofs.Common.{sym, subst}
use Rattle.{nbfx_values.specs.declared.content.Item.Item, nbfx_records.specs.Chosen.chosen_bytes}
use Rattle.nbfx_encoder.specs.Inside.{Answers, names_of, writing_of}
use Rattle.nbfx_encoder.{specs.Spelling.spell_item, proofs.Records.attribute_answers}
use Rattle.nbfx_encoder.proofs.speller.Speller.put_item.Goals as goal

pub returns-in-Attr-clause-spelled : goal.returns-in-Attr-clause-spelled
returns-in-Attr-clause-spelled c =
    let old = c.args.self.now in
    subst (λ (item : Item). Answers (spell_item (writing_of old) (names_of old) item) chosen_bytes
    c.put_attribute.result old c.put_attribute.new.self) (sym c.in-Attr.is)
    (attribute_answers (writing_of old) (names_of old) c.in-Attr.prefix c.in-Attr.local
    c.in-Attr.value c.put_attribute.result old c.put_attribute.new.self
    (rw (c.as_str-in-Attr.ensures.same, c.as_str-in-Attr-2.ensures.same) at
    c.put_attribute.ensures.spelled))
