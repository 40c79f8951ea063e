use Rattle.{nbfx_records.specs.Chosen.part_bytes, nbfx_encoder.specs.Placing.spell_part}
use Rattle.nbfx_encoder.proofs.InLists.{along_first, along_more}
use Rattle.nbfx_encoder.proofs.speller.Speller.put_parts.Goals as goal

pub loop-part-init : goal.loop-part-init
loop-part-init c = along_first spell_part part_bytes c.args.self.now c.args.parts.now
    c.requires.sound

pub loop-part-preserved : goal.loop-part-preserved
loop-part-preserved c =
    along_more spell_part part_bytes c.args.self.now c.loop-part.self c.put_part.new.self
    c.args.parts.now c.loop-part.part-index c.part-item.result
    c.loop-part.invariant c.loop-part-test.true c.part-item.is c.in_ok-put_part.ensures.spelled
    c.put_part.ensures.kept
