use Rattle.std.proofs.Common.{◌∙◌}
use Rattle.nbfx_encoder.specs.EncoderState.{kind_in, names_in, payload_in}
use Rattle.nbfx_encoder.{specs.Inside.names_of, proofs.ReadBack.spelled_reads}
use Rattle.nbfx_encoder.proofs.encoder.Encoder.prepare.Goals as goal

pub returns-in-Err-clause-refused : goal.returns-in-Err-clause-refused
returns-in-Err-clause-refused c =
    c.in-Err.ensures.refused (kind_in c.args.self.now) (names_in c.args.self.now)

pub returns-in-Ok-clause-read : goal.returns-in-Ok-clause-read
unfolding names_in
returns-in-Ok-clause-read c =
    spelled_reads c.args.self.now c.args.doc.now c.as_slice.result.now c.in-Ok.size
    (payload_in c.spell_within.new.self) (names_of c.spell_within.new.self.speller)
    (c.as_slice.ensures ∙ c.items.ensures.same) c.items.ensures.document c.is_map.ensures
    c.in_default.ensures.depth c.in_default.ensures.content c.in-Ok.ensures.spelled
