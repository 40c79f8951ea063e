use Rattle.std.proofs.Common.{◌<◌, subst}
use Rattle.nbfx_values.specs.declared.limits.Quotas.{Quotas}
use Rattle.nbfx_encoder.{specs.EncoderState.payload_in, specs.Spelling.chosen, proofs.Sizes.large}
use Rattle.nbfx_encoder.specs.Inside.{names_of, writing_of}
use Rattle.nbfx_encoder.proofs.encoder.Encoder.spell_within.Goals as goal

pub returns-then-size-self-clause-spelled : goal.returns-then-size-self-clause-spelled
returns-then-size-self-clause-spelled c =
    let old = c.args.self.now.speller in
    large c.args.self.now.quotas.payload (chosen (writing_of old) (names_of old) c.args.items.now)
    c.in_ok-size.size (payload_in c.spell.new.self) (names_of c.spell.new.self.speller)
    c.in_ok-size.ensures.spelled
    (subst (λ (q : Quotas). q.payload < c.in_ok-size.size) c.spell.ensures.quotas
    c.if-size-self.true)
