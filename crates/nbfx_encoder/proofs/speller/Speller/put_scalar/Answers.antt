use Rattle.nbfx_records.specs.Choices.{choice_seen}
use Rattle.nbfx_encoder.{specs.Inside.names_of, specs.Inside.writing_of, proofs.Writable.scalar_may}
use Rattle.nbfx_encoder.proofs.speller.Speller.put_scalar.Goals as goal

pub put_scalar-requires-clause-valid : goal.put_scalar-requires-clause-valid
put_scalar-requires-clause-valid c =
    (scalar_may (writing_of c.args.self.now) (names_of c.args.self.now) c.args.value.now
    (choice_seen c.in_ok-choice.choice, names_of c.choice.new.self) c.requires.sound
    c.requires.valid c.requires.few (rw c.in_ok-choice.was at c.choice.ensures.spelled)).0

pub put_scalar-requires-clause-fits : goal.put_scalar-requires-clause-fits
put_scalar-requires-clause-fits c =
    (scalar_may (writing_of c.args.self.now) (names_of c.args.self.now) c.args.value.now
    (choice_seen c.in_ok-choice.choice, names_of c.choice.new.self) c.requires.sound
    c.requires.valid c.requires.few (rw c.in_ok-choice.was at c.choice.ensures.spelled)).1
