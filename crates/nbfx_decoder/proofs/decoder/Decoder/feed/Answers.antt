use Rattle.std.proofs.Common.{ap, Err}
use Rattle.nbfx_decoder.proofs.Keeping.{keeps_settings, settings_through}
use Rattle.nbfx_decoder.proofs.StandsFacts.{settings_kept, failure_is, unfailed_stands}
use Rattle.nbfx_decoder.proofs.StandsFacts.{unfailed_failure, same_failure, few_bytes, reached_of}
use Rattle.nbfx_decoder.proofs.FeedSteps.{answer_goes_on, stands_behind, answer_fault}
use Rattle.nbfx_decoder.proofs.FeedSteps.{failed_within}
use Rattle.nbfx_decoder.proofs.decoder.Decoder.feed.Goals as goal

pub returns-in-Some-clause-answers : goal.returns-in-Some-clause-answers
returns-in-Some-clause-answers c strings p h = absurd
    (unfailed_stands c.args.self.now c.in-Some.fault strings p c.in-Some.is h)

pub returns-in-Some-clause-failed : goal.returns-in-Some-clause-failed
returns-in-Some-clause-failed c strings p h = absurd
    (unfailed_stands c.args.self.now c.in-Some.fault strings p c.in-Some.is h)

pub returns-in-Some-clause-refused : goal.returns-in-Some-clause-refused
returns-in-Some-clause-refused c = failure_is c.args.self.now _ c.in-Some.is

pub returns-in-Some-clause-repeated : goal.returns-in-Some-clause-repeated
returns-in-Some-clause-repeated c fault told = ap Err
    (same_failure c.args.self.now c.in-Some.fault fault c.in-Some.is told)

pub take_all-requires : goal.take_all-requires
take_all-requires c = record { few = few_bytes c.args.self.now _ c.in_default.is c.requires }

pub returns-in-Ok-clause-answers : goal.returns-in-Ok-clause-answers
returns-in-Ok-clause-answers c strings p h =
    answer_goes_on c.args.self.now c.take_all.new.self strings p c.args.piece.now h
    c.take_all.ensures.keeps.settings
    (c.in-Ok.ensures.answers _ strings p (reached_of c.args.self.now strings p h))

pub returns-in-Ok-clause-stands : goal.returns-in-Ok-clause-stands
returns-in-Ok-clause-stands c strings p h =
    stands_behind c.args.self.now c.take_all.new.self strings p c.args.piece.now h
    c.take_all.ensures.keeps.settings
    (c.in-Ok.ensures.answers _ strings p (reached_of c.args.self.now strings p h))
    (c.requires (failure_is c.args.self.now _ c.in_default.is))

pub returns-in-Ok-clause-repeated : goal.returns-in-Ok-clause-repeated
returns-in-Ok-clause-repeated c fault told = absurd
    (unfailed_failure c.args.self.now fault c.in_default.is told)

pub returns-in-Ok-clause-unchanged : goal.returns-in-Ok-clause-unchanged
returns-in-Ok-clause-unchanged c fault told = absurd
    (unfailed_failure c.args.self.now fault c.in_default.is told)

pub returns-in-Ok-clause-settings : goal.returns-in-Ok-clause-settings
returns-in-Ok-clause-settings c = settings_kept c.args.self.now c.take_all.new.self
    c.take_all.ensures.keeps.settings

pub returns-in-Err-clause-answers : goal.returns-in-Err-clause-answers
returns-in-Err-clause-answers c strings p h =
    answer_fault c.args.self.now c.take_all.new.self strings p c.args.piece.now h
    c.take_all.ensures.keeps.settings c.fail.new.self c.in-Err.fault c.fail.result
    c.fail.ensures.fault c.fail.ensures.failure c.fail.ensures.begun
    c.fail.ensures.items c.fail.ensures.from c.fail.ensures.kept
    (few_bytes c.args.self.now _ c.in_default.is c.requires)
    (c.in-Err.ensures.answers _ strings p (reached_of c.args.self.now strings p h))

pub returns-in-Err-clause-failed : goal.returns-in-Err-clause-failed
returns-in-Err-clause-failed c strings p h =
    failed_within c.args.self.now c.take_all.new.self strings p c.args.piece.now h
    c.take_all.ensures.keeps.settings c.fail.new.self c.in-Err.fault c.fail.result
    c.fail.ensures.fault c.fail.ensures.failure c.fail.ensures.begun
    c.fail.ensures.items c.fail.ensures.from c.fail.ensures.kept
    (few_bytes c.args.self.now _ c.in_default.is c.requires)
    (c.in-Err.ensures.answers _ strings p (reached_of c.args.self.now strings p h))

pub returns-in-Err-clause-refused : goal.returns-in-Err-clause-refused
returns-in-Err-clause-refused c = failure_is c.fail.new.self _ c.fail.ensures.failure

pub returns-in-Err-clause-repeated : goal.returns-in-Err-clause-repeated
returns-in-Err-clause-repeated c fault told = absurd
    (unfailed_failure c.args.self.now fault c.in_default.is told)

pub returns-in-Err-clause-unchanged : goal.returns-in-Err-clause-unchanged
returns-in-Err-clause-unchanged c fault told = absurd
    (unfailed_failure c.args.self.now fault c.in_default.is told)

pub returns-in-Err-clause-settings : goal.returns-in-Err-clause-settings
returns-in-Err-clause-settings c =
    settings_kept c.args.self.now c.fail.new.self
    (settings_through c.take_all.ensures.keeps.settings (keeps_settings c.fail.ensures.kept))
