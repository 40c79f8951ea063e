use Rattle.std.proofs.Common.{◌≡◌, ◌∙◌, Ok, Err, sym, ap, refl}
use Rattle.nbfx_decoder.specs.declared.faults.DecodeFault.TheVariants.{Memory}
use Rattle.nbfx_decoder.proofs.Keeping.{keeps_settings, settings_through}
use Rattle.nbfx_decoder.proofs.StandsFacts.{settings_kept, failure_is, unfailed_stands}
use Rattle.nbfx_decoder.proofs.StandsFacts.{unfailed_failure, same_failure, items_here}
use Rattle.nbfx_decoder.proofs.FinishSteps.{nothing_cut, stands_anew, finish_failed, finish_fault}
use Rattle.nbfx_decoder.proofs.FinishSteps.{finish_place, finishes_whole, carries_on}
use Rattle.nbfx_decoder.proofs.decoder.Decoder.finish.Goals as goal

pub returns-in-Some-clause-answers : goal.returns-in-Some-clause-answers
returns-in-Some-clause-answers c strings p h = absurd
    (unfailed_stands c.args.self.now c.in-Some.fault strings p c.in-Some.is h)

pub returns-in-Some-clause-failed : goal.returns-in-Some-clause-failed
returns-in-Some-clause-failed c strings p h = absurd
    (unfailed_stands c.args.self.now c.in-Some.fault strings p c.in-Some.is h)

pub returns-in-Some-clause-refused : goal.returns-in-Some-clause-refused
returns-in-Some-clause-refused c = failure_is c.args.self.now _ c.in-Some.is

pub returns-in-Some-clause-repeated : goal.returns-in-Some-clause-repeated
returns-in-Some-clause-repeated c fault told = ap Err
    (same_failure c.args.self.now c.in-Some.fault fault c.in-Some.is told)

pub returns-in-Some-finish-clause-answers : goal.returns-in-Some-finish-clause-answers
returns-in-Some-finish-clause-answers c strings p h = (
  nothing_cut c.args.self.now strings p h (c.in-Some-finish.ensures.document.0 refl),
  c.in-Some-finish.ensures.same ∙ items_here c.args.self.now strings p h,
)

pub returns-in-Some-finish-clause-anew : goal.returns-in-Some-finish-clause-anew
returns-in-Some-finish-clause-anew c strings p h =
    stands_anew c.args.self.now strings p h (c.in-Some-finish.ensures.document.0 refl) _
    c.finish.ensures.kept c.in-Some-finish.ensures.anew.0 c.in-Some-finish.ensures.anew.1
    c.in-Some-finish.ensures.anew.2 refl refl

pub returns-in-Some-finish-clause-repeated : goal.returns-in-Some-finish-clause-repeated
returns-in-Some-finish-clause-repeated c fault told = absurd
    (unfailed_failure c.args.self.now fault c.in_default.is told)

pub returns-in-Some-finish-clause-unchanged : goal.returns-in-Some-finish-clause-unchanged
returns-in-Some-finish-clause-unchanged c fault told = absurd
    (unfailed_failure c.args.self.now fault c.in_default.is told)

pub returns-in-Some-finish-clause-settings : goal.returns-in-Some-finish-clause-settings
returns-in-Some-finish-clause-settings c =
    settings_kept c.args.self.now _ (keeps_settings c.finish.ensures.kept)

pub returns-clause-answers : goal.returns-clause-answers
returns-clause-answers c strings p h =
    finish_fault c.args.self.now strings p h
    (λ document. let bad = c.in_default-finish.ensures.document.1 document in cc) c.fail.result
    c.finish.new.self.from c.len.result
    c.in_default-finish.ensures.unchanged.0 c.len.ensures c.fail.ensures.fault

pub returns-clause-failed : goal.returns-clause-failed
returns-clause-failed c strings p h =
    let same = c.finish.ensures.kept in
    let then = c.fail.ensures.kept in
    finish_failed c.args.self.now strings p h
    (λ document. let bad = c.in_default-finish.ensures.document.1 document in cc) c.fail.new.self
    c.fail.result c.fail.ensures.failure c.fail.ensures.begun c.fail.ensures.items
    (record {
      statics = then.statics ∙ same.statics;
      quotas = then.quotas ∙ same.quotas;
      kind =
          then.kind ∙ same.kind;
      table = then.table ∙ same.table;
    })
    (finish_place c.args.self.now strings p h
    (λ document. let bad = c.in_default-finish.ensures.document.1 document in cc) c.fail.result
    c.finish.new.self.from c.len.result c.fail.new.self.units.from
    c.in_default-finish.ensures.unchanged.0 c.len.ensures c.fail.ensures.from c.fail.ensures.fault)

pub returns-clause-refused : goal.returns-clause-refused
returns-clause-refused c = failure_is c.fail.new.self _ c.fail.ensures.failure

pub returns-clause-repeated : goal.returns-clause-repeated
returns-clause-repeated c fault told = absurd
    (unfailed_failure c.args.self.now fault c.in_default.is told)

pub returns-clause-unchanged : goal.returns-clause-unchanged
returns-clause-unchanged c fault told = absurd
    (unfailed_failure c.args.self.now fault c.in_default.is told)

pub returns-clause-settings : goal.returns-clause-settings
returns-clause-settings c =
    settings_kept c.args.self.now c.fail.new.self
    (settings_through (keeps_settings c.finish.ensures.kept) (keeps_settings c.fail.ensures.kept))

pub returns-in-Some-clause-whole : goal.returns-in-Some-clause-whole
returns-in-Some-clause-whole c strings p h items = absurd
    (unfailed_stands c.args.self.now c.in-Some.fault strings p c.in-Some.is h)

pub returns-in-Some-finish-clause-whole : goal.returns-in-Some-finish-clause-whole
returns-in-Some-finish-clause-whole c strings p h items =
    finishes_whole c.args.self.now strings p h (Ok c.in-Some-finish.doc) (
      nothing_cut c.args.self.now strings p h (c.in-Some-finish.ensures.document.0 refl),
      c.in-Some-finish.ensures.same ∙ items_here c.args.self.now strings p h,
    ) items

pub returns-clause-whole : goal.returns-clause-whole
returns-clause-whole c strings p h items =
    finishes_whole c.args.self.now strings p h (Err c.fail.result)
    (finish_fault c.args.self.now strings p h
    (λ document. let bad = c.in_default-finish.ensures.document.1 document in cc) c.fail.result
    c.finish.new.self.from c.len.result
    c.in_default-finish.ensures.unchanged.0 c.len.ensures c.fail.ensures.fault) items

pub returns-in-Some-clause-carried : goal.returns-in-Some-clause-carried
returns-in-Some-clause-carried c strings p h = absurd
    (unfailed_stands c.args.self.now c.in-Some.fault strings p c.in-Some.is h)

pub returns-in-Some-finish-clause-carried : goal.returns-in-Some-finish-clause-carried
returns-in-Some-finish-clause-carried c strings p h own items whole =
    carries_on c.args.self.now strings p h (Ok c.in-Some-finish.doc) (
      nothing_cut c.args.self.now strings p h (c.in-Some-finish.ensures.document.0 refl),
      c.in-Some-finish.ensures.same ∙ items_here c.args.self.now strings p h,
    ) own items _ whole
    (stands_anew c.args.self.now strings p h (c.in-Some-finish.ensures.document.0 refl) _
    c.finish.ensures.kept c.in-Some-finish.ensures.anew.0 c.in-Some-finish.ensures.anew.1
    c.in-Some-finish.ensures.anew.2 refl refl)

pub returns-in-Some-clause-takes_none : goal.returns-in-Some-clause-takes_none
returns-in-Some-clause-takes_none c none memory = let bad = sym none ∙ failure_is c.args.self.now _
    c.in-Some.is in cc

pub returns-clause-takes_none : goal.returns-clause-takes_none
returns-clause-takes_none c none memory =
    let told : c.fail.result ≡ Memory = cc in
    let bad = c.fail.ensures.memory told in
    cc
