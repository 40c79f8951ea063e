use Rattle.std.proofs.Common.{refl}
use Rattle.nbfx_decoder.proofs.ShownFacts.{settings_stay, stands_still, failed_still}
use Rattle.nbfx_decoder.proofs.decoder.Decoder.reuse.Goals as goal

pub returns-clause-stands : goal.returns-clause-stands
returns-clause-stands c strings p h = stands_still c.args.self.now _ c.reuse.ensures.items
    c.reuse.ensures.section c.reuse.ensures.from c.reuse.ensures.kept refl refl refl strings p h

pub returns-clause-failed : goal.returns-clause-failed
returns-clause-failed c fault strings p h = failed_still c.args.self.now _ c.reuse.ensures.items
    c.reuse.ensures.section c.reuse.ensures.from c.reuse.ensures.kept refl refl refl fault strings p
    h

pub returns-clause-settings : goal.returns-clause-settings
returns-clause-settings c = settings_stay c.args.self.now _ c.reuse.ensures.items
    c.reuse.ensures.section c.reuse.ensures.from c.reuse.ensures.kept refl refl refl
