use Rattle.std.proofs.Common.{ap, ◌∙◌, arith}
use Rattle.{nbfx_values.specs.Measures.opened_by, nbfx_decoder.proofs.StandsFacts.depth_most}
use Rattle.nbfx_decoder.proofs.ShownFacts.{failed_items, open_here, open_small}
use Rattle.nbfx_decoder.proofs.decoder.Decoder.depth.Goals as goal

pub returns-clause-open : goal.returns-clause-open
returns-clause-open c strings p h =
    let le = open_small c.args.self.now strings p h in
    let most = depth_most c.args.self.now in
    c.depth.ensures (omega (arith, le, most)) ∙ open_here c.args.self.now strings p h

pub returns-clause-within : goal.returns-clause-within
returns-clause-within c strings p h =
    let le = open_small c.args.self.now strings p h in
    let most = depth_most c.args.self.now in
    let same = c.depth.ensures (omega (arith, le, most)) in
    omega (arith, le, same)

pub returns-clause-failed : goal.returns-clause-failed
returns-clause-failed c fault strings p h =
    let none = ap (opened_by 0) (failed_items c.args.self.now fault strings p h) in
    c.depth.ensures (omega (arith, none)) ∙ none
