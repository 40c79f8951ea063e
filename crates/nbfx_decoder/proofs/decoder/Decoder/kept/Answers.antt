use Rattle.std.proofs.Common.{◌∙◌, length, ap, refl, arith}
use Rattle.nbfx_values.specs.Measures.{capped, content_of}
use Rattle.nbfx_decoder.proofs.ShownFacts.{raw_here, raw_small, content_is, content_small}
use Rattle.nbfx_decoder.proofs.ShownFacts.{failed_bytes, failed_items, items_few, values_few}
use Rattle.nbfx_decoder.proofs.decoder.Decoder.kept.Goals as goal

pub returns-clause-raw : goal.returns-clause-raw
returns-clause-raw c strings p h = c.len.ensures ∙ raw_here c.args.self.now strings p h

pub returns-clause-content : goal.returns-clause-content
returns-clause-content c strings p h = c.content.ensures ∙ content_is c.args.self.now strings p h

pub returns-clause-within : goal.returns-clause-within
returns-clause-within c strings p h =
    let bytes = c.len.ensures in
    let few = raw_small c.args.self.now strings p h in
    let same = c.content.ensures in
    let le = content_small c.args.self.now strings p h in
    (omega (arith, bytes, few), omega (arith, same, le))

pub returns-clause-failed : goal.returns-clause-failed
returns-clause-failed c fault strings p h =
    let bytes = c.len.ensures ∙ ap length (failed_bytes c.args.self.now fault strings p h) in
    let items = c.content.ensures ∙ ap (λ l. capped (content_of l))
    (failed_items c.args.self.now fault strings p h) in
    rw (bytes, items) refl

pub returns-clause-few_items : goal.returns-clause-few_items
returns-clause-few_items c strings p h = items_few c.args.self.now strings p h

pub returns-clause-few_values : goal.returns-clause-few_values
returns-clause-few_values c strings p h = values_few c.args.self.now strings p h
