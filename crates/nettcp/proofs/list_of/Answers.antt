use Rattle.std.proofs.Common.{refl}
use Rattle.std.proofs.lemmas.Iterator.{items_from_collect, Adapters.YieldsList-from_vec}
use Rattle.nettcp.proofs.list_of.Goals as goal

pub returns : goal.returns
returns c = items_from_collect _ c.collect.ensures.ran
    (YieldsList-from_vec _ refl c.args.words.rest.ok.0)
