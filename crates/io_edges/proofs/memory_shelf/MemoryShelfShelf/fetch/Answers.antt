use Rattle.io_edges.proofs.Stores.{get-store}
use Rattle.io_edges.proofs.memory_shelf.MemoryShelfShelf.fetch.Goals as goal

pub returns-clause-found : goal.returns-clause-found
returns-clause-found c = rw (← c.self.view_is, get-store c.self.inside.files c.args.name.now)
    c.copy_of.ensures.found
