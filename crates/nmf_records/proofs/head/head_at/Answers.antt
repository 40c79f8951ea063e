use Rattle.nmf_records.proofs.head.head_at.Goals as goal

pub returns-in-Chunk-clause-reads : goal.returns-in-Chunk-clause-reads
returns-in-Chunk-clause-reads c = rw c.in-Chunk.is c.chunk_at.ensures
