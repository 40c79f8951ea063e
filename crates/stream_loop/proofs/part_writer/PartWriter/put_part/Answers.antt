use Rattle.std.proofs.Common.{false, [], ◌∷◌, ◌++◌, refl}
use Rattle.stream_loop.{specs.Parts.part, proofs.Parts.gathers_uncounted}
use Rattle.stream_loop.proofs.part_writer.PartWriter.put_part.Goals as goal

pub returns-then-is_err-clause-given : goal.returns-then-is_err-clause-given
returns-then-is_err-clause-given g c = λ first parts h.
    let none = rw c.if-is_err.ensures.negation at c.extend_from_slice.ensures.items in
    c.run_out.ensures.given first parts (part c.args.bytes.now false) (rw none h)

pub returns-clause-given : goal.returns-clause-given
returns-clause-given g c = λ first parts h.
    let m = c.args.self.now in
    let next = part c.args.bytes.now false in
    let added = rw c.if-is_err.ensures.negation at c.extend_from_slice.ensures.items in
    c.relieve.ensures.given first (parts ++ next ∷ []) (rw (c.requires.going, added)
    (gathers_uncounted first parts m.whole
    m.gathered.items m.ends.items (g.K.Sink.view c.args.sink.now) (rw c.requires.going at h) next refl))
