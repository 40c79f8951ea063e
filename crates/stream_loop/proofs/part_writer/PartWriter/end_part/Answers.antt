use Rattle.std.proofs.Common.{[], ◌∷◌, ◌++◌, ◌∙◌}
use Rattle.stream_loop.proofs.Parts.{marks, taken_back}
use Rattle.stream_loop.proofs.part_writer.PartWriter.end_part.Goals as goal

pub returns-then-is_err-clause-given : goal.returns-then-is_err-clause-given
returns-then-is_err-clause-given g c = λ first parts next r.
    let m = c.args.self.now in
    let unmarked = rw c.if-is_err.ensures.negation at c.push.ensures.items in
    let back = taken_back c.args.before r.earlier _ m.gathered.items r.length_is r.bytes in
    c.run_out.ensures.given first parts next
    (rw (c.truncate.ensures.items, back, unmarked) r.taken)

pub returns-clause-given : goal.returns-clause-given
returns-clause-given g c = λ first parts next r.
    let m = c.args.self.now in
    let marked = rw c.if-is_err.ensures.negation at c.push.ensures.items in
    c.relieve.ensures.given first (parts ++ next ∷ [])
    (marks first parts next c.args.before m
    (g.K.Sink.view c.args.sink.now) c.requires.going r c.push.new.self.items c.len-end.result
    (c.len-end.ensures ∙ m.gathered.ok.0) marked)
