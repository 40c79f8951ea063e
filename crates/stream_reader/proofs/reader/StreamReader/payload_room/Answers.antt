use Rattle.std.proofs.Common.{arith}
use Rattle.stream_reader.proofs.reader.StreamReader.payload_room.Goals as goal

pub returns-clause-may : goal.returns-clause-may
returns-clause-may c = λ n some le.
    let small = c.args.self.now.quotas.good.payload_most in
    record {
      few = λ none.
          let counted = c.taken.ensures.counted
          (omega (arith, some, le, c.saturating_sub.ensures, small)) in
          omega (arith, counted, some, le, c.saturating_sub.ensures);
      behind = λ strings p stands.
          let counted = c.taken.ensures.stands strings p stands in
          omega (arith, counted, some, le, c.saturating_sub.ensures);
    }

pub returns-clause-all : goal.returns-clause-all
returns-clause-all c = λ strings p stands.
    let counted = c.taken.ensures.stands strings p stands in
    omega (arith, counted, c.saturating_sub.ensures)
