use Rattle.line_notation.proofs.ValuesFacts.{kind-judged}
use Rattle.line_notation.proofs.values.token.Goals as goal

pub returns-in-Some : goal.returns-in-Some
returns-in-Some c =
    record {
      token = rw (c.in-Some.ensures.kind, kind-judged c.in-Some.kind c.next_kind.new.self)
          c.kind_token-in-Some.ensures;
      few = c.next_kind.ensures.few;
    }
