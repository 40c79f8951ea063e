use Rattle.std.proofs.Common.{◌++◌, sym, ◌∙◌, append-nil}
use Rattle.duplex_server.proofs.Handled.{going_before}
use Rattle.duplex_server.proofs.replier.ReplierEventHandlerRequest.pause.Goals as goal

pub returns-clause-handled : goal.returns-clause-handled
returns-clause-handled g c = λ first paused since handled.
    let e = c.pause.ensures in
    rw (append-nil (paused ++ since)) (record {
      counted = handled.counted;
      parts = handled.parts;
      due = handled.due;
      stands = record {
        given = e.given (g.K.Sink.view first) handled.parts handled.stands.given;
        is_at = λ going. handled.stands.is_at (going_before _ _ (λ stopped. (e.stopped stopped).0)
            going);
        little = e.little handled.stands.little;
      };
    })

pub returns-clause-stopped : goal.returns-clause-stopped
returns-clause-stopped g c = λ stopped.
    let e = c.pause.ensures.stopped stopped in
    (λ done. stopped (sym e.0 ∙ done), e.1)
