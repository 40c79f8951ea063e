use Rattle.std.proofs.Common.{◌≡◌, ◌++◌, take, sym, ap, ◌∙◌, subst}
use Rattle.line_streams.specs.LineStreamState.{Reached}
use Rattle.document_lines.specs.LineEncoderState.{IsIn, settings_in}
use Rattle.document_lines.specs.DocumentReaderState.{settings_of, StandsFor}
use Rattle.document_lines.specs.Input.{document_rules, Settings}
use Rattle.document_lines.proofs.reader.DocumentReader.feed.Goals as goal

pub returns-in-Ok-clause-answers : goal.returns-in-Ok-clause-answers
unfolding StandsFor settings_of
returns-in-Ok-clause-answers c = λ p h. (c.in-Ok.ensures.answers h.most p h.reached).0

pub returns-in-Ok-clause-stands : goal.returns-in-Ok-clause-stands
unfolding StandsFor
returns-in-Ok-clause-stands c = λ p h.
    let s = c.read.new.self in
    let e = c.in-Ok.ensures in
    record {
      most = ap (λ (x : Settings). x.limits.session) e.settings ∙ h.most ∙ sym e.most;
      reached = subst (λ (x : Settings). Reached (document_rules x) (IsIn s.lines) s.begun.items
          s.taken (p ++ take c.in-Ok.answer.0 c.args.piece.now)) (sym e.settings)
          (e.answers h.most p h.reached).1;
      unfailed = h.unfailed;
    }

pub returns-in-Err-clause-answers : goal.returns-in-Err-clause-answers
unfolding StandsFor settings_of
returns-in-Err-clause-answers c = λ p h.
    rw c.fail.ensures.same (c.in-Err.ensures.answers h.most p h.reached).0
