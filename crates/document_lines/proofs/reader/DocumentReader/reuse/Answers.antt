use Rattle.std.proofs.Common.{◌≡◌, sym, ap, ◌∙◌, subst}
use Rattle.line_streams.specs.LineStreamState.{Reached}
use Rattle.document_lines.specs.{DocumentReaderState.StandsFor, LineEncoderState.IsIn}
use Rattle.document_lines.specs.Input.{document_rules, Settings}
use Rattle.document_lines.proofs.reader.DocumentReader.reuse.Goals as goal

pub returns-clause-stands : goal.returns-clause-stands
unfolding StandsFor
returns-clause-stands c = λ p h.
    let s = c.args.self.now.stream in
    let e = c.reuse.ensures in
    record {
      most = ap (λ (x : Settings). x.limits.session) e.settings ∙ h.most;
      reached = subst (λ (x : Settings). Reached (document_rules x) (IsIn c.reuse.new.self)
          s.begun.items s.taken p) (sym e.settings) (record {
            at = e.is_in _ h.reached.at;
            begun_is = h.reached.begun_is;
            taken_is = h.reached.taken_is;
            going = h.reached.going;
          });
      unfailed = h.unfailed;
    }
