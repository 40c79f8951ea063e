use Rattle.std.proofs.Common.{sym, refl, ap, ◌∙◌, subst}
use Rattle.line_streams.proofs.StreamFacts.{starts}
use Rattle.document_lines.specs.declared.line_encoder.LineEncoder.{LineEncoder}
use Rattle.document_lines.specs.LineEncoderState.{IsAt, IsIn, settings_in}
use Rattle.document_lines.specs.DocumentReaderState.{settings_of, StandsFor}
use Rattle.document_lines.specs.Input.{document_rules, Settings, start_of}
use Rattle.document_lines.proofs.Sending.{set_as}
use Rattle.document_lines.proofs.reader.DocumentReader.new.Goals as goal

pub new-requires-clause-none : goal.new-requires-clause-none
new-requires-clause-none c =
    rw (c.new-encoder.ensures.lines, c.new-encoder.ensures.documents) refl

pub returns-clause-stands : goal.returns-clause-stands
unfolding StandsFor
returns-clause-stands c =
    let e = c.new-encoder.result in
    let r = c.new.result in
    let n = c.new.ensures in
    let at = c.new-encoder.ensures in
    let set = set_as e _ at in
    record {
      most = ap (λ (l : LineEncoder). (settings_in l).limits.session) n.lines
          ∙ ap (λ (x : Settings). x.limits.session) set ∙ sym n.most;
      reached = starts (document_rules (settings_in r.lines)) (IsIn r.lines) r.begun.items r.taken
          n.begun n.taken
          (subst (λ (l : LineEncoder). IsAt (settings_in l) (start_of (settings_in l)) l)
          (sym n.lines) (subst (λ (x : Settings). IsAt x (start_of x) e) (sym set) at));
      unfailed = refl;
    }

pub returns-clause-settings : goal.returns-clause-settings
unfolding settings_of
returns-clause-settings c =
    ap settings_in c.new.ensures.lines ∙ set_as c.new-encoder.result _ c.new-encoder.ensures
