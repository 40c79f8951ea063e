use Rattle.std.proofs.Common.{◌≡◌, ◌^◌, ◌<◌, List, ◌++◌, length, IfOk, Some, Result, ap, arith}
use Rattle.std.proofs.Common.{subst}
use Rattle.nbfx_values.specs.declared.content.Item.{Item}
use Rattle.io_edges.specs.InMemory.{Tape}
use Rattle.document_lines.specs.{declared.InputFault.InputFault, Documents.documents_in}
use Rattle.document_lines.{specs.Taking.of_kept, specs.Taking.Says, proofs.Leading.short_within}
use Rattle.document_lines.proofs.TakenSteps.{says_list}
use Rattle.document_lines.proofs.reading.read_lines.Goals as goal

pub returns-clause-says : goal.returns-clause-says
returns-clause-says c =
    let text = c.args.text.items in
    let len = c.args.text.ok.0 in
    let small = c.args.text.small in
    let short : length text < 2 ^ 63 = omega (arith, len, small) in
    let t = c.take_within.ensures in
    let result = c.take_within.result in
    says_list (documents_in text) t.0 result
    (subst (λ (r : Result (List (List Item)) InputFault). Says r (of_kept t.0 result))
    (short_within (2 ^ 63) text short)
    (t.1.says text (ap (λ (s : Tape). Some s.left) c.new-source.ensures)))
    (subst (λ (first : List (List Item)). IfOk result (λ docs. docs ≡ first ++ t.0)) c.new.ensures
    t.2)
