use Rattle.std.proofs.Common.{drop, flat_map}
use Rattle.line_notation.specs.Lines.{attribute_form, form_text}
use Rattle.line_notation.proofs.PutsFacts.{HavePut}
use Rattle.line_notation.proofs.printing.put_array_attributes.Given as goal

abbrev pub invariant-loop-one : goal.invariant-loop-one
invariant-loop-one g l =
    HavePut (flat_map (λ one. form_text (attribute_form one))) l.all (drop l.one-index l.all)
    (g.K.Sink.view l.fn.sink) (g.K.Sink.view l.sink)
