use Rattle.std.proofs.Common.{◌++◌, ap, ◌∙◌}
use Rattle.nbfx_encoder.{specs.EncoderState.payload_in, proofs.Openings.third_stopped}
use Rattle.nbfx_encoder.proofs.encoder.Encoder.put_payload.Goals as goal

pub returns-in_err-extend_from_slice-3 : goal.returns-in_err-extend_from_slice-3
unfolding payload_in
returns-in_err-extend_from_slice-3 c =
    let e = c.args.self.now in
    third_stopped e.head.items e.strings.items e.speller.nodes.items c.args.out.now.items
    c.extend_from_slice.new.self.items c.extend_from_slice-2.new.self.items
    c.extend_from_slice-3.new.self.items
    c.from_residual-in_err-extend_from_slice-3.result
    c.from_residual-in_err-extend_from_slice-3.ensures.0
    (c.in_ok-extend_from_slice.ensures.items
    ∙ ap (λ l. c.args.out.now.items ++ l) c.deref.ensures.value)
    (c.in_ok-extend_from_slice-2.ensures.items
    ∙ ap (λ l. c.extend_from_slice.new.self.items ++ l) c.deref-2.ensures.value)
    c.in_err-extend_from_slice-3.ensures.items
