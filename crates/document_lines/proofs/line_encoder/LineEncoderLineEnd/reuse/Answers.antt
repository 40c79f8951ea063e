use Rattle.std.proofs.Common.{refl}
use Rattle.document_lines.specs.declared.line_encoder.LineEncoder.{LineEncoder}
use Rattle.document_lines.proofs.Sending.{set_still, still_in}
use Rattle.document_lines.proofs.line_encoder.LineEncoderLineEnd.reuse.Goals as goal

pub returns-clause-is_in : goal.returns-clause-is_in
returns-clause-is_in c = λ z at.
    let new : LineEncoder = record c.args.self.now { room = c.into_bytes.result } in
    still_in c.args.self.now new
    (record { lines = refl; sender = refl; mode = refl; documents = refl }) z at

pub returns-clause-settings : goal.returns-clause-settings
returns-clause-settings c =
    let new : LineEncoder = record c.args.self.now { room = c.into_bytes.result } in
    set_still c.args.self.now new
    (record { lines = refl; sender = refl; mode = refl; documents = refl })
