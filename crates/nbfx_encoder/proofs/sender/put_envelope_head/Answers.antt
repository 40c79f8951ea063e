use Rattle.{std.proofs.Common.[], nbfx_records.proofs.PutFacts.put_first}
use Rattle.nmf_records.specs.{declared.frame.Frame.TheVariants.Chunk, Writing.frame_bytes_of}
use Rattle.nbfx_encoder.proofs.sender.put_envelope_head.Goals as goal

pub returns-in_err-put_record-in-Singleton : goal.returns-in_err-put_record-in-Singleton
returns-in_err-put_record-in-Singleton c =
    rw c.in-Singleton.is (put_first (frame_bytes_of (Chunk c.args.size) [])
    c.from_residual.ensures.0 c.in_err-put_record-in-Singleton.ensures)
