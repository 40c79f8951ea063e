use Rattle.nmf_records.proofs.Frames.{frames_front}
use Rattle.nmf_records.proofs.laws.record_fronts.Goals as goal

pub returns : goal.returns
returns c = frames_front
