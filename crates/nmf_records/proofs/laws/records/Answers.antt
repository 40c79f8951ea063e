use Rattle.nmf_records.proofs.Frames.{frames_front}
use Rattle.nmf_records.proofs.Records.{read_record, record_read_on, no_longer_record}
use Rattle.nmf_records.proofs.laws.records.Goals as goal

pub returns-clause-read : goal.returns-clause-read
returns-clause-read c limits expect bytes read n = (
  λ e. let r = read_record limits expect bytes read n e in
      ((frames_front limits expect).whole_within bytes read n e, r.0, r.1, r.2),
  λ h. record_read_on limits expect read bytes n h.0 h.1 h.2 h.3,
)

pub returns-clause-none_goes_on : goal.returns-clause-none_goes_on
returns-clause-none_goes_on c = no_longer_record
