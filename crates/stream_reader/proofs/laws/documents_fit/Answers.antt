use Rattle.stream_reader.proofs.PayloadSizes.{payloads_fit}
use Rattle.stream_reader.proofs.Situations.{documents_fit, open_payloads}
use Rattle.stream_reader.proofs.laws.documents_fit.Goals as goal

pub returns : goal.returns
returns c = record {
  documents = documents_fit;
  payloads = payloads_fit;
  open_payloads =
      open_payloads;
}
