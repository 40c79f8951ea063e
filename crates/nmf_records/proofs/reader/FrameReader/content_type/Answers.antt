use Rattle.std.proofs.Common.{sym, ◌∙◌}
use Rattle.nmf_records.specs.Reader.{ShowsText}
use Rattle.nmf_records.proofs.reader.FrameReader.content_type.Goals as goal

pub returns : goal.returns
unfolding ShowsText
returns c = λ s h. c.text.ensures h.string h.stands ∙ sym h.text_is
