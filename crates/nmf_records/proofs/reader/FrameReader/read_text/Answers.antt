use Rattle.nmf_records.{proofs.TextBytes.text_answers}
use Rattle.nmf_records.proofs.reader.FrameReader.read_text.Goals as goal

pub returns-clause-answers : goal.returns-clause-answers
returns-clause-answers c = λ q s b.
    rw c.after_text.ensures
    (text_answers _ c.args.text q c.args.bytes.now _ _ _ c.feed_text-n.ensures.within
    (c.feed_text-n.ensures.answers q s) (c.feed_text-n.ensures.stands q s))
