use Rattle.nmf_records.proofs.Heads.{head_answers, head_shows, head_within, none_failed}
use Rattle.nmf_records.proofs.Heads.{stands_anew}
use Rattle.nmf_records.proofs.reader.FrameReader.feed.Goals as goal

pub returns-in-Some-clause-within : goal.returns-in-Some-clause-within
returns-in-Some-clause-within c =
    head_within c.args.expect c.args.piece.now c.in-Some.frame c.in-Some.used
    c.in-Some.ensures.reads

pub returns-in-Some-clause-answers : goal.returns-in-Some-clause-answers
returns-in-Some-clause-answers c = λ p stands.
    head_answers c.args.self.now c.in-Type.is c.args.expect p stands c.args.piece.now
    c.in-Some.frame c.in-Some.used c.in-Some.ensures.reads

pub returns-in-Some-clause-stands : goal.returns-in-Some-clause-stands
returns-in-Some-clause-stands c = λ p stands.
    stands_anew c.args.self.now c.in-Type.is c.args.expect p stands

pub returns-in-Some-clause-text : goal.returns-in-Some-clause-text
returns-in-Some-clause-text c = λ kind p s stands shows.
    head_shows c.args.self.now c.in-Type.is c.args.expect p stands c.args.piece.now kind s
    (c.in-Some.ensures.no_text kind) shows

pub returns-in-Some-clause-repeated : goal.returns-in-Some-clause-repeated
returns-in-Some-clause-repeated c = λ refusal e.
    absurd (none_failed c.args.self.now c.in-Type.is refusal e)
