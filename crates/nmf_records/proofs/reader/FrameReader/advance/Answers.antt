use Rattle.std.proofs.Common.{◌≡◌, ◌∙◌}
use Rattle.nmf_records.specs.Reader.{limits_of, StandsFor}
use Rattle.nmf_records.proofs.Settling.{IsSettled, settled_keeps, settled_limits, settled_steps}
use Rattle.nmf_records.proofs.{Showing.shows_kept, reader.FrameReader.advance.Goals.After-settle}
use Rattle.nmf_records.proofs.reader.FrameReader.advance.Goals as goal

-- what the reader has settled at
settled : (c : After-settle) → IsSettled c.read_some-n.new.self c.settle.new.self
    c.read_some-n.result.0 c.read_some-n.result.1
settled c = record {
  stage = c.settle.ensures.stage;
  pending = c.settle.ensures.pending;
  size = c.settle.ensures.size;
  text = c.settle.ensures.text;
  content_type = c.settle.ensures.content_type;
}

-- its limit stays
limit_kept : (c : After-settle) → limits_of c.settle.new.self ≡ limits_of c.args.self.now
limit_kept c = settled_limits c.read_some-n.new.self c.settle.new.self _ _ (settled c) ∙
    c.read_some-n.ensures.limits

pub returns-clause-steps : goal.returns-clause-steps
unfolding StandsFor
returns-clause-steps c = λ p stands.
    settled_steps (limits_of c.args.self.now) c.args.expect p c.args.bytes.now
    c.read_some-n.result.0
    c.read_some-n.new.self c.settle.new.self c.read_some-n.result.1
    c.read_some-n.ensures.within (limit_kept c) (c.read_some-n.ensures.pending ∙ stands.counted)
    (c.read_some-n.ensures.progresses p stands) (settled c)

pub returns-clause-text : goal.returns-clause-text
returns-clause-text c = λ kind p s stands h. shows_kept kind c.read_some-n.new.self
    c.settle.new.self _
    c.settle.ensures.text c.settle.ensures.content_type (c.read_some-n.ensures.text kind p s stands
    h)

pub returns-clause-limits : goal.returns-clause-limits
returns-clause-limits c = limit_kept c

pub returns-clause-kept : goal.returns-clause-kept
returns-clause-kept c = settled_keeps c.read_some-n.new.self c.settle.new.self _
    c.read_some-n.result.1 (settled c)
