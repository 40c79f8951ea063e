use Rattle.std.proofs.Common.{refl}
use Rattle.nmf_records.specs.Reader.{limits_of, StandsFor}
use Rattle.nmf_records.proofs.Showing.{shows_none}
use Rattle.nmf_records.proofs.Frames.{frame_peels}
use Rattle.nmf_records.proofs.reader.FrameReader.new.Goals as goal

pub returns-clause-stands : goal.returns-clause-stands
unfolding StandsFor
returns-clause-stands c = λ expect. record {
  begun = (frame_peels _ expect).nothing;
  shape = refl;
  size = c.new.ensures;
  text = tt;
  counted = refl;
}

pub returns-clause-text : goal.returns-clause-text
returns-clause-text c =
    shows_none _ c.in_ok-new.ensures.stands c.in_ok-new-2.ensures.stands

pub returns-clause-limits : goal.returns-clause-limits
unfolding limits_of
returns-clause-limits c = rw (c.in_ok-new.ensures.limit, c.in_ok-new-2.ensures.limit) refl
