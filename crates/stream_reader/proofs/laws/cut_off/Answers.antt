use Rattle.stream_reader.proofs.ReasonsOfStreams.{no_piece_cuts_off, cut_off_is, end_cuts_off}
use Rattle.stream_reader.proofs.ReasonsOfStreams.{cut_off_unrefused}
use Rattle.stream_reader.proofs.laws.cut_off.Goals as goal

pub returns : goal.returns
returns c = record {
  no_piece = no_piece_cuts_off;
  by_end = cut_off_is;
  end_alone = end_cuts_off;
  unrefused = cut_off_unrefused;
}
