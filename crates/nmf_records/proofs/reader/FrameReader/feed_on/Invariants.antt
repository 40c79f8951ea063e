use Rattle.std.proofs.Common.{◌≡◌, ℕ, ◌≤◌, ◌-◌, List, ◌++◌, length, take}
use Rattle.unit_streams.specs.Front.{begun}
use Rattle.nmf_records.specs.Reader.{StandsFor, ShowsText, text_after, limits_of}
use Rattle.nmf_records.specs.RecordFronts.{TextKind}
use Rattle.nmf_records.proofs.reader.FrameReader.feed_on.Given as goal

abbrev pub invariant-loop-used : goal.invariant-loop-used
invariant-loop-used l = record {
  within : l.used ≤ length l.piece;
  stands : (p : List ℕ) → StandsFor l.initial.self l.expect p → StandsFor l.self l.expect
      (p ++ take l.used l.piece);
  text : (kind : TextKind) (p s : List ℕ) → StandsFor l.initial.self l.expect p
      → ShowsText kind l.initial.self s
      → ShowsText kind l.self (text_after kind s l.expect (p ++ take l.used l.piece) begun);
  limits : limits_of l.self ≡ limits_of l.initial.self;
}

abbrev pub decreases-loop-used : goal.decreases-loop-used
decreases-loop-used l = length l.piece - l.used
