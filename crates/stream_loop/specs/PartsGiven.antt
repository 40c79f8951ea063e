-- What a writer of parts has put and gathered.
use Rattle.std.specs.Prelude.{◌≡◌, ℕ, ◌<◌, ◌≤◌, Bool, true, List, [], ◌++◌, length}
use Rattle.stream_loop.specs.declared.{outbound.Outbound.Outbound, part_writer.PartWriter.PartWriter}
use Rattle.stream_loop.specs.declared.outbound.Outbound.TheVariants.{Done, Memory, WriteFault}
use Rattle.stream_loop.specs.{Gathering.Gathers, Parts.counting, Parts.ends_within, Parts.Part}
use Rattle.io_edges.specs.Views.{SinkView}

-- a writer that was given nothing
pub record IsFresh (writer : PartWriter) : Type 0 where
  pub going : writer.outbound ≡ Done
  pub nothing : writer.gathered.items ≡ []
  pub unmarked : writer.ends.items ≡ []
  pub none_whole : writer.whole ≡ 0

-- Fewer bytes are gathered than are put at once. So it is between two parts; while one is appended,
-- it may stand behind them.
abbrev pub IsLittle : PartWriter → Type 0
IsLittle writer = length writer.gathered.items < 65536

-- These parts came since a sink was like the first, and it is like this now: by how the writing
-- stands, how many were put whole, what is gathered, and where the parts in that end.
pub record HasTaken (first : SinkView) (parts : List Part) (outbound : Outbound) (whole : ℕ)
    (gathered ends : List ℕ) (now : SinkView) : Type 0 where
  pub gathers : Gathers counting outbound first parts
      (ends_within (length gathered) ends whole) (λ n count. ends_within n ends whole ≡ count)
      (λ count. whole ≡ count) gathered now
  pub all_end : outbound ≡ Done → (n : ℕ) → length gathered ≤ n
      → ends_within n ends whole ≡ ends_within (length gathered) ends whole

-- they were given to a writer
abbrev pub WasGiven : (first : SinkView) → List Part → PartWriter → SinkView → Type 0
WasGiven first parts writer now = HasTaken first parts writer.outbound writer.whole
    writer.gathered.items writer.ends.items now

-- They were, and the bytes of the next one, which counts, were appended behind so many others.
-- Its end isn't marked yet.
pub record WasGivenMore (first : SinkView) (parts : List Part) (next : Part) (before : ℕ)
    (writer : PartWriter) (now : SinkView) : Type 0 where
  pub earlier : List ℕ
  pub length_is : length earlier ≡ before
  pub taken : HasTaken first parts writer.outbound writer.whole earlier writer.ends.items now
  pub bytes : writer.gathered.items ≡ earlier ++ next.bytes
  pub counts : next.counts ≡ true

-- More may be waited for: all that is due has left, or the writing has ended, and the direction was
-- ended.
abbrev pub MayWait : Outbound → (gathered : List ℕ) → SinkView → (ended : Bool) → Type 0
MayWait Done gathered now ended = (gathered ≡ []) × (now.held ≡ [])
MayWait WriteFault gathered now ended = ended ≡ true
MayWait Memory gathered now ended = ended ≡ true
