-- What is known where a stream was read from an input and something was written for it, however
-- both ended: the one statement of every end that answers a stream.
use Rattle.std.specs.Prelude.{◌≡◌, ℕ, List, Some}
use Rattle.io_edges.specs.{Faults.CountsFaults, Views.SinkView}
use Rattle.unit_streams.specs.Grammar.{Grammar}
use Rattle.stream_loop.specs.{declared.following.FollowEnding.FollowEnding, Edges.Input}
use Rattle.stream_loop.specs.{Followed.Follows}

-- of all that the input gives, where it tells that and the sink tells what is written: what is
-- written of it behind what was written before
abbrev pub WritesOf : (Due : (bytes w w' : List ℕ) → Type 0) → Input → (k k' : SinkView) → Type 0
WritesOf Due i k k' = (bytes w : List ℕ) → i.left ≡ Some bytes → k.written ≡ Some w
    → (w' : List ℕ) × (k'.written ≡ Some w') × Due bytes w w'

-- By how all bytes of the stream are judged and what is written of them, where these are told; and
-- whatever is told, by what is known of the events that were handled, how the reading ended, and
-- whether a read or a write failed by the outside, which is counted.
pub record Exchanged {Z U E R : Type 0} (g : Grammar Z U E R) (Judges : (bytes : List ℕ) → Type 0)
    (Due : (bytes w w' : List ℕ) → Type 0) (Handled : List E → Type 0) (ending : FollowEnding R)
    (read_failed write_failed : Type 0) (i i' : Input) (k k' : SinkView) : Type 0 where
  pub judged : (bytes : List ℕ) → i.left ≡ Some bytes → Judges bytes
  pub written : WritesOf Due i k k'
  pub follows : Follows g Handled i i' ending
  pub reads_counted : CountsFaults i.faults i'.faults read_failed
  pub writes_counted : CountsFaults k.faults k'.faults write_failed
