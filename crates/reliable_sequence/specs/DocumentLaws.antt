-- What documents say that are made.
use Rattle.soap_envelope.specs.declared.versions.Addressing.TheVariants.{V10}
use Rattle.std.specs.Prelude.{◌≡◌, ℕ, ◌-◌, ◌^◌, ◌<◌, List, None, Ok, IsTrue}
use Rattle.soap_envelope.specs.{Made.StandsInReplies, Making.IsContent}
use Rattle.reliable_sequence.specs.declared.{parts.Data.Data, ranges.Range.Range}
use Rattle.reliable_sequence.specs.Made.{data_items, ranges_items}
use Rattle.reliable_sequence.specs.{Ranges.first_above, Ranges.rise_from}
use Rattle.reliable_sequence.specs.Reading.{data_in, ranges_in}

-- a body that may stand in Body, by names of which each has its namespace there
pub record IsFit (sent : Data) : Type 0 where
  pub content : IsContent sent.body
  pub named : StandsInReplies V10 sent.body
  pub some : 0 < sent.number
  pub small : sent.number < 2 ^ 63

-- a document that sends it is read as just that
abbrev pub SentIsRead : Type 0
SentIsRead =
    (identifier : List ℕ) (sent : Data) → IsFit sent
    → data_in identifier (data_items identifier sent) ≡ Ok sent

-- ranges that rise from 1 on, and end below 2^63
pub record AreFit (ranges : List Range) : Type 0 where
  pub rising : IsTrue (rise_from 1 ranges)
  pub small : first_above (2 ^ 63 - 1) ranges ≡ None

-- so are ranges
abbrev pub RangesAreRead : Type 0
RangesAreRead =
    (identifier : List ℕ) (ranges : List Range) → AreFit ranges
    → ranges_in identifier (ranges_items identifier ranges) ≡ Ok ranges
