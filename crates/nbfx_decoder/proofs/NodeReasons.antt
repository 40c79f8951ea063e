-- Why a node is refused.
use Rattle.std.proofs.Common.{◌≡◌, ℕ, ◌≢◌, List}
use Rattle.unit_streams.specs.Front.{wrong}
use Rattle.nbfx_records.proofs.FaultCauses.{wrong_by_part, wrong_by_text, wrong_by_value}
use Rattle.nbfx_records.specs.{declared.nodes.RecordFault.RecordFault, RecordAtFront.node_at}
use Rattle.nbfx_decoder.specs.{Faults.reason_of, Payload.Settings, Payload.Situation}
use Rattle.nbfx_decoder.specs.Reasons.{IsCaused, node_place, ShowsAtNode}
use Rattle.nbfx_records.specs.declared.nodes.RecordFault.TheVariants as faults

module _ (x : Settings) (z : Situation) (bytes : List ℕ) where
  module _ (fault : RecordFault) (no_text : fault ≢ faults.BadUtf8)
      (no_value : fault ≢ faults.BadValue) where
    part_shows : (n : ℕ) → node_at (node_place x z) bytes ≡ wrong fault n
        → IsCaused (node_place x z) bytes fault
    part_shows n e = (n, (wrong_by_part (node_place x z) bytes fault n no_text no_value).0 e)

    pub part_wrong : IsCaused (node_place x z) bytes fault → (n : ℕ)
        × (node_at (node_place x z) bytes ≡ wrong fault n)
    part_wrong (n, h) = (n, (wrong_by_part (node_place x z) bytes fault n no_text no_value).1 h)

  pub node_shows : (fault : RecordFault) (n : ℕ) → node_at (node_place x z) bytes ≡ wrong fault n
      → ShowsAtNode x z bytes (reason_of fault)
  node_shows faults.UnknownNode n e = part_shows faults.UnknownNode (λ h. cc h) (λ h. cc h) n e
  node_shows faults.OutOfPlace n e = part_shows faults.OutOfPlace (λ h. cc h) (λ h. cc h) n e
  node_shows faults.TrailingBytes n e = part_shows faults.TrailingBytes (λ h. cc h) (λ h. cc h) n e
  node_shows faults.TooDeep n e = part_shows faults.TooDeep (λ h. cc h) (λ h. cc h) n e
  node_shows faults.BadInt n e = part_shows faults.BadInt (λ h. cc h) (λ h. cc h) n e
  node_shows faults.BadArray n e = part_shows faults.BadArray (λ h. cc h) (λ h. cc h) n e
  node_shows faults.BadUtf8 n e = (n, (wrong_by_text (node_place x z) bytes n).0 e)
  node_shows faults.BadValue n e = (n, (wrong_by_value (node_place x z) bytes n).0 e)
