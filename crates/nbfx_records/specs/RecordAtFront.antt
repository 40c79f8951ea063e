-- The record at the front of some bytes.
use Rattle.unit_streams.specs.Parts.{judged, Reader}
use Rattle.nbfx_records.specs.declared.nodes.{Node.Node, NodePlace.NodePlace}
use Rattle.nbfx_records.specs.{declared.nodes.RecordFault.RecordFault, Shapes.shape_at}
use Rattle.nbfx_records.specs.Contents.{contents}

-- where it may come at this place: what it says is judged where it is whole
unfoldable pub node_at : NodePlace → Reader Node RecordFault
node_at place bytes = judged contents (shape_at place bytes)
