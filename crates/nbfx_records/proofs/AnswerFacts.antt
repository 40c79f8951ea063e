-- What the structure of a record and its contents make of the bytes.
use Rattle.std.proofs.Common.{◌≡◌, ℕ, ◌<◌, List, [], ◌++◌, length, Ok, Err, sym, ap, ◌∙◌, subst}
use Rattle.std.proofs.Common.{append-nil, arith}
use Rattle.unit_streams.specs.Front.{begun, Front, whole, wrong}
use Rattle.unit_streams.specs.Parts.{further, judged, judged_whole}
use Rattle.nbfx_records.specs.declared.{cursor.Stop.Stop, nodes.RecordFault.RecordFault}
use Rattle.nbfx_records.specs.declared.nodes.{Node.Node, NodePlace.NodePlace}
use Rattle.nbfx_records.specs.Answers.{StopsBy, WaitsFor}
use Rattle.nbfx_records.specs.{Contents.contents, RecordAtFront.node_at}
use Rattle.nbfx_records.specs.{Cursor.IsWhole, Cursor.Stops, Shapes.Shape, Shapes.shape_at}
use Rattle.nbfx_records.proofs.CursorFacts.{further_begun, further_whole, further_wrong}
use Rattle.nbfx_records.specs.declared.cursor.Stop.TheVariants as stops
use Rattle.nbfx_records.specs.Asked as asked

module _ (place : NodePlace) (bytes : List ℕ) where
  -- of all that is there
  here : {A : Type 0} (front : List ℕ → Front A RecordFault) → front (bytes ++ []) ≡ front bytes
  here front = ap front (append-nil bytes)

  whole_here : (shape : Shape) (used : ℕ) → IsWhole (shape_at place) bytes 0 shape used
      → node_at place bytes ≡ judged_whole (contents shape) used
  unfolding node_at
  whole_here shape used h =
      let w = further_whole 0 (shape_at place (bytes ++ [])) shape used (h.stands []) in
      let size : w.0 ≡ used = omega (arith, w.2) in
      ap (judged contents) (sym (here (shape_at place)) ∙ w.1) ∙ ap (judged_whole (contents shape))
      size

  -- a whole record, by what it says
  pub whole_node : (shape : Shape) (used : ℕ) (node : Node) → IsWhole (shape_at place) bytes 0 shape
      used
      → contents shape ≡ Ok node → node_at place bytes ≡ whole node used
  whole_node shape used node h e = whole_here shape used h ∙ ap (λ v. judged_whole v used) e

  pub whole_wrong : (shape : Shape) (used : ℕ) (fault : RecordFault)
      → IsWhole (shape_at place) bytes 0 shape used → contents shape ≡ Err fault
      → node_at place bytes ≡ wrong fault used
  whole_wrong shape used fault h e = whole_here shape used h ∙ ap (λ v. judged_whole v used) e

  -- one that isn't whole
  begun_at : (next : List ℕ) → further 0 (shape_at place (bytes ++ next)) ≡ begun
      → node_at place (bytes ++ next) ≡ begun
  unfolding node_at
  begun_at next e = ap (judged contents) (further_begun 0 (shape_at place (bytes ++ next)) e)

  wrong_here : (fault : RecordFault) (n : ℕ) → further 0 (shape_at place (bytes ++ []))
      ≡ wrong fault n → node_at place bytes ≡ wrong fault n
  unfolding node_at
  wrong_here fault n e =
      let w = further_wrong 0 (shape_at place (bytes ++ [])) fault n e in
      let size : w.0 ≡ n = omega (arith, w.2) in
      ap (judged contents) (sym (here (shape_at place)) ∙ w.1) ∙ ap (wrong fault) size

  pub stops_by : (stop : Stop) → Stops (shape_at place) (asked.shape_at place) bytes 0 stop
      → StopsBy place bytes stop
  stops_by (stops.More wants) h = record {
    more = h.why.above;
    begins = λ next lt. begun_at next (h.why.begins next lt);
    asks =
        let size : h.asks.0 ≡ wants = omega (arith, h.asks.1) in
        subst (asked.shape_at place bytes) size h.asks.2;
  }
  stops_by (stops.Fault fault shown_by) h = wrong_here fault shown_by (h.why.stands [])

  -- one that waits has begun
  pub waits_begun : (wants : ℕ) → WaitsFor place bytes wants → node_at place bytes ≡ begun
  waits_begun wants w =
      sym (here (node_at place))
      ∙ w.begins [] (subst (λ (b : List ℕ). length b < wants) (sym (append-nil bytes)) w.more)
