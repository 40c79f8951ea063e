-- What a reader of records answers to a piece.
use Rattle.std.proofs.Common.{◌≡◌, ℕ, zero, suc, ◌+◌, ◌-◌, ◌<◌, ◌≤◌, min, ◌⊎◌, List, [], ◌∷◌, ◌++◌}
use Rattle.std.proofs.Common.{length, take, drop, IsErrAnd, IsTrue, Ok, Err, Result, sym, ap, ◌∙◌}
use Rattle.std.proofs.Common.{subst, inl, inr, append_assoc, arith, length-append, length-drop}
use Rattle.std.proofs.Common.{take-append-drop, length-take-le, take_all}
use Rattle.std.proofs.{Math.Nat.min-le_right, Math.Seq.take-add, lemmas.Result.err_from_is_err_and}
use Rattle.unit_streams.proofs.Fronts.{leaves_or_decides, whole_some}
use Rattle.unit_streams.proofs.Peeling.{Decides, extent, Leaves}
use Rattle.unit_streams.specs.Front.{begun, Front, whole, wrong}
use Rattle.{multibyte_ints.specs.Integer.IsBytes, nbfx_records.proofs.ValidFacts.reads_valid}
use Rattle.nbfx_records.specs.declared.nodes.{Node.Node, NodeFault.NodeFault}
use Rattle.nbfx_records.specs.declared.nodes.NodeFault.TheVariants.{Memory, Record}
use Rattle.nbfx_records.specs.declared.nodes.{NodePlace.NodePlace, RecordFault.RecordFault}
use Rattle.nbfx_records.specs.declared.reader.NodeStep.{NodeStep, TheVariants.Done}
use Rattle.nbfx_records.specs.{Answers.FeedAnswers, Judged.Makes, Valid.is_valid_node}
use Rattle.nbfx_records.specs.{Contents.contents, RecordAtFront.node_at}
use Rattle.nbfx_records.specs.{Cursor.IsWhole, Cursor.Stops, Shapes.Shape, Shapes.shape_at}
use Rattle.nbfx_records.proofs.AnswerFacts.{stops_by, waits_begun, whole_node, whole_wrong}
use Rattle.nbfx_records.proofs.ShapeFronts.{node_fronts, node_of_nothing}
use Rattle.nbfx_records.specs.declared.cursor.Stop.TheVariants as stops
use Rattle.nbfx_records.specs.Asked as asked

-- bytes behind bytes are bytes
pub bytes_both : (a b : List ℕ) → IsBytes a → IsBytes b → IsBytes (a ++ b)
bytes_both [] b f g i = g i
bytes_both (x ∷ a) b f g zero = f zero
bytes_both (x ∷ a) b f g (suc i) = bytes_both a b (λ j. f (suc j)) g i

-- a record that a piece makes whole ends within it
module _ (place : NodePlace) (p piece : List ℕ) (node : Node) (used : ℕ)
    (started : node_at place p ≡ begun) (is : node_at place (p ++ piece) ≡ whole node used) where
  by_bytes : Leaves (node_at place) p piece ⊎ ((n : ℕ) × Decides (node_at place) p piece n)
      → (length p < used) × (used ≤ length p + length piece)
  by_bytes (inl left) =
      let none = left.at_end in
      absurd (let both : begun ≡ whole node used = sym none ∙ is in cc)
  by_bytes (inr (n, decides)) =
      let size = sym (ap extent is) ∙ decides.extent_is in
      let some = decides.some in
      let within = decides.within in
      (omega (arith, size, some), omega (arith, size, within))

  pub whole_later : (length p < used) × (used ≤ length p + length piece)
  whole_later =
      by_bytes (leaves_or_decides (node_at place) (node_fronts place) p piece started)

module _ (place : NodePlace) (p piece bytes : List ℕ) (all : bytes ≡ p ++ piece) where
  there : (v : Front Node RecordFault) → node_at place bytes ≡ v → node_at place (p ++ piece) ≡ v
  there v e = ap (node_at place) (sym all) ∙ e

  -- a whole record of which a node is made
  module _ (shape : Shape) (used : ℕ) (h : IsWhole (shape_at place) bytes 0 shape used) where
    whole_there : (node : Node) → contents shape ≡ Ok node
        → node_at place (p ++ piece) ≡ whole node used
    whole_there node e = there (whole node used) (whole_node place bytes shape used node h e)

    pub fed_valid : (node : Node) → contents shape ≡ Ok node → IsBytes bytes
        → IsTrue (is_valid_node node)
    fed_valid node e are =
        reads_valid place bytes node used are (whole_node place bytes shape used node h e)

    -- it is read out of the piece,
    pub fed_first : p ≡ [] → (node : Node) → contents shape ≡ Ok node
        → (0 < used) × (used ≤ length piece)
        × (node_at place (p ++ piece) ≡ whole node (length p + used))
    fed_first none node e =
        let is = whole_there node e in
        let alone : node_at place piece ≡ whole node used =
        subst (λ (b : List ℕ). node_at place (b ++ piece) ≡ whole node used) none is in
        let size =
        whole_some (node_at place) (node_fronts place) (node_of_nothing place) piece node used
        alone in
        let same : used ≡ length p + used = (let nothing = ap length none in omega (arith, nothing))
        in
        (size.0, size.1, is ∙ ap (whole node) same)

    -- or of what has begun, and the piece
    module _ (started : node_at place p ≡ begun) (node : Node) (e : contents shape ≡ Ok node) where
      pub fed_later : length p ≤ used
      fed_later =
          let later = whole_later place p piece node used started (whole_there node e) in
          omega (arith, later.0)

      pub fed_behind : (before : ℕ) → before ≡ length p
          → (0 < used - before) × (used - before ≤ length piece)
          × (node_at place (p ++ piece) ≡ whole node (length p + (used - before)))
      fed_behind before same =
          let is = whole_there node e in
          let later = whole_later place p piece node used started is in
          let above = later.0 in
          let within = later.1 in
          let size : used ≡ length p + (used - before) = omega (arith, above, same) in
          (omega (arith, above, same), omega (arith, within, same), is ∙ ap (whole node) size)

    -- why none is made of it
    by_why : (why : NodeFault) → Makes {X = Node} (Err why) (contents shape)
        → FeedAnswers place p piece (Err why)
    by_why (Record fault) m =
        (used, there (wrong fault used) (whole_wrong place bytes shape used fault h m.made))
    by_why Memory m = tt

    pub fed_unfit : (why : NodeFault) (r : Result (ℕ × NodeStep) NodeFault)
        → IsErrAnd r (λ y. y ≡ why)
        → Makes {X = Node} (Err why) (contents shape) → FeedAnswers place p piece r
    fed_unfit why r e m =
        let q = err_from_is_err_and r e in
        subst (λ (s : Result (ℕ × NodeStep) NodeFault). FeedAnswers place p piece s)
        (ap Err (sym q.2) ∙ sym q.1) (by_why why m)

  -- one that isn't whole
  pub fed_more : (wants : ℕ)
      → Stops (shape_at place) (asked.shape_at place) bytes 0 (stops.More wants)
      → node_at place (p ++ piece) ≡ begun
  fed_more wants s =
      there begun (waits_begun place bytes wants (stops_by place bytes (stops.More wants) s))

  pub fed_fault : (fault : RecordFault) (shown_by : ℕ)
      → Stops (shape_at place) (asked.shape_at place) bytes 0 (stops.Fault fault shown_by)
      → (k : ℕ) × (node_at place (p ++ piece) ≡ wrong fault k)
  fed_fault fault shown_by s = (
    shown_by,
    there (wrong fault shown_by) (stops_by place bytes (stops.Fault fault shown_by) s),
  )

-- what is left of a piece behind so many bytes
abbrev left_of : List ℕ → ℕ → List ℕ
left_of piece used = take (length piece - used) (drop used piece)

-- where some of a piece is kept behind p, and at most so much of the rest comes next
module _ (p piece so_far part : List ℕ) (used most : ℕ) (within : used ≤ length piece)
    (kept : so_far ≡ p ++ take used piece)
    (given : part ≡ take (min most (length (left_of piece used))) (left_of piece used)) where
  abbrev count : ℕ
  count = min most (length (drop used piece))

  rest_is : left_of piece used ≡ drop used piece
  rest_is =
      let size = length-drop used piece in
      take_all (length piece - used) (drop used piece) (omega (arith, size))

  next : part ≡ take count (drop used piece)
  next = given ∙ ap (λ b. take (min most (length b)) b) rest_is

  few : count ≤ length (drop used piece)
  few = min-le_right most (length (drop used piece))

  part_size : length part ≡ count
  part_size = ap length next ∙ length-take-le count (drop used piece) few

  size_so_far : length so_far ≡ length p + used
  size_so_far =
      ap length kept ∙ length-append p (take used piece)
      ∙ ap (λ n. length p + n) (length-take-le used piece within)

  pub part_within : used + length part ≤ length piece
  part_within = omega (arith, part_size, few, within, length-drop used piece)

  pub kept_on : so_far ++ part ≡ p ++ take (used + length part) piece
  kept_on =
      ap (λ b. b ++ part) kept ∙ append_assoc p (take used piece) part
      ∙ ap (λ b. p ++ (take used piece ++ b)) next
      ∙ ap (λ b. p ++ b) (sym (take-add used count piece))
      ∙ ap (λ n. p ++ take (used + n) piece) (sym part_size)

  all_of : (so_far ++ part) ++ drop (used + length part) piece ≡ p ++ piece
  all_of =
      ap (λ b. b ++ drop (used + length part) piece) kept_on
      ∙ append_assoc p (take (used + length part) piece) (drop (used + length part) piece)
      ∙ ap (λ b. p ++ b) (take-append-drop (used + length part) piece)

  module _ (place : NodePlace) where
    -- what is read of these bytes is read of all
    pub fed_whole : (last : ℕ) (node : Node)
        → FeedAnswers place so_far part (Ok (last, Done node))
        → FeedAnswers place p piece (Ok (used + last, Done node))
    fed_whole last node (some, last_within, is) =
        let all =
        (node_fronts place).whole_stays (so_far ++ part) (drop (used + length part) piece) node
        (length so_far + last) is in
        let same : length so_far + last ≡ length p + (used + last) = omega (arith, size_so_far) in (
          omega (arith, some),
          omega (arith, last_within, part_within),
          sym (ap (node_at place) all_of) ∙ all ∙ ap (whole node) same,
        )

    by_fault : (why : NodeFault) → FeedAnswers place so_far part (Err why)
        → FeedAnswers place p piece (Err why)
    by_fault (Record fault) (shown_by, is) =
        let all =
        (node_fronts place).wrong_stays (so_far ++ part) (drop (used + length part) piece) fault
        shown_by is in
        (shown_by, sym (ap (node_at place) all_of) ∙ all)
    by_fault Memory h = tt

    pub fed_refused : (why : NodeFault) (r : Result (ℕ × NodeStep) NodeFault)
        → IsErrAnd r (λ y. y ≡ why) → FeedAnswers place so_far part (Err why)
        → FeedAnswers place p piece r
    fed_refused why r e h =
        let q = err_from_is_err_and r e in
        subst (λ (s : Result (ℕ × NodeStep) NodeFault). FeedAnswers place p piece s)
        (ap Err (sym q.2) ∙ sym q.1) (by_fault why h)
