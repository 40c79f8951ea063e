-- A whole record is read where it stands, and what it means is put behind the items.
use Rattle.std.proofs.Common.{◌≡◌, ℕ, ◌+◌, ◌^◌, ◌<◌, ◌≤◌, List, [], ◌++◌, length, IsErrAnd, IsTrue}
use Rattle.std.proofs.Common.{Some, None, Ok, Err, Option, Result, sym, refl, ap, ◌∙◌, subst, inr}
use Rattle.std.proofs.Common.{append-nil, arith}
use Rattle.std.proofs.lemmas.{List.Sums.sum_by-append, Result.err_from_is_err_and}
use Rattle.{unit_streams.proofs.Fronts.whole_some, multibyte_ints.specs.Integer.IsBytes}
use Rattle.unit_streams.specs.Front.{begun, whole, wrong}
use Rattle.string_tables.specs.StringTable.{StringTable}
use Rattle.nbfx_values.specs.declared.{content.Item.Item, refusals.Reason.Reason}
use Rattle.nbfx_values.specs.declared.refusals.Reason.TheVariants.{TooMuchContent, UnknownString}
use Rattle.nbfx_values.specs.Measures.{capped, content_of, item_content}
use Rattle.nbfx_records.proofs.AnswerFacts.{stops_by, whole_node, whole_wrong}
use Rattle.nbfx_records.proofs.{CursorFacts.further_whole, ValidFacts.reads_valid}
use Rattle.nbfx_records.proofs.{ShapeFronts.reads_shape, ValueBytes.mapped_some}
use Rattle.nbfx_records.specs.declared.{cursor.Stop.Stop, nodes.RecordFault.RecordFault}
use Rattle.nbfx_records.specs.declared.nodes.Node.{Node, TheVariants.EndElement}
use Rattle.nbfx_records.specs.declared.nodes.{NodeFault.NodeFault, NodePlace.NodePlace}
use Rattle.nbfx_records.specs.{Answers.StopsBy, Judged.Makes, Valid.is_valid_node}
use Rattle.nbfx_records.specs.{Contents.contents, Cursor.IsWhole, Cursor.Stops, Places.Stands}
use Rattle.nbfx_records.specs.{Meaning.items_of, RecordAtFront.node_at}
use Rattle.nbfx_records.specs.Shapes.{ends_element, Shape, shape_at}
use Rattle.nbfx_decoder.specs.{declared.faults.UnitFault.UnitFault, Faults.stopped, Faults.unmade}
use Rattle.nbfx_decoder.specs.declared.faults.UnitFault.TheVariants.{Memory, Refused}
use Rattle.nbfx_decoder.specs.declared.section.Section.TheVariants.{Nodes}
use Rattle.nbfx_decoder.specs.declared.units.{UnitRead.UnitRead, UnitReader.UnitReader}
use Rattle.nbfx_decoder.specs.Measuring.{Measured, weigh_node, weighed}
use Rattle.nbfx_decoder.specs.Payload.{node, refused, Settings, Situation, unit_in}
use Rattle.nbfx_decoder.specs.Units.{HasShape, IsAdded, IsAt, Judged, Judges, KeepsSettings}
use Rattle.nbfx_decoder.specs.Units.{KeepsTable, MayAdd, MayMake, names_in, place_in, Reads}
use Rattle.nbfx_decoder.specs.Units.{RefusedAs, SayAnswers, StandsAt, too_much_in, unfit}
use Rattle.nbfx_decoder.specs.Units.{UnitAnswers, unnamed_in}
use Rattle.nbfx_decoder.proofs.UnitSteps.{node_stands, node_unread, node_waits, node_whole, passed}
use Rattle.nbfx_decoder.proofs.UnitSteps.{too_much, unnamed}
use Rattle.unit_streams.specs.Parts as parts
use Rattle.nbfx_records.specs.declared.cursor.Stop.TheVariants as stops
use Rattle.nbfx_records.specs.declared.nodes.NodeFault.TheVariants as node_faults
use Rattle.nbfx_records.specs.Asked as asked
use Rattle.nbfx_decoder.specs.declared.units.UnitRead.TheVariants as units_read

-- a record of any shape has some bytes
shape_of_nothing : (place : NodePlace) → shape_at place [] ≡ begun
unfolding shape_at parts.◌>>=◌
shape_of_nothing place = refl

pub shape_size : (place : NodePlace) (bytes : List ℕ) (shape : Shape) (used : ℕ)
    → IsWhole (shape_at place) bytes 0 shape used → (0 < used) × (used ≤ length bytes)
shape_size place bytes shape used h =
    let w = further_whole 0 (shape_at place (bytes ++ [])) shape used (h.stands []) in
    let here : shape_at place bytes ≡ whole shape w.0 = subst (λ (b : List ℕ). shape_at place b
    ≡ whole shape w.0) (append-nil bytes) w.1 in
    let size = whole_some (shape_at place) (reads_shape place) (shape_of_nothing place) bytes shape
    w.0 here in
    let same = w.2 in
    (omega (arith, size.0, same), omega (arith, size.1, same))

-- behind a whole record its bytes are few enough to count
pub record_few : (r : UnitReader) (shape : Shape) (used : ℕ) → StandsAt r shape used → r.from + used
    < 2 ^ 32
record_few r shape used it =
    let size = shape_size (place_in r) it.bytes shape used it.has.whole in
    let few = it.few in
    omega (arith, size.1, few)

-- an end is an end
pub end_made : Makes (Ok EndElement) (contents ends_element)
unfolding contents
end_made = record { made = refl }

module _ (place : NodePlace) (bytes : List ℕ) (shape : Shape) (used : ℕ)
    (has : HasShape place shape used bytes) where
  pub shape_answers : (n : Node) → contents shape ≡ Ok n → node_at place bytes ≡ whole n used
  shape_answers n e = whole_node place bytes shape used n has.whole e

  pub shape_refused : (fault : RecordFault) → contents shape ≡ Err fault
      → node_at place bytes ≡ wrong fault used
  shape_refused fault e = whole_wrong place bytes shape used fault has.whole e

  pub shape_valid : (n : Node) → contents shape ≡ Ok n → IsBytes bytes → IsTrue (is_valid_node n)
  shape_valid n e are = reads_valid place bytes n used are (shape_answers n e)

  pub shape_stands : (n : Node) → contents shape ≡ Ok n → Stands place n
  shape_stands n e = node_stands place bytes n used (shape_answers n e)

-- why it is refused by what it says
module _ (r : UnitReader) (x : Settings) (z : Situation) (from : ℕ) (at : IsAt r x z from)
    (here : r.section ≡ Nodes) (bytes : List ℕ) (shape : Shape) (used : ℕ)
    (has : HasShape (place_in r) shape used bytes) where
  said_whole : (n : Node) → contents shape ≡ Ok n → unit_in x z from bytes ≡ whole (node n) used
  said_whole n e = node_whole r x z from at here bytes n used
      (shape_answers (place_in r) bytes shape used has n e)

  refused_at : (n : Node) → contents shape ≡ Ok n → (reason : Reason) (k : ℕ) → k ≡ used
      → refused x z (node n) ≡ Some reason → UnitAnswers x z from bytes r (Err (Refused reason k))
  refused_at n e reason k same is =
      (inr (node n, said_whole n e ∙ ap (whole (node n)) (sym same), is), at.set)

  refused_said : (reason : Reason) (k : ℕ) → k ≡ used → RefusedAs r shape reason → UnitAnswers x z
      from bytes r (Err (Refused reason k))
  refused_said reason k same (unfit fault e is) =
      subst (λ (m : ℕ). UnitAnswers x z from bytes r (Err (Refused reason m))) (sym same)
      (subst (λ (other : Reason). UnitAnswers x z from bytes r (Err (Refused other used))) (sym is)
      (node_unread r x z from at here bytes fault used
      (shape_refused (place_in r) bytes shape used has fault e)))
  refused_said reason k same (unnamed_in n e none is) = refused_at n e reason k same
      (unnamed r x z from at n None none refl ∙ ap Some (sym is))
  refused_said reason k same (too_much_in n more e found above is) =
      refused_at n e reason k same
      (too_much r x z from at n (Some more) found more refl (r.document ++ more) refl
      (capped (content_of (r.document ++ more))) refl
      (let small = r.quotas.good.content_most in omega (arith, above, small)) ∙ ap Some (sym is))

  pub judged_said : (fault : UnitFault) → Judged r shape used (Err fault) → UnitAnswers x z from
      bytes r (Err fault)
  judged_said (Refused reason k) h = refused_said reason k h.0 h.1
  judged_said Memory h = at.set

  -- what it means stands behind the items
  pub added_said : (n : Node) → contents shape ≡ Ok n → (new : UnitReader) → IsAdded x z from n new
      → SayAnswers x z from bytes used new
  added_said n e new is = (n, said_whole n e, is.unrefused, is.at)

-- the node that is made is the one that was judged
pub made_fits : (r : UnitReader) (shape : Shape) (n : Node) → contents shape ≡ Ok n
    → MayMake r shape → MayAdd r n
made_fits r shape n e (other, is, may) = let same : other
    ≡ n = (let ends : Ok other ≡ Ok n = sym is ∙ e in cc) in subst (MayAdd r) same may

-- a node that counts so much may be added where there is room for it
module _ (r : UnitReader) (table : StringTable) (same : table ≡ names_in r) where
  meant_so : (n : Node) (size : ℕ) → weigh_node table n ≡ Some size → (more : List Item)
      × (items_of (names_in r) n ≡ Some more) × (size ≡ capped (content_of more))
  meant_so n size e =
      let it = mapped_some (λ (items : List Item). capped (content_of items)) (items_of table n)
      size e in
      (it.0, ap (λ t. items_of t n) (sym same) ∙ it.1, sym it.2)

  pub room_for_node : (n : Node) (size : ℕ) → weigh_node table n ≡ Some size
      → ((m : ℕ) → size ≡ capped m → content_of r.document + m ≤ r.quotas.content) → MayAdd r n
  room_for_node n size e room =
      let it = meant_so n size e in
      let fits = room (content_of it.0) it.2 in
      let sum = sum_by-append item_content r.document it.0 in
      (it.0, it.1, omega (arith, fits, sum))

  unweighed : (o : Option (List Item)) → weighed content_of o ≡ None → o ≡ None
  unweighed None e = refl
  unweighed (Some items) e = cc

  module _ (shape : Shape) (used : ℕ) where
    pub judged_unfit : (why : NodeFault) → Measured (contents shape) (weigh_node table) (Err why)
        → Judges r shape used (Err (unmade why used))
    judged_unfit (node_faults.Record fault) e = record { judged = (refl, unfit fault e refl) }
    judged_unfit node_faults.Memory e = record { judged = tt }

    pub judged_unnamed : (size : Option ℕ) → size ≡ None → Measured (contents shape)
        (weigh_node table) (Ok size) → Judges r shape used (Err (Refused UnknownString used))
    judged_unnamed size none (n, e, counts) =
        record {
          judged = (
            refl,
            unnamed_in n e (ap (λ t. items_of t n) (sym same) ∙ unweighed (items_of table n)
                (sym counts ∙ none)) refl,
          );
        }

    pub judged_room : (size : Option ℕ) (k : ℕ) → size ≡ Some k → Measured (contents shape)
        (weigh_node table) (Ok size) → ((m : ℕ) → k ≡ capped m → content_of r.document + m
        ≤ r.quotas.content) → Judges r shape used (Ok tt)
    judged_room size k some (n, e, counts) room = record
        { judged = (n, e, room_for_node n k (sym counts ∙ some) room) }

    pub judged_too_much : (size : Option ℕ) (k : ℕ) → size ≡ Some k → Measured (contents shape)
        (weigh_node table) (Ok size)
        → ((m : ℕ) → k ≡ capped m → r.quotas.content < content_of r.document + m)
        → Judges r shape used (Err (Refused TooMuchContent used))
    judged_too_much size k some (n, e, counts) no_room =
        let it = meant_so n k (sym counts ∙ some) in
        let above = no_room (content_of it.0) it.2 in
        let sum = sum_by-append item_content r.document it.0 in
        record { judged = (refl, too_much_in n it.0 e it.1 (omega (arith, above, sum)) refl) }

pub never_too_much : (r : UnitReader) (n : Node) (items : List Item) → MayAdd r n
    → items_of (names_in r) n ≡ Some items → r.quotas.content
    < capped (content_of (r.document ++ items)) → ⊥
never_too_much r n items (more, is, fits) found above =
    let same : more ≡ items = (let both : Some more ≡ Some items = sym is ∙ found in cc) in
    let size = ap (λ (i : List Item). content_of (r.document ++ i)) same in
    absurd (omega (arith, fits, size, above))

-- what is answered where it isn't whole
module _ (place at : NodePlace) (bytes : List ℕ) (stop : Stop) (same : at ≡ place)
    (told : Stops (shape_at at) (asked.shape_at at) bytes 0 stop) where
  there : Stops (shape_at place) (asked.shape_at place) bytes 0 stop
  there = subst (λ (p : NodePlace). Stops (shape_at p) (asked.shape_at p) bytes 0 stop) same told

  pub stop_answers : StopsBy place bytes stop
  stop_answers = stops_by place bytes stop there

-- what a reader answers then
pub reads_stopped : (r : UnitReader) (bytes : List ℕ) → r.section ≡ Nodes → (place : NodePlace)
    → place ≡ place_in r → (stop : Stop)
    → Stops (shape_at place) (asked.shape_at place) bytes 0 stop → Reads r r bytes (stopped stop)
reads_stopped r bytes here place same (stops.More wants) told = record {
  answers = λ x z from at. (
    node_waits r x z from at here bytes wants
        (stop_answers (place_in r) place bytes (stops.More wants) same told),
    at,
  );
  counts = told.why.above;
  goes_on = omega arith;
  kept = record { statics = refl; quotas = refl; kind = refl };
}
reads_stopped r bytes here place same (stops.Fault fault shown_by) told = record {
  answers = λ x z from at.
      node_unread r x z from at here bytes fault shown_by
      (stop_answers (place_in r) place bytes (stops.Fault fault shown_by) same told);
  counts = tt;
  goes_on = tt;
  kept = record { statics = refl; quotas = refl; kind = refl };
}

-- what a reader leaves that hands a fault on
pub reads_fault : (r new : UnitReader) (bytes : List ℕ) (fault : UnitFault)
    (res : Result UnitRead UnitFault) → IsErrAnd res (λ y. y ≡ fault)
    → ((x : Settings) (z : Situation) (from : ℕ) → IsAt r x z from → UnitAnswers x z from bytes new
    (Err fault)) → KeepsSettings r new → Reads r new bytes res
reads_fault r new bytes fault res e said kept = by res (err_from_is_err_and res e)
  where
    by : (res : Result UnitRead UnitFault) → (f : UnitFault) × (res ≡ Err f) × (f ≡ fault)
        → Reads r new bytes res
    by res p =
        subst (λ (q : Result UnitRead UnitFault). Reads r new bytes q) (ap Err (sym p.2) ∙ sym p.1)
        (record { answers = said; counts = tt; goes_on = tt; kept = kept })

-- and one that goes behind a whole unit
pub reads_done : (r put new : UnitReader) (bytes : List ℕ) (used : ℕ)
    → ((x : Settings) (z : Situation) (from : ℕ) → IsAt r x z from → SayAnswers x z from bytes used
    put)
    → (0 < used) × (used ≤ length bytes) → KeepsSettings r put → put.from ≡ r.from
    → KeepsTable put new
    → new.from ≡ put.from + used → new.section ≡ put.section → new.document ≡ put.document
    → Reads r new bytes (Ok (units_read.Done used))
reads_done r put new bytes used said size kept same keeps from section items =
    record {
      answers = λ x z from_is at.
          let s = said x z from_is at in (
            node s.0,
            s.1,
            s.2,
            passed put x _ from_is used s.3 new
                keeps from section items,
          );
      counts = size;
      goes_on = from ∙ ap (λ n. n + used) same;
      kept = record {
        statics = keeps.statics ∙ kept.statics;
        quotas = keeps.quotas ∙ kept.quotas;
        kind = keeps.kind ∙ kept.kind;
      };
    }
