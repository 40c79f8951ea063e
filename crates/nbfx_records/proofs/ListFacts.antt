-- A list that is read value by value, and its bytes.
use Rattle.std.proofs.Common.{◌≡◌, ℕ, ◌-◌, ◌<◌, ◌≤◌, Bool, true, false, List, [], ◌∷◌, ◌++◌, length}
use Rattle.std.proofs.Common.{take, drop, Some, None, Option, sym, refl, ap, ◌∙◌, subst, append-nil}
use Rattle.std.proofs.Common.{arith, length-drop, length-take-le, take_all}
use Rattle.unit_streams.proofs.Parts.{then_begun, then_parts, then_whole}
use Rattle.unit_streams.specs.Front.{begun, on_whole, whole}
use Rattle.unit_streams.specs.Parts.{a_byte, AreMany, further, Many, more, Reader, stop, Turn}
use Rattle.nbfx_records.specs.declared.{cursor.Stop.Stop, kinds.RecordKind.RecordKind}
use Rattle.nbfx_records.specs.{declared.nodes.RecordFault.RecordFault, Kinds.record_kind}
use Rattle.nbfx_records.specs.{Cursor.IsWhole, Cursor.Stops, Views.IsList, Views.listed}
use Rattle.nbfx_records.specs.Resuming.{AreMore, Passes}
use Rattle.nbfx_records.specs.Shapes.{list_at, list_turn, ScalarShape, turn_of}
use Rattle.nbfx_records.proofs.CursorFacts.{further_whole}
use Rattle.nbfx_records.proofs.ManyFacts.{all_more, all_stop, many_stops, many_whole, moves}
use Rattle.nbfx_records.proofs.ManyFacts.{never_stops, passes_more}
use Rattle.nbfx_records.proofs.PartBytes.{IsTurn, just_list, TurnIs}
use Rattle.nbfx_records.proofs.ShapeFronts.{reads_list, reads_list_turn}
use Rattle.nbfx_records.specs.declared.kinds.TextKind.TheVariants as texts
use Rattle.nbfx_records.specs.declared.kinds.RecordKind.TheVariants as records
use Rattle.nbfx_records.specs.Asked as asked

pub nothing_turned : (may_close : Bool) → list_turn may_close [] ≡ begun
nothing_turned may_close = then_begun a_byte _ [] refl

-- a value of a list is read alike in each
turn_alike : (one other : Bool) (k : Option RecordKind) (b : List ℕ) (a : ScalarShape) (n : ℕ)
    → turn_of one k b ≡ whole (more a) n → turn_of other k b ≡ whole (more a) n
turn_alike one other None b a n e = cc
turn_alike one other (Some (records.Text texts.EndList false)) b a n e = cc
turn_alike true other (Some (records.Text texts.EndList true)) b a n e = cc
turn_alike false other (Some (records.Text texts.EndList true)) b a n e = cc
turn_alike one other (Some (records.Text kind ends)) b a n e = e
turn_alike one other (Some _) b a n e = cc

alike : (one other : Bool) (b : List ℕ) (a : ScalarShape) (n : ℕ) → list_turn one b
    ≡ whole (more a) n → list_turn other b ≡ whole (more a) n
alike one other b a n e =
    let p = then_parts a_byte (λ byte. turn_of one (record_kind byte)) b (more a) n e in
    then_whole a_byte (λ byte. turn_of other (record_kind byte)) b p.0 p.1 p.3
    ∙ ap (further p.1) (turn_alike one other (record_kind p.0) (drop p.1 b) a p.2 p.4) ∙
    ap (whole (more a)) (sym p.5)

pub value_alike : (one other : Bool) (bytes : List ℕ) (at : ℕ) (a : ScalarShape) (to : ℕ)
    → IsWhole (list_turn one) bytes at (more a) to → IsWhole (list_turn other) bytes at (more a) to
value_alike one other bytes at a to h = record {
  after = h.after;
  within = h.within;
  stands = λ c.
      let w = further_whole at (list_turn one (drop at (bytes ++ c))) (more a) to (h.stands c) in
      ap (further at) (alike one other (drop at (bytes ++ c)) a w.0 w.1) ∙ ap (whole (more a))
      (sym w.2);
}

values_alike : (one other : Bool) (bytes : List ℕ) (items : List ScalarShape) (from to : ℕ)
    → AreMore (list_turn one) bytes from items to → AreMore (list_turn other) bytes from items to
values_alike one other bytes [] from to are = are
values_alike one other bytes (a ∷ items) from to (mid, lt, first, others) = (
  mid,
  lt,
  value_alike one other bytes from a mid first,
  values_alike one other bytes items mid
      to others,
)

-- how far whole things lead
pub passes_after : {A B : Type 0} (turn : Reader (Turn A B) RecordFault) (bytes : List ℕ)
    (items : List A) (from to : ℕ) → AreMore turn bytes from items to → from ≤ to
passes_after turn bytes [] from to are = omega (arith, are)
passes_after turn bytes (a ∷ items) from to (mid, lt, first, others) = let rest = passes_after turn
    bytes items mid to others in omega arith

-- the list in an attribute is one in a text
end_alike : (k : Option RecordKind) (last : Bool) (b : List ℕ) → TurnIs false k (stop last) b
    → TurnIs true k (stop last) b
end_alike None last b h = h
end_alike (Some (records.Text texts.EndList false)) last b h = h
end_alike (Some (records.Text texts.EndList true)) last b h = cc h.0
end_alike (Some (records.Text kind false)) last b h = h
end_alike (Some _) last b h = h

one_alike : (k : Option RecordKind) (a : ScalarShape) (b : List ℕ) → TurnIs false k (more a) b
    → TurnIs true k (more a) b
one_alike None a b h = h
one_alike (Some (records.Text texts.EndList false)) a b h = h
one_alike (Some (records.Text texts.EndList true)) a b h = cc h.0
one_alike (Some (records.Text kind false)) a b h = h
one_alike (Some _) a b h = h

list_alike : (items : List ScalarShape) (last : Bool) (b : List ℕ) → AreMany (IsTurn false) items
    last b → AreMany (IsTurn true) items last b
unfolding AreMany
list_alike [] last b h = record {
  byte = h.byte;
  rest = h.rest;
  joined = h.joined;
  behind =
      end_alike (record_kind h.byte) last h.rest h.behind;
}
list_alike (a ∷ items) last b (front, rest, joined, first, others) = (
  front,
  rest,
  joined,
  record {
    byte = first.byte;
    rest = first.rest;
    joined = first.joined;
    behind = one_alike (record_kind first.byte) a first.rest first.behind;
  },
  list_alike items last
      rest others,
)

in_text : (may_close : Bool) (b : List ℕ) (list : Many ScalarShape Bool) (n : ℕ) → list_at may_close
    b ≡ whole list n → list_at true b ≡ whole list n
in_text true b list n e = e
in_text false b list n e =
    let h = (just_list false b list n).0 e in
    (just_list true b list n).1 (h.0, list_alike list.items list.last (take n b) h.1)

-- the values of a list are those of its bytes
pub listed_is : (may_close : Bool) (bytes : List ℕ) (from : ℕ) (list : Many ScalarShape Bool)
    (to : ℕ) → IsWhole (list_at may_close) bytes from list to
    → list_at true (take (to - from) (drop from bytes)) ≡ whole list (to - from)
listed_is may_close bytes from list to h =
    let w = further_whole from (list_at may_close (drop from (bytes ++ []))) list to (h.stands [])
    in
    let here : list_at may_close (drop from bytes) ≡ whole list w.0 =
    ap (λ b. list_at may_close (drop from b)) (sym (append-nil bytes)) ∙ w.1 in
    let size : to - from ≡ w.0 = omega (arith, w.2) in
    ap (λ n. list_at true (take n (drop from bytes))) size
    ∙ in_text may_close (take w.0 (drop from bytes)) list w.0
    ((reads_list may_close).whole_alone (drop from bytes) list w.0 here) ∙ ap (whole list)
    (sym size)

module _ (may_close : Bool) (bytes : List ℕ) (from at : ℕ)
    (p : Passes (list_turn true) bytes from at) where
  own : AreMore (list_turn may_close) bytes from p.items at
  own = values_alike true may_close bytes p.items from at p.are

  pub list_whole : (ends : Bool) (to : ℕ) → IsWhole (list_turn may_close) bytes at (stop ends) to
      → IsWhole (list_at may_close) bytes from
      (record { items = listed (take (to - from) (drop from bytes)); last = ends }) to
  list_whole ends to h =
      let it = many_whole (list_turn may_close) (reads_list_turn may_close)
      (nothing_turned may_close) bytes p.items from at ends to own h in
      let items : listed (take (to - from) (drop from bytes)) ≡ p.items =
      ap (λ v. on_whole v (λ list n. list.items) [])
      (listed_is may_close bytes from (record { items = p.items; last = ends }) to it) in
      subst (λ (items : List ScalarShape). IsWhole (list_at may_close) bytes from
      (record { items = items; last = ends }) to) (sym items) it

  pub list_stops : (s : Stop) → Stops (list_turn may_close) (asked.list_turn may_close) bytes at s
      → Stops (list_at may_close) (asked.list_at may_close) bytes from s
  list_stops s h = many_stops (list_turn may_close) (reads_list_turn may_close)
      (nothing_turned may_close) bytes p.items from at s own h

  pub list_goes_on : (a : ScalarShape) (to : ℕ) → IsWhole (list_turn may_close) bytes at (more a) to
      → Passes (list_turn true) bytes from to
  list_goes_on a to h = passes_more (list_turn true) (reads_list_turn true) (nothing_turned true)
      bytes from at to a p (value_alike may_close true bytes at a to h)

  pub is_list : (ends : Bool) (to : ℕ) → IsWhole (list_turn may_close) bytes at (stop ends) to
      → IsList (take (to - from) (drop from bytes))
  is_list ends to h =
      let it = many_whole (list_turn may_close) (reads_list_turn may_close)
      (nothing_turned may_close) bytes p.items from at ends to own h in
      let size : length (take (to - from) (drop from bytes)) ≡ to - from = length-take-le
      (to - from) (drop from bytes) (omega (arith, it.within, length-drop from bytes)) in
      record {
        list = record { items = p.items; last = ends };
        is = listed_is may_close bytes from (record { items = p.items; last = ends }) to it ∙
            ap (whole (record { items = p.items; last = ends })) (sym size);
      }

-- the first value of a list
module _ (b : List ℕ) (it : IsList b) where
  nothing_true : list_turn true [] ≡ begun
  nothing_true = nothing_turned true

  listed_all : (c : List ℕ) (list : Many ScalarShape Bool) → list_at true c ≡ whole list (length c)
      → listed c ≡ list.items
  listed_all c list e = ap (λ v. on_whole v (λ list n. list.items) []) e

  pub list_ends : (last : Bool) (to : ℕ) → IsWhole (list_turn true) b 0 (stop last) to → listed b
      ≡ []
  list_ends last to h =
      let none = all_stop (list_turn true) (reads_list_turn true) nothing_true b it.list it.is last
      to h in
      listed_all b it.list it.is ∙ ap (λ (list : Many ScalarShape Bool). list.items) none

  pub list_unstopped : (s : Stop) → Stops (list_turn true) (asked.list_turn true) b 0 s → ⊥
  list_unstopped s h = never_stops (list_turn true) (reads_list_turn true) nothing_true b it.list
      it.is s h

  module _ (a : ScalarShape) (to : ℕ) (h : IsWhole (list_turn true) b 0 (more a) to) where
    rest_is : take (length b - to) (drop to b) ≡ drop to b
    rest_is = take_all (length b - to) (drop to b) (omega (arith, length-drop to b))

    pub next_value : listed b ≡ a ∷ listed (take (length b - to) (drop to b))
    next_value =
        let rest = all_more (list_turn true) (reads_list_turn true) nothing_true b it.list it.is a
        to h in
        listed_all b it.list it.is ∙ ap (λ (list : Many ScalarShape Bool). list.items) rest.2
        ∙ ap (λ items. a ∷ items) (sym (listed_all (drop to b) rest.0 rest.1)) ∙
        ap (λ c. a ∷ listed c) (sym rest_is)

    pub next_list : IsList (take (length b - to) (drop to b))
    next_list =
        let rest = all_more (list_turn true) (reads_list_turn true) nothing_true b it.list it.is a
        to h in
        subst IsList (sym rest_is) (record { list = rest.0; is = rest.1 })

    pub next_shorter : length (take (length b - to) (drop to b)) < length b
    next_shorter =
        let moved = moves (list_turn true) (reads_list_turn true) nothing_true b 0 (more a) to h in
        let size : length (take (length b - to) (drop to b)) ≡ length b - to = ap length rest_is ∙
        length-drop to b in
        let within = h.within in
        omega arith
