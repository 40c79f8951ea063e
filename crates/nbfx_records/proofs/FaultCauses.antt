-- The causes of each fault of a record.
use Rattle.std.proofs.Common.{◌≡◌, ℕ, Bool, true, false, not, ◌&&◌, ◌||◌, ◌⊎◌, List, [], ◌∷◌, drop}
use Rattle.std.proofs.Common.{if◌then◌else◌, Some, None, Ok, Err, Option, Result, ok_or, sym, refl}
use Rattle.std.proofs.Common.{ap, ◌∙◌, inl, inr}
use Rattle.unit_streams.specs.Front.{begun, Front, whole, wrong}
use Rattle.unit_streams.specs.Parts.{judged, judged_whole}
use Rattle.nbfx_values.specs.declared.content.ArrayKind.{ArrayKind}
use Rattle.nbfx_records.specs.declared.{kinds.RecordKind.RecordKind, nodes.RecordFault.RecordFault}
use Rattle.nbfx_records.specs.declared.nodes.{Node.Node, NodePlace.NodePlace}
use Rattle.nbfx_records.specs.declared.nodes.NodePlace.TheVariants.{AfterRoot, BeforeRoot, Within}
use Rattle.nbfx_records.specs.Causes.{Caused, cells_refused, cells_type, count, element_refused}
use Rattle.nbfx_records.specs.Causes.{element_type, HasBadText, HasBadValue, InRecord, integer}
use Rattle.nbfx_records.specs.Causes.{IsRefused, IsWrongPart, item_refused, item_type, long_length}
use Rattle.nbfx_records.specs.Causes.{Part, part_refused, part_type, record_refused, record_type}
use Rattle.nbfx_records.specs.Causes.{type_refused, value_refused, value_type}
use Rattle.nbfx_records.specs.Contents.{contents, is_text, node_of}
use Rattle.nbfx_records.specs.Kinds.{array_kind, record_kind}
use Rattle.nbfx_records.specs.Laws.{WrongByPart, WrongByText, WrongByValue}
use Rattle.nbfx_records.specs.{RecordAtFront.node_at, Shapes.shape_at}
use Rattle.nbfx_records.specs.Shapes.{ends_list, is_attribute, is_element, misplaced, opens, Shape}
use Rattle.nbfx_records.proofs.{CauseFacts.carried, PartCauses.shape_just}
use Rattle.nbfx_records.proofs.ContentCauses.{bad_text, bad_value, good_texts, text_is_bad}
use Rattle.nbfx_records.proofs.ContentCauses.{texts_are_good, value_is_bad}
use Rattle.nbfx_records.specs.declared.kinds.RecordKind.TheVariants as records
use Rattle.nbfx_records.specs.declared.kinds.TextKind.TheVariants as texts
use Rattle.nbfx_records.specs.declared.nodes.RecordFault.TheVariants as faults

-- a fault of the structure
abbrev is_structural : RecordFault → Bool
is_structural faults.BadUtf8 = false
is_structural faults.BadValue = false
is_structural _ = true

abbrev Structural : Option RecordFault → Type 0
Structural refused = (fault : RecordFault) → refused ≡ Some fault → is_structural fault ≡ true

given_structural : (fault : RecordFault) → is_structural fault ≡ true → Structural (Some fault)
given_structural fault is other e = let same : fault ≡ other = cc e in ap is_structural (sym same) ∙
    is

misplaced_structural : (place : NodePlace) (kind : RecordKind) → Structural (misplaced place kind)
misplaced_structural BeforeRoot kind fault e = by (is_element kind) e
  where
    by : (element : Bool) → (if element then None else Some faults.OutOfPlace) ≡ Some fault
        → is_structural fault ≡ true
    by true e = cc e
    by false e = given_structural faults.OutOfPlace refl fault e
misplaced_structural (Within may deeper) kind fault e = by ((is_attribute kind && not may)
    || ends_list kind) (opens kind && not deeper) e
  where
    by : (out deep : Bool)
        → (if out then Some faults.OutOfPlace else if deep then Some faults.TooDeep else None)
        ≡ Some fault → is_structural fault ≡ true
    by true deep e = given_structural faults.OutOfPlace refl fault e
    by false true e = given_structural faults.TooDeep refl fault e
    by false false e = cc e
misplaced_structural AfterRoot kind fault e = given_structural faults.TrailingBytes refl fault e

record_structural : (place : NodePlace) (k : Option RecordKind)
    → Structural (record_refused place k)
record_structural AfterRoot k = given_structural faults.TrailingBytes refl
record_structural BeforeRoot None = given_structural faults.UnknownNode refl
record_structural BeforeRoot (Some kind) = misplaced_structural BeforeRoot kind
record_structural (Within may deeper) None = given_structural faults.UnknownNode refl
record_structural (Within may deeper) (Some kind) = misplaced_structural (Within may deeper) kind

ends_structural : (ends : Bool) → Structural (if ends then Some faults.OutOfPlace else None)
ends_structural true fault e = given_structural faults.OutOfPlace refl fault e
ends_structural false fault e = cc e

value_structural : (k : Option RecordKind) → Structural (value_refused k)
value_structural None = given_structural faults.UnknownNode refl
value_structural (Some (records.Text texts.EndList ends)) = given_structural faults.OutOfPlace refl
value_structural (Some (records.Text kind ends)) = ends_structural ends
value_structural (Some _) = given_structural faults.OutOfPlace refl

item_structural : (may_close : Bool) (k : Option RecordKind) → Structural (item_refused may_close k)
item_structural may_close None = given_structural faults.UnknownNode refl
item_structural may_close (Some (records.Text texts.EndList ends)) = ends_structural
    (ends && not may_close)
item_structural may_close (Some (records.Text texts.StartList ends)) = given_structural
    faults.OutOfPlace refl
item_structural may_close (Some (records.Text kind ends)) = ends_structural ends
item_structural may_close (Some _) = given_structural faults.OutOfPlace refl

none_structural : Structural None
none_structural fault e = cc e

element_structural : (k : Option RecordKind) → Structural (element_refused k)
element_structural None = given_structural faults.UnknownNode refl
element_structural (Some (records.Element _ _)) = none_structural
element_structural (Some _) = given_structural faults.BadArray refl

part_structural : (k : Option RecordKind) → Structural (part_refused k)
part_structural None = given_structural faults.UnknownNode refl
part_structural (Some (records.Attribute _ _)) = none_structural
part_structural (Some (records.Declaration _ _)) = none_structural
part_structural (Some records.EndElement) = none_structural
part_structural (Some _) = given_structural faults.BadArray refl

cells_structural : (k : Option ArrayKind) → Structural (cells_refused k)
cells_structural None = given_structural faults.BadArray refl
cells_structural (Some kind) = none_structural

type_structural : (part : Part) (byte : ℕ) → Structural (type_refused part byte)
type_structural (record_type place) byte = record_structural place (record_kind byte)
type_structural value_type byte = value_structural (record_kind byte)
type_structural (item_type may_close) byte = item_structural may_close (record_kind byte)
type_structural element_type byte = element_structural (record_kind byte)
type_structural part_type byte = part_structural (record_kind byte)
type_structural cells_type byte = cells_structural (array_kind byte)
type_structural count byte = none_structural
type_structural integer byte = none_structural
type_structural long_length byte = none_structural

refused_structural : (part : Part) (fault : RecordFault) (bytes : List ℕ) (m : ℕ)
    → IsRefused part fault bytes m → is_structural fault ≡ true
refused_structural part fault [] m h = absurd h
refused_structural part fault (byte ∷ rest) m h = type_structural part byte fault h.1

named_structural : (fault given : RecordFault) → fault ≡ given → is_structural given ≡ true
    → is_structural fault ≡ true
named_structural fault given e is = ap is_structural e ∙ is

part_wrong_structural : (part : Part) (fault : RecordFault) (bytes : List ℕ) (m : ℕ)
    → IsWrongPart part fault bytes m → is_structural fault ≡ true
part_wrong_structural count fault bytes m (inl h) = named_structural fault faults.BadInt h.0 refl
part_wrong_structural count fault bytes m (inr h) = named_structural fault faults.BadArray h.0 refl
part_wrong_structural integer fault bytes m h = named_structural fault faults.BadInt h.0 refl
part_wrong_structural long_length fault bytes m h = named_structural fault faults.BadInt h.0 refl
part_wrong_structural (record_type place) fault bytes m h = refused_structural (record_type place)
    fault bytes m h
part_wrong_structural value_type fault bytes m h = refused_structural value_type fault bytes m h
part_wrong_structural (item_type may_close) fault bytes m h = refused_structural
    (item_type may_close) fault bytes m h
part_wrong_structural element_type fault bytes m h = refused_structural element_type fault bytes m h
part_wrong_structural part_type fault bytes m h = refused_structural part_type fault bytes m h
part_wrong_structural cells_type fault bytes m h = refused_structural cells_type fault bytes m h

shape_structural : (place : NodePlace) (bytes : List ℕ) (fault : RecordFault) (n : ℕ)
    → shape_at place bytes ≡ wrong fault n → is_structural fault ≡ true
shape_structural place bytes fault n e = let it = (shape_just place bytes fault n).0 e in
    part_wrong_structural it.part fault (drop it.at bytes) it.shown it.wrong

-- what contents are wrong by
contents_wrong : (shape : Shape) (fault : RecordFault) → contents shape ≡ Err fault
    → ((fault ≡ faults.BadUtf8) × (is_text shape ≡ false))
    ⊎ ((fault ≡ faults.BadValue) × (is_text shape ≡ true) × (node_of shape ≡ None))
unfolding contents
contents_wrong shape fault e = by (is_text shape) (node_of shape) refl refl e
  where
    by : (text : Bool) (found : Option Node) → is_text shape ≡ text → node_of shape ≡ found
        → (if text then ok_or found faults.BadValue else Err faults.BadUtf8) ≡ Err fault
        → ((fault ≡ faults.BadUtf8) × (is_text shape ≡ false))
        ⊎ ((fault ≡ faults.BadValue) × (is_text shape ≡ true) × (node_of shape ≡ None))
    by false found t n e = let same : faults.BadUtf8 ≡ fault = cc e in inl (sym same, t)
    by true None t n e = let same : faults.BadValue ≡ fault = cc e in inr (sym same, t, n)
    by true (Some node) t n e = cc e

bad_contents : (shape : Shape) → is_text shape ≡ false → contents shape ≡ Err faults.BadUtf8
unfolding contents
bad_contents shape t = rw t refl

no_contents : (shape : Shape) → is_text shape ≡ true → node_of shape ≡ None → contents shape
    ≡ Err faults.BadValue
unfolding contents
no_contents shape t n = rw (t, n) refl

-- a fault of the structure or of the contents
record IsJudged (place : NodePlace) (bytes : List ℕ) (fault : RecordFault) (n : ℕ) : Type 0 where
  shape : Shape
  stands : shape_at place bytes ≡ whole shape n
  says : contents shape ≡ Err fault

node_wrong : (place : NodePlace) (bytes : List ℕ) (fault : RecordFault) (n : ℕ)
    → node_at place bytes ≡ wrong fault n → (shape_at place bytes ≡ wrong fault n)
    ⊎ IsJudged place bytes fault n
unfolding node_at
node_wrong place bytes fault n e = by (shape_at place bytes) refl e
  where
    judged_by : (shape : Shape) (k : ℕ) (v : Result Node RecordFault) → contents shape ≡ v
        → judged_whole v k ≡ wrong fault n → (k ≡ n) × (contents shape ≡ Err fault)
    judged_by shape k (Ok node) is e = cc e
    judged_by shape k (Err r) is e = let same : r ≡ fault = cc e in let size : k
        ≡ n = cc e in (size, is ∙ ap Err same)

    by : (v : Front Shape RecordFault) → shape_at place bytes ≡ v → judged contents v
        ≡ wrong fault n → (shape_at place bytes ≡ wrong fault n) ⊎ IsJudged place bytes fault n
    by begun is e = cc e
    by (wrong r k) is e = inl (carried (shape_at place bytes) (judged contents (wrong r k)) r fault
        k n is refl e)
    by (whole shape k) is e =
        let it = judged_by shape k (contents shape) refl e in
        inr (record { shape = shape; stands = is ∙ ap (whole shape) it.0; says = it.1 })

wrong_shape : (place : NodePlace) (bytes : List ℕ) (fault : RecordFault) (n : ℕ)
    → shape_at place bytes ≡ wrong fault n → node_at place bytes ≡ wrong fault n
unfolding node_at
wrong_shape place bytes fault n e = ap (judged contents) e

wrong_contents : (place : NodePlace) (bytes : List ℕ) (fault : RecordFault) (n : ℕ) (shape : Shape)
    → shape_at place bytes ≡ whole shape n → contents shape ≡ Err fault → node_at place bytes
    ≡ wrong fault n
unfolding node_at
wrong_contents place bytes fault n shape is says = ap (judged contents) is ∙
    ap (λ v. judged_whole v n) says

pub wrong_by_part : WrongByPart
wrong_by_part place bytes fault n no_text no_value =
    (λ e. to e, λ it. wrong_shape place bytes fault n ((shape_just place bytes fault n).1 it))
  where
    to : node_at place bytes ≡ wrong fault n → Caused (InRecord place) fault bytes n
    to e =
        elim (node_wrong place bytes fault n e) [
          | inl is ↦ (shape_just place bytes fault n).0 is
          | inr it ↦ elim (contents_wrong it.shape fault it.says) [
            | inl bad ↦ absurd (no_text bad.0)
            | inr bad ↦ absurd (no_value bad.0)
          ]
        ]

pub wrong_by_text : WrongByText
wrong_by_text place bytes n = (
  λ e. to e,
  λ it. wrong_contents place bytes faults.BadUtf8 n it.shape
      it.stands (bad_contents it.shape (text_is_bad it.shape it.text it.within it.bad)),
)
  where
    to : node_at place bytes ≡ wrong faults.BadUtf8 n → HasBadText place bytes n
    to e =
        elim (node_wrong place bytes faults.BadUtf8 n e) [
          | inl is ↦ let no = shape_structural place bytes faults.BadUtf8 n is in cc no
          | inr it ↦ elim (contents_wrong it.shape faults.BadUtf8 it.says) [
            | inl bad ↦ let found = bad_text it.shape bad.1 in record {
              shape = it.shape;
              stands = it.stands;
              text = found.0;
              within = found.1;
              bad =
                  found.2;
            }
            | inr bad ↦ let no = bad.0 in cc no
          ]
        ]

pub wrong_by_value : WrongByValue
wrong_by_value place bytes n = (
  λ e. to e,
  λ it. wrong_contents place bytes faults.BadValue n it.shape it.stands
      (no_contents it.shape (texts_are_good it.shape it.texts)
      (value_is_bad it.shape it.value it.within it.bad)),
)
  where
    to : node_at place bytes ≡ wrong faults.BadValue n → HasBadValue place bytes n
    to e =
        elim (node_wrong place bytes faults.BadValue n e) [
          | inl is ↦ let no = shape_structural place bytes faults.BadValue n is in cc no
          | inr it ↦ elim (contents_wrong it.shape faults.BadValue it.says) [
            | inl bad ↦ let no = bad.0 in cc no
            | inr bad ↦
                let found = bad_value it.shape bad.2 in
                record {
                  shape = it.shape;
                  stands = it.stands;
                  texts = good_texts it.shape bad.1;
                  value = found.0;
                  within = found.1;
                  bad = found.2;
                }
          ]
        ]
