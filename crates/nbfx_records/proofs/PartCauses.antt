-- What makes each part of a record wrong, from numbers up to the whole record.
use Rattle.std.proofs.Common.{◌≡◌, ℕ, ◌+◌, ◌*◌, ◌^◌, ◌<◌, ◌≤◌, Bool, true, false, not, ◌&&◌, ◌||◌}
use Rattle.std.proofs.Common.{◌⊎◌, ◌↔◌, List, [], ◌∷◌, length, take, drop, if◌then◌else◌, nat_lt}
use Rattle.std.proofs.Common.{nat_le, ◌==◌, Some, None, Option, sym, refl, ap, ◌∙◌, inl, inr, arith}
use Rattle.std.proofs.Common.{w32, le-ltb, lt-ltb, eqb-true, le-leb, leb-true}
use Rattle.std.{specs.Prelude.⊤, proofs.lemmas.Bool.cases_lt, specs.Int.from_le_bytes}
use Rattle.unit_streams.proofs.Parts.{then_begun, then_whole, then_wrong}
use Rattle.unit_streams.specs.Front.{begun, Front, whole, wrong}
use Rattle.unit_streams.specs.Parts.{a_byte, further, given, more, Reader, refuse, seen, some_bytes}
use Rattle.unit_streams.specs.Parts.{stop, ◌>>=◌}
use Rattle.multibyte_ints.proofs.{IntegerBytes.above_from, IntegerFacts.wrong_is}
use Rattle.multibyte_ints.specs.Integer.{int_at}
use Rattle.nbfx_values.specs.declared.content.ArrayKind.{ArrayKind}
use Rattle.nbfx_records.specs.declared.kinds.Body.{Body, TheVariants.Named, TheVariants.Qualified}
use Rattle.nbfx_records.specs.declared.kinds.Body.TheVariants.{Counted, Ending, Fixed, Listed}
use Rattle.nbfx_records.specs.declared.kinds.LengthForm.TheVariants.{FourBytes, OneByte, TwoBytes}
use Rattle.nbfx_records.specs.declared.kinds.{NameForm.NameForm, PrefixForm.PrefixForm}
use Rattle.nbfx_records.specs.declared.kinds.NameForm.TheVariants.{Identified, Inlined}
use Rattle.nbfx_records.specs.declared.kinds.PrefixForm.TheVariants.{Lettered, Prefixed, Unprefixed}
use Rattle.nbfx_records.specs.declared.kinds.{RecordKind.RecordKind, TextKind.TextKind}
use Rattle.nbfx_records.specs.declared.nodes.NameRef.TheVariants.{Id, Inline}
use Rattle.nbfx_records.specs.declared.nodes.{NodePlace.NodePlace, RecordFault.RecordFault}
use Rattle.nbfx_records.specs.declared.nodes.NodePlace.TheVariants.{AfterRoot, BeforeRoot, Within}
use Rattle.nbfx_records.specs.Causes.{Behind, cells_refused, cells_type, count, element_refused}
use Rattle.nbfx_records.specs.Causes.{element_type, InArray, InAttribute, InBody, InCells}
use Rattle.nbfx_records.specs.Causes.{InCellsOf, InElement, InElementOf, InItem, InList, InNamed}
use Rattle.nbfx_records.specs.Causes.{InPartOf, InParts, InPlaced, InPrefix, InRecord, InRecordOf}
use Rattle.nbfx_records.specs.Causes.{integer, InText, InTurn, InValue, InValueOf, IsBadInt}
use Rattle.nbfx_records.specs.Causes.{IsNegative, IsNone, item_refused, item_type, long_length, Now}
use Rattle.nbfx_records.specs.Causes.{part_refused, part_type, record_refused, record_type}
use Rattle.nbfx_records.specs.Causes.{value_refused, value_type}
use Rattle.nbfx_records.specs.Kinds.{array_kind, body_of, record_kind, width_of}
use Rattle.nbfx_records.specs.Shapes.{a_length, a_string, adds, an_integer, array_at, array_cells}
use Rattle.nbfx_records.specs.Shapes.{array_element, array_part, array_parts, array_shape}
use Rattle.nbfx_records.specs.Shapes.{array_turn, array_values, attribute_at, attributes}
use Rattle.nbfx_records.specs.Shapes.{begins_element, body_at, bytes_of, cells_of, cells_shape}
use Rattle.nbfx_records.specs.Shapes.{CellsShape, comments, content_at, counted_bytes}
use Rattle.nbfx_records.specs.Shapes.{counted_cells, declaration_at, declares, element_at}
use Rattle.nbfx_records.specs.Shapes.{element_of, ends_element, ends_list, given_or, has_text}
use Rattle.nbfx_records.specs.Shapes.{is_attribute, list_at, list_turn, misplaced, name_at}
use Rattle.nbfx_records.specs.Shapes.{named_by, named_shape, NamedShape, one, opens, placed}
use Rattle.nbfx_records.specs.Shapes.{prefix_at, qualified_by, record_at, repeats, said_length}
use Rattle.nbfx_records.specs.Shapes.{scalar_at, several, shape_at, turn_of, unless_misplaced}
use Rattle.nbfx_records.specs.Shapes.{value_at, value_of_kind}
use Rattle.nbfx_records.proofs.CauseFacts.{after_never, BranchOf, carried, leaf, never_wrong}
use Rattle.nbfx_records.proofs.CauseFacts.{Nowhere, refuses, then_never, unseen, wrong_as}
use Rattle.nbfx_records.proofs.CauseFacts.{wrong_both, wrong_many, wrong_seen, wrong_typed}
use Rattle.nbfx_records.proofs.{CauseFacts.WrongJust, CursorFacts.further_wrong}
use Rattle.nbfx_records.proofs.{ListFacts.nothing_turned, PartsFacts.nothing_parted}
use Rattle.nbfx_records.proofs.ShapeFronts.{reads_array_turn, reads_list_turn}
use Rattle.nbfx_records.specs.declared.kinds.RecordKind.TheVariants as records
use Rattle.nbfx_records.specs.declared.kinds.TextKind.TheVariants as texts
use Rattle.nbfx_records.specs.declared.nodes.RecordFault.TheVariants as faults

-- bytes are never wrong
given_never : {A : Type 0} (a : A) → WrongJust (given {R = RecordFault} a) Nowhere
given_never a = never_wrong (given a) (λ bytes fault n e. cc e)

bytes_never : (n : ℕ) → WrongJust (some_bytes {R = RecordFault} n) Nowhere
bytes_never n = never_wrong (some_bytes n) (λ bytes fault k e. by (nat_lt (length bytes) n) bytes
    fault k e)
  where
    by : (few : Bool) (bytes : List ℕ) (fault : RecordFault) (k : ℕ)
        → (if few then begun else whole (take n bytes) n) ≡ wrong fault k → ⊥
    by true bytes fault k e = cc e
    by false bytes fault k e = cc e

byte_never : WrongJust (a_byte {R = RecordFault}) Nowhere
byte_never = never_wrong a_byte by
  where
    by : (bytes : List ℕ) (fault : RecordFault) (n : ℕ) → a_byte bytes ≡ wrong fault n → ⊥
    by [] fault n e = cc e
    by (x ∷ bytes) fault n e = cc e

-- an integer
integer_by : (bytes : List ℕ) (fault : RecordFault) (n : ℕ) → (an_integer bytes ≡ wrong fault n)
    ↔ IsBadInt fault bytes n
integer_by bytes fault n = (λ e. to (int_at bytes) refl e, λ h. from h)
  where
    to : (v : Front ℕ ⊤) → int_at bytes ≡ v → seen (λ m. m) (λ _. faults.BadInt) v ≡ wrong fault n
        → IsBadInt fault bytes n
    to begun is e = cc e
    to (whole m k) is e = cc e
    to (wrong r k) is e =
        let above = above_from bytes r k is in
        let same : faults.BadInt ≡ fault = cc e in
        let size : k ≡ n = cc e in
        (sym same, sym size ∙ above.0, above.1)

    from : IsBadInt fault bytes n → an_integer bytes ≡ wrong fault n
    from (bad, five, above) = ap (seen (λ m. m) (λ _. faults.BadInt)) (wrong_is bytes above) ∙
        ap (λ r. wrong r 5) (sym bad) ∙ ap (wrong fault) (sym five)

integer_just : WrongJust an_integer (λ part bytes k. Now integer part k)
integer_just = leaf integer an_integer integer_by

string_just : WrongJust a_string (λ part bytes k. Now integer part k)
string_just = then_never an_integer some_bytes (λ part bytes k. Now integer part k) integer_just
    bytes_never

prefix_just : (form : PrefixForm) → WrongJust (prefix_at form)
    (λ part bytes k. InPrefix form part k)
prefix_just Unprefixed = given_never []
prefix_just (Lettered letter) = given_never (letter ∷ [])
prefix_just Prefixed = string_just

name_just : (form : NameForm) → WrongJust (name_at form) (λ part bytes k. Now integer part k)
name_just Inlined = wrong_seen Inline a_string (λ part bytes k. Now integer part k) string_just
name_just Identified = wrong_seen Id an_integer (λ part bytes k. Now integer part k) integer_just

-- a prefix and a name
element_just : (prefix : PrefixForm) (name : NameForm) → WrongJust (element_at prefix name)
    (InNamed prefix)
element_just prefix name =
    wrong_both (prefix_at prefix) (λ p bytes. seen (named_shape p) (λ fault. fault)
    (name_at name bytes)) (λ part bytes k. InPrefix prefix part k)
    (λ p part bytes k. Now integer part k)
    (prefix_just prefix)
    (λ p. wrong_seen (named_shape p) (name_at name) (λ part bytes k. Now integer part k)
    (name_just name))

declaration_just : (prefix : PrefixForm) (uri : NameForm) → WrongJust (declaration_at prefix uri)
    (InNamed prefix)
declaration_just prefix uri =
    wrong_both (prefix_at prefix)
    (λ p bytes. seen (declares p) (λ fault. fault) (name_at uri bytes))
    (λ part bytes k. InPrefix prefix part k) (λ p part bytes k. Now integer part k)
    (prefix_just prefix)
    (λ p. wrong_seen (declares p) (name_at uri) (λ part bytes k. Now integer part k)
    (name_just uri))

-- a length
abbrev checked : Bool → ℕ → Reader ℕ RecordFault
checked negative n = given_or faults.BadInt (if negative then None else Some n)

four_begun : (bytes : List ℕ) → length bytes < 4 → a_length FourBytes bytes ≡ begun
four_begun bytes lt = then_begun (some_bytes 4)
    (λ said. given_or faults.BadInt (said_length FourBytes said)) bytes
    (rw (lt-ltb (length bytes) 4 lt) refl)

four_whole : (bytes : List ℕ) → 4 ≤ length bytes → a_length FourBytes bytes
    ≡ further 4 (checked (nat_le (2 ^ 31) (from_le_bytes w32 (take 4 bytes)))
    (from_le_bytes w32 (take 4 bytes)) (drop 4 bytes))
four_whole bytes le = then_whole (some_bytes 4)
    (λ said. given_or faults.BadInt (said_length FourBytes said)) bytes (take 4 bytes) 4
    (rw (le-ltb (length bytes) 4 le) refl)

long_by : (bytes : List ℕ) (fault : RecordFault) (n : ℕ)
    → (a_length FourBytes bytes ≡ wrong fault n) ↔ IsNegative fault bytes n
long_by bytes fault n = (λ e. to e, λ h. from h)
  where
    said : ℕ
    said = from_le_bytes w32 (take 4 bytes)

    by : (m : ℕ) (negative : Bool) → nat_le (2 ^ 31) m ≡ negative
        → further 4 (checked negative m (drop 4 bytes)) ≡ wrong fault n → (fault ≡ faults.BadInt)
        × (n ≡ 4) × (2 ^ 31 ≤ m)
    by m true is e = let same : faults.BadInt ≡ fault = cc e in let size : 4
        ≡ n = cc e in (sym same, sym size, leb-true (2 ^ 31) m is)
    by m false is e = cc e

    to : a_length FourBytes bytes ≡ wrong fault n → IsNegative fault bytes n
    to e =
        elim (cases_lt (length bytes) 4) [
          | inl lt ↦ let none = four_begun bytes lt in cc
          | inr le ↦
              let it = by (from_le_bytes w32 (take 4 bytes))
              (nat_le (2 ^ 31) (from_le_bytes w32 (take 4 bytes))) refl
              (sym (four_whole bytes le) ∙ e) in
              (it.0, it.1, le, it.2)
        ]

    from : IsNegative fault bytes n → a_length FourBytes bytes ≡ wrong fault n
    from (bad, four, le, above) =
        four_whole bytes le ∙
        ap (λ negative. further 4 (checked negative (from_le_bytes w32 (take 4 bytes))
        (drop 4 bytes))) (le-leb (2 ^ 31) (from_le_bytes w32 (take 4 bytes)) above)
        ∙ ap (λ r. wrong r 4) (sym bad) ∙ ap (wrong fault) (sym four)

long_just : WrongJust (a_length FourBytes) (λ part bytes k. Now long_length part k)
long_just = leaf long_length (a_length FourBytes) long_by

-- one value that is no list
abbrev IsOne : Body → Type 0
IsOne Listed = ⊥
IsOne Ending = ⊥
IsOne _ = Unit {0}

body_just : (kind : TextKind) (body : Body) → IsOne body → WrongJust (body_at kind body)
    (InBody body)
body_just kind (Fixed n) is = wrong_seen (bytes_of kind) (some_bytes n) Nowhere (bytes_never n)
body_just kind (Counted OneByte) is =
    wrong_seen (bytes_of kind) (counted_bytes OneByte) Nowhere
    (then_never (a_length OneByte) some_bytes Nowhere
    (then_never (some_bytes 1) (λ said. given_or faults.BadInt (said_length OneByte said)) Nowhere
    (bytes_never 1) (λ said. given_never _)) bytes_never)
body_just kind (Counted TwoBytes) is =
    wrong_seen (bytes_of kind) (counted_bytes TwoBytes) Nowhere
    (then_never (a_length TwoBytes) some_bytes Nowhere
    (then_never (some_bytes 2) (λ said. given_or faults.BadInt (said_length TwoBytes said)) Nowhere
    (bytes_never 2) (λ said. given_never _)) bytes_never)
body_just kind (Counted FourBytes) is =
    wrong_seen (bytes_of kind) (counted_bytes FourBytes) (λ part bytes k. Now long_length part k)
    (then_never (a_length FourBytes) some_bytes (λ part bytes k. Now long_length part k) long_just
    bytes_never)
body_just kind Named is = wrong_seen named_by an_integer (λ part bytes k. Now integer part k)
    integer_just
body_just kind Qualified is =
    after_never a_byte (λ letter bytes. seen (qualified_by letter) (λ fault. fault)
    (an_integer bytes)) (λ letter part bytes k. Now integer part k) byte_never
    (λ letter. wrong_seen (qualified_by letter) an_integer (λ part bytes k. Now integer part k)
    integer_just)
body_just kind Listed is = absurd is
body_just kind Ending is = absurd is

-- a list
turn_branch : (may_close : Bool) (k : Option RecordKind) → BranchOf (item_refused may_close k)
    (turn_of may_close k) (InItem k)
turn_branch may_close None = refuses faults.UnknownNode
turn_branch may_close (Some (records.Text texts.EndList false)) = inr
    (refl, given_never (stop false))
turn_branch true (Some (records.Text texts.EndList true)) = inr (refl, given_never (stop true))
turn_branch false (Some (records.Text texts.EndList true)) = refuses faults.OutOfPlace
turn_branch may_close (Some (records.Text texts.StartList false)) = refuses faults.OutOfPlace
turn_branch may_close (Some (records.Text texts.StartList true)) = refuses faults.OutOfPlace
turn_branch may_close (Some (records.Text kind false)) = inr (
  refl,
  wrong_seen more (scalar_at kind) (InBody (body_of kind))
      (body_just kind (body_of kind) tt),
)
turn_branch may_close (Some (records.Text kind true)) = refuses faults.OutOfPlace
turn_branch may_close (Some _) = refuses faults.OutOfPlace

turn_just : (may_close : Bool) → WrongJust (list_turn may_close) (InTurn may_close)
turn_just may_close = wrong_typed (item_type may_close) (λ fault bytes m h. h)
    (λ fault bytes m h. h) (λ byte. turn_of may_close (record_kind byte))
    (λ byte. InItem (record_kind byte)) (λ byte. turn_branch may_close (record_kind byte))

list_just : (may_close : Bool) → WrongJust (list_at may_close) (InList may_close)
list_just may_close = wrong_many (list_turn may_close) (reads_list_turn may_close)
    (nothing_turned may_close) (InTurn may_close) (turn_just may_close)

-- an attribute
value_branch : (k : Option RecordKind) → BranchOf (value_refused k) (value_of_kind k) (InValueOf k)
value_branch None = refuses faults.UnknownNode
value_branch (Some (records.Text texts.EndList false)) = refuses faults.OutOfPlace
value_branch (Some (records.Text texts.EndList true)) = refuses faults.OutOfPlace
value_branch (Some (records.Text texts.StartList false)) = inr
    (refl, wrong_seen (λ list. several list.items) (list_at false) (InList false) (list_just false))
value_branch (Some (records.Text texts.StartList true)) = refuses faults.OutOfPlace
value_branch (Some (records.Text kind false)) = inr (
  refl,
  wrong_seen one (scalar_at kind) (InBody (body_of kind))
      (body_just kind (body_of kind) tt),
)
value_branch (Some (records.Text kind true)) = refuses faults.OutOfPlace
value_branch (Some _) = refuses faults.OutOfPlace

value_just : WrongJust value_at InValue
value_just = wrong_typed value_type (λ fault bytes m h. h) (λ fault bytes m h. h)
    (λ byte. value_of_kind (record_kind byte)) (λ byte. InValueOf (record_kind byte))
    (λ byte. value_branch (record_kind byte))

attribute_just : (prefix : PrefixForm) (name : NameForm) → WrongJust (attribute_at prefix name)
    (InAttribute prefix name)
attribute_just prefix name =
    wrong_both (prefix_at prefix) (λ p. name_at name >>= λ n bytes. seen (attributes p n)
    (λ fault. fault) (value_at bytes)) (λ part bytes k. InPrefix prefix part k)
    (λ p part rest i. Now integer part i ⊎ Behind (name_at name)
    (λ _ behind h. InValue part behind h) rest i) (prefix_just prefix)
    (λ p. wrong_both (name_at name) (λ n bytes. seen (attributes p n) (λ fault. fault)
    (value_at bytes)) (λ part bytes k. Now integer part k) (λ n. InValue) (name_just name)
    (λ n. wrong_seen (attributes p n) value_at InValue value_just))

-- an array
array_element_branch : (k : Option RecordKind) → BranchOf (element_refused k) (element_of k)
    (InElementOf k)
array_element_branch None = refuses faults.UnknownNode
array_element_branch (Some (records.Element prefix name)) = inr (refl, element_just prefix name)
array_element_branch (Some _) = refuses faults.BadArray

array_element_just : WrongJust array_element InElement
array_element_just = wrong_typed element_type (λ fault bytes m h. h) (λ fault bytes m h. h)
    (λ byte. element_of (record_kind byte)) (λ byte. InElementOf (record_kind byte))
    (λ byte. array_element_branch (record_kind byte))

part_branch : (k : Option RecordKind) → BranchOf (part_refused k) (array_part k) (InPartOf k)
part_branch None = refuses faults.UnknownNode
part_branch (Some (records.Attribute prefix name)) = inr (
  refl,
  wrong_seen more (attribute_at prefix name) (InAttribute prefix name)
      (attribute_just prefix name),
)
part_branch (Some (records.Declaration prefix uri)) = inr (
  refl,
  wrong_seen more (declaration_at prefix uri) (InNamed prefix)
      (declaration_just prefix uri),
)
part_branch (Some records.EndElement) = inr (refl, given_never (stop tt))
part_branch (Some _) = refuses faults.BadArray

parts_just : WrongJust array_parts InParts
parts_just =
    wrong_many array_turn reads_array_turn nothing_parted _
    (wrong_typed part_type (λ fault bytes m h. h) (λ fault bytes m h. h)
    (λ byte. array_part (record_kind byte)) (λ byte. InPartOf (record_kind byte))
    (λ byte. part_branch (record_kind byte)))

count_by : (kind : ArrayKind) (bytes : List ℕ) (fault : RecordFault) (n : ℕ)
    → (counted_cells kind bytes ≡ wrong fault n) ↔ (IsBadInt fault bytes n ⊎ IsNone fault bytes n)
count_by kind bytes fault n = (λ e. to (int_at bytes) refl e, λ h. from h)
  where
    values : ℕ → Reader CellsShape RecordFault
    values m behind = seen (cells_shape kind m) (λ fault. fault) (array_values kind m behind)

    read : (m j : ℕ) → int_at bytes ≡ whole m j → an_integer bytes ≡ whole m j
    read m j is = ap (seen (λ x. x) (λ _. faults.BadInt)) is

    none_of : (m : ℕ) (none : Bool) (j : ℕ) → (m == 0) ≡ none → (behind : List ℕ)
        → further j
        (seen (cells_shape kind m) (λ fault. fault)
        ((if none then refuse faults.BadArray else some_bytes (m * width_of kind)) behind))
        ≡ wrong fault n
        → (m ≡ 0) × (fault ≡ faults.BadArray) × (n ≡ j)
    none_of m true j is behind e = let same : faults.BadArray ≡ fault = cc e in let size : j + 0
        ≡ n = cc e in (eqb-true m 0 is, sym same, omega (arith, size))
    none_of m false j is behind e =
        let w = further_wrong j _ fault n e in absurd
        ((bytes_never (m * width_of kind) behind fault w.0).0
        (unseen (cells_shape kind m) (some_bytes (m * width_of kind) behind) fault w.0 w.1)).come

    to : (v : Front ℕ ⊤) → int_at bytes ≡ v → counted_cells kind bytes ≡ wrong fault n
        → IsBadInt fault bytes n ⊎ IsNone fault bytes n
    to begun is e = let none = then_begun an_integer (λ m. values m) bytes
        (ap (seen (λ x. x) (λ _. faults.BadInt)) is) in cc
    to (wrong r k) is e =
        let bad = ap (seen (λ x. x) (λ _. faults.BadInt)) is in
        inl ((integer_by bytes fault n).0 (carried (an_integer bytes) (counted_cells kind bytes)
        faults.BadInt fault k n bad (then_wrong an_integer (λ m. values m) bytes faults.BadInt k
        bad) e))
    to (whole m j) is e =
        let it = none_of m (m == 0) j refl (drop j bytes)
        (sym (then_whole an_integer (λ m. values m) bytes m j (read m j is)) ∙ e) in
        inr (it.1, is ∙ ap (λ x. whole x j) it.0 ∙ ap (whole 0) (sym it.2))

    from : IsBadInt fault bytes n ⊎ IsNone fault bytes n → counted_cells kind bytes ≡ wrong fault n
    from (inl bad) = then_wrong an_integer (λ m. values m) bytes fault n
        ((integer_by bytes fault n).1 bad)
    from (inr (bad, is)) =
        let place : n + 0 ≡ n = omega arith in
        then_whole an_integer (λ m. values m) bytes 0 n (read 0 n is) ∙ ap (λ r. wrong r (n + 0))
        (sym bad) ∙ ap (wrong fault) place

cells_branch : (k : Option ArrayKind) → BranchOf (cells_refused k) (cells_of k)
    (λ part bytes i. InCellsOf k part i)
cells_branch None = refuses faults.BadArray
cells_branch (Some kind) = inr (refl, leaf count (counted_cells kind) (count_by kind))

cells_just : WrongJust array_cells InCells
cells_just = wrong_typed cells_type (λ fault bytes m h. h) (λ fault bytes m h. h)
    (λ byte. cells_of (array_kind byte)) (λ byte part bytes i. InCellsOf (array_kind byte) part i)
    (λ byte. cells_branch (array_kind byte))

array_just : WrongJust array_at InArray
unfolding array_at
array_just =
    wrong_both array_element (λ it. array_parts >>= λ parts bytes. seen (array_shape it parts.items)
    (λ fault. fault) (array_cells bytes)) InElement
    (λ it part rest i. InParts part rest i ⊎ Behind array_parts
    (λ _ behind h. InCells part behind h) rest i) array_element_just
    (λ it. wrong_both array_parts (λ parts bytes. seen (array_shape it parts.items) (λ fault. fault)
    (array_cells bytes)) InParts (λ parts. InCells) parts_just
    (λ parts. wrong_seen (array_shape it parts.items) array_cells InCells cells_just))

-- a record behind its type byte; the end of a list begins none
text_just : (kind : TextKind) (ends : Bool) → ends_list (records.Text kind ends) ≡ false
    → WrongJust (content_at kind ends) (InText true kind)
text_just texts.StartList ends plain = wrong_seen (λ list. has_text (several list.items) list.last)
    (list_at true) (InList true) (list_just true)
text_just texts.EndList ends plain = cc plain
text_just kind ends plain = wrong_seen (λ scalar. has_text (one scalar) ends) (scalar_at kind)
    (InBody (body_of kind)) (body_just kind (body_of kind) tt)

record_just : (kind : RecordKind) → ends_list kind ≡ false → WrongJust (record_at kind)
    (InRecordOf kind)
unfolding record_at
record_just records.EndElement plain = given_never ends_element
record_just records.Comment plain = wrong_seen comments a_string
    (λ part bytes k. Now integer part k) string_just
record_just records.Array plain = wrong_seen repeats array_at InArray array_just
record_just (records.Attribute prefix name) plain = wrong_seen adds (attribute_at prefix name)
    (InAttribute prefix name) (attribute_just prefix name)
record_just (records.Declaration prefix uri) plain = wrong_seen adds (declaration_at prefix uri)
    (InNamed prefix) (declaration_just prefix uri)
record_just (records.Element prefix name) plain = wrong_seen
    (λ (it : NamedShape). begins_element it.prefix it.name) (element_at prefix name)
    (InNamed prefix) (element_just prefix name)
record_just (records.Text kind ends) plain = text_just kind ends plain

-- what may begin a record is no end of a list
no_end : (place : NodePlace) (kind : RecordKind) → misplaced place kind ≡ None → ends_list kind
    ≡ false
no_end BeforeRoot (records.Text kind ends) e = cc e
no_end BeforeRoot records.EndElement e = refl
no_end BeforeRoot records.Comment e = refl
no_end BeforeRoot records.Array e = refl
no_end BeforeRoot (records.Attribute _ _) e = refl
no_end BeforeRoot (records.Declaration _ _) e = refl
no_end BeforeRoot (records.Element _ _) e = refl
no_end (Within may deeper) kind e = by (is_attribute kind && not may) (ends_list kind)
    (opens kind && not deeper) e
  where
    by : (attribute ends deep : Bool)
        → (if attribute || ends then Some faults.OutOfPlace else if deep then Some faults.TooDeep
        else None) ≡ None → ends ≡ false
    by true ends deep e = cc e
    by false true deep e = cc e
    by false false deep e = refl
no_end AfterRoot kind e = cc e

may_branch : (place : NodePlace) (kind : RecordKind) (m : Option RecordFault) → misplaced place kind
    ≡ m
    → BranchOf m (unless_misplaced m kind) (λ part bytes k. (m ≡ None) × InRecordOf kind part bytes
    k)
may_branch place kind (Some fault) is = inl (fault, refl, λ bytes. refl, λ part bytes k h. cc h.0)
may_branch place kind None is = inr (
  refl,
  wrong_as (InRecordOf kind) (λ part bytes k. (None ≡ None) × InRecordOf kind part bytes k)
      (λ part bytes k h. (refl, h)) (λ part bytes k h. h.1)
      (record_just kind (no_end place kind is)),
)

placed_branch : (place : NodePlace) (k : Option RecordKind) → BranchOf (record_refused place k)
    (placed place k) (InPlaced place k)
placed_branch AfterRoot None = refuses faults.TrailingBytes
placed_branch AfterRoot (Some kind) = inl (
  faults.TrailingBytes,
  refl,
  λ bytes. refl,
  λ part bytes k
      h. cc h.0,
)
placed_branch BeforeRoot None = refuses faults.UnknownNode
placed_branch BeforeRoot (Some kind) = may_branch BeforeRoot kind (misplaced BeforeRoot kind) refl
placed_branch (Within may deeper) None = refuses faults.UnknownNode
placed_branch (Within may deeper) (Some kind) = may_branch (Within may deeper) kind
    (misplaced (Within may deeper) kind) refl

pub shape_just : (place : NodePlace) → WrongJust (shape_at place) (InRecord place)
unfolding shape_at
shape_just place = wrong_typed (record_type place) (λ fault bytes m h. h) (λ fault bytes m h. h)
    (λ byte. placed place (record_kind byte)) (λ byte. InPlaced place (record_kind byte))
    (λ byte. placed_branch place (record_kind byte))
