-- The lines of documents are read as these documents.
use Rattle.std.proofs.Common.{◌≡◌, ℕ, suc, ◌+◌, Bool, true, false, not, ◌&&◌, List, [], ◌∷◌, ◌++◌}
use Rattle.std.proofs.Common.{map, length, if◌then◌else◌, Some, None, Ok, Err, Option, Result, sym}
use Rattle.std.proofs.Common.{refl, ap, ◌∙◌, subst, append_assoc, append-nil, arith, length-append}
use Rattle.std.{proofs.lemmas.Bool.and_parts, specs.List.list_all, specs.Str.is_utf8}
use Rattle.nbfx_values.proofs.Positions.{passed, position_from-none, position_from-valid}
use Rattle.nbfx_values.proofs.{Positions.position_of-push, Walks.document-position}
use Rattle.nbfx_values.specs.declared.content.{ArrayItem.ArrayItem, ArrayKind.ArrayKind, Item.Item}
use Rattle.nbfx_values.specs.declared.content.AttrItem.{AttrItem, TheVariants.Attr as AttrOn}
use Rattle.nbfx_values.specs.declared.content.AttrItem.TheVariants.{Xmlns as DeclaresOn}
use Rattle.nbfx_values.specs.declared.content.Item.TheVariants.{Array, Attr, Close, Comment, Start}
use Rattle.nbfx_values.specs.declared.content.Item.TheVariants.{Text as TextItem, Xmlns}
use Rattle.nbfx_values.specs.{declared.position.Position.Position, Items.is_valid_item}
use Rattle.nbfx_values.specs.declared.position.Position.TheVariants.{After, Before, Within}
use Rattle.nbfx_values.specs.declared.scalars.{Scalar.Scalar, Value.Value}
use Rattle.nbfx_values.specs.declared.scalars.Scalar.TheVariants.{Bytes, DateTime, Decimal, Double}
use Rattle.nbfx_values.specs.declared.scalars.Scalar.TheVariants.{Float, Number, QName, Text}
use Rattle.nbfx_values.specs.declared.scalars.Scalar.TheVariants.{TimeSpan, Truth, UniqueId, Uuid}
use Rattle.nbfx_values.specs.declared.scalars.Value.TheVariants.{List as ListOf, One}
use Rattle.nbfx_values.specs.{Documents.IsDocument, Scalars.is_valid_scalar, Scalars.is_valid_value}
use Rattle.nbfx_values.specs.Items.{are_texts, fits_kind, is_valid_array, is_valid_attribute}
use Rattle.nbfx_values.specs.Positions.{moved, next_position, position_from, position_of}
use Rattle.line_notation.specs.{declared.line.Line.Line, Forms.text, Forms.values}
use Rattle.line_notation.specs.declared.reader.LineKind.{LineKind, TheVariants.BadText}
use Rattle.line_notation.specs.Forms.{array, attr, close, comment, Form, form_of, IsLine, ns, start}
use Rattle.line_notation.specs.Judging.{are_in_range, are_scalars, begun_array, has_good_text}
use Rattle.line_notation.specs.Judging.{have_good_texts, judged, scalars_of, value_said}
use Rattle.line_notation.specs.LineReaderState.{answer_of, document_of, going, kind_of, led, on}
use Rattle.line_notation.specs.LineReaderState.{outcome, outcome_of, Placed, placed, placed_array}
use Rattle.line_notation.specs.LineReaderState.{placed_at, standing_of, with_attribute}
use Rattle.line_notation.specs.Lines.{AreBlank, AreLines, AreLinesOf, attribute_form, forms_of}
use Rattle.line_notation.specs.Lines.{item_forms, lines_of}
use Rattle.line_notation.specs.Values.{written_scalars, written_value}
use Rattle.line_notation.proofs.{FormFacts.line-read, GatherFacts.some_same}
use Rattle.line_notation.proofs.{PutForms.lines_of-lines, ValidFacts.array_parts}
use Rattle.line_notation.proofs.StepFacts.{counted-then, Leads, leads-nowhere, leads-then}
use Rattle.line_notation.proofs.StepFacts.{line-goes_on, line-leads}
use Rattle.line_notation.specs.declared.line.Line.TheVariants as says

-- what a line of a form leads to
pub outcome-form : (items : List Item) (open_array : Option ArrayItem) (line : List ℕ) (form : Form)
    → form_of line ≡ Some form
    → outcome items open_array line ≡ led items open_array (judged (kind_of open_array) form)
outcome-form [] None [] form e = absurd cc
outcome-form [] None (b ∷ line) form e = ap (outcome_of [] None) e
outcome-form [] (Some a) line form e = ap (outcome_of [] (Some a)) e
outcome-form (item ∷ items) open_array line form e = ap (outcome_of (item ∷ items) open_array) e

outcome-said : (items : List Item) (open_array : Option ArrayItem) (line : List ℕ) (form : Form)
    (one : Line) → IsLine form line → judged (kind_of open_array) form ≡ Ok one
    → outcome items open_array line ≡ placed items open_array one
outcome-said items open_array line form one h e = outcome-form items open_array line form
    (line-read form line h) ∙ ap (led items open_array) e

-- values that records can hold are refused for nothing
valid-good : (s : Scalar) → is_valid_scalar s ≡ true → has_good_text s ≡ true
valid-good (Number n) h = refl
valid-good (Truth truth) h = refl
valid-good (Float bits) h = refl
valid-good (Double bits) h = refl
valid-good (Decimal d) h = refl
valid-good (DateTime pattern) h = refl
valid-good (TimeSpan span) h = refl
valid-good (Text bytes) h = h
valid-good (Bytes bytes) h = refl
valid-good (UniqueId bytes) h = refl
valid-good (Uuid bytes) h = refl
valid-good (QName letter name) h = (and_parts _ (is_utf8 name) h).1

scalars-same : (ss : List Scalar) → scalars_of (written_scalars ss) ≡ ss
scalars-same [] = refl
scalars-same (s ∷ ss) = ap (λ l. s ∷ l) (scalars-same ss)

scalars-tested : (test : Scalar → Bool) (ss : List Scalar) → are_scalars test (written_scalars ss)
    ≡ list_all test ss
scalars-tested test [] = refl
scalars-tested test (s ∷ ss) = ap (λ t. test s && t) (scalars-tested test ss)

scalars-good : (ss : List Scalar) → list_all is_valid_scalar ss ≡ true → have_good_texts
    (written_scalars ss) ≡ true
scalars-good [] h = refl
scalars-good (s ∷ ss) h =
    let p = and_parts (is_valid_scalar s) (list_all is_valid_scalar ss) h in
    rw (valid-good s p.0, scalars-good ss p.1) refl

value-good : (v : Value) → is_valid_value v ≡ true → have_good_texts (written_value v) ≡ true
value-good (One s) h = rw (valid-good s h) refl
value-good (ListOf ss) h = rw (scalars-good ss h) refl

value-range : (v : Value) → is_valid_value v ≡ true → are_in_range (written_value v) ≡ true
value-range (One s) h = rw h refl
value-range (ListOf ss) h = rw (scalars-tested is_valid_scalar ss, h) refl

value-same : (v : Value) → value_said (written_value v) ≡ v
value-same (One s) = refl
value-same (ListOf ss) = ap ListOf (scalars-same ss)

-- so a form that records can hold says its item
texts-said : (kind : Option ArrayKind) (first second : List ℕ) (one : Line) → are_texts first second
    ≡ true
    → ◌≡◌ {A = Result Line LineKind} (if not (are_texts first second) then Err BadText else Ok one)
    (Ok one)
texts-said kind first second one h = rw h refl

attribute-said : (kind : Option ArrayKind) (prefix local : List ℕ) (value : Value)
    → are_texts prefix local ≡ true → is_valid_value value ≡ true
    → judged kind (attr prefix local (written_value value))
    ≡ Ok (says.Item (Attr prefix local value))
attribute-said kind prefix local value texts valid =
    rw (texts, value-good value valid, value-range value valid)
    (ap (λ v. Ok (says.Item (Attr prefix local v))) (value-same value))

text-said : (kind : Option ArrayKind) (value : Value) → is_valid_value value ≡ true
    → judged kind (text (written_value value)) ≡ Ok (says.Item (TextItem value))
text-said kind value valid = rw (value-good value valid, value-range value valid)
    (ap (λ v. Ok (says.Item (TextItem v))) (value-same value))

comment-said : (kind : Option ArrayKind) (bytes : List ℕ) → is_utf8 bytes ≡ true
    → judged kind (comment bytes) ≡ Ok (says.Item (Comment bytes))
comment-said kind bytes h = rw h refl

values-said : (kind : ArrayKind) (ss : List Scalar) → list_all (fits_kind kind) ss ≡ true
    → list_all is_valid_scalar ss ≡ true
    → judged (Some kind) (values (written_scalars ss)) ≡ Ok (says.Values ss)
values-said kind ss fit valid = rw (scalars-good ss valid, scalars-tested (fits_kind kind) ss, fit)
    (ap (λ l. Ok (says.Values l)) (scalars-same ss))

-- the lines of an array's attributes
abbrev with_attributes : ArrayItem → List AttrItem → ArrayItem
with_attributes a [] = a
with_attributes a (one ∷ more) = with_attributes (with_attribute a one) more

attribute-leads : (n : ℕ) (items : List Item) (a : ArrayItem) (one : AttrItem) (line : List ℕ)
    → is_valid_attribute one ≡ true → IsLine (attribute_form one) line
    → Leads (going n items (Some a)) (line ∷ []) (going (n + 1) items (Some (with_attribute a one)))
    []
attribute-leads n items a (DeclaresOn prefix uri) line h is =
    line-goes_on n items items (Some a) (Some (with_attribute a (DeclaresOn prefix uri))) line
    (outcome-said items (Some a) line (ns prefix uri) (says.Item (Xmlns prefix uri)) is
    (texts-said (Some a.kind) prefix uri (says.Item (Xmlns prefix uri)) h))
attribute-leads n items a (AttrOn prefix local value) line h is =
    let p = and_parts (are_texts prefix local) (is_valid_value value) h in
    line-goes_on n items items (Some a) (Some (with_attribute a (AttrOn prefix local value))) line
    (outcome-said items (Some a) line (attr prefix local (written_value value))
    (says.Item (Attr prefix local value)) is (attribute-said (Some a.kind) prefix local value p.0
    p.1))

leads-same : (n : ℕ) (items : List Item) (opened : Option ArrayItem) (lines : List (List ℕ)) (m : ℕ)
    (docs : List (List Item)) → n ≡ m
    → Leads (going n items opened) lines (going n items opened) docs → Leads (going n items opened)
    lines (going m items opened) docs
leads-same n items opened lines m docs e h = subst
    (λ k. Leads (going n items opened) lines (going k items opened) docs) e h

attributes-lead : (ats : List AttrItem) (n : ℕ) (items : List Item) (a : ArrayItem)
    (lines : List (List ℕ)) → list_all is_valid_attribute ats ≡ true
    → AreLines (map attribute_form ats) lines → Leads (going n items (Some a)) lines
    (going (n + length lines) items (Some (with_attributes a ats))) []
attributes-lead [] n items a lines valid h =
    subst (λ l. Leads (going n items (Some a)) l (going (n + length l) items (Some a)) []) (sym h)
    (leads-same n items (Some a) [] (n + 0) [] (omega arith)
    (leads-nowhere (going n items (Some a))))
attributes-lead (one ∷ ats) n items a lines valid (line, rest, e, is, h) =
    let p = and_parts (is_valid_attribute one) (list_all is_valid_attribute ats) valid in
    let first = attribute-leads n items a one line p.0 is in
    let others = attributes-lead ats (n + 1) items (with_attribute a one) rest p.1 h in
    let count : n + 1 + length rest ≡ n + suc (length rest) = omega arith in
    let opened = Some (with_attributes (with_attribute a one) ats) in
    subst (λ l. Leads (going n items (Some a)) l (going (n + length l) items opened) []) (sym e)
    (subst (λ m. Leads (going n items (Some a)) (line ∷ rest) (going m items opened) []) count
    (leads-then (going n items (Some a)) (going (n + 1) items (Some (with_attribute a one)))
    (going (n + 1 + length rest) items opened) (line ∷ []) rest [] [] first others))

attributes-are : (a : ArrayItem) (ats : List AttrItem) → with_attributes a ats
    ≡ record a { attrs = a.attrs ++ ats }
attributes-are a [] = ap (λ l. record a { attrs = l }) (sym (append-nil a.attrs))
attributes-are a (one ∷ ats) = attributes-are (with_attribute a one) ats ∙
    ap (λ l. record a { attrs = l }) (append_assoc a.attrs (one ∷ []) ats)

-- lines in two parts
record AreParted (forms more : List Form) (lines : List (List ℕ)) : Type 0 where
  first : List (List ℕ)
  rest : List (List ℕ)
  lines_are : lines ≡ first ++ rest
  first_are : AreLines forms first
  rest_are : AreLines more rest

parted : (forms more : List Form) (lines : List (List ℕ)) → AreLines (forms ++ more) lines
    → AreParted forms more lines
parted [] more lines h = record {
  first = [];
  rest = lines;
  lines_are = refl;
  first_are = refl;
  rest_are = h;
}
parted (form ∷ forms) more lines (line, left, e, is, h) =
    let p = parted forms more left h in
    record {
      first = line ∷ p.first;
      rest = p.rest;
      lines_are = e ∙ ap (λ l. line ∷ l) p.lines_are;
      first_are = (line, p.first, refl, is, p.first_are);
      rest_are = p.rest_are;
    }

-- where an item may stand
record MayStand (p q : Position) (x : Item) : Type 0 where
  valid : is_valid_item x ≡ true
  moves : moved p x ≡ Some q

may_stand : (p q : Position) (x : Item) → next_position p x ≡ Some q → MayStand p q x
may_stand p q x e = go (is_valid_item x) refl e
  where
    go : (t : Bool) → is_valid_item x ≡ t → (if t then moved p x else None) ≡ Some q
        → MayStand p q x
    go true f e = record { valid = f; moves = e }
    go false f e = absurd cc

-- what an item's lines lead to, by the position behind the item
abbrev LeadTo : ℕ → List Item → Position → Item → List (List ℕ) → Type 0
LeadTo n items q x own =
    let r = placed_at (Some q) (items ++ x ∷ []) in
    Leads (going n items None) own (standing_of (n + length own) r)
    (document_of (answer_of (n + length own) r) ++ [])

single-leads : (n : ℕ) (items : List Item) (p q : Position) (x : Item) (form : Form)
    (own : List (List ℕ)) → position_of items ≡ Some p → next_position p x ≡ Some q
    → judged None form ≡ Ok (says.Item x) → AreLines (form ∷ []) own → LeadTo n items q x own
single-leads n items p q x form own here next said_is (line, rest, e, is, none) =
    let behind : position_of (items ++ x ∷ []) ≡ Some q = position_of-push items x p here ∙ next in
    let led_to : outcome items None line ≡ placed_at (Some q) (items ++ x ∷ []) =
    outcome-said items None line form (says.Item x) is said_is ∙
    ap (λ o. placed_at o (items ++ x ∷ [])) behind in
    subst (λ l. LeadTo n items q x l) (sym (e ∙ ap (λ l. line ∷ l) none))
    (line-leads n items None line (placed_at (Some q) (items ++ x ∷ [])) led_to)

-- an array's lines
begun-leads : (n : ℕ) (items : List Item) (p q : Position) (a : ArrayItem) (line : List ℕ)
    → position_of items ≡ Some p → MayStand p q (Array a)
    → IsLine (array a.kind a.prefix a.local) line → Leads (going n items None) (line ∷ [])
    (going (n + 1) items (Some (begun_array a.kind a.prefix a.local))) []
begun-leads n items p q a line here may is =
    line-goes_on n items items None (Some (begun_array a.kind a.prefix a.local)) line
    (outcome-said items None line (array a.kind a.prefix a.local)
    (says.Array (begun_array a.kind a.prefix a.local)) is
    (texts-said None a.prefix a.local (says.Array (begun_array a.kind a.prefix a.local))
    (array_parts a may.valid).texts) ∙ within p may.moves here)
  where
    within : (p : Position) → moved p (Array a) ≡ Some q → position_of items ≡ Some p
        → placed items None (says.Array (begun_array a.kind a.prefix a.local))
        ≡ Ok (on items (Some (begun_array a.kind a.prefix a.local)))
    within Before e here = absurd cc
    within (Within inner attributes) e here =
        ap (λ o. placed_array o items (begun_array a.kind a.prefix a.local)) here
    within After e here = absurd cc

values-lead : (n : ℕ) (items : List Item) (p q : Position) (a : ArrayItem) (line : List ℕ)
    → position_of items ≡ Some p → next_position p (Array a) ≡ Some q
    → is_valid_array a ≡ true → IsLine (values (written_scalars a.values)) line
    → Leads (going n items (Some (record a { values = [] }))) (line ∷ [])
    (standing_of (n + 1) (placed_at (Some q) (items ++ Array a ∷ [])))
    (document_of (answer_of (n + 1) (placed_at (Some q) (items ++ Array a ∷ []))) ++ [])
values-lead n items p q a line here next valid is =
    let parts = array_parts a valid in
    let behind : position_of (items ++ Array a ∷ []) ≡ Some q = position_of-push items (Array a) p
    here ∙ next in
    line-leads n items (Some (record a { values = [] })) line
    (placed_at (Some q) (items ++ Array a ∷ []))
    (outcome-said items (Some (record a { values = [] })) line (values (written_scalars a.values))
    (says.Values a.values) is (values-said a.kind a.values parts.fit parts.valid)
    ∙ ap (λ o. placed_at o (items ++ Array a ∷ [])) behind)

array-leads : (n : ℕ) (items : List Item) (p q : Position) (a : ArrayItem) (own : List (List ℕ))
    → position_of items ≡ Some p → next_position p (Array a) ≡ Some q
    → AreLines (item_forms (Array a)) own → LeadTo n items q (Array a) own
array-leads n items p q a own here next (line, rest, e, is, h) =
    let may = may_stand p q (Array a) next in
    let parts = array_parts a may.valid in
    let s = parted (map attribute_form a.attrs) (values (written_scalars a.values) ∷ []) rest h in
    inner (begun-leads n items p q a line here may is) s
    (attributes-lead a.attrs (n + 1) items (begun_array a.kind a.prefix a.local) s.first
    parts.attributes s.first_are) s.rest_are may.valid
  where
    begun : ArrayItem
    begun = begun_array a.kind a.prefix a.local

    whole : with_attributes begun a.attrs ≡ record a { values = [] }
    whole = attributes-are begun a.attrs

    inner : Leads (going n items None) (line ∷ []) (going (n + 1) items (Some begun)) []
        → (s : AreParted (map attribute_form a.attrs) (values (written_scalars a.values) ∷ []) rest)
        → Leads (going (n + 1) items (Some begun)) s.first
        (going (n + 1 + length s.first) items (Some (with_attributes begun a.attrs))) []
        → AreLines (values (written_scalars a.values) ∷ []) s.rest → is_valid_array a ≡ true
        → LeadTo n items q (Array a) own
    inner first s attributes (last, none, f, last_is, empty) valid =
        let r = placed_at (Some q) (items ++ Array a ∷ []) in
        let n2 = n + 1 + length s.first in
        let named = Some (record a { values = [] }) in
        let held = subst (λ b. Leads (going (n + 1) items (Some begun)) s.first
        (going n2 items (Some b)) []) whole attributes in
        let begins = leads-then (going n items None) (going (n + 1) items (Some begun))
        (going n2 items named) (line ∷ []) s.first [] [] first held in
        let all =
        leads-then (going n items None) (going n2 items named) (standing_of (n2 + 1) r)
        (line ∷ s.first) (last ∷ []) [] (document_of (answer_of (n2 + 1) r) ++ []) begins
        (values-lead n2 items p q a last here next valid last_is) in
        let count : n2 + 1 ≡ n + length (line ∷ s.first ++ last ∷ []) = omega
        (arith, length-append (line ∷ s.first) (last ∷ [])) in
        let lines_are : own ≡ line ∷ s.first ++ last ∷ [] = e ∙ ap (λ l. line ∷ l)
        (s.lines_are ∙ ap (λ l. s.first ++ l) (f ∙ ap (λ l. last ∷ l) empty)) in
        subst (λ l. LeadTo n items q (Array a) l) (sym lines_are)
        (subst (λ m. Leads (going n items None) (line ∷ s.first ++ last ∷ []) (standing_of m r)
        (document_of (answer_of m r) ++ [])) count all)

item-leads : (n : ℕ) (items : List Item) (p q : Position) (x : Item) (own : List (List ℕ))
    → position_of items ≡ Some p → next_position p x ≡ Some q
    → AreLines (item_forms x) own → LeadTo n items q x own
item-leads n items p q (Start prefix local) own here next h =
    let may = may_stand p q (Start prefix local) next in
    single-leads n items p q (Start prefix local) (start prefix local) own here next
    (texts-said None prefix local (says.Item (Start prefix local)) may.valid) h
item-leads n items p q (Xmlns prefix uri) own here next h =
    let may = may_stand p q (Xmlns prefix uri) next in
    single-leads n items p q (Xmlns prefix uri) (ns prefix uri) own here next
    (texts-said None prefix uri (says.Item (Xmlns prefix uri)) may.valid) h
item-leads n items p q (Attr prefix local value) own here next h =
    let may = may_stand p q (Attr prefix local value) next in
    let v = and_parts (are_texts prefix local) (is_valid_value value) may.valid in
    single-leads n items p q (Attr prefix local value) (attr prefix local (written_value value)) own
    here next (attribute-said None prefix local value v.0 v.1) h
item-leads n items p q (TextItem value) own here next h =
    let may = may_stand p q (TextItem value) next in
    single-leads n items p q (TextItem value) (text (written_value value)) own here next
    (text-said None value may.valid) h
item-leads n items p q (Comment bytes) own here next h =
    let may = may_stand p q (Comment bytes) next in
    single-leads n items p q (Comment bytes) (comment bytes) own here next
    (comment-said None bytes may.valid) h
item-leads n items p q (Array a) own here next h = array-leads n items p q a own here next h
item-leads n items p q Close own here next h = single-leads n items p q Close close own here next
    refl h

-- a document's lines
abbrev ReadAs : List Item → Type 0
ReadAs rest =
    (n : ℕ) (items : List Item) (p : Position) (lines : List (List ℕ)) → position_of items ≡ Some p
    → (p ≡ After → ⊥) → position_from (Some p) rest ≡ Some After
    → AreLines (forms_of rest) lines → Leads (going n items None) lines
    (going (n + length lines) [] None) ((items ++ rest) ∷ [])

nothing-behind : (x : Item) (xs : List Item) (s : Position) → position_from (Some After) (x ∷ xs)
    ≡ Some s → ⊥
nothing-behind x xs s h = let f : None ≡ Some s = sym (position_from-none xs) ∙
    (passed (is_valid_item x) None xs s h).1 in cc

-- the last item, and another one
last-leads : (n : ℕ) (items rest : List Item) (x : Item) (own left : List (List ℕ))
    → position_from (Some After) rest ≡ Some After → AreLines (forms_of rest) left
    → LeadTo n items After x own → Leads (going n items None) (own ++ left)
    (going (n + length (own ++ left)) [] None) ((items ++ x ∷ rest) ∷ [])
last-leads n items [] x own left leads none h =
    subst (λ l. Leads (going n items None) l (going (n + length l) [] None)
    ((items ++ x ∷ []) ∷ [])) (sym (ap (λ l. own ++ l) none ∙ append-nil own)) h
last-leads n items (y ∷ rest) x own left leads none h = absurd (nothing-behind y rest After leads)

next-leads : (n : ℕ) (items rest : List Item) (x : Item) (q : Position) (own left : List (List ℕ))
    → ReadAs rest → (q ≡ After → ⊥) → placed_at (Some q) (items ++ x ∷ [])
    ≡ Ok (on (items ++ x ∷ []) None)
    → position_of (items ++ x ∷ []) ≡ Some q → position_from (Some q) rest ≡ Some After
    → AreLines (forms_of rest) left → LeadTo n items q x own
    → Leads (going n items None) (own ++ left) (going (n + length (own ++ left)) [] None)
    ((items ++ x ∷ rest) ∷ [])
next-leads n items rest x q own left read inside goes here leads h first =
    let more = items ++ x ∷ [] in
    let one : Leads (going n items None) own (going (n + length own) more None) [] =
    subst (λ (r : Result Placed LineKind). Leads (going n items None) own
    (standing_of (n + length own) r) (document_of (answer_of (n + length own) r) ++ [])) goes first
    in
    let others = read (n + length own) more q left here inside leads h in
    let all = leads-then (going n items None) (going (n + length own) more None)
    (going (n + length own + length left) [] None) own left [] ((more ++ rest) ∷ []) one others in
    subst (λ d. Leads (going n items None) (own ++ left) (going (n + length (own ++ left)) [] None)
    (d ∷ [])) (append_assoc items (x ∷ []) rest)
    (subst (λ m. Leads (going n items None) (own ++ left) (going m [] None) ((more ++ rest) ∷ []))
    (counted-then n own left) all)

document-read : (rest : List Item) → ReadAs rest
document-read [] n items p lines here inside leads h = absurd (inside (some_same leads))
document-read (x ∷ rest) n items p lines here inside leads h =
    let s = parted (item_forms x) (forms_of rest) lines h in
    subst (λ l. Leads (going n items None) l (going (n + length l) [] None)
    ((items ++ x ∷ rest) ∷ [])) (sym s.lines_are)
    (go (next_position p x) refl leads s.first s.rest s.first_are s.rest_are (document-read rest))
  where
    go : (q : Option Position) → next_position p x ≡ q → position_from q rest ≡ Some After
        → (own left : List (List ℕ)) → AreLines (item_forms x) own → AreLines (forms_of rest) left
        → ReadAs rest
        → Leads (going n items None) (own ++ left) (going (n + length (own ++ left)) [] None)
        ((items ++ x ∷ rest) ∷ [])
    go None e leads own left f g read = absurd
        (let h : None ≡ Some After = sym (position_from-none rest) ∙ leads in cc)
    go (Some Before) e leads own left f g read =
        next-leads n items rest x Before own left read (λ e. cc) refl
        (position_of-push items x p here ∙ e) leads g (item-leads n items p Before x own here e f)
    go (Some (Within inner attributes)) e leads own left f g read =
        next-leads n items rest x (Within inner attributes) own left read (λ e. cc) refl
        (position_of-push items x p here ∙ e) leads g
        (item-leads n items p (Within inner attributes) x own here e f)
    go (Some After) e leads own left f g read = last-leads n items rest x own left leads g
        (item-leads n items p After x own here e f)

pub document-leads : (n : ℕ) (doc : List Item) (lines : List (List ℕ)) → IsDocument doc
    → AreLines (forms_of doc) lines
    → Leads (going n [] None) lines (going (n + length lines) [] None) (doc ∷ [])
document-leads n doc lines d h = document-read doc n [] Before lines refl (λ e. cc)
    (document-position doc d) h

-- empty lines, and the lines of documents
blank-leads : (n : ℕ) (lines : List (List ℕ)) → AreBlank lines → Leads (going n [] None) lines
    (going (n + length lines) [] None) []
blank-leads n [] h = leads-same n [] None [] (n + 0) [] (omega arith)
    (leads-nowhere (going n [] None))
blank-leads n (line ∷ lines) h =
    let first : Leads (going n [] None) (line ∷ []) (going (n + 1) [] None) [] =
    subst (λ l. Leads (going n [] None) (l ∷ []) (going (n + 1) [] None) []) (sym h.0)
    (line-goes_on n [] [] None None [] refl) in
    let count : n + 1 + length lines ≡ n + suc (length lines) = omega arith in
    subst (λ m. Leads (going n [] None) (line ∷ lines) (going m [] None) []) count
    (leads-then (going n [] None) (going (n + 1) [] None) (going (n + 1 + length lines) [] None)
    (line ∷ []) lines [] [] first (blank-leads (n + 1) lines h.1))

documents-lead : (docs : List (List Item)) (n : ℕ) (lines : List (List ℕ)) → AreLinesOf docs lines
    → Leads (going n [] None) lines (going (n + length lines) [] None) docs
documents-lead [] n lines h = blank-leads n lines h
documents-lead (doc ∷ docs) n lines (blank, own, rest, e, empty, d, h, k) =
    let a = blank-leads n blank empty in
    let b = document-leads (n + length blank) doc own d h in
    let c = documents-lead docs (n + length blank + length own) rest k in
    let ab = leads-then (going n [] None) (going (n + length blank) [] None)
    (going (n + length blank + length own) [] None) blank own [] (doc ∷ []) a b in
    let abc = leads-then (going n [] None) (going (n + length blank + length own) [] None)
    (going (n + length blank + length own + length rest) [] None) (blank ++ own) rest (doc ∷ [])
    docs ab c in
    let count : n + length blank + length own + length rest ≡ n + length (blank ++ own ++ rest) =
    omega (arith, length-append blank own, length-append (blank ++ own) rest) in
    subst (λ l. Leads (going n [] None) l (going (n + length l) [] None) (doc ∷ docs)) (sym e)
    (subst (λ m. Leads (going n [] None) (blank ++ own ++ rest) (going m [] None) (doc ∷ docs))
    count abc)

pub documents-read : (docs : List (List Item)) (lines : List (List ℕ)) → AreLinesOf docs lines
    → Leads (going 0 [] None) lines (going (length lines) [] None) docs
documents-read docs lines h =
    let count : 0 + length lines ≡ length lines = omega arith in
    subst (λ m. Leads (going 0 [] None) lines (going m [] None) docs) count
    (documents-lead docs 0 lines h)

-- and those that are put
pub put-read : (doc : List Item) → IsDocument doc → Leads (going 0 [] None) (lines_of doc)
    (going (length (lines_of doc)) [] None) (doc ∷ [])
put-read doc d =
    let count : 0 + length (lines_of doc) ≡ length (lines_of doc) = omega arith in
    let valid = position_from-valid (Some Before) doc After (document-position doc d) in
    subst (λ m. Leads (going 0 [] None) (lines_of doc) (going m [] None) (doc ∷ [])) count
    (document-leads 0 doc (lines_of doc) d (lines_of-lines doc valid))
