-- A reader gives documents for their lines alone.
use Rattle.std.proofs.Common.{◌≡◌, ℕ, suc, ◌+◌, Bool, true, List, [], ◌∷◌, ◌++◌, map, length, Some}
use Rattle.std.proofs.Common.{None, Ok, Err, Option, Result, sym, refl, ap, ◌∙◌, subst}
use Rattle.std.proofs.Common.{append_assoc, append-nil, arith, length-append}
use Rattle.std.proofs.lemmas.{Bool.and_parts, Grind.flat_map-append, List.map-append}
use Rattle.{nbfx_values.proofs.Walks.position_of-document, line_notation.proofs.FormFacts.read-line}
use Rattle.nbfx_values.specs.declared.content.{ArrayItem.ArrayItem, ArrayKind.ArrayKind, Item.Item}
use Rattle.nbfx_values.specs.declared.content.AttrItem.{AttrItem, TheVariants.Attr as AttrOn}
use Rattle.nbfx_values.specs.declared.content.AttrItem.TheVariants.{Xmlns as DeclaresOn}
use Rattle.nbfx_values.specs.declared.content.Item.TheVariants.{Array, Attr, Close, Comment, Start}
use Rattle.nbfx_values.specs.declared.content.Item.TheVariants.{Text as TextItem, Xmlns}
use Rattle.nbfx_values.specs.declared.{position.Position.Position, scalars.Scalar.Scalar}
use Rattle.nbfx_values.specs.declared.position.Position.TheVariants.{After, Before, Within}
use Rattle.nbfx_values.specs.{Documents.IsDocument, Items.fits_kind}
use Rattle.nbfx_values.specs.{Positions.position_of, Scalars.is_valid_scalar}
use Rattle.line_notation.specs.declared.{line.Line.Line, reader.LineKind.LineKind}
use Rattle.line_notation.specs.Forms.{array, attr, close, comment, Form, form_of, IsForm, IsLine}
use Rattle.line_notation.specs.Forms.{ns, start, text, values}
use Rattle.line_notation.specs.Judging.{are_in_range, are_scalars, begun_array, judged, scalars_of}
use Rattle.line_notation.specs.{Judging.value_said, Lines.item_forms}
use Rattle.line_notation.specs.Laws.{AreReadTo, begun_forms, HaveRead}
use Rattle.line_notation.specs.LineReaderState.{after, answer, answer_of, document_of}
use Rattle.line_notation.specs.LineReaderState.{documents_from, ending, ends, failed, going}
use Rattle.line_notation.specs.LineReaderState.{kind_of, led, on, outcome, outcome_of, Placed}
use Rattle.line_notation.specs.LineReaderState.{placed, placed_array, placed_at, placed_item}
use Rattle.line_notation.specs.LineReaderState.{Standing, standing_from, standing_of}
use Rattle.line_notation.specs.{LineReaderState.with_attribute, Values.written_value}
use Rattle.line_notation.specs.Lines.{AreBlank, AreLines, AreLinesOf, attribute_form, forms_of}
use Rattle.line_notation.specs.Values.{how_many, list, no_more, one, Written, written_scalars}
use Rattle.line_notation.proofs.HeldFacts.{is_judged, IsJudged, not-false, ok_same}

-- values without a list among them, and the one value
scalars-written : (test : Scalar → Bool) (written : Written) → are_scalars test written ≡ true
    → written_scalars (scalars_of written) ≡ written
scalars-written test no_more h = refl
scalars-written test (one s more) h = ap (one s)
    (scalars-written test more (and_parts (test s) (are_scalars test more) h).1)
scalars-written test (list within more) h = absurd cc

none-more : (written : Written) → suc (how_many written) ≡ 1 → written ≡ no_more
none-more no_more h = refl
none-more (one s more) h = absurd (omega (arith, h))
none-more (list within more) h = absurd (omega (arith, h))

value-written : (written : Written) → how_many written ≡ 1 → are_in_range written ≡ true
    → written_value (value_said written) ≡ written
value-written no_more single h = absurd (omega (arith, single))
value-written (one s more) single h = ap (one s) (sym (none-more more single))
value-written (list within more) single h =
    let p = and_parts (are_scalars is_valid_scalar within) (are_in_range more) h in
    ap (λ w. list w no_more) (scalars-written is_valid_scalar within p.0) ∙ ap (list within)
    (sym (none-more more single))

-- and of one that the last of them ended
abbrev placed_forms : Placed → List Form
placed_forms (on items opened) = begun_forms items opened
placed_forms (ends doc) = forms_of doc

abbrev IsWhole : Placed → Type 0
IsWhole (on items opened) = Unit {0}
IsWhole (ends doc) = IsDocument doc

-- where a line that says so much leads
record Says (items : List Item) (opened : Option ArrayItem) (form : Form) (w : Placed) : Type 0
  where
    forms : placed_forms w ≡ begun_forms items opened ++ form ∷ []
    whole : IsWhole w

at-position : (o : Option Position) (items : List Item) (w : Placed) → position_of items ≡ o
    → placed_at o items ≡ Ok w → (placed_forms w ≡ forms_of items) × IsWhole w
at-position None items w e h = absurd cc
at-position (Some Before) items w e h = subst (λ w. (placed_forms w ≡ forms_of items) × IsWhole w)
    (ok_same h) (refl, tt)
at-position (Some (Within inner attributes)) items w e h = subst
    (λ w. (placed_forms w ≡ forms_of items) × IsWhole w) (ok_same h) (refl, tt)
at-position (Some After) items w e h = subst (λ w. (placed_forms w ≡ forms_of items) × IsWhole w)
    (ok_same h) (refl, position_of-document items e)

-- an item
item-says : (items : List Item) (x : Item) (form : Form) (w : Placed) → item_forms x ≡ form ∷ []
    → placed_item items x ≡ Ok w → Says items None form w
item-says items x form w is h =
    let p = at-position (position_of (items ++ x ∷ [])) (items ++ x ∷ []) w refl h in
    record {
      forms = p.0 ∙ flat_map-append item_forms items (x ∷ []) ∙ ap (λ l. forms_of items ++ l)
          (append-nil (item_forms x) ∙ is);
      whole = p.1;
    }

array-says : (items : List Item) (a : ArrayItem) (ss : List Scalar) (form : Form) (w : Placed)
    → values (written_scalars ss) ≡ form
    → placed_item items (Array (record a { values = ss })) ≡ Ok w → Says items (Some a) form w
array-says items a ss form w is h =
    let x = Array (record a { values = ss }) in
    let begun = array a.kind a.prefix a.local ∷ map attribute_form a.attrs in
    let p = at-position (position_of (items ++ x ∷ [])) (items ++ x ∷ []) w refl h in
    record {
      forms =
          p.0 ∙ flat_map-append item_forms items (x ∷ []) ∙ ap (λ l. forms_of items ++ l)
          (append-nil (item_forms x) ∙ ap (λ f. begun ++ f ∷ []) is)
          ∙ sym (append_assoc (forms_of items) begun (form ∷ []));
      whole = p.1;
    }

begun-says : (items : List Item) (kind : ArrayKind) (prefix local : List ℕ) (w : Placed)
    → placed_array (position_of items) items (begun_array kind prefix local) ≡ Ok w
    → Says items None (array kind prefix local) w
begun-says items kind prefix local w h = go (position_of items) h
  where
    go : (o : Option Position) → placed_array o items (begun_array kind prefix local) ≡ Ok w
        → Says items None (array kind prefix local) w
    go (Some (Within inner attributes)) h = subst (Says items None (array kind prefix local))
        (ok_same h) (record { forms = refl; whole = tt })
    go None h = absurd cc
    go (Some Before) h = absurd cc
    go (Some After) h = absurd cc

attribute-says : (items : List Item) (a : ArrayItem) (d : AttrItem) (form : Form) → attribute_form d
    ≡ form → Says items (Some a) form (on items (Some (with_attribute a d)))
attribute-says items a d form is =
    record {
      forms =
          ap (λ l. forms_of items ++ array a.kind a.prefix a.local ∷ l)
          (map-append attribute_form a.attrs (d ∷ []) ∙ ap (λ f. map attribute_form a.attrs ++ f
          ∷ []) is)
          ∙ sym (append_assoc (forms_of items) (array a.kind a.prefix a.local ∷ map attribute_form
          a.attrs) (form ∷ []));
      whole = tt;
    }

-- a form of a value has one
abbrev HasOne : Form → Type 0
HasOne (attr prefix local written) = how_many written ≡ 1
HasOne (text written) = how_many written ≡ 1
HasOne _ = Unit {0}

form-one : (form : Form) (words : List (List ℕ)) → IsForm form words → HasOne form
form-one (start prefix local) words h = tt
form-one (ns prefix uri) words h = tt
form-one (attr prefix local written) words (a, b, own, e, q, v) = v.one
form-one (text written) words (own, e, v) = v.one
form-one (comment bytes) words h = tt
form-one (array kind prefix local) words h = tt
form-one (values written) words h = tt
form-one close words h = tt

-- a line's form, where no array is open, and within one
form-says : (items : List Item) (form : Form) (said : Line) (w : Placed) → HasOne form
    → IsJudged None form said → placed items None said ≡ Ok w → Says items None form w
form-says items (start prefix local) said w single j h =
    item-says items (Start prefix local) (start prefix local) w refl
    (ap (placed items None) (ok_same j.said_is) ∙ h)
form-says items (ns prefix uri) said w single j h = item-says items (Xmlns prefix uri)
    (ns prefix uri) w refl (ap (placed items None) (ok_same j.said_is) ∙ h)
form-says items (attr prefix local written) said w single j h =
    item-says items (Attr prefix local (value_said written)) (attr prefix local written) w
    (ap (λ v. attr prefix local v ∷ [])
    (value-written written single (not-false (are_in_range written) j.range)))
    (ap (placed items None) (ok_same j.said_is) ∙ h)
form-says items (text written) said w single j h =
    item-says items (TextItem (value_said written)) (text written) w
    (ap (λ v. text v ∷ [])
    (value-written written single (not-false (are_in_range written) j.range)))
    (ap (placed items None) (ok_same j.said_is) ∙ h)
form-says items (comment bytes) said w single j h = item-says items (Comment bytes) (comment bytes)
    w refl (ap (placed items None) (ok_same j.said_is) ∙ h)
form-says items (array kind prefix local) said w single j h = begun-says items kind prefix local w
    (ap (placed items None) (ok_same j.said_is) ∙ h)
form-says items (values written) said w single j h = absurd (let e = j.said_is in cc)
form-says items close said w single j h = item-says items Close close w refl
    (ap (placed items None) (ok_same j.said_is) ∙ h)

within-says : (items : List Item) (a : ArrayItem) (form : Form) (said : Line) (w : Placed)
    → HasOne form → IsJudged (Some a.kind) form said → placed items (Some a) said ≡ Ok w
    → Says items (Some a) form w
within-says items a (start prefix local) said w single j h = absurd
    (let e = ap (placed items (Some a)) (ok_same j.said_is) ∙ h in cc)
within-says items a (ns prefix uri) said w single j h =
    subst (Says items (Some a) (ns prefix uri))
    (ok_same (ap (placed items (Some a)) (ok_same j.said_is) ∙ h))
    (attribute-says items a (DeclaresOn prefix uri) (ns prefix uri) refl)
within-says items a (attr prefix local written) said w single j h =
    subst (Says items (Some a) (attr prefix local written))
    (ok_same (ap (placed items (Some a)) (ok_same j.said_is) ∙ h))
    (attribute-says items a (AttrOn prefix local (value_said written)) (attr prefix local written)
    (ap (attr prefix local)
    (value-written written single (not-false (are_in_range written) j.range))))
within-says items a (text written) said w single j h = absurd
    (let e = ap (placed items (Some a)) (ok_same j.said_is) ∙ h in cc)
within-says items a (comment bytes) said w single j h = absurd
    (let e = ap (placed items (Some a)) (ok_same j.said_is) ∙ h in cc)
within-says items a (array kind prefix local) said w single j h = absurd
    (let e = ap (placed items (Some a)) (ok_same j.said_is) ∙ h in cc)
within-says items a (values written) said w single j h =
    let v = scalars-written (fits_kind a.kind) written
    (not-false (are_scalars (fits_kind a.kind) written) j.range) in
    array-says items a (scalars_of written) (values written) w (ap values v)
    (ap (placed items (Some a)) (ok_same j.said_is) ∙ h)
within-says items a close said w single j h = absurd
    (let e = ap (placed items (Some a)) (ok_same j.said_is) ∙ h in cc)

either-says : (items : List Item) (opened : Option ArrayItem) (form : Form) (said : Line)
    (w : Placed) → HasOne form → IsJudged (kind_of opened) form said
    → placed items opened said ≡ Ok w → Says items opened form w
either-says items None form said w single j h = form-says items form said w single j h
either-says items (Some a) form said w single j h = within-says items a form said w single j h

-- lines behind lines
lines-more : (forms : List Form) (form : Form) (lines : List (List ℕ)) (line : List ℕ)
    → AreLines forms lines → IsLine form line → AreLines (forms ++ form ∷ []) (lines ++ line ∷ [])
lines-more [] form lines line h is = (line, [], ap (λ l. l ++ line ∷ []) h, is, refl)
lines-more (f ∷ forms) form lines line (first, rest, e, k, h) is =
    (first, rest ++ line ∷ [], ap (λ l. l ++ line ∷ []) e, k, lines-more forms form rest line h is)

blank-more : (lines : List (List ℕ)) → AreBlank lines → AreBlank (lines ++ [] ∷ [])
blank-more [] h = (refl, tt)
blank-more (line ∷ lines) h = (h.0, blank-more lines h.1)

blank-behind : (docs : List (List Item)) (lines : List (List ℕ)) → AreLinesOf docs lines
    → AreLinesOf docs (lines ++ [] ∷ [])
blank-behind [] lines h = blank-more lines h
blank-behind (doc ∷ docs) lines (blank, own, rest, e, empty, d, h, k) = (
  blank,
  own,
  rest ++ [] ∷ [],
  ap (λ l. l ++ [] ∷ []) e ∙ append_assoc (blank ++ own) rest
      ([] ∷ []),
  empty,
  d,
  h,
  blank-behind docs rest k,
)

document-behind : (docs : List (List Item)) (doc : List Item) (lines own : List (List ℕ))
    → AreLinesOf docs lines → IsDocument doc → AreLines (forms_of doc) own
    → AreLinesOf (docs ++ doc ∷ []) (lines ++ own)
document-behind [] doc lines own h d k = (
  lines,
  own,
  [],
  sym (append-nil (lines ++ own)),
  h,
  d,
  k,
  tt,
)
document-behind (first ∷ docs) doc lines own (blank, mine, rest, e, empty, fd, f, g) d k = (
  blank,
  mine,
  rest ++ own,
  ap (λ l. l ++ own) e ∙ append_assoc (blank ++ mine) rest own,
  empty,
  fd,
  f,
  document-behind docs doc rest own g d k,
)

one-more : (n : ℕ) (lines : List (List ℕ)) (line : List ℕ) → n ≡ length lines → n + 1
    ≡ length (lines ++ line ∷ [])
one-more n lines line e = omega (arith, e, length-append lines (line ∷ []))

-- a line more that has a form
says-read : (lines : List (List ℕ)) (docs : List (List Item)) (n : ℕ) (items : List Item)
    (opened : Option ArrayItem) (line : List ℕ) (form : Form) (w : Placed)
    → AreReadTo lines docs n items opened → IsLine form line → Says items opened form w
    → HaveRead (lines ++ line ∷ []) (docs ++ document_of (answer_of (n + 1) (Ok w)))
    (standing_of (n + 1) (Ok w))
says-read lines docs n items opened line form (on more then_opened) r is s =
    record {
      whole = r.whole;
      own = r.own ++ line ∷ [];
      lines_are = ap (λ l. l ++ line ∷ []) r.lines_are ∙ append_assoc r.whole r.own (line ∷ []);
      whole_are = subst (λ d. AreLinesOf d r.whole) (sym (append-nil docs)) r.whole_are;
      own_are = subst (λ f. AreLines f (r.own ++ line ∷ [])) (sym s.forms)
          (lines-more (begun_forms items opened) form r.own line r.own_are is);
      count = one-more n lines line r.count;
    }
says-read lines docs n items opened line form (ends doc) r is s =
    let own_are = subst (λ f. AreLines f (r.own ++ line ∷ [])) (sym s.forms)
    (lines-more (begun_forms items opened) form r.own line r.own_are is) in
    record {
      whole = lines ++ line ∷ [];
      own = [];
      lines_are = sym (append-nil (lines ++ line ∷ []));
      whole_are =
          subst (AreLinesOf (docs ++ doc ∷ []))
          (sym (ap (λ l. l ++ line ∷ []) r.lines_are ∙ append_assoc r.whole r.own (line ∷ [])))
          (document-behind docs doc r.whole (r.own ++ line ∷ []) r.whole_are s.whole own_are);
      own_are = refl;
      count = one-more n lines line r.count;
    }

read-form : (lines : List (List ℕ)) (docs : List (List Item)) (n : ℕ) (items : List Item)
    (opened : Option ArrayItem) (line : List ℕ) → AreReadTo lines docs n items opened
    → outcome items opened line ≡ outcome_of items opened (form_of line)
    → HaveRead (lines ++ line ∷ []) (docs ++ document_of (answer (going n items opened) line))
    (after (going n items opened) line)
read-form lines docs n items opened line r is =
    subst (λ (o : Result Placed LineKind). HaveRead (lines ++ line ∷ [])
    (docs ++ document_of (answer_of (n + 1) o)) (standing_of (n + 1) o)) (sym is)
    (go (form_of line) refl)
  where
    leads : (form : Form) → form_of line ≡ Some form → (said : Line) → judged (kind_of opened) form
        ≡ Ok said → (o : Result Placed LineKind) → placed items opened said ≡ o
        → HaveRead (lines ++ line ∷ []) (docs ++ document_of (answer_of (n + 1) o))
        (standing_of (n + 1) o)
    leads form e said j (Err kind) h = tt
    leads form e said j (Ok w) h =
        let is = read-line line form e in
        says-read lines docs n items opened line form w r is
        (either-says items opened form said w (form-one form is.0 is.2)
        (is_judged (kind_of opened) form said j) h)

    judge : (form : Form) → form_of line ≡ Some form → (j : Result Line LineKind)
        → judged (kind_of opened) form ≡ j
        → HaveRead (lines ++ line ∷ [])
        (docs ++ document_of (answer_of (n + 1) (led items opened j)))
        (standing_of (n + 1) (led items opened j))
    judge form e (Err kind) j = tt
    judge form e (Ok said) j = leads form e said j (placed items opened said) refl

    go : (f : Option Form) → form_of line ≡ f
        → HaveRead (lines ++ line ∷ [])
        (docs ++ document_of (answer_of (n + 1) (outcome_of items opened f)))
        (standing_of (n + 1) (outcome_of items opened f))
    go None e = tt
    go (Some form) e = judge form e (judged (kind_of opened) form) refl

read-line-more : (lines : List (List ℕ)) (docs : List (List Item)) (z : Standing) (line : List ℕ)
    → HaveRead lines docs z
    → HaveRead (lines ++ line ∷ []) (docs ++ document_of (answer z line)) (after z line)
read-line-more lines docs (failed fault) line h = tt
read-line-more lines docs (going n [] None) [] r =
    record {
      whole = r.whole ++ [] ∷ [];
      own = [];
      lines_are = ap (λ l. l ++ [] ∷ []) (r.lines_are ∙ ap (λ l. r.whole ++ l) r.own_are ∙
          append-nil r.whole) ∙ sym (append-nil (r.whole ++ [] ∷ []));
      whole_are = subst (λ d. AreLinesOf d (r.whole ++ [] ∷ [])) (sym (append-nil docs))
          (blank-behind docs r.whole r.whole_are);
      own_are = refl;
      count = one-more n lines [] r.count;
    }
read-line-more lines docs (going n [] None) (b ∷ line) r = read-form lines docs n [] None (b ∷ line)
    r refl
read-line-more lines docs (going n [] (Some a)) line r = read-form lines docs n [] (Some a) line r
    refl
read-line-more lines docs (going n (item ∷ items) opened) line r = read-form lines docs n
    (item ∷ items) opened line r refl

-- all lines
read-all : (left lines : List (List ℕ)) (docs : List (List Item)) (z : Standing)
    → HaveRead lines docs z → HaveRead (lines ++ left) (docs ++ documents_from z left)
    (standing_from z left)
read-all [] lines docs z h = subst (λ l. HaveRead l (docs ++ []) z) (sym (append-nil lines))
    (subst (λ d. HaveRead lines d z) (sym (append-nil docs)) h)
read-all (line ∷ left) lines docs z h =
    let d = document_of (answer z line) in
    let more = read-all left (lines ++ line ∷ []) (docs ++ d) (after z line)
    (read-line-more lines docs z line h) in
    subst (λ l. HaveRead l (docs ++ (d ++ documents_from (after z line) left))
    (standing_from (after z line) left)) (append_assoc lines (line ∷ []) left)
    (subst (λ e. HaveRead ((lines ++ line ∷ []) ++ left) e (standing_from (after z line) left))
    (append_assoc docs d (documents_from (after z line) left)) more)

pub read-lines : (lines : List (List ℕ)) → HaveRead lines (documents_from (going 0 [] None) lines)
    (standing_from (going 0 [] None) lines)
read-lines lines = read-all lines [] [] (going 0 [] None)
    (record {
      whole = [];
      own = [];
      lines_are = refl;
      whole_are = tt;
      own_are = refl;
      count = refl;
    })

pub read-documents : (lines : List (List ℕ)) (docs : List (List Item))
    → documents_from (going 0 [] None) lines ≡ docs → ending (standing_from (going 0 [] None) lines)
    ≡ Ok tt
    → AreLinesOf docs lines
read-documents lines docs e end =
    go (standing_from (going 0 [] None) lines) end
    (subst (λ d. HaveRead lines d (standing_from (going 0 [] None) lines)) e
    (read-lines lines))
  where
    go : (z : Standing) → ending z ≡ Ok tt → HaveRead lines docs z → AreLinesOf docs lines
    go (failed fault) end h = absurd cc
    go (going n [] None) end r = subst (AreLinesOf docs)
        (sym (r.lines_are ∙ ap (λ l. r.whole ++ l) r.own_are ∙ append-nil r.whole)) r.whole_are
    go (going n [] (Some a)) end r = absurd cc
    go (going n (item ∷ items) opened) end r = absurd cc
