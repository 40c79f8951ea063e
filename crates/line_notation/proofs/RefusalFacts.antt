-- Why a line is refused.
use Rattle.std.proofs.Common.{◌≡◌, ℕ, Bool, true, false, List, [], ◌∷◌, ◌++◌, if◌then◌else◌, Some}
use Rattle.std.proofs.Common.{None, Ok, Err, Option, Result, sym, refl, ap, ◌∙◌}
use Rattle.nbfx_values.proofs.OnLiterals.{values_on_literals}
use Rattle.nbfx_values.proofs.Positions.{position_from-append, position_of-push}
use Rattle.nbfx_values.proofs.Walks.{none-no_front, position_of-front}
use Rattle.nbfx_values.specs.declared.content.{ArrayItem.ArrayItem, Item.Item}
use Rattle.nbfx_values.specs.declared.content.ArrayKind.TheVariants.{Bool as Bools}
use Rattle.nbfx_values.specs.declared.content.Item.TheVariants.{Array, Close, Comment, Start, Xmlns}
use Rattle.nbfx_values.specs.declared.{position.Position.Position, scalars.Scalar.TheVariants.Truth}
use Rattle.nbfx_values.specs.declared.position.Position.TheVariants.{After, Before, Within}
use Rattle.nbfx_values.specs.{Items.is_valid_array, Positions.position_from, Positions.position_of}
use Rattle.line_notation.specs.declared.reader.LineKind.{LineKind, TheVariants.WrongCount}
use Rattle.line_notation.specs.declared.reader.LineKind.TheVariants.{BadText, Cut, NotALine}
use Rattle.line_notation.specs.declared.reader.LineKind.TheVariants.{OutOfPlace, OutOfRange}
use Rattle.line_notation.specs.Forms.{array, attr, close, comment, Form, form_of, IsLine, ns, start}
use Rattle.line_notation.specs.{Forms.text, Forms.values, LineReaderState.placed_item}
use Rattle.line_notation.specs.Judging.{begun_array, has_bad_text, is_out_of_range, judged, said}
use Rattle.line_notation.specs.LineReaderState.{is_passed_over, kind_of, led, on, outcome}
use Rattle.line_notation.specs.LineReaderState.{outcome_of, Placed, placed_array, placed_at}
use Rattle.line_notation.specs.Refusals.{CannotFollow, CannotStand, HasBadText, IsNoLine}
use Rattle.line_notation.specs.Refusals.{IsOutOfPlace, IsOutOfRange, IsRefusedForNothingElse}
use Rattle.line_notation.proofs.FormFacts.{line-read, read-line}
use Rattle.line_notation.proofs.{LinesRead.outcome-form, PlacingFacts.outcome-read}

-- what can't stand behind items is out of place, and nothing is refused otherwise there
abbrev RefusesPlace : Result Placed LineKind → Type 0 → Type 0
RefusesPlace r cannot = ((kind : LineKind) → r ≡ Err kind → (kind ≡ OutOfPlace) × cannot)
    × (cannot → r ≡ Err OutOfPlace)

err-same : {A : Type 0} {a b : LineKind} → ◌≡◌ {A = Result A LineKind} (Err a) (Err b) → a ≡ b
err-same e = cc

item-place : (items : List Item) (x : Item) → RefusesPlace (placed_item items x)
    (CannotStand items x)
item-place items x = (
  λ kind e. from (position_of (items ++ x ∷ [])) refl kind e,
  λ cannot. to
      (position_of (items ++ x ∷ [])) refl cannot,
)
  where
    from : (o : Option Position) → position_of (items ++ x ∷ []) ≡ o → (kind : LineKind)
        → placed_at o (items ++ x ∷ []) ≡ Err kind → (kind ≡ OutOfPlace) × CannotStand items x
    from None e kind h = (sym (err-same h), none-no_front (items ++ x ∷ []) e)
    from (Some Before) e kind h = absurd cc
    from (Some (Within inner attributes)) e kind h = absurd cc
    from (Some After) e kind h = absurd cc

    to : (o : Option Position) → position_of (items ++ x ∷ []) ≡ o → CannotStand items x
        → placed_at o (items ++ x ∷ []) ≡ Err OutOfPlace
    to None e cannot = refl
    to (Some s) e cannot = absurd (cannot (position_of-front (items ++ x ∷ []) s e))

-- an array of one value
plain_array : ArrayItem
plain_array = record { prefix = []; local = []; attrs = []; kind = Bools; values = Truth true ∷ [] }

plain-valid : is_valid_array plain_array ≡ true
unfolding plain_array values_on_literals
plain-valid = refl

unless : {A : Type 0} (t : Bool) → ◌≡◌ {A = Option A} (if t then None else None) None
unless true = refl
unless false = refl

array-place : (items : List Item) (a : ArrayItem)
    → RefusesPlace (placed_array (position_of items) items a)
    ((other : ArrayItem) → CannotStand items (Array other))
array-place items a = (
  λ kind e. from (position_of items) refl kind e,
  λ cannot. to
      (position_of items) refl cannot,
)
  where
    behind : (other : ArrayItem) (o : Option Position) → position_of items ≡ o
        → position_of (items ++ Array other ∷ []) ≡ position_from o (Array other ∷ [])
    behind other o e = position_from-append (Some Before) items (Array other ∷ []) ∙
        ap (λ o. position_from o (Array other ∷ [])) e

    from : (o : Option Position) → position_of items ≡ o → (kind : LineKind) → placed_array o items
        a ≡ Err kind
        → (kind ≡ OutOfPlace) × ((other : ArrayItem) → CannotStand items (Array other))
    from None e kind h = (
      sym (err-same h),
      λ other. none-no_front (items ++ Array other ∷ [])
          (behind other None e),
    )
    from (Some Before) e kind h = (
      sym (err-same h),
      λ other. none-no_front (items ++ Array other ∷ [])
          (behind other (Some Before) e ∙ unless (is_valid_array other)),
    )
    from (Some (Within inner attributes)) e kind h = absurd cc
    from (Some After) e kind h = (
      sym (err-same h),
      λ other. none-no_front (items ++ Array other ∷ [])
          (behind other (Some After) e ∙ unless (is_valid_array other)),
    )

    to : (o : Option Position) → position_of items ≡ o
        → ((other : ArrayItem) → CannotStand items (Array other)) → placed_array o items a
        ≡ Err OutOfPlace
    to None e cannot = refl
    to (Some Before) e cannot = refl
    to (Some (Within inner attributes)) e cannot =
        absurd (cannot plain_array (position_of-front (items ++ Array plain_array ∷ [])
        (Within inner false)
        (position_of-push items (Array plain_array) (Within inner attributes) e ∙
        ap (λ t. if t then Some (Within inner false) else None) plain-valid)))
    to (Some After) e cannot = refl

-- what a form says of itself
form-place : (items : List Item) (opened : Option ArrayItem) (form : Form)
    → RefusesPlace (led items opened (said (kind_of opened) form)) (CannotFollow items opened form)
form-place items None (start prefix local) = item-place items (Start prefix local)
form-place items None (ns prefix uri) = item-place items (Xmlns prefix uri)
form-place items None (attr prefix local written) = item-place items _
form-place items None (text written) = item-place items _
form-place items None (comment bytes) = item-place items (Comment bytes)
form-place items None (array kind prefix local) = array-place items (begun_array kind prefix local)
form-place items None (values written) = (λ kind e. (sym (err-same e), tt), λ cannot. refl)
form-place items None close = item-place items Close
form-place items (Some a) (start prefix local) = (λ kind e. (sym (err-same e), tt), λ cannot. refl)
form-place items (Some a) (ns prefix uri) = (λ kind e. absurd cc, λ cannot. absurd cannot)
form-place items (Some a) (attr prefix local written) =
    (λ kind e. absurd cc, λ cannot. absurd cannot)
form-place items (Some a) (text written) = (λ kind e. (sym (err-same e), tt), λ cannot. refl)
form-place items (Some a) (comment bytes) = (λ kind e. (sym (err-same e), tt), λ cannot. refl)
form-place items (Some a) (array kind prefix local) =
    (λ kind e. (sym (err-same e), tt), λ cannot. refl)
form-place items (Some a) (values written) = item-place items _
form-place items (Some a) close = (λ kind e. (sym (err-same e), tt), λ cannot. refl)

-- why a line of a form is refused
data IsRefused (items : List Item) (opened : Option ArrayItem) (form : Form) (kind : LineKind) :
    Type 0 where
  for_text : kind ≡ BadText → has_bad_text form ≡ true → IsRefused items opened form kind
  for_range : kind ≡ OutOfRange → has_bad_text form ≡ false → is_out_of_range (kind_of opened) form
      ≡ true → IsRefused items opened form kind
  for_place : kind ≡ OutOfPlace → has_bad_text form ≡ false → is_out_of_range (kind_of opened) form
      ≡ false → CannotFollow items opened form → IsRefused items opened form kind

is_refused : (items : List Item) (opened : Option ArrayItem) (form : Form) (kind : LineKind)
    → led items opened (judged (kind_of opened) form) ≡ Err kind → IsRefused items opened form kind
is_refused items opened form kind e = go (has_bad_text form) (is_out_of_range (kind_of opened) form)
    refl refl e
  where
    go : (bad out : Bool) → has_bad_text form ≡ bad → is_out_of_range (kind_of opened) form ≡ out
        → led items opened (if bad then Err BadText else if out then Err OutOfRange else said
        (kind_of opened) form) ≡ Err kind → IsRefused items opened form kind
    go true out f g e = for_text (sym (err-same e)) f
    go false true f g e = for_range (sym (err-same e)) f g
    go false false f g e = let p = (form-place items opened form).0 kind e in for_place p.0 f g p.1

-- and a line without one
data IsRefusedLine (items : List Item) (opened : Option ArrayItem) (line : List ℕ)
    (kind : LineKind) : Type 0 where
  for_form : kind ≡ NotALine → is_passed_over items opened line ≡ false → form_of line ≡ None
      → IsRefusedLine items opened line kind
  for_itself : (form : Form) → IsLine form line → IsRefused items opened form kind
      → IsRefusedLine items opened line kind

is_refused_line : (items : List Item) (opened : Option ArrayItem) (line : List ℕ) (kind : LineKind)
    → outcome items opened line ≡ Err kind → IsRefusedLine items opened line kind
is_refused_line items opened line kind e = passed (is_passed_over items opened line) refl
  where
    over : (items : List Item) (opened : Option ArrayItem) (line : List ℕ) → is_passed_over items
        opened line ≡ true → outcome items opened line ≡ Ok (on [] None)
    over [] None [] f = refl
    over [] None (b ∷ line) f = absurd cc
    over [] (Some a) line f = absurd cc
    over (item ∷ items) opened line f = absurd cc

    go : is_passed_over items opened line ≡ false → (f : Option Form) → form_of line ≡ f
        → outcome_of items opened f ≡ Err kind → IsRefusedLine items opened line kind
    go read None f h = for_form (sym (err-same h)) read f
    go read (Some form) f h = for_itself form (read-line line form f)
        (is_refused items opened form kind h)

    passed : (t : Bool) → is_passed_over items opened line ≡ t → IsRefusedLine items opened line
        kind
    passed true f = absurd (let h : Ok (on [] None) ≡ Err kind = sym (over items opened line f) ∙ e
        in cc)
    passed false f = go f (form_of line) refl (sym (outcome-read items opened line f) ∙ e)

-- what is said of each kind
has-no_form : (line : List ℕ) → form_of line ≡ None → (form : Form) → IsLine form line → ⊥
has-no_form line none form is = let e = line-read form line is in let f : None ≡ Some form = sym
    none ∙ e in cc

no-form : (line : List ℕ) → ((form : Form) → IsLine form line → ⊥) → form_of line ≡ None
no-form line none = go (form_of line) refl
  where
    go : (f : Option Form) → form_of line ≡ f → f ≡ None
    go None e = refl
    go (Some form) e = absurd (none form (read-line line form e))

judged-led : (items : List Item) (opened : Option ArrayItem) (line : List ℕ) (form : Form)
    → IsLine form line → outcome items opened line ≡ led items opened (judged (kind_of opened) form)
judged-led items opened line form is = outcome-form items opened line form (line-read form line is)

pub refused-no_line : (items : List Item) (opened : Option ArrayItem) (line : List ℕ)
    → outcome items opened line ≡ Err NotALine → IsNoLine items opened line
refused-no_line items opened line e = go (is_refused_line items opened line NotALine e)
  where
    go : IsRefusedLine items opened line NotALine → IsNoLine items opened line
    go (for_form k read none) = record { read = read; no_form = has-no_form line none }
    go (for_itself form is (for_text k bad)) = absurd cc
    go (for_itself form is (for_range k good out)) = absurd cc
    go (for_itself form is (for_place k good fit place)) = absurd cc

pub no_line-refused : (items : List Item) (opened : Option ArrayItem) (line : List ℕ)
    → IsNoLine items opened line → outcome items opened line ≡ Err NotALine
no_line-refused items opened line h = outcome-read items opened line h.read ∙
    ap (outcome_of items opened) (no-form line h.no_form)

pub refused-text : (items : List Item) (opened : Option ArrayItem) (line : List ℕ)
    → outcome items opened line ≡ Err BadText → HasBadText line
refused-text items opened line e = go (is_refused_line items opened line BadText e)
  where
    go : IsRefusedLine items opened line BadText → HasBadText line
    go (for_form k read none) = absurd cc
    go (for_itself form is (for_text k bad)) = record { form = form; is = is; bad = bad }
    go (for_itself form is (for_range k good out)) = absurd cc
    go (for_itself form is (for_place k good fit place)) = absurd cc

pub text-refused : (items : List Item) (opened : Option ArrayItem) (line : List ℕ) → HasBadText line
    → outcome items opened line ≡ Err BadText
text-refused items opened line h = judged-led items opened line h.form h.is ∙ rw h.bad refl

pub refused-range : (items : List Item) (opened : Option ArrayItem) (line : List ℕ)
    → outcome items opened line ≡ Err OutOfRange → IsOutOfRange opened line
refused-range items opened line e = go (is_refused_line items opened line OutOfRange e)
  where
    go : IsRefusedLine items opened line OutOfRange → IsOutOfRange opened line
    go (for_form k read none) = absurd cc
    go (for_itself form is (for_text k bad)) = absurd cc
    go (for_itself form is (for_range k good out)) = record
        { form = form; is = is; texts = good; range = out }
    go (for_itself form is (for_place k good fit place)) = absurd cc

pub range-refused : (items : List Item) (opened : Option ArrayItem) (line : List ℕ)
    → IsOutOfRange opened line → outcome items opened line ≡ Err OutOfRange
range-refused items opened line h = judged-led items opened line h.form h.is ∙ rw (h.texts, h.range)
    refl

pub refused-place : (items : List Item) (opened : Option ArrayItem) (line : List ℕ)
    → outcome items opened line ≡ Err OutOfPlace → IsOutOfPlace items opened line
refused-place items opened line e = go (is_refused_line items opened line OutOfPlace e)
  where
    go : IsRefusedLine items opened line OutOfPlace → IsOutOfPlace items opened line
    go (for_form k read none) = absurd cc
    go (for_itself form is (for_text k bad)) = absurd cc
    go (for_itself form is (for_range k good out)) = absurd cc
    go (for_itself form is (for_place k good fit place)) = record
        { form = form; is = is; texts = good; range = fit; place = place }

pub place-refused : (items : List Item) (opened : Option ArrayItem) (line : List ℕ)
    → IsOutOfPlace items opened line → outcome items opened line ≡ Err OutOfPlace
place-refused items opened line h = judged-led items opened line h.form h.is ∙ rw (h.texts, h.range)
    ((form-place items opened h.form).1 h.place)

pub nothing-else : (items : List Item) (opened : Option ArrayItem) (line : List ℕ)
    → IsRefusedForNothingElse items opened line
nothing-else items opened line = record {
  cut = λ e. cut (is_refused_line items opened line Cut e);
  count = λ e. count (is_refused_line items opened line WrongCount e);
}
  where
    cut : IsRefusedLine items opened line Cut → ⊥
    cut (for_form k read none) = cc
    cut (for_itself form is (for_text k bad)) = cc
    cut (for_itself form is (for_range k good out)) = cc
    cut (for_itself form is (for_place k good fit place)) = cc

    count : IsRefusedLine items opened line WrongCount → ⊥
    count (for_form k read none) = cc
    count (for_itself form is (for_text k bad)) = cc
    count (for_itself form is (for_range k good out)) = cc
    count (for_itself form is (for_place k good fit place)) = cc
