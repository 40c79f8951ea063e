-- Records can hold what a line says that isn't refused.
use Rattle.std.proofs.Common.{◌≡◌, ℕ, suc, ◌<◌, Bool, true, false, not, ◌&&◌, List, [], ◌∷◌, length}
use Rattle.std.proofs.Common.{if◌then◌else◌, nat_lt, Some, None, Ok, Err, Option, Result, refl, ap}
use Rattle.std.proofs.Common.{subst, arith, ltb-true, lt-ltb}
use Rattle.std.{proofs.lemmas.Bool.and_parts, specs.List.list_all, specs.Str.is_utf8}
use Rattle.nbfx_values.specs.declared.{content.ArrayKind.ArrayKind, scalars.Scalar.Scalar}
use Rattle.nbfx_values.specs.Items.{are_texts, fits_kind}
use Rattle.nbfx_values.specs.Scalars.{is_valid_scalar, is_valid_value}
use Rattle.line_notation.specs.declared.line.{Keyword.Keyword, Line.Line}
use Rattle.line_notation.specs.declared.reader.LineKind.TheVariants.{BadText, OutOfRange}
use Rattle.line_notation.specs.{BehindKeywords.judged_behind, Placing.IsHeld, Scalars.one_word}
use Rattle.line_notation.specs.Forms.{array, array_kind_in, attr, close, comment, Form, form_behind}
use Rattle.line_notation.specs.Forms.{ns, start, text, two_texts_at, values}
use Rattle.line_notation.specs.Judging.{are_in_range, are_scalars, has_bad_text, have_good_texts}
use Rattle.line_notation.specs.Judging.{is_out_of_range, judged, said, scalars_of, value_said}
use Rattle.line_notation.specs.{Options.alone, Options.◌>>=◌, Quoted.quoted_in, Values.Written}
use Rattle.line_notation.specs.Values.{how_many, if_some, list, no_more, one, value_in, values_in}
use Rattle.line_notation.proofs.{GatherFacts.some_same, TokenFacts.found}
use Rattle.line_notation.specs.declared.line.Keyword.TheVariants as keywords

-- values that pass a test, all of which are no lists
scalars-all : (test : Scalar → Bool) (written : Written) → are_scalars test written ≡ true
    → list_all test (scalars_of written) ≡ true
scalars-all test no_more h = refl
scalars-all test (one s more) h = let p = and_parts (test s) (are_scalars test more) h in
    rw (p.0, scalars-all test more p.1) refl
scalars-all test (list within more) h = absurd cc

scalars-count : (test : Scalar → Bool) (written : Written) → are_scalars test written ≡ true
    → length (scalars_of written) ≡ how_many written
scalars-count test no_more h = refl
scalars-count test (one s more) h = let p = and_parts (test s) (are_scalars test more) h in ap suc
    (scalars-count test more p.1)
scalars-count test (list within more) h = absurd cc

value-valid : (written : Written) → are_in_range written ≡ true
    → is_valid_value (value_said written) ≡ true
value-valid no_more h = refl
value-valid (one s more) h = (and_parts (is_valid_scalar s) (are_in_range more) h).0
value-valid (list within more) h = scalars-all is_valid_scalar within
    (and_parts (are_scalars is_valid_scalar within) (are_in_range more) h).0

-- a line of values has a value
unfoldable IsSome : Form → Type 0
IsSome (values written) = 0 < how_many written
IsSome _ = Unit {0}

-- a form that is neither refused for a text nor for its range
pub record IsJudged (kind : Option ArrayKind) (form : Form) (line : Line) : Type 0 where
  pub texts : has_bad_text form ≡ false
  pub range : is_out_of_range kind form ≡ false
  pub said_is : said kind form ≡ Ok line

pub is_judged : (kind : Option ArrayKind) (form : Form) (line : Line) → judged kind form ≡ Ok line
    → IsJudged kind form line
is_judged kind form line e = go (has_bad_text form) (is_out_of_range kind form) refl refl e
  where
    go : (bad out : Bool) → has_bad_text form ≡ bad → is_out_of_range kind form ≡ out
        → (if bad then Err BadText else if out then Err OutOfRange else said kind form) ≡ Ok line
        → IsJudged kind form line
    go true out f g e = absurd cc
    go false true f g e = absurd cc
    go false false f g e = record { texts = f; range = g; said_is = e }

pub not-false : (t : Bool) → not t ≡ false → t ≡ true
not-false true e = refl
not-false false e = absurd cc

pub ok_same : {A B : Type 0} {a b : A} → ◌≡◌ {A = Result A B} (Ok a) (Ok b) → a ≡ b
ok_same e = cc

judged-held : (kind : Option ArrayKind) (form : Form) (line : Line) → IsSome form → judged kind form
    ≡ Ok line → IsHeld kind line
unfolding IsSome
judged-held kind (start prefix local) line some e =
    let j = is_judged kind (start prefix local) line e in subst (IsHeld kind) (ok_same j.said_is)
    (not-false (are_texts prefix local) j.texts)
judged-held kind (ns prefix uri) line some e =
    let j = is_judged kind (ns prefix uri) line e in subst (IsHeld kind) (ok_same j.said_is)
    (not-false (are_texts prefix uri) j.texts)
judged-held kind (attr prefix local written) line some e =
    let j = is_judged kind (attr prefix local written) line e in
    let texts = and_parts (are_texts prefix local) (have_good_texts written)
    (not-false (are_texts prefix local && have_good_texts written) j.texts) in
    let valid = value-valid written (not-false (are_in_range written) j.range) in
    subst (IsHeld kind) (ok_same j.said_is) (rw (texts.0, valid) refl)
judged-held kind (text written) line some e =
    let j = is_judged kind (text written) line e in
    subst (IsHeld kind) (ok_same j.said_is)
    (value-valid written (not-false (are_in_range written) j.range))
judged-held kind (comment bytes) line some e =
    let j = is_judged kind (comment bytes) line e in subst (IsHeld kind) (ok_same j.said_is)
    (not-false (is_utf8 bytes) j.texts)
judged-held kind (array own prefix local) line some e =
    let j = is_judged kind (array own prefix local) line e in
    subst (IsHeld kind) (ok_same j.said_is) (rw (not-false (are_texts prefix local) j.texts) refl)
judged-held None (values written) line some e = let j = is_judged None (values written) line e in
    absurd (let f = j.said_is in cc)
judged-held (Some own) (values written) line some e =
    let j = is_judged (Some own) (values written) line e in
    let fit = not-false (are_scalars (fits_kind own) written) j.range in
    let count = scalars-count (fits_kind own) written fit in
    subst (IsHeld (Some own)) (ok_same j.said_is)
    (rw (
      lt-ltb 0 (length (scalars_of written)) (omega (arith, count, some)),
      scalars-all
          (fits_kind own) written fit,
    ) refl)
judged-held kind close line some e = let j = is_judged kind close line e in subst (IsHeld kind)
    (ok_same j.said_is) refl

-- and a form that is read of values has one
if_some-some : (written form : Written) → if_some written ≡ Some form → 0 < how_many form
if_some-some written form e = go (nat_lt 0 (how_many written)) refl e
  where
    go : (some : Bool) → nat_lt 0 (how_many written) ≡ some → (if some then Some written else None)
        ≡ Some form → 0 < how_many form
    go true f e = subst (λ w. 0 < how_many w) (some_same e) (ltb-true 0 (how_many written) f)
    go false f e = absurd cc

behind-some : (keyword : Keyword) (words : List (List ℕ)) (form : Form) → form_behind keyword words
    ≡ Some form → IsSome form
unfolding IsSome
behind-some keywords.Start words form e = let f = found (alone (two_texts_at words))
    (λ names. Some (start names.0 names.1)) form e in subst IsSome (some_same f.step_is) tt
behind-some keywords.Ns words form e = let f = found (alone (two_texts_at words))
    (λ names. Some (ns names.0 names.1)) form e in subst IsSome (some_same f.step_is) tt
behind-some keywords.Attr words form e =
    let f = found (two_texts_at words) _ form e in
    let g = found (value_in f.value.1) (λ written. Some (attr f.value.0.0 f.value.0.1 written)) form
    f.step_is in
    subst IsSome (some_same g.step_is) tt
behind-some keywords.Text words form e = let f = found (value_in words)
    (λ written. Some (text written)) form e in subst IsSome (some_same f.step_is) tt
behind-some keywords.Comment words form e = let f = found (alone (one_word quoted_in words))
    (λ bytes. Some (comment bytes)) form e in subst IsSome (some_same f.step_is) tt
behind-some keywords.Array words form e =
    let f = found (one_word array_kind_in words) _ form e in
    let g = found (alone (two_texts_at f.value.1)) (λ names. Some (array f.value.0 names.0 names.1))
    form f.step_is in
    subst IsSome (some_same g.step_is) tt
behind-some keywords.Values words form e =
    let f = found (values_in words >>= if_some) (λ written. Some (values written)) form e in
    let g = found (values_in words) if_some f.value f.read_is in
    subst IsSome (some_same f.step_is) (if_some-some g.value f.value g.step_is)
behind-some keywords.Close [] form e = subst IsSome (some_same e) tt
behind-some keywords.Close (word ∷ words) form e = absurd cc

pub behind-held : (kind : Option ArrayKind) (keyword : Keyword) (words : List (List ℕ))
    (said : Line) → judged_behind kind keyword words ≡ Some (Ok said) → IsHeld kind said
behind-held kind keyword words said e =
    let f = found (form_behind keyword words) (λ form. Some (judged kind form)) (Ok said) e in
    judged-held kind f.value said (behind-some keyword words f.value f.read_is)
    (some_same f.step_is)
