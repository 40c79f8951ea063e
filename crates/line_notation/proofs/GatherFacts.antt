-- All values of a line, token by token.
use Rattle.std.proofs.Common.{◌≡◌, ℕ, zero, suc, ◌+◌, ◌-◌, ◌^◌, ◌<◌, ◌≤◌, Bool, true, false, ◌&&◌}
use Rattle.std.proofs.Common.{◌⊎◌, List, [], ◌∷◌, ◌++◌, if◌then◌else◌, nat_le, ◌==◌, Some, None, Ok}
use Rattle.std.proofs.Common.{Err, Option, Result, sym, refl, ap, ◌∙◌, inl, inr, append_assoc}
use Rattle.std.proofs.Common.{append-nil, arith, eqb-true, le-leb, leb-false}
use Rattle.std.proofs.lemmas.Bool.{cases_lt, eqb-false, lt-leb}
use Rattle.nbfx_values.specs.{declared.scalars.Scalar.Scalar, Items.fits_kind}
use Rattle.{nbfx_values.specs.Scalars.is_valid_scalar, line_notation.proofs.ValidFacts.fits-valid}
use Rattle.line_notation.specs.declared.reader.LineKind.{LineKind, TheVariants.WrongCount}
use Rattle.line_notation.specs.declared.reader.LineKind.TheVariants.{BadText, Cut, NotALine}
use Rattle.line_notation.specs.declared.reader.LineKind.TheVariants.{OutOfPlace, OutOfRange}
use Rattle.line_notation.specs.declared.values.{Gathering.Gathering, Holder.Holder, Tally.Tally}
use Rattle.line_notation.specs.Judging.{are_in_range, are_scalars, has_good_text, have_good_texts}
use Rattle.line_notation.specs.{Judging.scalars_of, Options.◌>>=◌, Parts.with_token}
use Rattle.line_notation.specs.Parts.{are_held, are_taken, both, first_of, fits, IsTooMuch}
use Rattle.line_notation.specs.Parts.{judged_by, judged_due, judged_scalar, judged_token, mapped}
use Rattle.line_notation.specs.Parts.{may_hold_a_list, refit, tallied, with_list, with_scalar}
use Rattle.line_notation.specs.Values.{behind, first, how_many, list, listed, no_more, one, scalar}
use Rattle.line_notation.specs.Values.{taken, Token, Written}
use Rattle.line_notation.specs.declared.values.Holder.TheVariants as holders
use Rattle.line_notation.specs.declared.values.JudgedToken.TheVariants as tokens

pub eqb-other : (a b : ℕ) → (a ≡ b → ⊥) → (a == b) ≡ false
eqb-other a b other = go (a == b) refl
  where
    go : (t : Bool) → (a == b) ≡ t → t ≡ false
    go true e = absurd (other (eqb-true a b e))
    go false e = refl

-- which refusal goes first, of three
first_of-first_of : (a b c : LineKind) → first_of (first_of a b) c ≡ first_of a (first_of b c)
first_of-first_of a b BadText = refl
first_of-first_of a b NotALine = refl
first_of-first_of a b OutOfRange = refl
first_of-first_of a b OutOfPlace = refl
first_of-first_of a b Cut = refl
first_of-first_of a b WrongCount = refl

-- values and further values
abbrev pub joined : Result (List Scalar) LineKind → Result (List Scalar) LineKind
    → Result (List Scalar) LineKind
joined a b = mapped (λ p. p.0 ++ p.1) (both a b)

-- a value and further values
abbrev pub before : Result Scalar LineKind → Result (List Scalar) LineKind → Result (List Scalar)
    LineKind
before s more = mapped (λ p. p.0 ∷ p.1) (both s more)

-- a list, which may come or is out of range, and further values
abbrev pub list_before : Bool → Result (List Scalar) LineKind → Result (List Scalar) LineKind
list_before true more = more
list_before false (Ok more) = Err OutOfRange
list_before false (Err kind) = Err (first_of OutOfRange kind)

pub joined-none : (values : Result (List Scalar) LineKind) → joined values (Ok []) ≡ values
joined-none (Ok values) = ap Ok (append-nil values)
joined-none (Err kind) = refl

pub none-joined : (values : Result (List Scalar) LineKind) → joined (Ok []) values ≡ values
none-joined (Ok values) = refl
none-joined (Err kind) = refl

joined-scalar : (values : Result (List Scalar) LineKind) (s : Result Scalar LineKind)
    (more : Result (List Scalar) LineKind) → joined values (before s more)
    ≡ joined (with_scalar values s) more
joined-scalar (Ok values) (Ok s) (Ok more) = ap Ok (sym (append_assoc values (s ∷ []) more))
joined-scalar (Ok values) (Ok s) (Err kind) = refl
joined-scalar (Ok values) (Err kind) (Ok more) = refl
joined-scalar (Ok values) (Err kind) (Err other) = refl
joined-scalar (Err refusal) (Ok s) (Ok more) = refl
joined-scalar (Err refusal) (Ok s) (Err kind) = refl
joined-scalar (Err refusal) (Err kind) (Ok more) = refl
joined-scalar (Err refusal) (Err kind) (Err other) = ap Err
    (sym (first_of-first_of refusal kind other))

joined-list : (may : Bool) (values more : Result (List Scalar) LineKind)
    → joined values (list_before may more) ≡ joined (with_list may values) more
joined-list true values more = refl
joined-list false (Ok values) (Ok more) = refl
joined-list false (Ok values) (Err kind) = refl
joined-list false (Err refusal) (Ok more) = refl
joined-list false (Err refusal) (Err kind) = ap Err
    (sym (first_of-first_of refusal OutOfRange kind))

-- a value that doesn't fit doesn't
fits-held : (holder : Holder) (s : Scalar) → is_valid_scalar s ≡ false → fits holder s ≡ false
fits-held holders.List s h = h
fits-held holders.Nothing s h = h
fits-held (holders.Array kind) s h = go (fits_kind kind s) refl
  where
    go : (t : Bool) → fits_kind kind s ≡ t → t ≡ false
    go true e = let v = fits-valid kind s e in cc
    go false e = refl

judged-fit : (holder : Holder) (s : Scalar) → refit holder (judged_scalar s)
    ≡ (if has_good_text s then (if fits holder s then Ok s else Err OutOfRange) else Err BadText)
judged-fit holders.List s = refl
judged-fit holders.Nothing s = refl
judged-fit (holders.Array kind) s = go (has_good_text s) (is_valid_scalar s) refl
  where
    go : (good valid : Bool) → is_valid_scalar s ≡ valid
        → refit (holders.Array kind) (if good then (if valid then Ok s else Err OutOfRange) else Err
        BadText)
        ≡ (if good then (if fits_kind kind s then Ok s else Err OutOfRange) else Err BadText)
    go true true e = refl
    go true false e = rw (fits-held (holders.Array kind) s e) refl
    go false valid e = refl

-- one value more in front
judged-parts : (good goods fit fits : Bool) (s : Scalar) (more : List Scalar)
    → (if good && goods then (if fit && fits then Ok (s ∷ more) else Err OutOfRange) else Err
    BadText)
    ≡ before (if good then (if fit then Ok s else Err OutOfRange) else Err BadText)
    (if goods then (if fits then Ok more else Err OutOfRange) else Err BadText)
judged-parts true true true true s more = refl
judged-parts true true true false s more = refl
judged-parts true true false true s more = refl
judged-parts true true false false s more = refl
judged-parts true false true fits s more = refl
judged-parts true false false fits s more = refl
judged-parts false true fit true s more = refl
judged-parts false true fit false s more = refl
judged-parts false false fit fits s more = refl

-- of those that are due in a list it is one, or it stands in none
held-begun : (due due' : ℕ) (s : Scalar) (more : Written) → due ≡ 0 → due' ≡ 0
    → are_held due (one s more) ≡ (is_valid_scalar s && are_held due' more)
held-begun zero zero s more e f = refl
held-begun zero (suc n) s more e f = absurd cc
held-begun (suc n) due' s more e f = absurd cc

held-within : (due due' : ℕ) (s : Scalar) (more : Written) → due ≡ suc due'
    → are_held due (one s more) ≡ (is_valid_scalar s && are_held due' more)
held-within zero due' s more e = absurd cc
held-within (suc n) due' s more e = let same : n ≡ due' = omega (arith, e) in
    ap (λ d. is_valid_scalar s && are_held d more) same

-- a list in front
and_assoc : (a b c : Bool) → ((a && b) && c) ≡ (a && (b && c))
and_assoc true b c = refl
and_assoc false b c = refl

good-split : (n : ℕ) (more : Written)
    → (have_good_texts (first n more) && have_good_texts (behind n more)) ≡ have_good_texts more
good-split zero more = refl
good-split (suc n) no_more = refl
good-split (suc n) (one s more) = and_assoc (has_good_text s) (have_good_texts (first n more))
    (have_good_texts (behind n more)) ∙ ap (λ t. has_good_text s && t) (good-split n more)
good-split (suc n) (list within more) = and_assoc (have_good_texts within)
    (have_good_texts (first n more)) (have_good_texts (behind n more)) ∙
    ap (λ t. have_good_texts within && t) (good-split n more)

held-split : (n : ℕ) (more : Written)
    → (are_scalars is_valid_scalar (first n more) && are_held 0 (behind n more)) ≡ are_held n more
held-split zero more = refl
held-split (suc n) no_more = refl
held-split (suc n) (one s more) =
    and_assoc (is_valid_scalar s) (are_scalars is_valid_scalar (first n more))
    (are_held 0 (behind n more)) ∙ ap (λ t. is_valid_scalar s && t) (held-split n more)
held-split (suc n) (list within more) = refl

scalars-split : (n : ℕ) (more : Written) → (scalars_of (first n more) ++ scalars_of (behind n more))
    ≡ scalars_of more
scalars-split zero more = refl
scalars-split (suc n) no_more = refl
scalars-split (suc n) (one s more) = ap (λ ss. s ∷ ss) (scalars-split n more)
scalars-split (suc n) (list within more) =
    append_assoc (scalars_of within) (scalars_of (first n more)) (scalars_of (behind n more)) ∙
    ap (λ ss. scalars_of within ++ ss) (scalars-split n more)

-- where it may come
list-held : (n : ℕ) (more : Written) → judged_due holders.Nothing 0
    (list (first n more) (behind n more)) ≡ judged_due holders.Nothing n more
list-held n more =
    ap (λ good. judged_by good (are_scalars is_valid_scalar (first n more)
    && are_held 0 (behind n more)) (scalars_of (first n more) ++ scalars_of (behind n more)))
    (good-split n more)
    ∙ ap (λ taken. judged_by (have_good_texts more) taken
    (scalars_of (first n more) ++ scalars_of (behind n more))) (held-split n more)
    ∙ ap (judged_by (have_good_texts more) (are_held n more)) (scalars-split n more)

-- and where it may not
list-refused : (goods taken : Bool) (ss : List Scalar) (n : ℕ) (more : Written) → have_good_texts
    more ≡ goods
    → (if have_good_texts (first n more) && have_good_texts (behind n more) then Err OutOfRange
    else Err BadText) ≡ list_before false (judged_by goods taken ss)
list-refused goods taken ss n more e = ap (λ t. if t then Err OutOfRange else Err BadText)
    (good-split n more ∙ e) ∙ go goods taken ss
  where
    go : (goods taken : Bool) (ss : List Scalar) → (if goods then Err OutOfRange else Err BadText)
        ≡ list_before false (judged_by goods taken ss)
    go true true ss = refl
    go true false ss = refl
    go false taken ss = refl

list-either : (due due' n : ℕ) (more : Written) → ((due ≡ 0) × (due' ≡ n)) ⊎ (0 < due)
    → judged_due holders.Nothing due (list (first n more) (behind n more)) ≡ list_before (due == 0)
    (judged_due holders.Nothing due' more)
list-either zero due' n more (inl (e, f)) = list-held n more ∙
    ap (λ d. judged_due holders.Nothing d more) (sym f)
list-either zero due' n more (inr some) = absurd (omega (arith, some))
list-either (suc due) due' n more h =
    rw (eqb-other (suc due) 0 (λ e. omega (arith, e)))
    (list-refused (have_good_texts more) (are_held due' more) (scalars_of more) n more refl)

-- where none is due in a list
pub held-range : (written : Written) → are_held 0 written ≡ are_in_range written
held-range no_more = refl
held-range (one s more) = ap (λ t. is_valid_scalar s && t) (held-range more)
held-range (list within more) = ap (λ t. are_scalars is_valid_scalar within && t) (held-range more)

-- how many are behind the first
pub how_many-behind : (n : ℕ) (more : Written) → how_many (behind n more) ≡ how_many more - n
how_many-behind zero more = omega arith
how_many-behind (suc n) no_more = omega arith
how_many-behind (suc n) (one s more) = omega (arith, how_many-behind n more)
how_many-behind (suc n) (list within more) = omega (arith, how_many-behind n more)

-- what so many values make that are due in front of others
abbrev pub finished : (count due : ℕ) → ℕ → Result (List Scalar) LineKind
    → Option (ℕ × Result (List Scalar) LineKind)
finished count due more values = if nat_le due more then Some (count + (more - due), values)
    else None

pub finished-few : (count due more : ℕ) (values : Result (List Scalar) LineKind) → more < due
    → finished count due more values ≡ None
finished-few count due more values few = rw (lt-leb due more few) refl

pub finished-enough : (count due more : ℕ) (values : Result (List Scalar) LineKind) → due ≤ more
    → finished count due more values ≡ Some (count + (more - due), values)
finished-enough count due more values enough = rw (le-leb due more enough) refl

finished-same : (count due more count' due' more' : ℕ)
    (values values' : Result (List Scalar) LineKind) → (due ≤ more → due' ≤ more')
    → (due' ≤ more' → due ≤ more)
    → (due ≤ more → count + (more - due) ≡ count' + (more' - due')) → values ≡ values'
    → finished count due more values ≡ finished count' due' more' values'
finished-same count due more count' due' more' values values' to from same e = go
    (cases_lt more due)
  where
    few_too : more < due → (more' < due') ⊎ (due' ≤ more') → more' < due'
    few_too few (inl h) = h
    few_too few (inr h) = absurd (let g = from h in omega arith)

    told : ℕ → Result (List Scalar) LineKind → Option (ℕ × Result (List Scalar) LineKind)
    told n values = Some (n, values)

    go : (more < due) ⊎ (due ≤ more) → finished count due more values ≡ finished count' due' more'
        values'
    go (inl few) = finished-few count due more values few ∙ sym
        (finished-few count' due' more' values' (few_too few (cases_lt more' due')))
    go (inr enough) =
        finished-enough count due more values enough ∙ ap (λ n. told n values) (same enough) ∙
        ap (told (count' + (more' - due'))) e
        ∙ sym (finished-enough count' due' more' values' (to enough))

-- what a value with so many due in it changes
pub record BeginsOne (t t' : Tally) (n : ℕ) : Type 0 where
  pub none : t.due ≡ 0
  pub due : t'.due ≡ n
  pub count : t'.count ≡ t.count + 1

pub record IsInOne (t t' : Tally) (n : ℕ) : Type 0 where
  pub some : 0 < t.due
  pub due : t'.due ≡ t.due - 1 + n
  pub count : t'.count ≡ t.count

pub tallied-either : (t : Tally) (n : ℕ) → BeginsOne t (tallied t n) n ⊎ IsInOne t (tallied t n) n
tallied-either t n = go (t.due == 0) refl
  where
    go : (none : Bool) → (t.due == 0) ≡ none → BeginsOne t (tallied t n) n ⊎ IsInOne t (tallied t n)
        n
    go true e = inl (record { none = eqb-true t.due 0 e; due = rw e refl; count = rw e refl })
    go false e = inr
        (record {
          some = (let f = eqb-false t.due 0 e in omega arith);
          due = rw e refl;
          count = rw e
              refl;
        })

-- a value, or a list, in front of others
taken-one : (holder : Holder) (t : Tally) (s : Scalar) (more : Written) → are_taken holder t.due
    (one s more) ≡ (fits holder s && are_taken holder (tallied t 0).due more)
taken-one holders.List t s more = refl
taken-one (holders.Array kind) t s more = refl
taken-one holders.Nothing t s more = go (tallied-either t 0)
  where
    go : BeginsOne t (tallied t 0) 0 ⊎ IsInOne t (tallied t 0) 0 → are_held t.due (one s more)
        ≡ (is_valid_scalar s && are_held (tallied t 0).due more)
    go (inl h) = held-begun t.due (tallied t 0).due s more h.none h.due
    go (inr h) = held-within t.due (tallied t 0).due s more (omega (arith, h.some, h.due))

judged-one : (holder : Holder) (t : Tally) (s : Scalar) (more : Written)
    → judged_due holder t.due (one s more) ≡ before (refit holder (judged_scalar s))
    (judged_due holder (tallied t 0).due more)
judged-one holder t s more =
    ap (λ taken. judged_by (has_good_text s && have_good_texts more) taken (s ∷ scalars_of more))
    (taken-one holder t s more)
    ∙ judged-parts (has_good_text s) (have_good_texts more) (fits holder s)
    (are_taken holder (tallied t 0).due more) s (scalars_of more)
    ∙ ap (λ r. before r (judged_due holder (tallied t 0).due more)) (sym (judged-fit holder s))

judged-list : (holder : Holder) (t : Tally) (n : ℕ) (more : Written)
    → judged_due holder t.due (list (first n more) (behind n more))
    ≡ list_before (may_hold_a_list holder t.due) (judged_due holder (tallied t n).due more)
judged-list holders.List t n more = list-refused (have_good_texts more)
    (are_scalars is_valid_scalar more) (scalars_of more) n more refl
judged-list (holders.Array kind) t n more = list-refused (have_good_texts more)
    (are_scalars (fits_kind kind) more) (scalars_of more) n more refl
judged-list holders.Nothing t n more = list-either t.due (tallied t n).due n more
    (go (tallied-either t n))
  where
    go : BeginsOne t (tallied t n) n ⊎ IsInOne t (tallied t n) n
        → ((t.due ≡ 0) × ((tallied t n).due ≡ n)) ⊎ (0 < t.due)
    go (inl h) = inl (h.none, h.due)
    go (inr h) = inr h.some

-- a value with so many due in it, before others
pub record IsTallied (t : Tally) (n more : ℕ) : Type 0 where
  pub to : t.due ≤ suc (more - n) → (tallied t n).due ≤ more
  pub from : (tallied t n).due ≤ more → t.due ≤ suc (more - n)
  pub same : t.due ≤ suc (more - n) → t.count + (suc (more - n) - t.due) ≡ (tallied t n).count
      + (more - (tallied t n).due)

is_tallied : (t : Tally) (n more : ℕ) → n ≤ more → IsTallied t n more
is_tallied t n more enough = go (tallied-either t n)
  where
    go : BeginsOne t (tallied t n) n ⊎ IsInOne t (tallied t n) n → IsTallied t n more
    go (inl h) = record {
      to = λ l. omega (arith, h.due, h.none);
      from = λ l. omega
          (arith, h.due, h.none);
      same = λ l. omega (arith, h.due, h.none, h.count);
    }
    go (inr h) = record {
      to = λ l. omega (arith, h.due, h.some);
      from = λ l. omega
          (arith, h.due, h.some);
      same = λ l. omega (arith, h.due, h.some, h.count);
    }

-- at least so many are due then
tallied-least : (t : Tally) (n : ℕ) → n ≤ (tallied t n).due
tallied-least t n = go (tallied-either t n)
  where
    go : BeginsOne t (tallied t n) n ⊎ IsInOne t (tallied t n) n → n ≤ (tallied t n).due
    go (inl h) = omega (arith, h.due)
    go (inr h) = omega (arith, h.due)

-- what the values that have come make with those that follow
abbrev pub finish : Holder → Gathering → Option Written → Option (ℕ × Result (List Scalar) LineKind)
finish holder g None = None
finish holder g (Some more) = finished g.tally.count g.tally.due (how_many more)
    (joined g.values (judged_due holder g.tally.due more))

pub some_same : {A : Type 0} {a b : A} → Some a ≡ Some b → a ≡ b
some_same e = cc

-- no more values than a program can count
unfoldable pub Few : Option Written → Type 0
Few None = Unit {0}
Few (Some written) = how_many written < 2 ^ 64

-- a token in front of values
abbrev pub put : Token → Written → Option Written
put (scalar s) more = Some (one s more)
put (listed n) more = taken n more

-- a value that is no list
finish-scalar : (holder : Holder) (g : Gathering) (s : Scalar) (read : Option Written)
    → finish holder g (read >>= put (scalar s))
    ≡ finish holder
    (record {
      tally = tallied g.tally 0;
      values = with_scalar g.values
          (refit holder (judged_scalar s));
    }) read
finish-scalar holder g s None = refl
finish-scalar holder g s (Some more) =
    let t = is_tallied g.tally 0 (how_many more) (omega arith) in
    let all : how_many more - 0 ≡ how_many more = omega arith in
    finished-same g.tally.count g.tally.due (suc (how_many more)) (tallied g.tally 0).count
    (tallied g.tally 0).due (how_many more) _ _ (rw all at t.to) (rw all at t.from)
    (rw all at t.same)
    (ap (joined g.values) (judged-one holder g.tally s more) ∙ joined-scalar g.values
    (refit holder (judged_scalar s)) (judged_due holder (tallied g.tally 0).due more))

-- a list
finish-list : (holder : Holder) (g : Gathering) (n : ℕ) (read : Option Written)
    → finish holder g (read >>= put (listed n))
    ≡ finish holder
    (record {
      tally = tallied g.tally n;
      values = with_list (may_hold_a_list holder g.tally.due)
          g.values;
    }) read
finish-list holder g n None = refl
finish-list holder g n (Some more) = go (cases_lt (how_many more) n)
  where
    go : (how_many more < n) ⊎ (n ≤ how_many more)
        → finish holder g (taken n more)
        ≡ finish holder
        (record {
          tally = tallied g.tally n;
          values = with_list (may_hold_a_list holder g.tally.due)
              g.values;
        }) (Some more)
    go (inl few) =
        rw (lt-leb n (how_many more) few)
        (sym (finished-few (tallied g.tally n).count (tallied g.tally n).due (how_many more) _
        (let h = tallied-least g.tally n in omega arith)))
    go (inr enough) =
        let t = is_tallied g.tally n (how_many more) enough in
        rw (le-leb n (how_many more) enough, how_many-behind n more)
        (finished-same g.tally.count g.tally.due (suc (how_many more - n)) (tallied g.tally n).count
        (tallied g.tally n).due (how_many more) _ _ t.to t.from t.same
        (ap (joined g.values) (judged-list holder g.tally n more) ∙ joined-list
        (may_hold_a_list holder g.tally.due) g.values
        (judged_due holder (tallied g.tally n).due more)))

-- a token, where it may come
pub finish-step : (holder : Holder) (g g' : Gathering) (t : Token) (read : Option Written)
    → with_token holder g (judged_token t) ≡ Some g'
    → finish holder g (read >>= put t) ≡ finish holder g' read
finish-step holder g g' (scalar s) read e = finish-scalar holder g s read ∙
    ap (λ h. finish holder h read) (some_same e)
finish-step holder g g' (listed n) read e = go (nat_le n (2 ^ 64 - 1)) e
  where
    go : (t : Bool) → with_token holder g (tokens.Count (if t then Ok n else Err OutOfRange))
        ≡ Some g' → finish holder g (read >>= put (listed n)) ≡ finish holder g' read
    go true h = finish-list holder g n read ∙ ap (λ h. finish holder h read) (some_same h)
    go false h = absurd cc

finish-due : (holder : Holder) (g : Gathering) (read : Option Written) → 2 ^ 64 ≤ g.tally.due
    → Few read → finish holder g read ≡ None
unfolding Few
finish-due holder g None h few = refl
finish-due holder g (Some more) h few = finished-few g.tally.count g.tally.due (how_many more)
    (joined g.values (judged_due holder g.tally.due more)) (omega arith)

-- and where it may not
pub finish-too_much : (holder : Holder) (g : Gathering) (t : Token) (read : Option Written)
    → IsTooMuch (with_token holder g (judged_token t)) → Few read
    → finish holder g (read >>= put t) ≡ None
unfolding Few
finish-too_much holder g (scalar s) read h few = finish-scalar holder g s read ∙ finish-due holder _
    read h few
finish-too_much holder g (listed n) read h few = go (nat_le n (2 ^ 64 - 1)) refl h
  where
    go : (t : Bool) → nat_le n (2 ^ 64 - 1) ≡ t
        → IsTooMuch (with_token holder g (tokens.Count (if t then Ok n else Err OutOfRange)))
        → finish holder g (read >>= put (listed n)) ≡ None
    go true e h = finish-list holder g n read ∙ finish-due holder _ read h few
    go false e h = taken-none (leb-false n (2 ^ 64 - 1) e) read few
      where
        taken-none : 2 ^ 64 - 1 < n → (read : Option Written) → Few read → finish holder g
            (read >>= put (listed n)) ≡ None
        taken-none over None few = refl
        taken-none over (Some more) few = rw (lt-leb n (how_many more) (omega arith)) refl
