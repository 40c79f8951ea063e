-- The scopes of open elements, whose declarations are kept in one list.
use Rattle.std.proofs.Common.{◌≡◌, ℕ, zero, suc, ◌+◌, ◌-◌, ◌<◌, ◌≤◌, List, [], ◌∷◌, ◌++◌, reverse}
use Rattle.std.proofs.Common.{length, get_or, take, drop, Some, None, Option, bytes_eq, sym, refl}
use Rattle.std.proofs.Common.{ap, ◌∙◌, subst, inl, inr, add-one, arith, length-append}
use Rattle.std.proofs.Common.{take-append-drop, length-take, take-take, take_at, drop_at}
use Rattle.std.{proofs.lemmas.Bool.cases_Bool, specs.Option.option_or}
use Rattle.nbfx_values.specs.declared.content.AttrItem.{AttrItem, TheVariants.Attr as AttrOn}
use Rattle.nbfx_values.specs.declared.content.AttrItem.TheVariants.{Xmlns as DeclaresOn}
use Rattle.nbfx_values.specs.declared.content.Item.{Item, TheVariants.Text, TheVariants.Xmlns}
use Rattle.nbfx_values.specs.declared.content.Item.TheVariants.{Array, Attr, Close, Comment, Start}
use Rattle.soap_envelope.specs.Bindings.{AreMarks, declared_by, declared_there, head_len, innermost}
use Rattle.soap_envelope.specs.{Bindings.IsGrown, Bindings.layers_by, Scopes.uri_in, Scopes.uri_of}
use Rattle.soap_envelope.specs.Scopes.{around, Declaration, declared, declared_on, undeclared_uri}
use Rattle.soap_envelope.proofs.{BindingFacts.newest-more, Lists.drop-at}

-- nothing is declared behind the head
pub declared-end : (items : List Item) → declared (drop (head_len items) items) ≡ []
declared-end (Xmlns p u ∷ more) = rw add-one (declared-end more)
declared-end (Attr p l v ∷ more) = rw add-one (declared-end more)
declared-end items = refl

-- one item more of the head
pub declared-at : (items : List Item) (k : ℕ) (item : Item) → k < head_len items
    → item ≡ get_or items k item
    → declared (drop k items) ≡ declared_by item ++ declared (drop (k + 1) items)
declared-at (Xmlns p u ∷ more) zero item h e = let is : item ≡ Xmlns p u = e in rw is refl
declared-at (Xmlns p u ∷ more) (suc k) item h e =
    let step : suc k + 1 ≡ suc (k + 1) = omega arith in
    rw step (declared-at more k item (omega arith) e)
declared-at (Attr p l v ∷ more) zero item h e = let is : item ≡ Attr p l v = e in rw is refl
declared-at (Attr p l v ∷ more) (suc k) item h e =
    let step : suc k + 1 ≡ suc (k + 1) = omega arith in
    rw step (declared-at more k item (omega arith) e)
declared-at items k item h e = absurd (omega arith)

-- one attribute more
pub declared_on-at : (xs : List AttrItem) (k : ℕ) (x : AttrItem) → k < length xs
    → x ≡ get_or xs k x
    → declared_on (drop k xs) ≡ declared_there x ++ declared_on (drop (k + 1) xs)
declared_on-at xs k x h e =
    ap declared_on (drop-at xs k x h e) ∙ by x (drop (k + 1) xs)
  where
    by : (x : AttrItem) (more : List AttrItem)
        → declared_on (x ∷ more) ≡ declared_there x ++ declared_on more
    by (DeclaresOn p u) more = refl
    by (AttrOn p l v) more = refl

rest-grown : (more old : List Declaration)
    → drop (length (more ++ old) - length old) (more ++ old) ≡ old
rest-grown more old =
    let own : length (more ++ old) - length old ≡ length more =
    omega (arith, length-append more old) in
    rw own (drop_at more old (length more) refl)

own-grown : (more old : List Declaration)
    → take (length (more ++ old) - length old) (more ++ old) ≡ more
own-grown more old =
    let own : length (more ++ old) - length old ≡ length more =
    omega (arith, length-append more old) in
    rw own (take_at more old (length more) refl)

-- an element more is open
pub entered-marks : (marks pushed : List ℕ) (mark : ℕ) (old new : List Declaration)
    → pushed ≡ marks ++ mark ∷ []
    → mark ≡ length old
    → AreMarks (reverse marks) old
    → IsGrown old new
    → AreMarks (reverse pushed) new
entered-marks marks pushed mark old new e at h grown =
    let more = grown.0 in
    let all : reverse pushed ≡ length old ∷ reverse marks =
    ap reverse e ∙ newest-more marks mark ∙ ap (λ m. m ∷ reverse marks) at in
    rw (all, grown.1) (
      omega (arith, length-append more old),
      subst (AreMarks (reverse marks)) (sym (rest-grown more old)) h,
    )

pub entered-layers : (marks pushed : List ℕ) (mark : ℕ) (old new own : List Declaration)
    → pushed ≡ marks ++ mark ∷ []
    → mark ≡ length old
    → new ≡ own ++ old
    → layers_by (reverse pushed) new ≡ own ∷ layers_by (reverse marks) old
entered-layers marks pushed mark old new own e at is =
    let all : reverse pushed ≡ length old ∷ reverse marks =
    ap reverse e ∙ newest-more marks mark ∙ ap (λ m. m ∷ reverse marks) at in
    rw (all, is)
    (ap (λ l. l ∷ layers_by (reverse marks) (drop (length (own ++ old) - length old) (own ++ old)))
    (own-grown own old)
    ∙ ap (λ l. own ∷ layers_by (reverse marks) l) (rest-grown own old))

-- the innermost element is closed
pub closed-marks : (marks left : List ℕ) (mark : ℕ) (ds kept : List Declaration)
    → marks ≡ left ++ mark ∷ []
    → kept ≡ drop (length ds - mark) ds
    → AreMarks (reverse marks) ds
    → AreMarks (reverse left) kept
closed-marks marks left mark ds kept e is h =
    let all : reverse marks ≡ mark ∷ reverse left = ap reverse e ∙ newest-more left mark in
    let were : AreMarks (mark ∷ reverse left) ds = subst (λ ms. AreMarks ms ds) all h in
    rw is were.1

pub closed-layers : (marks left : List ℕ) (mark : ℕ) (ds kept : List Declaration)
    → marks ≡ left ++ mark ∷ []
    → kept ≡ drop (length ds - mark) ds
    → layers_by (reverse left) kept ≡ around (layers_by (reverse marks) ds)
closed-layers marks left mark ds kept e is =
    let all : reverse marks ≡ mark ∷ reverse left = ap reverse e ∙ newest-more left mark in
    rw (all, is) refl

pub uri-append : (xs ys : List Declaration) (q : List ℕ)
    → uri_in (xs ++ ys) q ≡ option_or (uri_in xs q) (uri_in ys q)
uri-append [] ys q = refl
uri-append (d ∷ xs) ys q = elim (cases_Bool (bytes_eq d.prefix q)) [
  | inl is ↦ rw is refl
  | inr other ↦ rw other (uri-append xs ys q)
]

pub or-or : {X : Type 0} (a b c : Option X)
    → option_or a (option_or b c) ≡ option_or (option_or a b) c
or-or None b c = refl
or-or (Some x) b c = refl

-- what a prefix stands for, by all the declarations in one list
pub scope-uri : (marks : List ℕ) (ds : List Declaration) (q : List ℕ) → AreMarks marks ds
    → uri_of (layers_by marks ds) q ≡ option_or (uri_in ds q) (undeclared_uri q)
scope-uri [] ds q h = rw h refl
scope-uri (mark ∷ marks) ds q h =
    let own = take (length ds - mark) ds in
    let rest = drop (length ds - mark) ds in
    ap (option_or (uri_in own q)) (scope-uri marks rest q h.1)
    ∙ or-or (uri_in own q) (uri_in rest q) (undeclared_uri q)
    ∙ ap (λ o. option_or o (undeclared_uri q))
    (sym (uri-append own rest q) ∙ ap (λ l. uri_in l q) (take-append-drop (length ds - mark) ds))

-- the innermost element's first declarations are the first of all
pub innermost-within : (marks : List ℕ) (ds : List Declaration) (count : ℕ)
    → count ≤ length (innermost (layers_by marks ds))
    → count ≤ length ds
innermost-within [] ds count h = omega arith
innermost-within (mark ∷ marks) ds count h = omega (arith, length-take (length ds - mark) ds)

pub innermost-take : (marks : List ℕ) (ds : List Declaration) (count : ℕ)
    → count ≤ length (innermost (layers_by marks ds))
    → take count ds ≡ take count (innermost (layers_by marks ds))
innermost-take [] ds count h = let none : count ≡ 0 = omega arith in rw none refl
innermost-take (mark ∷ marks) ds count h =
    let within : count ≤ length ds - mark =
    omega (arith, length-take (length ds - mark) ds) in
    sym (take-take count (length ds - mark) ds within)
