-- A list of items is a document exactly where it leads from before the root to behind it, and a
-- front of one
-- exactly where it leads anywhere.
use Rattle.std.proofs.Common.{◌≡◌, ℕ, zero, suc, ◌+◌, ◌<◌, ◌≤◌, Bool, true, false, ◌⊎◌, List, []}
use Rattle.std.proofs.Common.{◌∷◌, ◌++◌, map, take, drop, if◌then◌else◌, IsSome, Some, None, Option}
use Rattle.std.proofs.Common.{sym, refl, ap, ◌∙◌, inl, inr, append_assoc, arith, take-append-drop}
use Rattle.std.proofs.{Common.take-take, lemmas.Bool.and_parts, lemmas.Bool.cases_lt}
use Rattle.{std.specs.List.list_all, nbfx_values.proofs.OnLiterals.values_on_literals}
use Rattle.nbfx_values.specs.declared.content.AttrItem.{AttrItem, TheVariants.Attr as AttrOn}
use Rattle.nbfx_values.specs.declared.content.AttrItem.TheVariants.{Xmlns as DeclaresOn}
use Rattle.nbfx_values.specs.declared.content.Item.{Item, TheVariants.Text, TheVariants.Xmlns}
use Rattle.nbfx_values.specs.declared.content.Item.TheVariants.{Array, Attr, Close, Comment, Start}
use Rattle.nbfx_values.specs.{declared.position.Position.Position, Items.is_valid_item}
use Rattle.nbfx_values.specs.declared.position.Position.TheVariants.{After, Before, Within}
use Rattle.nbfx_values.specs.Documents.{array, Children, comment, element, IsDocument, IsFront}
use Rattle.nbfx_values.specs.Documents.{IsRefusedAt, item_of, no_more, text, walk}
use Rattle.nbfx_values.specs.Positions.{moved, position_from, position_of, StopsAt}
use Rattle.nbfx_values.proofs.Positions.{passed, position_from-append, position_from-none}
use Rattle.nbfx_values.proofs.Positions.{position_from-valid, stepped}

valid-append : (xs ys : List Item) → list_all is_valid_item (xs ++ ys) ≡ true
    → (list_all is_valid_item xs ≡ true) × (list_all is_valid_item ys ≡ true)
valid-append [] ys h = (refl, h)
valid-append (x ∷ xs) ys h =
    let p = and_parts (is_valid_item x) (list_all is_valid_item (xs ++ ys)) h in
    let q = valid-append xs ys p.1 in
    (rw p.0 q.0, q.1)

-- declarations and attributes lead nowhere else
attributes-position : (n : ℕ) (ats : List AttrItem) → list_all is_valid_item (map item_of ats)
    ≡ true → position_from (Some (Within n true)) (map item_of ats) ≡ Some (Within n true)
attributes-position n [] h = refl
attributes-position n (DeclaresOn p u ∷ ats) h =
    let q = and_parts (is_valid_item (Xmlns p u)) (list_all is_valid_item (map item_of ats)) h in
    stepped (Within n true) (Xmlns p u) (map item_of ats) q.0 ∙ attributes-position n ats q.1
attributes-position n (AttrOn p l v ∷ ats) h =
    let q = and_parts (is_valid_item (Attr p l v)) (list_all is_valid_item (map item_of ats)) h in
    stepped (Within n true) (Attr p l v) (map item_of ats) q.0 ∙ attributes-position n ats q.1

-- the children of an element lead nowhere else
children-position : (n : ℕ) (a : Bool) (c : Children) → list_all is_valid_item (walk c) ≡ true
    → (b : Bool) × (position_from (Some (Within n a)) (walk c) ≡ Some (Within n b))
children-position n a no_more h = (a, refl)
children-position n a (text v more) h =
    let p = and_parts (is_valid_item (Text v)) (list_all is_valid_item (walk more)) h in
    let r = children-position n false more p.1 in
    (r.0, stepped (Within n a) (Text v) (walk more) p.0 ∙ r.1)
children-position n a (comment bytes more) h =
    let p = and_parts (is_valid_item (Comment bytes)) (list_all is_valid_item (walk more)) h in
    let q = children-position n false more p.1 in
    (q.0, stepped (Within n a) (Comment bytes) (walk more) p.0 ∙ q.1)
children-position n a (array r more) h =
    let p = and_parts (is_valid_item (Array r)) (list_all is_valid_item (walk more)) h in
    let q = children-position n false more p.1 in
    (q.0, stepped (Within n a) (Array r) (walk more) p.0 ∙ q.1)
children-position n a (element prefix local ats children more) h =
    let b = and_parts (is_valid_item (Start prefix local))
    (list_all is_valid_item (map item_of ats ++ (walk children ++ (Close ∷ walk more)))) h in
    let p = valid-append (map item_of ats) (walk children ++ (Close ∷ walk more)) b.1 in
    let q = valid-append (walk children) (Close ∷ walk more) p.1 in
    let inside = children-position (suc n) true children q.0 in
    let behind = children-position n false more q.1 in
    let e : position_from (Some (Within (suc n) true))
    (map item_of ats ++ (walk children ++ (Close ∷ walk more))) ≡ Some (Within n behind.0) =
    rw (
      position_from-append (Some (Within (suc n) true)) (map item_of ats)
          (walk children ++ (Close ∷ walk more)),
      attributes-position (suc n) ats p.0,
      position_from-append (Some (Within (suc n) true)) (walk children) (Close ∷ walk more),
      inside.1,
    )
    behind.1 in (
      behind.0,
      stepped (Within n a) (Start prefix local)
          (map item_of ats ++ (walk children ++ (Close ∷ walk more))) b.0 ∙ e,
    )

-- a document leads behind its root
pub document-position : (xs : List Item) → IsDocument xs → position_of xs ≡ Some After
document-position xs d =
    let h : list_all is_valid_item (walk (element d.prefix d.local d.attributes d.children no_more))
    ≡ true =
    ap (list_all is_valid_item) (sym d.walked) ∙ d.valid in
    let b = and_parts (is_valid_item (Start d.prefix d.local))
    (list_all is_valid_item (map item_of d.attributes ++ (walk d.children ++ (Close ∷ [])))) h in
    let p = valid-append (map item_of d.attributes) (walk d.children ++ (Close ∷ [])) b.1 in
    let q = valid-append (walk d.children) (Close ∷ []) p.1 in
    let inside = children-position 0 true d.children q.0 in
    let e : position_from (Some (Within 0 true))
    (map item_of d.attributes ++ (walk d.children ++ (Close ∷ []))) ≡ Some After =
    rw (
      position_from-append (Some (Within 0 true)) (map item_of d.attributes)
          (walk d.children ++ (Close ∷ [])),
      attributes-position 0 d.attributes p.0,
      position_from-append (Some (Within 0 true)) (walk d.children) (Close ∷ []),
      inside.1,
    )
    refl in
    ap position_of d.walked
    ∙ stepped Before (Start d.prefix d.local)
    (map item_of d.attributes ++ (walk d.children ++ (Close ∷ []))) b.0 ∙ e

-- what stands behind an element's end, where n more elements are open around it
abbrev Tail : ℕ → List Item → Type 0
Tail zero xs = xs ≡ []
Tail (suc n) xs = (c : Children) × (ys : List Item) × (xs ≡ walk c ++ (Close ∷ ys)) × Tail n ys

-- the attributes that are still to come, the children, and what stands behind the end of the
-- element
abbrev Parsed : ℕ → Bool → List Item → Type 0
Parsed n a xs =
    (ats : List AttrItem) × (c : Children) × (ys : List Item)
    × (xs ≡ map item_of ats ++ (walk c ++ (Close ∷ ys))) × (a ≡ false → ats ≡ []) × Tail n ys

-- without attributes, these are the rest of the element around
as_tail : (n : ℕ) (xs : List Item) → Parsed n false xs → Tail (suc n) xs
as_tail n xs (ats, c, ys, e, none, t) =
    (c, ys, e ∙ ap (λ l. map item_of l ++ (walk c ++ (Close ∷ ys))) (none refl), t)

-- a leaf before what is parsed
with_leaf : (n : ℕ) (a : Bool) (x : Item) (f : Children → Children) (xs : List Item)
    → ((c : Children) → walk (f c) ≡ x ∷ walk c) → Parsed n false xs → Parsed n a (x ∷ xs)
with_leaf n a x f xs w r =
    let t = as_tail n xs r in (
      [],
      f t.0,
      t.1,
      ap (λ l. x ∷ l) t.2 ∙ ap (λ l. l ++ (Close ∷ t.1)) (sym (w t.0)),
      λ _. refl,
      t.3,
    )

-- a declaration or an attribute before what is parsed
with_attribute : (n : ℕ) (x : AttrItem) (xs : List Item) → Parsed n true xs
    → Parsed n true (item_of x ∷ xs)
with_attribute n x xs (ats, c, ys, e, none, t) = (
  x ∷ ats,
  c,
  ys,
  ap (λ l. item_of x ∷ l) e,
  λ h.
      cc,
  t,
)

-- an element before what is parsed
with_element : (n : ℕ) (a : Bool) (prefix local : List ℕ) (xs : List Item) → Parsed (suc n) true xs
    → Parsed n a (Start prefix local ∷ xs)
with_element n a prefix local xs (ats, c, ys, e, none, (more, zs, e', t)) = (
  [],
  element prefix local ats c more,
  zs,
  ap (λ l. Start prefix local ∷ l)
      (e ∙ ap (λ l. map item_of ats ++ (walk c ++ (Close ∷ l))) e' ∙ simp append_assoc),
  λ _. refl,
  t,
)

-- what leads from within the root to behind it is the rest of elements
parsed : (xs : List Item) (n : ℕ) (a : Bool) → position_from (Some (Within n a)) xs ≡ Some After
    → Parsed n a xs
parsed [] n a h = absurd cc
parsed (Start prefix local ∷ xs) n a h =
    with_element n a prefix local xs
    (parsed xs (suc n) true
    (passed (is_valid_item (Start prefix local)) (Some (Within (suc n) true)) xs After h).1)
parsed (Xmlns prefix uri ∷ xs) n true h =
    with_attribute n (DeclaresOn prefix uri) xs
    (parsed xs n true (passed (is_valid_item (Xmlns prefix uri)) (Some (Within n true)) xs After
    h).1)
parsed (Xmlns prefix uri ∷ xs) n false h =
    absurd (let e : None ≡ Some After = sym (position_from-none xs) ∙
    (passed (is_valid_item (Xmlns prefix uri)) None xs After h).1 in cc)
parsed (Attr prefix local value ∷ xs) n true h =
    with_attribute n (AttrOn prefix local value) xs
    (parsed xs n true (passed (is_valid_item (Attr prefix local value)) (Some (Within n true)) xs
    After h).1)
parsed (Attr prefix local value ∷ xs) n false h =
    absurd (let e : None ≡ Some After = sym (position_from-none xs) ∙
    (passed (is_valid_item (Attr prefix local value)) None xs After h).1 in cc)
parsed (Text value ∷ xs) n a h =
    with_leaf n a (Text value) (text value) xs (λ c. refl)
    (parsed xs n false (passed (is_valid_item (Text value)) (Some (Within n false)) xs After h).1)
parsed (Comment bytes ∷ xs) n a h =
    with_leaf n a (Comment bytes) (comment bytes) xs (λ c. refl)
    (parsed xs n false (passed (is_valid_item (Comment bytes)) (Some (Within n false)) xs After
    h).1)
parsed (Array r ∷ xs) n a h =
    with_leaf n a (Array r) (array r) xs (λ c. refl)
    (parsed xs n false (passed (is_valid_item (Array r)) (Some (Within n false)) xs After h).1)
parsed (Close ∷ []) zero a h = ([], no_more, [], refl, λ _. refl, refl)
parsed (Close ∷ x ∷ xs) zero a h = absurd (let e : None ≡ Some After = sym (behind x xs) ∙ h in cc)
  where
    behind : (x : Item) (xs : List Item) → position_from (Some After) (x ∷ xs) ≡ None
    behind x xs = elim (is_valid_item x) as (λ b. position_from (if b then None else None) xs
        ≡ None) [ true ↦ position_from-none xs | false ↦ position_from-none xs ]
parsed (Close ∷ xs) (suc n) a h =
    ([], no_more, xs, refl, λ _. refl, as_tail n xs (parsed xs n false h))

-- what leads from before the root to behind it is a document
pub position_of-document : (xs : List Item) → position_of xs ≡ Some After → IsDocument xs
position_of-document [] h = absurd cc
position_of-document (Start prefix local ∷ xs) h =
    let (ats, c, ys, e, none, t) = parsed xs 0 true
    (passed (is_valid_item (Start prefix local)) (Some (Within 0 true)) xs After h).1 in
    record {
      prefix = prefix;
      local = local;
      attributes = ats;
      children = c;
      walked = ap (λ l. Start prefix local ∷ l)
          (e ∙ ap (λ l. map item_of ats ++ (walk c ++ (Close ∷ l))) t);
      valid = position_from-valid (Some Before) (Start prefix local ∷ xs) After h;
    }
position_of-document (x ∷ xs) h = absurd
    (let p = (passed (is_valid_item x) (moved Before x) xs After h).1 in let e : None
    ≡ Some After = sym (position_from-none xs) ∙ p in cc)

-- the ends of the elements that are open
closes : ℕ → List Item
closes zero = Close ∷ []
closes (suc n) = Close ∷ closes n

closes-position : (n : ℕ) (a : Bool) → position_from (Some (Within n a)) (closes n) ≡ Some After
unfolding closes
closes-position zero a = refl
closes-position (suc n) a = closes-position n false

-- what leads anywhere is a front of a document
pub position_of-front : (xs : List Item) (s : Position) → position_of xs ≡ Some s → IsFront xs
unfolding values_on_literals
position_of-front xs Before h = (
  Start [] [] ∷ Close ∷ [],
  position_of-document (xs ++ (Start [] [] ∷ Close ∷ []))
      (position_from-append (Some Before) xs (Start [] [] ∷ Close ∷ []) ∙
      ap (λ o. position_from o (Start [] [] ∷ Close ∷ [])) h),
)
position_of-front xs (Within n a) h = (
  closes n,
  position_of-document (xs ++ closes n)
      (position_from-append (Some Before) xs (closes n) ∙ ap (λ o. position_from o (closes n)) h ∙
      closes-position n a),
)
position_of-front xs After h =
    ([], position_of-document (xs ++ []) (position_from-append (Some Before) xs [] ∙ h))

-- what leads nowhere is none
pub none-no_front : (xs : List Item) → position_of xs ≡ None → IsFront xs → ⊥
none-no_front xs h (ys, d) =
    let e : None ≡ Some After = sym (position_from-none ys) ∙ ap (λ o. position_from o ys) (sym h) ∙
    sym (position_from-append (Some Before) xs ys) ∙ document-position (xs ++ ys) d in
    cc

-- where the walk stops, a list is refused
pub stops-refused : (xs : List Item) (at : ℕ) → StopsAt xs at → IsRefusedAt xs at
stops-refused xs at h = record {
  within = h.within;
  front = front (position_of (take at xs)) refl h.front;
  stops = λ more. none-no_front (take (at + 1) xs) (h.stops more);
}
  where
    front : (o : Option Position) → position_of (take at xs) ≡ o → IsSome o → IsFront (take at xs)
    front None e h = absurd cc
    front (Some s) e h = position_of-front (take at xs) s e

-- what stands behind the root's end
after-position : (xs : List Item) (s : Position) → position_from (Some After) xs ≡ Some s → xs ≡ []
after-position [] s h = refl
after-position (x ∷ xs) s h = absurd (let f : None ≡ Some s = sym (position_from-none xs) ∙
    (passed (is_valid_item x) None xs s h).1 in cc)

pub no_more-behind : (xs ys : List Item) → IsDocument xs → IsDocument (xs ++ ys) → ys ≡ []
no_more-behind xs ys d e =
    after-position ys After
    (ap (λ o. position_from o ys) (sym (document-position xs d)) ∙ sym
    (position_from-append (Some Before) xs ys) ∙ document-position (xs ++ ys) e)

pub front-position : (xs : List Item) → IsFront xs → IsSome (position_of xs)
front-position xs f = go (position_of xs) refl
  where
    go : (o : Option Position) → position_of xs ≡ o → IsSome o
    go None e = absurd (none-no_front xs e f)
    go (Some s) e = refl

pub position_of-is_front : (xs : List Item) → IsSome (position_of xs) → IsFront xs
position_of-is_front xs h = go (position_of xs) refl h
  where
    go : (o : Option Position) → position_of xs ≡ o → IsSome o → IsFront xs
    go None e g = absurd cc
    go (Some s) e g = position_of-front xs s e

-- a shorter front
IsFront-append : (xs ys : List Item) → IsFront (xs ++ ys) → IsFront xs
IsFront-append xs ys (zs, d) = (ys ++ zs, rw (← append_assoc) d)

IsFront-take : (xs : List Item) (i j : ℕ) → i ≤ j → IsFront (take j xs) → IsFront (take i xs)
IsFront-take xs i j h f =
    let e : take i (take j xs) ≡ take i xs = take-take i j xs h in
    let g : IsFront (take i (take j xs) ++ drop i (take j xs)) = rw take-append-drop f in
    rw (← e) (IsFront-append (take i (take j xs)) (drop i (take j xs)) g)

-- no list is refused at two places
refused-not_before : (xs : List Item) (i j : ℕ) → IsRefusedAt xs i → IsRefusedAt xs j → i < j → ⊥
refused-not_before xs i j h g b = h.stops (let w = g.within in omega arith)
    (IsFront-take xs (i + 1) j (omega arith) g.front)

pub refused-once : (xs : List Item) (i j : ℕ) → IsRefusedAt xs i → IsRefusedAt xs j → i ≡ j
refused-once xs i j h g = compare (cases_lt i j) (cases_lt j i)
  where
    compare : (i < j) ⊎ (j ≤ i) → (j < i) ⊎ (i ≤ j) → i ≡ j
    compare (inl a) b = absurd (refused-not_before xs i j h g a)
    compare (inr a) (inl b) = absurd (refused-not_before xs j i g h b)
    compare (inr a) (inr b) = omega arith
