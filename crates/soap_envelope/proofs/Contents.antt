-- The content of Body may stand inside an element, and the texts of a document are valid.
use Rattle.soap_envelope.specs.declared.versions.Addressing.{Addressing}
use Rattle.std.proofs.Common.{◌≡◌, ℕ, zero, suc, ◌+◌, Bool, true, false, List, [], ◌∷◌, ◌++◌, map}
use Rattle.std.proofs.Common.{drop, IfOk, ◌==◌, slice_get, Some, None, Ok, Err, codes, Option}
use Rattle.std.proofs.Common.{Result, option_map, sym, refl, ap, ◌∙◌, subst, inl, inr, add-one}
use Rattle.std.{proofs.Common.arith, specs.List.list_all}
use Rattle.std.proofs.lemmas.{Bool.and_parts, Bool.cases_Bool, List.Folds.list_all-append}
use Rattle.nbfx_values.proofs.Positions.{passed, position_from-none, stepped}
use Rattle.nbfx_values.{proofs.Walks.document-position, specs.Documents.IsDocument}
use Rattle.nbfx_values.specs.declared.content.Item.{Item, TheVariants.Text, TheVariants.Xmlns}
use Rattle.nbfx_values.specs.declared.content.Item.TheVariants.{Array, Attr, Close, Comment, Start}
use Rattle.nbfx_values.specs.{declared.position.Position.Position, Items.is_valid_item}
use Rattle.nbfx_values.specs.declared.position.Position.TheVariants.{After, Before, Within}
use Rattle.nbfx_values.specs.Positions.{next_position, position_from}
use Rattle.soap_envelope.specs.{declared.parts.Parts.Parts, Names.soap, View.viewed, View.viewed_by}
use Rattle.soap_envelope.specs.declared.refusals.SoapFault.{SoapFault, TheVariants.BadNames}
use Rattle.soap_envelope.specs.{BadNames.bad_name, Seen.BodyStands}
use Rattle.soap_envelope.specs.Body.{array_with, behind_head, body_items, child_items, missing}
use Rattle.soap_envelope.specs.Body.{needed, self_standing, standing_items, xmlns_of}
use Rattle.soap_envelope.specs.Children.{children_of, is_start}
use Rattle.soap_envelope.specs.Making.{AreTexts, is_valid_text, IsContent}
use Rattle.soap_envelope.specs.Parts.{is_element, is_some_name, kept_children, name_by, parts_among}
use Rattle.soap_envelope.specs.Parts.{parts_behind, parts_of, root_scope, wrong_root}
use Rattle.soap_envelope.specs.Scopes.{Declaration, declared, Scope, within}
use Rattle.soap_envelope.specs.View.{header_fault, texts_among, texts_at, texts_in, unless, view}
use Rattle.soap_envelope.proofs.Declarations.{array-valid, is_text, missing-texts, needed-texts}
use Rattle.soap_envelope.proofs.Nesting.{nowhere}
use Rattle.soap_envelope.proofs.ResolvedPlaces.{Each, named-starts}
use Rattle.soap_envelope.proofs.Standing.{plain}

-- declarations lead nowhere else behind the beginning of an element
declarations-lead : (ds : List Declaration) (n : ℕ) (xs : List Item) → list_all is_text ds ≡ true
    → position_from (Some (Within n true)) (map xmlns_of ds ++ xs)
    ≡ position_from (Some (Within n true)) xs
declarations-lead [] n xs h = refl
declarations-lead (d ∷ ds) n xs h =
    let p = and_parts (is_text d) (list_all is_text ds) h in
    stepped (Within n true) (xmlns_of d) (map xmlns_of ds ++ xs) p.0 ∙ declarations-lead ds n xs p.1

module _ (needs : List Declaration) (texts : list_all is_text needs ≡ true) where
  -- from a place within Body, around which further elements are open, up to its end
  stands : (inner around n : ℕ) (a : Bool) (xs : List Item) → n ≡ inner + around
      → (inner ≡ 0 → a ≡ false)
      → position_from (Some (Within n a)) xs ≡ Some After
      → position_from (Some (Within inner a)) (self_standing needs (Some inner) xs)
      ≡ Some (Within 0 false)
  stands inner around n a [] e top h = absurd (let f : Some (Within n a) ≡ Some After = h in cc)
  stands inner around n a (Start p l ∷ xs) e top h =
      let q = passed (is_valid_item (Start p l)) (Some (Within (suc n) true)) xs After h in
      let deeper =
      rw add-one at (stands (inner + 1) around (suc n) true xs (omega arith)
      (λ f. absurd (omega arith)) q.1) in
      let rest = self_standing needs (Some (inner + 1)) xs in
      let own = missing needs (declared xs) in
      elim (cases_Bool (inner == 0)) [
        | inl is ↦
            rw is
            (stepped (Within inner a) (Start p l) (map xmlns_of own ++ rest) q.0
            ∙ declarations-lead own (suc inner) rest (missing-texts needs (declared xs) texts)
            ∙ rw add-one deeper)
        | inr other ↦ rw other (stepped (Within inner a) (Start p l) rest q.0 ∙ rw add-one deeper)
      ]
  stands inner around n true (Xmlns p u ∷ xs) e top h =
      let q = passed (is_valid_item (Xmlns p u)) (Some (Within n true)) xs After h in
      ap (λ put. position_from (Some (Within inner true))
      (put ++ self_standing needs (Some inner) xs)) (plain needs inner (Xmlns p u) xs refl)
      ∙ stepped (Within inner true) (Xmlns p u) (self_standing needs (Some inner) xs) q.0
      ∙ stands inner around n true xs e top q.1
  stands inner around n false (Xmlns p u ∷ xs) e top h = absurd (nowhere (Xmlns p u) xs After h)
  stands inner around n true (Attr p l v ∷ xs) e top h =
      let q = passed (is_valid_item (Attr p l v)) (Some (Within n true)) xs After h in
      ap (λ put. position_from (Some (Within inner true))
      (put ++ self_standing needs (Some inner) xs)) (plain needs inner (Attr p l v) xs refl)
      ∙ stepped (Within inner true) (Attr p l v) (self_standing needs (Some inner) xs) q.0
      ∙ stands inner around n true xs e top q.1
  stands inner around n false (Attr p l v ∷ xs) e top h = absurd (nowhere (Attr p l v) xs After h)
  stands inner around n a (Array v ∷ xs) e top h =
      let q = passed (is_valid_item (Array v)) (Some (Within n false)) xs After h in
      let rest = self_standing needs (Some inner) xs in
      let later = stands inner around n false xs e (λ _. refl) q.1 in
      elim (cases_Bool (inner == 0)) [
        | inl is ↦
            rw is (stepped (Within inner a) (Array (array_with needs v)) rest
            (array-valid needs v texts q.0) ∙ later)
        | inr other ↦ rw other (stepped (Within inner a) (Array v) rest q.0 ∙ later)
      ]
  stands zero around n a (Close ∷ xs) e top h = ap (λ b. Some (Within 0 b)) (top refl)
  stands (suc m) around n a (Close ∷ xs) e top h =
      let k : n ≡ suc (m + around) = omega arith in
      let led : position_from (Some (Within (m + around) false)) xs ≡ Some After =
      subst (λ v. position_from (Some (Within v a)) (Close ∷ xs) ≡ Some After) k h in
      ap (λ put. position_from (Some (Within (suc m) a)) (put ++ self_standing needs (Some m) xs))
      (plain needs (suc m) Close xs refl)
      ∙ stands m around (m + around) false xs refl (λ _. refl) led
  stands inner around n a (x ∷ xs) e top h =
      let q = passed (is_valid_item x) (Some (Within n false)) xs After h in
      ap (λ put. position_from (Some (Within inner a)) (put ++ self_standing needs (Some inner) xs))
      (plain needs inner x xs refl)
      ∙ stepped (Within inner a) x (self_standing needs (Some inner) xs) q.0
      ∙ stands inner around n false xs e (λ _. refl) q.1

-- behind the attributes of an element none may stand
behind_head-leads : (n : ℕ) (xs : List Item) → position_from (Some (Within n true)) xs ≡ Some After
    → position_from (Some (Within n false)) (behind_head xs) ≡ Some After
behind_head-leads n [] h = absurd (let f : Some (Within n true) ≡ Some After = h in cc)
behind_head-leads n (Xmlns p u ∷ xs) h =
    behind_head-leads n xs (passed (is_valid_item (Xmlns p u)) (Some (Within n true)) xs After h).1
behind_head-leads n (Attr p l v ∷ xs) h =
    behind_head-leads n xs (passed (is_valid_item (Attr p l v)) (Some (Within n true)) xs After h).1
behind_head-leads zero (Close ∷ xs) h = h
behind_head-leads n xs h = h

-- behind the beginning of an element, elements are open
opens : (o : Option Position) (items : List Item) (at : ℕ) → is_start (slice_get items at) ≡ true
    → position_from o items ≡ Some After
    → (n : ℕ) × (position_from (Some (Within n true)) (drop (at + 1) items) ≡ Some After)
opens o items at starts h = rw add-one (opened o items at starts h)
  where
    begun : (s : Position) (x : Item) (xs : List Item) → is_start (Some x) ≡ true
        → position_from (Some s) (x ∷ xs) ≡ Some After
        → (n : ℕ) × (position_from (Some (Within n true)) xs ≡ Some After)
    begun Before (Start p l) xs starts h =
        (0, (passed (is_valid_item (Start p l)) (Some (Within 0 true)) xs After h).1)
    begun (Within m a) (Start p l) xs starts h =
        (suc m, (passed (is_valid_item (Start p l)) (Some (Within (suc m) true)) xs After h).1)
    begun After (Start p l) xs starts h = absurd (nowhere (Start p l) xs After h)
    begun s x xs starts h = absurd cc

    opened : (o : Option Position) (items : List Item) (at : ℕ)
        → is_start (slice_get items at) ≡ true → position_from o items ≡ Some After
        → (n : ℕ) × (position_from (Some (Within n true)) (drop (suc at) items) ≡ Some After)
    opened o [] at starts h = absurd cc
    opened None (x ∷ xs) at starts h = absurd (let f : None ≡ Some After = h in cc)
    opened (Some s) (x ∷ xs) zero starts h = begun s x xs starts h
    opened (Some s) (x ∷ xs) (suc at) starts h = opened (next_position s x) xs at starts h

-- the content of a document's Body
pub body-content : (version : Addressing) (items : List Item) (at : ℕ) → IsDocument items
    → is_start (slice_get items at) ≡ true
    → IsContent (body_items version items (root_scope items) at)
body-content version items at document starts =
    let (n, led) = opens (Some Before) items at starts (document-position items document) in
    let within_body = behind_head-leads n (drop (at + 1) items) led in
    stands (needed version (within items at (root_scope items)))
    (needed-texts version items 0 at document.valid) 0
    n n false (behind_head (drop (at + 1) items))
    (omega arith) (λ _. refl) within_body

-- the texts among some places of a document
texts-valid : (items : List Item) (children : List ℕ) → list_all is_valid_item items ≡ true
    → AreTexts (texts_among items children)
texts-valid items [] h = refl
texts-valid items (child ∷ more) h =
    list_all-append is_valid_text (texts_in items child) (texts_among items more)
    ∙ rw (one items child h) (texts-valid items more h)
  where
    one : (items : List Item) (at : ℕ) → list_all is_valid_item items ≡ true
        → list_all is_valid_text (texts_in items at) ≡ true
    one [] at h = refl
    one (x ∷ xs) (suc at) h =
        one xs at (and_parts (is_valid_item x) (list_all is_valid_item xs) h).1
    one (Text v ∷ xs) zero h =
        rw (and_parts (is_valid_item (Text v)) (list_all is_valid_item xs) h).0 refl
    one (x ∷ xs) zero h = refl

-- and those of the element at a place, if there is one
pub texts_at-valid : (items : List Item) (at : Option ℕ) → list_all is_valid_item items ≡ true
    → AreTexts (texts_at items at)
texts_at-valid items None h = refl
texts_at-valid items (Some at) h = texts-valid items (children_of items at) h

-- what holds of each child of the root holds of Body, which is SOAP's element of that name
module _ (items : List Item) (P : ℕ → Type 0) where
  abbrev IsBody : Scope → Parts → Type 0
  IsBody root parts = P parts.body × (is_element items root soap (codes "Body") parts.body ≡ true)

  behind-each : (root : Scope) (header : Option ℕ) (children : List ℕ) (parts : Parts)
      → Each P children → parts_behind items root header children ≡ Ok parts → IsBody root parts
  behind-each root header [] parts h k = absurd cc
  behind-each root header (at ∷ []) parts h k =
      elim (cases_Bool (is_element items root soap (codes "Body") at)) [
        | inl is ↦
            let found : Parts = record { header = header; body = at } in
            let one : found ≡ parts = cc (rw is at k) in
            subst (IsBody root) one (h.0, is)
        | inr other ↦ absurd (cc (rw other at k))
      ]
  behind-each root header (at ∷ next ∷ more) parts h k =
      elim (cases_Bool (is_element items root soap (codes "Body") at))
      [ inl is ↦ absurd (cc (rw is at k)) | inr other ↦ absurd (cc (rw other at k)) ]

  pub among-each : (root : Scope) (children : List ℕ) (parts : Parts) → Each P children
      → parts_among items root children ≡ Ok parts → IsBody root parts
  among-each root [] parts h k = absurd cc
  among-each root (at ∷ more) parts h k =
      elim (cases_Bool (is_element items root soap (codes "Header") at)) [
        | inl is ↦ behind-each root (Some at) more parts h.1 (rw is at k)
        | inr other ↦ behind-each root None (at ∷ more) parts h (rw other at k)
      ]

any-each : (children : List ℕ) → Each (λ child. Unit {0}) children
any-each [] = tt
any-each (child ∷ more) = (tt, any-each more)

-- an element begins at the place of Body
module _ (items : List Item) where
  pub body-starts : (parts : Parts) → parts_of items ≡ Ok parts
      → is_start (slice_get items parts.body) ≡ true
  body-starts parts h =
      let root = root_scope items in
      let children = kept_children items 0 in
      let body = among-each items (λ child. Unit {0}) root children parts (any-each children) h in
      named-starts (within items parts.body root) soap (codes "Body") (slice_get items parts.body)
      body.1

  -- the place and the content of a view's Body
  unless-ok : {X : Type 0} (fault : Option SoapFault) (r : Result X SoapFault) (P : X → Type 0)
      → IfOk r P → IfOk (unless fault r) P
  unless-ok None r P h = h
  unless-ok (Some fault) r P h = tt

  viewed_by-stands : (parts : Result Parts SoapFault) → parts_of items ≡ parts
      → IfOk (viewed_by items parts) (BodyStands items)
  viewed_by-stands (Err fault) e = tt
  viewed_by-stands (Ok parts) e =
      unless-ok (header_fault items parts.header) (Ok (viewed items parts)) (BodyStands items)
      (record { starts = body-starts parts e; content = refl })

  pub view-stands : IfOk (view items) (BodyStands items)
  view-stands =
      unless-ok (option_map BadNames (bad_name items))
      (unless (wrong_root items) (viewed_by items (parts_of items))) (BodyStands items)
      (unless-ok (wrong_root items) (viewed_by items (parts_of items)) (BodyStands items)
      (viewed_by-stands (parts_of items) refl))
